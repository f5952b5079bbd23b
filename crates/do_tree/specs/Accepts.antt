-- Which texts are scripts, and where a text that is none goes wrong first.
use Rattle.std.specs.Prelude.{◌≡◌, ℕ, ◌<◌, ◌≤◌, List, [], ◌∷◌, ◌++◌, length, slice_range, Option, Some, None, All}
use Rattle.do_lex.specs.Cut.{IsCut}
use Rattle.do_lex.specs.Ending.{end_of_text}
use Rattle.do_lex.specs.declared.pieces.Span.{Span}
use Rattle.do_lex.specs.declared.fault.LexFault.{LexFault}
use Rattle.do_tree.specs.Grammar.{IsScript}
use Rattle.do_tree.specs.Lexeme.{Lexeme}
use Rattle.do_tree.specs.Tree.{Script}

-- The most phrases `stmt`, `expr` and `un` that hold a token.
abbrev pub most_inside : ℕ
most_inside = 64

-- The tokens of the grammar that stand at these spans of the text. How many phrases hold each is left open.
abbrev pub AreLexemes : List ℕ → List Span → List Lexeme → Type 0
AreLexemes text [] [] = Unit {0}
AreLexemes text [] (t ∷ ts) = ⊥
AreLexemes text (s ∷ ss) [] = ⊥
AreLexemes text (s ∷ ss) (t ∷ ts) = (t.kind ≡ s.kind) × (t.at ≡ s.at) × (t.text ≡ slice_range text s.at s.end) × AreLexemes text ss ts

-- No token is held by too many phrases.
abbrev pub IsShallow : List Lexeme → Type 0
IsShallow ts = All (λ t. t.inside ≤ most_inside) ts

-- The whole text is cut into tokens, which are the script.
pub record IsScriptText (text : List ℕ) (script : Script) : Type 0 where
  pub spans : List Span
  pub cut : IsCut text 0 spans None
  pub tokens : List Lexeme
  pub are : AreLexemes text spans tokens
  pub shallow : IsShallow tokens
  pub is : IsScript tokens script

-- Some script begins with these tokens.
pub record Begins (front : List Lexeme) : Type 0 where
  pub rest : List Lexeme
  pub script : Script
  pub is : IsScript (front ++ rest) script

-- Some script begins with the tokens at these spans, and none of these is held by too many phrases.
pub record BeginsAt (text : List ℕ) (spans : List Span) : Type 0 where
  pub tokens : List Lexeme
  pub are : AreLexemes text spans tokens
  pub shallow : IsShallow tokens
  pub begins : Begins tokens

-- The text's first tokens, up to a place from which it gives this: what has been read when a fault is found.
pub record HasRead (text : List ℕ) (spans : List Span) (last : Option LexFault) : Type 0 where
  pub more : List Span
  pub cut : IsCut text 0 (spans ++ more) last

-- A token for which no script begins with the tokens up to it, though one begins with those before it.
pub record IsUnexpected (text : List ℕ) (at : ℕ) : Type 0 where
  pub before : List Span
  pub span : Span
  pub last : Option LexFault
  pub read : HasRead text (before ++ span ∷ []) last
  pub begun : BeginsAt text before
  pub none : (tokens : List Lexeme) → AreLexemes text (before ++ span ∷ []) tokens → ¬ Begins tokens
  pub at_is : at ≡ span.at

-- A token that is held by too many phrases, the first of them, where a script does begin with the tokens up
-- to it.
pub record IsTooNested (text : List ℕ) (at : ℕ) : Type 0 where
  pub before : List Span
  pub span : Span
  pub last : Option LexFault
  pub read : HasRead text (before ++ span ∷ []) last
  pub begun : BeginsAt text before
  pub tokens : List Lexeme
  pub token : Lexeme
  pub are : AreLexemes text (before ++ span ∷ []) (tokens ++ token ∷ [])
  pub shallow : IsShallow tokens
  pub deep : most_inside < token.inside
  pub begins : Begins (tokens ++ token ∷ [])
  pub at_is : at ≡ span.at

-- The text ends where no script does, though one begins with its tokens: the fault stands at the text's end, without the
-- blanks that it ends in.
pub record EndsEarly (text : List ℕ) (at : ℕ) : Type 0 where
  pub spans : List Span
  pub cut : IsCut text 0 spans None
  pub begun : BeginsAt text spans
  pub none : (tokens : List Lexeme) (script : Script) → AreLexemes text spans tokens → ¬ IsScript tokens script
  pub at_is : at ≡ end_of_text text

-- A token's fault, where a script begins with the tokens before it.
pub record IsTokenFault (text : List ℕ) (fault : LexFault) : Type 0 where
  pub spans : List Span
  pub cut : IsCut text 0 spans (Some fault)
  pub begun : BeginsAt text spans

-- What a function of the parser gives of the tokens that are left: a phrase of the grammar, or the first token that is wrong.
use Rattle.std.specs.Prelude.{◌≡◌, ◌<◌, ◌≤◌, ◌⊎◌, ℕ, List, [], ◌∷◌, ◌++◌, All, Bool, true, Result, Ok, Err}
use Rattle.do_lex.specs.declared.kind.Kind.{Kind}
use Rattle.do_lex.specs.declared.kind.Kind.TheVariants as kind
use Rattle.do_lex.specs.declared.kind.Keyword.TheVariants as key
use Rattle.do_lex.specs.declared.tokens.Token.{Token}
use Rattle.do_tree.specs.Accepts.{most_inside, IsShallow}
use Rattle.do_tree.specs.Grammar.{BeginsWithNo}
use Rattle.do_tree.specs.Lexeme.{Lexeme}
use Rattle.do_parse.specs.declared.stop.Stop.{Stop}
use Rattle.do_parse.specs.declared.stop.Stop.TheVariants.{Unexpected, TooNested, NoMemory}

-- The lexeme is this token, held by some number of phrases.
pub record IsLexeme (t : Token) (l : Lexeme) : Type 0 where
  pub kind : l.kind ≡ t.kind
  pub text : l.text ≡ t.text.now
  pub at : l.at ≡ t.at

-- The lexemes are these tokens, one by one.
abbrev pub AreLexemesOf : List Token → List Lexeme → Type 0
AreLexemesOf [] [] = Unit {0}
AreLexemesOf [] (l ∷ ls) = ⊥
AreLexemesOf (t ∷ ts) [] = ⊥
AreLexemesOf (t ∷ ts) (l ∷ ls) = IsLexeme t l × AreLexemesOf ts ls

-- The lexemes begin with the token that is next, or none is left of both.
abbrev pub BeginAlike : List Token → List Lexeme → Type 0
BeginAlike [] [] = Unit {0}
BeginAlike [] (l ∷ ls) = ⊥
BeginAlike (t ∷ ts) [] = ⊥
BeginAlike (t ∷ ts) (l ∷ ls) = IsLexeme t l

-- Of the tokens `old` those before `new` were read. They are these lexemes, none of which is held by too many phrases.
pub record HasRead (old new : List Token) (used : List Lexeme) : Type 0 where
  pub front : List Token
  pub split : old ≡ front ++ new
  pub are : AreLexemesOf front used
  pub shallow : IsShallow used

-- Lexemes that are the tokens which were read, and that go on with the token behind them.
pub record Agree (old new : List Token) (ts : List Lexeme) : Type 0 where
  pub front : List Token
  pub split : old ≡ front ++ new
  pub begin : List Lexeme
  pub back : List Lexeme
  pub parts : ts ≡ begin ++ back
  pub are : AreLexemesOf front begin
  pub next : BeginAlike new back

-- A rule of the grammar: of the first lexemes those before the second ones are a phrase of it, with this tree.
abbrev pub Phrase : Type 0 → Type 1
Phrase A = List Lexeme → List Lexeme → A → Type 0

-- What may stand behind a phrase: lexemes that don't go on with it.
abbrev pub Follow : Type 1
Follow = List Lexeme → Type 0

-- Anything may stand behind the phrase.
abbrev pub Anything : Follow
Anything us = Unit {0}

-- Behind the phrase stands a token whose kind passes the test, or none.
abbrev pub ends_by : (Kind → Bool) → Follow
ends_by may [] = Unit {0}
ends_by may (t ∷ _) = may t.kind ≡ true

-- The token that is next is an `else`.
abbrev pub ElseIsNext : List Token → Type 0
ElseIsNext [] = ⊥
ElseIsNext (t ∷ _) = t.kind ≡ kind.Keyword key.Else

-- The lexemes begin with an `else` only where one is next: it would belong to the phrase before it otherwise.
abbrev pub ElseAsNext : List Token → List Lexeme → Type 0
ElseAsNext new us = ElseIsNext new ⊎ BeginsWithNo (kind.Keyword key.Else) us

-- Lexemes that are those that were read, and behind them one that too many phrases hold.
pub record IsDeepBehind (used ts : List Lexeme) : Type 0 where
  pub next : Lexeme
  pub more : List Lexeme
  pub parts : ts ≡ used ++ next ∷ more
  pub too_deep : most_inside < next.inside

-- Some phrase begins with these lexemes.
pub record CanBegin {A : Type 0} (Is : Phrase A) (Ends : Follow) (front : List Lexeme) : Type 0 where
  pub rest : List Lexeme
  pub tree : A
  pub is : (us : List Lexeme) → Ends us → Is (front ++ rest ++ us) us tree

module _ {A : Type 0} (Is : Phrase A) (Ends : Follow) (old new : List Token) where
  -- A phrase was read, which is the only one that the tokens read and the next one begin with.
  pub record HasPhrase (tree : A) : Type 0 where
    pub used : List Lexeme
    pub read : HasRead old new used
    pub is : (us : List Lexeme) → Ends us → ElseAsNext new us → Is (used ++ us) us tree
    pub only : (ts us : List Lexeme) (other : A) → Agree old new ts → Is ts us other → Ends us → (ts ≡ used ++ us) × (other ≡ tree)

  -- The next token is wrong: some phrase begins with the tokens that were read, and none with these and the next one.
  pub record IsWrongNext : Type 0 where
    pub used : List Lexeme
    pub read : HasRead old new used
    pub begun : CanBegin Is Ends used
    pub none : (ts us : List Lexeme) (tree : A) → Agree old new ts → Is ts us tree → Ends us → ⊥

  -- The next token is held by too many phrases, in each phrase that begins with the tokens up to it. Some phrase does.
  pub record IsTooDeepNext : Type 0 where
    pub used : List Lexeme
    pub read : HasRead old new used
    pub token : Token
    pub rest : List Token
    pub next : new ≡ token ∷ rest
    pub deep : Lexeme
    pub is_next : IsLexeme token deep
    pub too_deep : most_inside < deep.inside
    pub begun : CanBegin Is Ends (used ++ deep ∷ [])
    pub each : (ts us : List Lexeme) (tree : A) → Agree old new ts → Is ts us tree → Ends us → IsDeepBehind used ts

  -- What an answer says.
  abbrev pub Says : Result A Stop → Type 0
  Says (Ok tree) = HasPhrase tree
  Says (Err Unexpected) = IsWrongNext
  Says (Err TooNested) = IsTooDeepNext
  Says (Err NoMemory) = Unit {0}

  -- The answer of a function that reads a phrase.
  pub record Parses (answer : Result A Stop) : Type 0 where
    pub so : Says answer

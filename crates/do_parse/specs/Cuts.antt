-- The text, cut into tokens.
use Rattle.std.specs.Prelude.{◌≡◌, ℕ, List, [], ◌∷◌, map, slice_range, Option}
use Rattle.do_lex.specs.Cursor.{span_of}
use Rattle.do_lex.specs.Cut.{IsCut}
use Rattle.do_lex.specs.declared.fault.LexFault.{LexFault}
use Rattle.do_lex.specs.declared.tokens.Token.{Token}

-- Each token's text is the text's slice at its place.
abbrev pub AreSlices : List ℕ → List Token → Type 0
AreSlices text [] = Unit {0}
AreSlices text (t ∷ ts) = (t.text.now ≡ slice_range text t.at t.end) × AreSlices text ts

-- The text's tokens, and what comes behind the last of them.
pub record IsLexed (text : List ℕ) (tokens : List Token) (last : Option LexFault) : Type 0 where
  pub cut : IsCut text 0 (map span_of tokens) last
  pub slices : AreSlices text tokens

-- Tokens, as the grammar sees them.
use Rattle.std.specs.Prelude.{ℕ, ◌-◌, List, [], ◌∷◌, length, take, drop}
use Rattle.do_lex.specs.Lexemes.{number_value, text_value}
use Rattle.do_lex.specs.declared.kind.Kind.{Kind}

-- A token: its kind, its bytes, its place, and how many phrases `stmt`, `expr` and `un` hold it.
pub record Lexeme : Type 0 where
  pub kind : Kind
  pub text : List ℕ
  pub at : ℕ
  pub inside : ℕ

-- The place of the first token.
abbrev pub place : List Lexeme → ℕ
place [] = 0
place (t ∷ _) = t.at

-- What a text's token stands for: the bytes between its quotes, with the escapes read.
abbrev pub text_of : Lexeme → List ℕ
text_of t = text_value (take (length t.text - 2) (drop 1 t.text))

abbrev pub number_of : Lexeme → ℕ
number_of t = number_value t.text

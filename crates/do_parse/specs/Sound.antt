-- What holds of each token of a text.
use Rattle.std.specs.Prelude.{◌≡◌, ◌-◌, ◌<◌, ◌≤◌, List, length, slice_index, All}
use Rattle.do_value.specs.Limits.{most_number}
use Rattle.do_lex.specs.Lexemes.{IsNumber, number_value}
use Rattle.do_lex.specs.declared.kind.Kind.TheVariants as kind
use Rattle.do_lex.specs.Limits.{most_script_bytes}
use Rattle.do_lex.specs.declared.tokens.Token.{Token}

-- A token is no longer than a script may be and begins and ends with an ASCII byte; a number's token is a number, and
-- not too great.
pub record IsSound (t : Token) : Type 0 where
  pub short : length t.text.now ≤ most_script_bytes
  pub first : slice_index t.text.now 0 < 128
  pub last : slice_index t.text.now (length t.text.now - 1) < 128
  pub number : t.kind ≡ kind.Number → IsNumber t.text.now
  pub small : t.kind ≡ kind.Number → number_value t.text.now ≤ most_number

-- So all tokens are, and there are no more of them than bytes in a script.
pub record AreSound (ts : List Token) : Type 0 where
  pub each : All IsSound ts
  pub few : length ts ≤ most_script_bytes

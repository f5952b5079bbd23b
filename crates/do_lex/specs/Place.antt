-- A place in a script.
use Rattle.std.specs.Prelude.{ℕ, List}

-- The bytes of a script, and the place from which the next token is read.
pub record Cursor : Type 0 where
  pub text : List ℕ
  pub at : ℕ

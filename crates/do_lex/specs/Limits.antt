-- The limits of a script's text.
use Rattle.std.specs.Prelude.{ℕ}

-- The most bytes that a script has (this project's profile).
abbrev pub most_script_bytes : ℕ
most_script_bytes = 262144

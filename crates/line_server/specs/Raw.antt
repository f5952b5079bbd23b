-- What is kept of a line.
use Rattle.std.specs.Prelude.{◌≡◌, ℕ, List, length, take}
use Rattle.line_server.specs.Cut.{is_blank}
use Rattle.line_server.specs.Limits.{most_line_bytes}
use Rattle.line_server.specs.declared.raw_line.RawLine.{RawLine}

-- its first bytes up to the limit, how many it has, and whether it is blank
pub record IsRaw (line : List ℕ) (raw : RawLine) : Type 0 where
  pub kept : raw.kept.items ≡ take most_line_bytes line
  pub length_is : raw.length ≡ length line
  pub blank : raw.blank ≡ is_blank line

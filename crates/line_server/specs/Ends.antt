-- LFs among bytes.
use Rattle.std.specs.Prelude.{ℕ, ◌==◌, ◌||◌, not, List, [], ◌∷◌, Bool, if◌then◌else◌}
use Rattle.std.specs.List.{list_all, list_any}
use Rattle.line_server.specs.Cut.{is_blank_byte, line_end}

-- No byte of these is an LF.
abbrev pub has_no_end : List ℕ → Bool
has_no_end = list_all (λ b. not (b == line_end))

-- An LF stands among the bytes.
abbrev pub has_end : List ℕ → Bool
has_end = list_any (λ b. b == line_end)

-- A byte that is blank, or an LF.
abbrev pub is_between : ℕ → Bool
is_between b = is_blank_byte b || (b == line_end)

-- The bytes from the first one on that is neither blank nor an LF.
abbrev pub begun : List ℕ → List ℕ
begun [] = []
begun (b ∷ bs) = if is_between b then begun bs else b ∷ bs

-- An LF of these bytes ends a line that isn't blank.
abbrev pub has_line : List ℕ → Bool
has_line bytes = has_end (begun bytes)

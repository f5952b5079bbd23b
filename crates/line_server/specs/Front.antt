-- The front of a line, as it was found.
use Rattle.std.specs.Prelude.{◌≡◌, ◌<◌, ◌≤◌, ◌+◌, ℕ, List, ◌∷◌, ◌++◌, true, length, take, drop}
use Rattle.line_server.specs.Cut.{line_end}
use Rattle.line_server.specs.Ends.{has_no_end}
use Rattle.line_server.specs.declared.front.Front.{Front}
use Rattle.line_server.specs.declared.front.Front.TheVariants.{Whole, Part}

-- The first n of the bytes are no LF, and no more than belong to the line; an LF stands behind them where they are the whole of it.
abbrev pub IsFront : List ℕ → ℕ → Front → Type 0
IsFront bytes most (Whole n) = (n < most) × (n < length bytes) × (has_no_end (take n bytes) ≡ true) × (bytes ≡ take n bytes ++ line_end ∷ drop (n + 1) bytes)
IsFront bytes most (Part n) = (0 < n) × (n ≤ most) × (n ≤ length bytes) × (has_no_end (take n bytes) ≡ true)

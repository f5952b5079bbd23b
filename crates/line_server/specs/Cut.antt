-- How bytes are cut into lines (this project's profile).
use Rattle.std.specs.Prelude.{ℕ, ◌+◌, ◌-◌, ◌==◌, ◌||◌, List, [], ◌∷◌, Bool, if◌then◌else◌}
use Rattle.std.specs.List.{onto_first, list_all}
use Rattle.line_server.specs.Limits.{most_cut_bytes}

-- The byte LF, which ends a line.
abbrev pub line_end : ℕ
line_end = 10

-- The lines of the bytes, where `room` bytes more may stand in the first line and `most` in each later one. A line ends
-- before an LF, and after its last byte where it has no room for another. What follows the last LF is a line if it
-- isn't empty.
abbrev pub lines_within : ℕ → ℕ → List ℕ → List (List ℕ)
lines_within most room [] = []
lines_within most room (b ∷ bs) =
    if b == line_end then [] ∷ lines_within most most bs
    else (if room == 1 then (b ∷ []) ∷ lines_within most most bs
    else onto_first b (lines_within most (room - 1) bs))

-- The lines of the bytes: a line ends at LF, and where its first 4,294,967,296 bytes have none the next line begins after
-- these (this project's profile).
abbrev pub lines : List ℕ → List (List ℕ)
lines = lines_within most_cut_bytes most_cut_bytes

-- How many lines the bytes end, where `room` bytes more may stand in the first line and `most` in each later one. What
-- follows the last LF isn't ended.
abbrev pub ended_within : ℕ → ℕ → List ℕ → ℕ
ended_within most room [] = 0
ended_within most room (b ∷ bs) =
    if b == line_end then 1 + ended_within most most bs
    else (if room == 1 then 1 + ended_within most most bs
    else ended_within most (room - 1) bs)

-- How many lines the bytes end, each by an LF or after its first 4,294,967,296 bytes.
abbrev pub ended : List ℕ → ℕ
ended = ended_within most_cut_bytes most_cut_bytes

-- A space, a tab or a CR.
abbrev pub is_blank_byte : ℕ → Bool
is_blank_byte b = (b == 32) || (b == 9) || (b == 13)

-- A line of only spaces, tabs and CR, which is counted and skipped (this project's profile).
abbrev pub is_blank : List ℕ → Bool
is_blank = list_all is_blank_byte

-- The limits of lines. This project's profile.
use Rattle.std.specs.Prelude.{ℕ, ◌^◌}

-- the most bytes of a line before its LF that is read
abbrev pub most_line_bytes : ℕ
most_line_bytes = 1048576

-- where a line's first so many bytes have no LF the next line begins behind them
abbrev pub most_cut_bytes : ℕ
most_cut_bytes = 2 ^ 32

-- the most lines of a run
abbrev pub most_lines : ℕ
most_lines = 1048576

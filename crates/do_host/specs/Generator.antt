-- What `gen` serves. This project's profile; the sequence of numbers is a linear congruential one, by the constants of Knuth's MMIX.
use Rattle.std.specs.Prelude.{ℕ, zero, suc, ◌+◌, ◌*◌, ◌^◌, ◌/◌, ◌%◌, List, [], ◌∷◌, ◌++◌, codes}
use Rattle.std.specs.Fmt.{decimal}
use Rattle.serde_json.specs.Data.{Data, unsigned, number, string, array, no_items, item}
use Rattle.serde_json.specs.Written.{compact_text}
use Rattle.line_server.specs.Cut.{line_end}

-- the number behind this one in the sequence
abbrev pub next_number : ℕ → ℕ
next_number x = (x * 6364136223846793005 + 1442695040888963407) % 2 ^ 64

-- the name of the object that a number calls, and how much it adds
abbrev pub called_name : ℕ → List ℕ
called_name x = decimal (x / 2 ^ 60)

abbrev pub added : ℕ → ℕ
added x = (x / 2 ^ 40) % 1024

-- `["call",i,"G",name,"add",[k]]`
abbrev pub call_json : ℕ → ℕ → Data
call_json i x = array (item (string (codes "call")) (item (number (unsigned i)) (item (string (codes "G")) (item (string (called_name x))
    (item (string (codes "add")) (item (array (item (number (unsigned (added x))) no_items)) no_items))))))

abbrev pub call_line : ℕ → ℕ → List ℕ
call_line i x = compact_text (call_json i x) ++ line_end ∷ []

-- so many lines, by the numbers behind this one, of which the first line has this number
abbrev pub lines_behind : ℕ → ℕ → ℕ → List ℕ
lines_behind x i zero = []
lines_behind x i (suc count) = call_line i (next_number x) ++ lines_behind (next_number x) (i + 1) count

-- the lines that a seed makes
abbrev pub made_lines : (seed count : ℕ) → List ℕ
made_lines seed count = lines_behind seed 1 count

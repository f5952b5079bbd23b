-- The end of a text that only separators follow.
use Rattle.std.specs.Prelude.{ℕ, ◌-◌, List, length, reverse}
use Rattle.std.specs.List.{prefix_len}
use Rattle.do_lex.specs.Bytes.{is_blank}

-- How many bytes a text has, without the blanks that it ends in. A comment is no blank.
abbrev pub end_of_text : List ℕ → ℕ
end_of_text text = length text - prefix_len is_blank (reverse text)

-- Lines that are made one after another.
use Rattle.std.proofs.Common.{◌≡◌, ◌<◌, ◌+◌, ◌-◌, ℕ, suc, List, ◌++◌, sym, ap, ◌∙◌, arith, append_assoc}
use Rattle.std.proofs.lemmas.List.{append-nil}
use Rattle.do_host.specs.Generator.{call_line, lines_behind, next_number}

-- the first of the lines that are to come
lines_next : (x line count : ℕ) → line < count
    → lines_behind x (line + 1) (count - line) ≡ call_line (line + 1) (next_number x) ++ lines_behind (next_number x) (line + 1 + 1) (count - (line + 1))
lines_next x line count less = let more : count - line ≡ suc (count - (line + 1)) = omega (arith, less) in ap (λ (n : ℕ). lines_behind x (line + 1) n) more

-- a line more was made
pub made_more : (x line count : ℕ) (all before after : List ℕ) → line < count → before ++ lines_behind x (line + 1) (count - line) ≡ all → after ≡ before ++ call_line (line + 1) (next_number x)
    → after ++ lines_behind (next_number x) (line + 1 + 1) (count - (line + 1)) ≡ all
made_more x line count all before after less so_far added =
    ap (λ (bytes : List ℕ). bytes ++ lines_behind (next_number x) (line + 1 + 1) (count - (line + 1))) added
    ∙ append_assoc before (call_line (line + 1) (next_number x)) (lines_behind (next_number x) (line + 1 + 1) (count - (line + 1)))
    ∙ ap (λ (bytes : List ℕ). before ++ bytes) (sym (lines_next x line count less)) ∙ so_far

-- all were made
pub made_all : (x line count : ℕ) (all bytes : List ℕ) → count ≡ line → bytes ++ lines_behind x (line + 1) (count - line) ≡ all → bytes ≡ all
made_all x line count all bytes end so_far =
    let none : count - line ≡ 0 = omega (arith, end) in
    sym (append-nil bytes) ∙ ap (λ (n : ℕ). bytes ++ lines_behind x (line + 1) n) (sym none) ∙ so_far

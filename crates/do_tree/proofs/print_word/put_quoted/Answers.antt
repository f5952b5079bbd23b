use Rattle.std.proofs.Common.{◌≡◌, ℕ, List, ◌++◌, ap, arith, sym, ◌∙◌}
use Rattle.std.specs.Prelude.{nat_le}
use Rattle.do_tree.specs.Print.{count_of, quoted_in, quote_of}
use Rattle.do_tree.specs.Written.{Written, write}
use Rattle.do_tree.specs.declared.print_word.Edge.TheVariants as edge
use Rattle.do_tree.proofs.Writing.{no_gap}
use Rattle.do_tree.proofs.print_word.put_quoted.Goals as goal

pub returns : goal.returns
unfolding write
returns c =
    let old = c.args.out.now in
    let bytes = c.args.text.now in
    let text = quoted_in (quote_of bytes) bytes in
    let e : c.append_quoted.new.out.items ≡ old.text.items ++ text = grind arith in
    let whole : List ℕ → Written = λ text. record { edge = edge.Other; text = text } in
    let none = no_gap old.edge (nat_le (count_of 34 bytes) (count_of 39 bytes)) bytes in
    ap whole (e ∙ ap (λ (z : List ℕ). old.text.items ++ (z ++ text)) (sym none))

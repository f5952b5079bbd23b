use Rattle.std.proofs.Common.{◌≡◌, ℕ, List, ◌++◌, ap, arith}
use Rattle.std.proofs.lemmas.Grind.{common_steps}
use Rattle.do_tree.specs.Print.{gap}
use Rattle.do_tree.specs.Written.{Written, write}
use Rattle.do_tree.proofs.print_word.put.Goals as goal

pub returns : goal.returns
unfolding write
returns c =
    let old = c.args.out.now in
    let before = gap old.edge c.args.text.now in
    let e : c.append-2.new.out.items ≡ old.text.items ++ (before ++ c.args.text.now) = grind (arith, common_steps) in
    let whole : List ℕ → Written = λ text. record { edge = c.args.edge; text = text } in
    ap whole e

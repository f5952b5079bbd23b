use Rattle.std.proofs.Common.{◌≡◌, true, arith}
use Rattle.std.proofs.lemmas.Grind.{common_steps}
use Rattle.do_tree.specs.Seen.{expr_of}
use Rattle.do_value.specs.Seen.{tree_of}
use Rattle.script_ops.specs.Truth.{is_true}
use Rattle.script_steps.proofs.Turns.{test_true}
use Rattle.script_steps.specs.Seen.{between_of}
use Rattle.script_steps.proofs.block.tested.Goals as goal

pub returns-in_ok-inner-clause-moves : goal.returns-in_ok-inner-clause-moves
returns-in_ok-inner-clause-moves c =
    let goes : is_true (tree_of c.args.value.now) ≡ true = grind (arith, common_steps) in
    λ calls. test_true calls (expr_of c.args.test.value) c.args.body c.in_ok-inner.inner (between_of c.args.between) (tree_of c.args.value.now) goes c.in_ok-inner.ensures

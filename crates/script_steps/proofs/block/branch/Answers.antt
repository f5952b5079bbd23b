use Rattle.std.proofs.Common.{◌≡◌, false, arith}
use Rattle.std.proofs.lemmas.Grind.{common_steps}
use Rattle.do_tree.specs.Seen.{stmt_of}
use Rattle.do_value.specs.Seen.{tree_of}
use Rattle.script_mean.specs.Meaning.{run}
use Rattle.script_ops.specs.Truth.{is_true}
use Rattle.script_steps.proofs.Turns.{other_none, other_some}
use Rattle.script_steps.proofs.block.branch.Goals as goal

pub returns-in-Some-clause-begins : goal.returns-in-Some-clause-begins
returns-in-Some-clause-begins c =
    let stops : is_true (tree_of c.args.test.now) ≡ false = grind (arith, common_steps) in
    λ calls. other_some calls (tree_of c.args.test.now) (run calls (stmt_of c.args.yes.value)) c.args.other c.in-Some.other stops c.in-Some.is

pub returns-clause-begins : goal.returns-clause-begins
returns-clause-begins c =
    let stops : is_true (tree_of c.args.test.now) ≡ false = grind (arith, common_steps) in
    λ calls. other_none calls (tree_of c.args.test.now) (run calls (stmt_of c.args.yes.value)) c.args.other stops c.in-None.is

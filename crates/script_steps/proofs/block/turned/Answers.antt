use Rattle.do_tree.specs.Seen.{expr_of, stmt_of}
use Rattle.script_steps.proofs.Turns.{once_turns, step_turns}
use Rattle.script_steps.proofs.block.turned.Goals as goal

pub returns-in-AtOnce-clause-moves : goal.returns-in-AtOnce-clause-moves
returns-in-AtOnce-clause-moves c = λ calls. once_turns calls (expr_of c.args.test.value) (stmt_of c.args.body.value) _ c.in-AtOnce.is

pub returns-in_ok-inner-in-Stepped-clause-moves : goal.returns-in_ok-inner-in-Stepped-clause-moves
returns-in_ok-inner-in-Stepped-clause-moves c =
    λ calls. step_turns calls (expr_of c.args.test.value) (stmt_of c.args.body.value) _ c.in-Stepped.step c.in_ok-inner-in-Stepped.inner c.in-Stepped.is c.in_ok-inner-in-Stepped.ensures

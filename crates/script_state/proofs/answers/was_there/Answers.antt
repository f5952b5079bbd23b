use Rattle.script_state.proofs.Comes.{found_ends}
use Rattle.script_state.proofs.answers.was_there.Goals as goal

pub returns : goal.returns
returns c =
    found_ends c.args.transaction.now _ c.args.count c.args.ask.now c.args.below _ c.found.result
    c.in-Some.is c.in_ok-before-in-Some.ensures c.found.ensures

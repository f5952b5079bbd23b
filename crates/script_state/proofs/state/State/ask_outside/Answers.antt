use Rattle.script_state.proofs.Asking.{outside_asked}
use Rattle.script_state.specs.declared.waiting.Waiting.TheVariants as waiting
use Rattle.script_state.proofs.state.State.ask_outside.Goals as goal

pub returns-clause-same : goal.returns-clause-same
returns-clause-same c = outside_asked c.args.ask waiting.Outside c.args.self.now c.cut.new.self c.if-self-ge-MOST_OUTSIDE_CALLS.false c.in_ok-cut.ensures

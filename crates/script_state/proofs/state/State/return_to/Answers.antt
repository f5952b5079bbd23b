use Rattle.script_state.proofs.Ending.{helper_gave, helper_returned}
use Rattle.script_steps.specs.Paths.{is_present}
use Rattle.script_state.proofs.state.State.return_to.Goals as goal

pub returns-in-Gave : goal.returns-in-Gave
returns-in-Gave c = helper_gave (is_present c.args.awaited) c.args.caller c.args.ended c.in-Gave.field-0 c.args.self.now c.back.new.self c.back.result c.in-Gave.is c.back.ensures

pub returns-in-Returned : goal.returns-in-Returned
returns-in-Returned c = helper_returned (is_present c.args.awaited) c.args.caller c.args.ended c.in-Returned.value c.args.self.now c.back-in-Returned.new.self c.back-in-Returned.result c.in-Returned.is c.back-in-Returned.ensures

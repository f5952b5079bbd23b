use Rattle.script_steps.proofs.Turns.{option_none, option_some}
use Rattle.script_steps.proofs.block.first_focus.Goals as goal

pub returns-in_ok-again-in-Some-clause-begins : goal.returns-in_ok-again-in-Some-clause-begins
returns-in_ok-again-in-Some-clause-begins c = λ calls. option_some calls _ c.in-Some.value c.in_ok-again-in-Some.field-0 c.in-Some.is c.in_ok-again-in-Some.ensures

pub returns-in-None-clause-begins : goal.returns-in-None-clause-begins
returns-in-None-clause-begins c = λ calls. option_none calls _ c.in-None.is

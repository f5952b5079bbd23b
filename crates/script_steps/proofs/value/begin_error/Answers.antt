use Rattle.script_steps.proofs.Begun.{error_none, error_some}
use Rattle.script_steps.proofs.value.begin_error.Goals as goal

pub returns-in_ok-text-in-Some-clause-moves : goal.returns-in_ok-text-in-Some-clause-moves
returns-in_ok-text-in-Some-clause-moves c = λ calls. error_some calls _ _ c.in_ok-text-in-Some.text c.in-Some.is c.in_ok-text-in-Some.ensures

pub returns-in_ok-error_of-in-None-clause-moves : goal.returns-in_ok-error_of-in-None-clause-moves
returns-in_ok-error_of-in-None-clause-moves c = λ calls. error_none calls _ _ c.in-None.is c.in_ok-error_of-in-None.ensures

use Rattle.script_steps.proofs.Turns.{return_none, return_some}
use Rattle.script_steps.proofs.stmt.begin_return.Goals as goal

pub returns-in_ok-value-in-Some-clause-moves : goal.returns-in_ok-value-in-Some-clause-moves
returns-in_ok-value-in-Some-clause-moves c = λ calls. return_some calls _ c.in-Some.value c.in_ok-value-in-Some.value c.in-Some.is c.in_ok-value-in-Some.ensures

pub returns-in-None-clause-moves : goal.returns-in-None-clause-moves
returns-in-None-clause-moves c = λ calls. return_none calls _ c.in-None.is

use Rattle.input_gate.proofs.Eligible.{blocked_is, for_none_is, rests_is, runs_is}
use Rattle.input_gate.proofs.laws.eligible_events_enter.Goals as goal

pub returns-clause-rests : goal.returns-clause-rests
returns-clause-rests c = rests_is

pub returns-clause-runs : goal.returns-clause-runs
returns-clause-runs c = runs_is

pub returns-clause-blocked : goal.returns-clause-blocked
returns-clause-blocked c = blocked_is

pub returns-clause-waits_for_none : goal.returns-clause-waits_for_none
returns-clause-waits_for_none c = for_none_is

use Rattle.std.proofs.Common.{◌∙◌, ap, subst}
use Rattle.timeline.specs.Intake.{serves}
use Rattle.timeline.specs.Object as seen
use Rattle.front_turns.specs.Held.{IsState}
use Rattle.front_turns.specs.declared.object.State.{State}
use Rattle.front_half.specs.Gated.{IsGatedState}
use Rattle.front_half.specs.Taking.{may_enter}
use Rattle.front_half.proofs.Judging.{idle_seen, waiting_seen, ended_seen}
use Rattle.front_half.proofs.choosing.entering_state.Goals as goal

pub returns-in-Idle-clause-some : goal.returns-in-Idle-clause-some
returns-in-Idle-clause-some g c = λ l s constructor is gated event.
    let f = idle_seen g.T.Task.seen l c.in-Idle.object s (subst (λ (st : State g.row.T.Denot). IsState g.T.Task.seen l st s) c.in-Idle.is is) in
    ap (λ (x : seen.State). may_enter (serves x) event) f.is
    ∙ c.entering_object.ensures l f.tasks constructor f.held (subst (λ (x : seen.State). IsGatedState constructor x) f.is gated) event

pub returns-in-Waiting-clause-none : goal.returns-in-Waiting-clause-none
returns-in-Waiting-clause-none g c = λ l s is.
    (waiting_seen g.T.Task.seen l c.in-Waiting.object c.in-Waiting.running c.in-Waiting.task c.in-Waiting.asked s
    (subst (λ (st : State g.row.T.Denot). IsState g.T.Task.seen l st s) c.in-Waiting.is is)).enters

pub returns-in-Ended-clause-none : goal.returns-in-Ended-clause-none
returns-in-Ended-clause-none g c = λ l s is.
    (ended_seen g.T.Task.seen l c.in-Ended.cause s (subst (λ (st : State g.row.T.Denot). IsState g.T.Task.seen l st s) c.in-Ended.is is)).enters

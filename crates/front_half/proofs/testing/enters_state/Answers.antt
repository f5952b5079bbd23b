use Rattle.std.proofs.Common.{◌∙◌, sym, ap, subst}
use Rattle.timeline.specs.Intake.{serves}
use Rattle.timeline.specs.Object as seen
use Rattle.front_turns.specs.Held.{IsState}
use Rattle.front_turns.specs.declared.object.State.{State}
use Rattle.front_half.specs.Taking.{may_enter}
use Rattle.front_half.proofs.Judging.{idle_seen, waiting_seen, ended_seen}
use Rattle.front_half.proofs.testing.enters_state.Goals as goal

pub returns-in-Idle : goal.returns-in-Idle
returns-in-Idle g c = λ l s is.
    let f = idle_seen g.T.Task.seen l c.in-Idle.object s (subst (λ (st : State g.row.T.Denot). IsState g.T.Task.seen l st s) c.in-Idle.is is) in
    c.is_eligible.ensures l f.tasks f.held ∙ sym (ap (λ (x : seen.State). may_enter (serves x) c.args.event.now) f.is)

pub returns-in-Waiting : goal.returns-in-Waiting
returns-in-Waiting g c = λ l s is.
    sym ((waiting_seen g.T.Task.seen l c.in-Waiting.object c.in-Waiting.running c.in-Waiting.task c.in-Waiting.asked s (subst (λ (st : State g.row.T.Denot). IsState g.T.Task.seen l st s) c.in-Waiting.is is)).enters c.args.event.now)

pub returns-in-Ended : goal.returns-in-Ended
returns-in-Ended g c = λ l s is.
    sym ((ended_seen g.T.Task.seen l c.in-Ended.cause s (subst (λ (st : State g.row.T.Denot). IsState g.T.Task.seen l st s) c.in-Ended.is is)).enters c.args.event.now)

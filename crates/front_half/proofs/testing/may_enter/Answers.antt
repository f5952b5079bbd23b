use Rattle.std.proofs.Common.{◌∙◌, sym, ap, subst}
use Rattle.timeline.specs.Intake.{Mode}
use Rattle.front_half.specs.Standing.{IsMode}
use Rattle.front_half.specs.Taking.{may_enter}
use Rattle.front_half.specs.declared.half.Mode.{Mode as HeldMode}
use Rattle.front_half.proofs.Judging.{serves_seen, down_seen, stopped_seen}
use Rattle.front_half.proofs.testing.may_enter.Goals as goal

pub returns-in-Serves : goal.returns-in-Serves
returns-in-Serves g c = λ l m is.
    let f = serves_seen g.T.Task.seen l c.in-Serves.state m (subst (λ (h : HeldMode g.row.T.Denot). IsMode g.T.Task.seen l h m) c.in-Serves.is is) in
    c.enters_state.ensures l f.0 f.2 ∙ sym (ap (λ (x : Mode). may_enter x c.args.event.now) f.1)

pub returns-in-Down : goal.returns-in-Down
returns-in-Down g c = λ l m is.
    sym (ap (λ (x : Mode). may_enter x c.args.event.now)
    (down_seen g.T.Task.seen l _ m (subst (λ (h : HeldMode g.row.T.Denot). IsMode g.T.Task.seen l h m) c.in-Down.is is)))

pub returns-in-Stopped : goal.returns-in-Stopped
returns-in-Stopped g c = λ l m is. absurd (stopped_seen g.T.Task.seen l m (subst (λ (h : HeldMode g.row.T.Denot). IsMode g.T.Task.seen l h m) c.in-Stopped.is is))

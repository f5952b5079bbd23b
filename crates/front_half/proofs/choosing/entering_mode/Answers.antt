use Rattle.std.proofs.Common.{◌∙◌, ap, subst}
use Rattle.std.proofs.lemmas.Option.{IfSome_then}
use Rattle.timeline.specs.Intake.{Mode}
use Rattle.front_half.specs.Gated.{IsGatedMode}
use Rattle.front_half.specs.Standing.{IsMode}
use Rattle.front_half.specs.Taking.{may_enter}
use Rattle.front_half.specs.declared.half.Mode.{Mode as HeldMode}
use Rattle.front_half.proofs.First.{if_none_then}
use Rattle.front_half.proofs.Judging.{serves_seen, down_seen, stopped_seen}
use Rattle.front_half.proofs.choosing.entering_mode.Goals as goal

pub returns-in-Serves-clause-some : goal.returns-in-Serves-clause-some
returns-in-Serves-clause-some g c = IfSome_then c.entering_state.result c.entering_state.ensures.some (λ entering enters l m constructor is gated event.
    let f = serves_seen g.T.Task.seen l c.in-Serves.state m (subst (λ (h : HeldMode g.row.T.Denot). IsMode g.T.Task.seen l h m) c.in-Serves.is is) in
    ap (λ (x : Mode). may_enter x event) f.1 ∙ enters l f.0 constructor f.2 (subst (λ (x : Mode). IsGatedMode constructor x) f.1 gated) event)

pub returns-in-Serves-clause-none : goal.returns-in-Serves-clause-none
returns-in-Serves-clause-none g c = if_none_then c.entering_state.result c.entering_state.ensures.none (λ none l m is event.
    let f = serves_seen g.T.Task.seen l c.in-Serves.state m (subst (λ (h : HeldMode g.row.T.Denot). IsMode g.T.Task.seen l h m) c.in-Serves.is is) in
    ap (λ (x : Mode). may_enter x event) f.1 ∙ none l f.0 f.2 event)

pub returns-in-Down-clause-some : goal.returns-in-Down-clause-some
returns-in-Down-clause-some g c = λ l m constructor is gated event.
    ap (λ (x : Mode). may_enter x event) (down_seen g.T.Task.seen l _ m (subst (λ (h : HeldMode g.row.T.Denot). IsMode g.T.Task.seen l h m) c.in-Down.is is))

pub returns-in-Stopped-clause-none : goal.returns-in-Stopped-clause-none
returns-in-Stopped-clause-none g c = λ l m is event.
    absurd (stopped_seen g.T.Task.seen l m (subst (λ (h : HeldMode g.row.T.Denot). IsMode g.T.Task.seen l h m) c.in-Stopped.is is))

use Rattle.std.proofs.Common.{◌∙◌, sym, refl, ap, subst, ℕ, List, Option, inl}
use Rattle.do_tree.specs.Checked.{tree_of as script_in}
use Rattle.timeline.specs.Intake.{serves}
use Rattle.timeline.specs.Logs.{fronted}
use Rattle.timeline.specs.Object.{idle}
use Rattle.timeline.specs.declared.event.Event.{Event}
use Rattle.front_half.specs.Standing.{IsMode}
use Rattle.front_half.specs.Taking.{class_after}
use Rattle.front_half.specs.declared.half.Half.{Half}
use Rattle.front_half.specs.declared.half.Mode.{Mode as HeldMode}
use Rattle.front_half.specs.declared.half.Mode.TheVariants as held
use Rattle.front_half.proofs.Decided.{delivery_of}
use Rattle.front_half.proofs.Entered.{class_there, delivers_cut, delivers_moves, idle_at, idles_in, is_known, will_be_known}
use Rattle.front_half.proofs.Fitted.{at_moment, of_method}
use Rattle.front_half.proofs.half.Half.delivers.Goals as goal

pub known-class-requires : goal.known-class-requires
known-class-requires g c =
    let script = script_in c.args.checked.now in
    let k = will_be_known g.T.Task.seen script c.args.self.now c.requires.0 c.args.event c.requires.1 c.requires.2 in
    is_known c.class_after.result k.0 (c.class_after.ensures ∙ k.1)

pub state_in-requires : goal.state_in-requires
state_in-requires g c =
    let script = script_in c.args.checked.now in
    let d = delivery_of script c.requires.0 c.args.event c.requires.2 in
    let x = idles_in g.T.Task.seen script c.args.self.now c.requires.0 c.args.event c.known-class.result c.requires.1 d (sym c.class_after.ensures ∙ c.known-class.ensures) in
    (x.0, idle x.1, subst (λ (m : HeldMode g.row.T.Denot). IsMode g.T.Task.seen x.0 m (serves (idle x.1))) (sym c.replace-mode.ensures.value) x.2)

pub object_in-object-requires : goal.object_in-object-requires
object_in-object-requires g c =
    let script = script_in c.args.checked.now in
    let d = delivery_of script c.requires.0 c.args.event c.requires.2 in
    let x = idles_in g.T.Task.seen script c.args.self.now c.requires.0 c.args.event c.known-class.result c.requires.1 d (sym c.class_after.ensures ∙ c.known-class.ensures) in
    (x.0, x.1, subst (λ (m : HeldMode g.row.T.Denot). IsMode g.T.Task.seen x.0 m (serves (idle x.1))) (sym c.replace-mode.ensures.value ∙ c.state_in.ensures) x.2)

pub deliver_turn-requires-clause-class : goal.deliver_turn-requires-clause-class
deliver_turn-requires-clause-class g c =
    let script = script_in c.args.checked.now in
    let d = delivery_of script c.requires.0 c.args.event c.requires.2 in
    class_there g.T.Task.seen script c.args.self.now c.requires.0 c.args.event c.known-class.result c.requires.1 d (sym c.class_after.ensures ∙ c.known-class.ensures)

pub deliver_turn-requires-clause-method : goal.deliver_turn-requires-clause-method
deliver_turn-requires-clause-method g c =
    let script = script_in c.args.checked.now in
    let d = delivery_of script c.requires.0 c.args.event c.requires.2 in
    of_method script c.requires.0.class c.args.event c.known-class.result c.args.self.now.incarnation d.fit
    (ap (λ (x : Option ℕ). class_after script x c.args.event) (sym c.requires.1.class) ∙ sym c.class_after.ensures ∙ c.known-class.ensures)

pub deliver_turn-requires-clause-moment : goal.deliver_turn-requires-clause-moment
deliver_turn-requires-clause-moment g c =
    let script = script_in c.args.checked.now in
    at_moment script c.requires.0.class c.args.event (delivery_of script c.requires.0 c.args.event c.requires.2).fit

pub deliver_turn-requires-clause-held : goal.deliver_turn-requires-clause-held
deliver_turn-requires-clause-held g c =
    let script = script_in c.args.checked.now in
    let d = delivery_of script c.requires.0 c.args.event c.requires.2 in
    let at = idle_at g.T.Task.seen script c.args.self.now c.requires.0 c.args.event c.object_in-object.result c.known-class.result c.requires.1 d
    (sym c.class_after.ensures ∙ c.known-class.ensures) (sym c.replace-mode.ensures.value ∙ c.state_in.ensures ∙ ap held.Serves c.object_in-object.ensures) in
    (at.tasks, at.held)

pub returns-in-Err-clause-cut : goal.returns-in-Err-clause-cut
returns-in-Err-clause-cut g c = λ st half is. inl (ap (λ (xs : List (ℕ × Event)). record (fronted c.args.self.now.log) { delivered = xs }) c.in-Err.ensures.same)

pub returns-in-Err-clause-too : goal.returns-in-Err-clause-too
returns-in-Err-clause-too g c = λ first base at. at

pub returns-in-Ok-deliver_turn-clause-moves : goal.returns-in-Ok-deliver_turn-clause-moves
returns-in-Ok-deliver_turn-clause-moves g c = λ st half is.
    let script = script_in c.args.checked.now in
    delivers_moves g.T.Task.seen script c.args.self.now _ st c.args.event c.object_in-object.result c.in-Ok-deliver_turn.turn.0 c.known-class.result half is
    (sym c.class_after.ensures ∙ c.known-class.ensures) (sym c.replace-mode.ensures.value ∙ c.state_in.ensures ∙ ap held.Serves c.object_in-object.ensures)
    (record {
      incarnation = refl;
      due = refl;
      deferred = refl;
      stuck = refl;
      first_delivered = refl;
      first_sent = refl;
      delivered = c.in-Ok.ensures.logged;
      dropped = refl;
      downed = refl;
      ends = refl;
    }) refl refl c.in-Ok-deliver_turn.ensures.speaks

pub returns-in-Err-deliver_turn-clause-cut : goal.returns-in-Err-deliver_turn-clause-cut
returns-in-Err-deliver_turn-clause-cut g c = λ st half is.
    let script = script_in c.args.checked.now in
    let h : Half g.row.T.Denot = c.args.self.now in
    let new : Half g.row.T.Denot = record h { log = record h.log { delivered = c.log_delivered.new.delivered; sent = c.deliver_turn.new.sent } } in
    delivers_cut g.T.Task.seen script h new st c.args.event c.object_in-object.result c.known-class.result half is
    (sym c.class_after.ensures ∙ c.known-class.ensures) (sym c.replace-mode.ensures.value ∙ c.state_in.ensures ∙ ap held.Serves c.object_in-object.ensures)
    (record {
      incarnation = refl;
      due = refl;
      deferred = refl;
      stuck = refl;
      first_delivered = refl;
      first_sent = refl;
      delivered = c.in-Ok.ensures.logged;
      dropped = refl;
      downed = refl;
      ends = refl;
    }) c.in-Err-deliver_turn.ensures.prefix

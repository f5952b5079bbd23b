use Rattle.std.proofs.Common.{◌≡◌, refl, ap, List, [], ◌∷◌, ◌++◌}
use Rattle.std.proofs.lemmas.Result.{on_ok_weaker, on_err_weaker}
use Rattle.timeline.specs.Logs.{fronted}
use Rattle.timeline.specs.declared.event.Event.{Event}
use Rattle.front_half.specs.declared.half.Half.{Half}
use Rattle.front_half.proofs.Entered.{kept_moves}
use Rattle.front_half.proofs.half.Half.drops.Goals as goal

pub returns-clause-moves : goal.returns-clause-moves
returns-clause-moves g c =
    let h : Half g.row.T.Denot = c.args.self.now in
    let new : Half g.row.T.Denot = record h { log = record h.log { dropped = c.put.new.events } } in
    on_ok_weaker c.put.result
    (λ (p : c.put.new.events.items ≡ h.log.dropped.items ++ c.args.event ∷ []). λ script st half.
    kept_moves g.T.Task.seen script h new st st.deferred st.stuck (c.args.event ∷ [])
    (record {
      class = refl;
      incarnation = refl;
      count = refl;
      mode = refl;
      first_delivered = refl;
      first_sent = refl;
      delivered = refl;
      sent = refl;
      downed = refl;
      ends = refl;
    }) half.deferred half.stuck p half)
    c.put.ensures.put

pub returns-clause-same : goal.returns-clause-same
returns-clause-same g c =
    let h : Half g.row.T.Denot = c.args.self.now in
    on_err_weaker c.put.result
    (λ (p : c.put.new.events.items ≡ h.log.dropped.items). ap (λ (xs : List Event). record (fronted h.log) { dropped = xs }) p) c.put.ensures.same

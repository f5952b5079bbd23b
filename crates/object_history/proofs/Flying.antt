-- A flight and a release change nothing that the front sees.
use Rattle.std.proofs.Common.{refl, inl, inr, ⊎_elim, sym, ℕ, suc, List, [], append-nil}
use Rattle.storage_map.specs.Contents.{Contents}
use Rattle.timeline.specs.History.{incarnations, start_after}
use Rattle.timeline.specs.Intake.{Kind, Front}
use Rattle.timeline.specs.Logs.{Fronted}
use Rattle.timeline.specs.declared.back_log.Release.{Release}
use Rattle.timeline.specs.declared.entry.Entry.{Entry}
use Rattle.timeline.specs.declared.notice.Notice.{Notice}
use Rattle.object_history.proofs.Alike.{IsAlike, IsKeptAlike, same_start}
use Rattle.object_history.proofs.Keeping.{rebuilt, same_together, same_behind}
use Rattle.object_history.proofs.Readings.{phase_now}
use Rattle.object_history.specs.Pair.{Rear, IsPhase, IsPair}

module _ (k : Kind) (opened : Contents) (f : Front) (front : Fronted) (rear : Rear) (line : List Entry) (notices : List Notice)
    (pair : IsPair k opened f front rear line notices) where
  -- a log with these flights and releases has the same incarnations
  pub flown_on : (flights : List ℕ) (released : List Release) (durable : ℕ) (map : Contents)
      → IsPair k opened f front (record rear { log = record rear.log { flights = flights; released = released }; durable = durable; map = map }) line notices
  flown_on flights released durable map =
      let later : Rear = record rear { log = record rear.log { flights = flights; released = released }; durable = durable; map = map } in
      let alike : (index : ℕ) → IsAlike front front rear.log later.log index =
      λ index. record { delivered = refl; sent = refl; stop = refl; downed = refl; missed = refl } in
      let kept : (index : ℕ) → IsKeptAlike front front rear.log later.log index = λ index. refl in
      let phase : IsPhase opened pair.below pair.start f front later pair.lined.unread pair.lined.late notices = ⊎_elim
      (λ t. inl (t.0, same_together pair.start f front rear.log later.log pair.lined.unread rear.before rear.stand rear.held notices refl t.1))
      (λ b. inr (
        b.0,
        same_behind pair.start (start_after opened (incarnations front rear.log (suc pair.below)))
            (start_after opened (incarnations front later.log (suc pair.below))) pair.below f pair.lined.unread rear later notices
            (same_start front front rear.log later.log opened (suc pair.below) (λ index less. kept index)) refl refl refl refl refl pair.lined.late b.1,
      ))
      (phase_now pair) in
      rebuilt k opened f front rear line notices pair later line notices (λ index less. alike index) (λ index less. kept index)
      ([], sym (append-nil rear.log.taken)) refl refl pair.lined phase

-- A back answers a sync.
use Rattle.std.proofs.Common.{◌≡◌, sym, refl, inl, ⊎_elim, ℕ, List, [], ◌∷◌, ◌++◌, append-nil}
use Rattle.storage_map.specs.Contents.{Contents}
use Rattle.timeline.specs.History.{incarnations}
use Rattle.timeline.specs.Intake.{Kind, Front}
use Rattle.timeline.specs.Logs.{Fronted}
use Rattle.timeline.specs.declared.entry.Entry.{Entry}
use Rattle.timeline.specs.declared.notice.Notice.{Notice}
use Rattle.timeline.specs.declared.notice.Notice.TheVariants as notice
use Rattle.object_history.proofs.Keeping.{rebuilt}
use Rattle.object_history.proofs.Phases.{asked_last, syncs_as}
use Rattle.object_history.proofs.Readings.{phase_now}
use Rattle.object_history.specs.Pair.{Rear, Held, sync, IsPair}
use Rattle.object_history.specs.Stepping.{AreGiven}

pub answers_sync : (k : Kind) (opened : Contents) (f : Front) (front : Fronted) (rear : Rear) (number needs : ℕ) (rest : List Held) (map : Contents) (line : List Entry) (notices given : List Notice)
    → rear.held ≡ record { hold = sync number; needs = needs } ∷ rest → AreGiven (notice.Synced number ∷ []) given
    → IsPair k opened f front rear line notices → IsPair k opened f front (record rear { held = rest; map = map }) line (notices ++ given)
answers_sync k opened f front rear number needs rest map line notices given is_held are pair = ⊎_elim
    (λ t.
    rebuilt k opened f front rear line notices pair (record rear { held = rest; map = map }) line (notices ++ given)
    (λ index less. record { delivered = refl; sent = refl; stop = refl; downed = refl; missed = refl }) (λ index less. refl)
    ([], sym (append-nil rear.log.taken)) refl refl pair.lined
    (inl (
      t.0,
      syncs_as pair.start f front rear.log pair.lined.unread rear.before number needs rest given rear.stand rear.held notices
          (asked_last k (incarnations front rear.log pair.below) pair.start f front rear.log pair.newest_said) t.1 is_held are,
    )))
    (λ b. absurd (let none = b.1.none_held in cc))
    (phase_now pair)

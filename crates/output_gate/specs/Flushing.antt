-- What a flush does, as its caller sees it.
use Rattle.std.specs.Prelude.{◌≡◌, ◌⊎◌, ◌-◌, ◌∷◌, [], ◌++◌, ℕ, List, Some}
use Rattle.std.specs.List.{flat_map}
use Rattle.batch_journal.specs.Rest.{IsStaged, end_of, needed}
use Rattle.batch_journal.specs.Staged.{frame_of}
use Rattle.batch_journal.specs.declared.journal.Journal.{Journal}
use Rattle.storage_map.specs.Limits.{Object}
use Rattle.storage_map.specs.declared.op.Op.{Op}
use Rattle.timeline.specs.Logs.{backed}
use Rattle.timeline.specs.declared.caller.Cause.{Cause}
use Rattle.output_gate.specs.Held.{stays}
use Rattle.output_gate.specs.Serving.{stop_of}
use Rattle.output_gate.specs.Storing.{IsCauseOf}
use Rattle.output_gate.specs.declared.back.Back.{Back}
use Rattle.output_gate.specs.declared.back.Ending.{Ending}
use Rattle.output_gate.specs.declared.back.Mode.TheVariants.{Wanted}
use Rattle.output_gate.specs.declared.store.Store.TheVariants as store

-- The journal got one frame, of what was staged of the slot's object.
abbrev pub GetsFrame : {D : Type 0} → (old new : Back D) → Type 0
GetsFrame {D} old new = (journal after : Journal D) → old.store ≡ store.Journal journal → new.store ≡ store.Journal after
    → (object : Object) (batches : List (List Op)) → old.identity ≡ Some object → IsStaged journal object batches
    → end_of after ≡ needed journal (frame_of object batches)

-- One flight of all batches that were taken and not durable; they are durable now.
pub record FliesAll {D : Type 0} (old new : Back D) : Type 0 where
  pub log : backed new.log ≡ record (backed old.log) { flights = old.log.flights.items ++ (old.before - old.durable) ∷ [] }
  pub mode : new.mode ≡ old.mode
  pub held : new.held ≡ old.held
  pub before : new.before ≡ old.before
  pub needs : new.needs ≡ old.needs
  pub durable : new.durable ≡ old.before
  pub limit : new.limit ≡ old.limit
  pub identity : new.identity ≡ old.identity
  pub stuck : new.stuck ≡ old.stuck
  pub end : GetsFrame old new

-- The incarnation ends, by a cause that the append had, and a mounting is wanted, for which the journal's end before the append is
-- kept. The batches that weren't durable don't count, and of a reply that needs one of them the failure is held.
pub record Ends {D : Type 0} (faults_of : D → ℕ) (old new : Back D) : Type 0 where
  pub cause : Cause
  pub journal : Journal D
  pub after : Journal D
  pub from : old.store ≡ store.Journal journal
  pub into : new.store ≡ store.Journal after
  pub by_cause : IsCauseOf faults_of journal after cause
  pub log : backed new.log ≡ record (backed old.log) { stops = old.log.stops.items ++ stop_of old cause ∷ [] }
  pub mode : (ending : Ending) × (ending.cause ≡ cause) × (new.mode ≡ Wanted ending)
  pub end : (ending : Ending) → new.mode ≡ Wanted ending → ending.end ≡ end_of journal
  pub held : new.held.items ≡ flat_map (stays old.durable old.number cause) old.held.items
  pub before : new.before ≡ old.durable
  pub needs : new.needs ≡ old.durable
  pub durable : new.durable ≡ old.durable
  pub limit : new.limit ≡ old.limit
  pub identity : new.identity ≡ old.identity
  pub stuck : new.stuck ≡ old.stuck

abbrev pub Flushes : {D : Type 0} → (D → ℕ) → Back D → Back D → Type 0
Flushes faults_of old new = FliesAll old new ⊎ Ends faults_of old new

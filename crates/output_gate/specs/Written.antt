-- The frames that a journal got since the opening, as the log has them, and where it was full. This project's profile.
use Rattle.std.specs.Prelude.{◌≡◌, ◌≢◌, ◌⊎◌, ◌+◌, ◌-◌, ◌^◌, ◌<◌, ◌≤◌, min, nat_lt, if◌then◌else◌, ℕ, List, [], ◌∷◌, ◌++◌, length, take, drop, sum, Option, Some, None}
use Rattle.std.specs.List.{All, sum_by}
use Rattle.batch_codec.specs.Frames as codec
use Rattle.batch_journal.specs.Frames.{Frame, holds, payload, frame_room}
use Rattle.batch_journal.specs.Moments.{IsTold}
use Rattle.batch_journal.specs.Rest.{disk_in, end_of}
use Rattle.batch_journal.specs.Staged.{frame_of}
use Rattle.batch_journal.specs.declared.journal.Journal.{Journal}
use Rattle.storage_map.specs.Limits.{Object}
use Rattle.storage_map.specs.declared.op.Op.{Op}
use Rattle.timeline.specs.History.{Incarnation, History, batches_in, own_batches}
use Rattle.timeline.specs.Logs.{Backed, Fronted, backed}
use Rattle.timeline.specs.declared.back_log.Stop.{Stop}
use Rattle.timeline.specs.declared.caller.Cause.{Cause}
use Rattle.timeline.specs.declared.caller.Cause.TheVariants as cause
use Rattle.output_gate.specs.Gate.{history_at, place_of}
use Rattle.output_gate.specs.Kept.{MayBe}
use Rattle.output_gate.specs.Logs.{no_log}
use Rattle.output_gate.specs.Serving.{IsAtEnd, IsBack}
use Rattle.output_gate.specs.Standing.{older_of}
use Rattle.output_gate.specs.declared.back.Back.{Back}
use Rattle.output_gate.specs.declared.back.Ending.{Ending}
use Rattle.output_gate.specs.declared.back.Mode.TheVariants.{Mounted, Wanted}
use Rattle.output_gate.specs.declared.store.Store.TheVariants as store

-- The frames of flights of so many batches each, from the first of these on.
abbrev pub flown_frames : Object → List ℕ → List (List Op) → List Frame
flown_frames object [] batches = []
flown_frames object (count ∷ counts) batches = frame_of object (take count batches) ∷ flown_frames object counts (drop count batches)

-- The batches of an incarnation that stand behind its flights: up to its end, where it has ended.
abbrev pub unflown : Incarnation → List (List Op)
unflown i = drop (sum i.flights) (own_batches i)

-- Where more was kept than had flown, the flight that failed was found whole.
abbrev pub found_frames : Object → Incarnation → Option ℕ → List Frame
found_frames object i None = []
found_frames object i (Some kept) = if nat_lt (sum i.flights) kept then frame_of object (unflown i) ∷ [] else []

-- The frames that these incarnations wrote; and those of the newest one's flights behind the frames of the others.
abbrev pub frames_in : Object → History → List Frame
frames_in object [] = []
frames_in object (i ∷ older) = frames_in object older ++ flown_frames object i.flights (batches_in i.taken) ++ found_frames object i i.kept

abbrev pub frames_before : Object → Incarnation → History → List Frame
frames_before object i older = frames_in object older ++ flown_frames object i.flights (batches_in i.taken)

-- The place where a journal ends that ended at this place, and to which these frames came: each takes its payload, and the room of a frame.
abbrev pub end_with : ℕ → List Frame → ℕ
end_with end frames = end + sum_by (λ (frame : Frame). frame_room + length (payload frame)) frames

-- How many bytes the journal needs for the batches that the incarnation had not flown.
abbrev pub needed_by : ℕ → Object → Incarnation → History → ℕ
needed_by end object i older = end_with end (frames_before object i older ++ frame_of object (unflown i) ∷ [])

-- An end by a full journal, which ended at this place at the opening: some batches had not flown, their frame would have passed the limit, and
-- the end tells the limit and the bytes that were needed, up to the greatest number.
pub record IsFull (limit end : ℕ) (object : Object) (i : Incarnation) (older : History) (needed most : ℕ) : Type 0 where
  pub some : unflown i ≢ []
  pub passed : limit < needed_by end object i older
  pub told : needed ≡ min (needed_by end object i older) (2 ^ 64 - 1)
  pub limit_is : most ≡ limit

abbrev pub IsFullBy : (limit end : ℕ) → Object → Incarnation → History → Cause → Type 0
IsFullBy limit end object i older (cause.Full needed most) = IsFull limit end object i older needed most
IsFullBy limit end object i older c = Unit {0}

-- Of each of these incarnations no more was flown than was taken, by flights of some batches each, and an end by a full journal is one.
abbrev pub AreFilled : (limit end : ℕ) → Object → History → Type 0
AreFilled limit end object [] = Unit {0}
AreFilled limit end object (i ∷ older) =
    (sum i.flights ≤ length (batches_in i.taken)) × ((stop : Stop) → i.stop ≡ Some stop → IsFullBy limit end object i older stop.cause)
    × All (λ count. 1 ≤ count) i.flights × AreFilled limit end object older

-- What the incarnation that ended last had not flown.
abbrev pub unflown_in : History → List (List Op)
unflown_in [] = []
unflown_in (i ∷ older) = unflown i

-- A log's history, of which the newest incarnation goes on.
abbrev pub going : Fronted → Backed → History
going front back = history_at front (place_of front back)

-- A journal that ended at this place at the opening ends behind the frames of the log; and so it did before the append at which the newest end
-- came, as long as nothing was mounted behind that.
pub record IsWritten {D : Type 0} (limit end : ℕ) (back : Back D) (front : Fronted) (object : Object) : Type 0 where
  pub journal : (journal : Journal D) → back.store ≡ store.Journal journal → back.mode ≡ Mounted
      → end_of journal ≡ end_with end (frames_in object (going front (backed back.log)))
  pub ending : (ending : Ending) → IsAtEnd ending back.mode → ending.end ≡ end_with end (frames_in object (going front (backed back.log)))
  pub filled : AreFilled limit end object (going front (backed back.log))

abbrev pub AreWritten : {D : Type 0} → (limit end : ℕ) → Back D → Type 0
AreWritten limit end back = (front : Fronted) (object : Object) → MayBe back.identity object → IsWritten limit end back front object

-- Behind an end a journal that tells its content is found with the end that it had before the append, or with that append's whole frame, of the
-- batches that had not flown.
pub record IsFoundWith {D : Type 0} (old : Back D) (ending : Ending) (end : ℕ) (flight : codec.Frame) : Type 0 where
  pub end_is : end ≡ end_with ending.end (holds flight ∷ [])
  pub object : old.identity ≡ Some flight.object
  pub some : flight.batches ≢ []
  pub batches : (front : Fronted) → flight.batches ≡ unflown_in (older_of front (backed old.log))

abbrev pub FindsEnd : {D : Type 0} → (D → Option (List ℕ)) → (old new : Back D) → Type 0
FindsEnd {D} told old new = (ending : Ending) (journal : Journal D) → old.mode ≡ Wanted ending → new.store ≡ store.Journal journal → new.mode ≡ Mounted
    → IsTold (told (disk_in journal)) → (end_of journal ≡ ending.end) ⊎ ((flight : codec.Frame) × IsFoundWith old ending (end_of journal) flight)

-- A log's frames go on with the journal: one that was mounted is written from its end on.
abbrev pub FreshIsWritten : {D : Type 0} → (D → ℕ) → (D → ℕ → List ℕ → Type 0) → (D → Option (List ℕ)) → (D → List ℕ → Type 0) → (D → ℕ) → Back D → Type 0
FreshIsWritten {D} moment_of left_since told image faults_of back = (start : List (List Op)) (opening limit end : ℕ)
    → IsBack moment_of left_since told image faults_of start opening back → backed back.log ≡ no_log
    → ((journal : Journal D) → back.store ≡ store.Journal journal → end_of journal ≡ end) → AreWritten limit end back

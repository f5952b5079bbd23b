-- What `dump` prints. This project's profile.
use Rattle.std.specs.Prelude.{◌≡◌, ◌++◌, ◌∷◌, ◌+◌, ℕ, ℤ, List, [], length, slice_get, Option, Some, None}
use Rattle.std.specs.List.{flat_map}
use Rattle.batch_journal.specs.Frames.{Frame}
use Rattle.batch_journal.specs.Moments.{TellsAsBefore}
use Rattle.batch_journal.specs.Reading.{IsObjectOf}
use Rattle.batch_journal.specs.Recovery.{Recovers, RecoversAlike}
use Rattle.do_disk.specs.Disk.{IfTold, next_count}
use Rattle.do_value.specs.declared.value.Value.{Value}
use Rattle.host_core.specs.declared.report.SlotReport.{SlotReport}
use Rattle.host_core.specs.declared.settings.Bad.{Bad}
use Rattle.host_core.specs.declared.settings.Bad.TheVariants.{Damaged}
use Rattle.placement.specs.Slots.{Slots, object_at}
use Rattle.storage_map.specs.Limits.{Object}
use Rattle.timeline.specs.Logs.{Fronted, Backed, fronted, backed}
use Rattle.do_host.specs.SlotLines.{object_line, pair_line, alarm_line}
use Rattle.do_host.specs.Storage.{IsReadOf, Storage}

-- the lines of the pairs of a slot, in this order
abbrev pub pairs_text : ℕ → List (List ℕ × Value) → List ℕ
pairs_text slot pairs = flat_map (pair_line slot) pairs

-- the line of an alarm, where there is one
abbrev pub alarm_text : ℕ → Option (ℤ × ℕ) → List ℕ
alarm_text slot None = []
alarm_text slot (Some alarm) = alarm_line slot alarm

-- The text of a slot that has this object and whose storage contains that: the object, its pairs ascending by key, its alarm. A slot without an
-- object has none.
abbrev pub dump_text : ℕ → Option Object → Storage → List ℕ
dump_text slot None storage = []
dump_text slot (Some object) storage = object_line slot object ++ pairs_text slot storage.pairs ++ alarm_text slot storage.alarm

-- the text of slots from this one on, each with its object and what its storage contains
abbrev pub slots_text : ℕ → List (Option Object) → List Storage → List ℕ
slots_text slot [] storages = []
slots_text slot (object ∷ objects) [] = []
slots_text slot (object ∷ objects) (storage ∷ storages) = dump_text slot object storage ++ slots_text (slot + 1) objects storages

-- What the storage of a slot contains: what the frames leave to which its file, of this content, recovers, and which name this object. It was
-- read of a disk that tells this, where it told that.
pub record Contains (content told : Option (List ℕ)) (named : Option Object) (storage : Storage) : Type 0 where
  pub frames : List Frame
  pub recovered : IfTold content (λ c. Recovers c frames)
  pub names : IsObjectOf named frames
  pub telling : TellsAsBefore content told
  pub read : IsReadOf told frames storage

-- What the storages of the slots of these rows contain.
abbrev pub AreContents : {S : Type 0} → (S → Option (List ℕ)) → (ℕ → Option (List ℕ)) → Slots → List (SlotReport S) → List Storage → Type 0
AreContents {S} told contents named rows storages = (slot : ℕ) (row : SlotReport S) (storage : Storage) → slice_get rows slot ≡ Some row
    → slice_get storages slot ≡ Some storage → Contains (contents slot) (told row.store) (object_at named slot) storage

-- The text is that of these slots, from slot 0 on.
pub record IsDumpOf {S : Type 0} (told : S → Option (List ℕ)) (contents : ℕ → Option (List ℕ)) (named : Slots) (rows : List (SlotReport S))
    (text : List ℕ) : Type 0 where
  pub storages : List Storage
  pub many : length storages ≡ length named
  pub each : AreContents told contents named rows storages
  pub text_is : text ≡ slots_text 0 named storages

-- nothing is logged
abbrev pub no_front : Fronted
no_front = record { delivered = []; downed = []; dropped = []; sent = []; ends = [] }

abbrev pub no_back : Backed
no_back = record { taken = []; flights = []; stops = []; released = []; ends = []; downs = [] }

-- A row of a slot that was mounted and not served: its logs are empty, its object is the slot's, and a crash at any moment since the first call
-- of its disk leaves a file that recovers to the frames of the slot's own, but for a marker, and no other.
pub record IsIdleRow {S : Type 0} (left_since : S → ℕ → List ℕ → Type 0) (content : Option (List ℕ)) (named : Option Object)
    (row : SlotReport S) : Type 0 where
  pub frames : List Frame
  pub recovered : IfTold content (λ c. Recovers c frames)
  pub names : IsObjectOf named frames
  pub object : row.identity ≡ named
  pub front : fronted row.front ≡ no_front
  pub back : backed row.back ≡ no_back
  pub images : (c : List ℕ) → left_since row.store (next_count 0) c → RecoversAlike c frames

-- Each row is one of its own slot.
abbrev pub AreIdleRows : {S : Type 0} → (S → ℕ → List ℕ → Type 0) → (ℕ → Option (List ℕ)) → Slots → List (SlotReport S) → Type 0
AreIdleRows {S} left_since contents named rows = (slot : ℕ) (row : SlotReport S) → slice_get rows slot ≡ Some row
    → IsIdleRow left_since (contents slot) (object_at named slot) row

-- The disk of a slot that was mounted, of which a value wasn't read: a crash at any moment since its first call leaves a file that recovers to
-- the frames of the slot's own, but for a marker, and no other.
pub record IsUnread {S : Type 0} (left_since : S → ℕ → List ℕ → Type 0) (content : Option (List ℕ)) (named : Option Object) (disk : S) : Type 0 where
  pub frames : List Frame
  pub recovered : IfTold content (λ c. Recovers c frames)
  pub names : IsObjectOf named frames
  pub images : (c : List ℕ) → left_since disk (next_count 0) c → RecoversAlike c frames

-- The slot is damaged at a place at which no value stands, and its disk tells nothing.
abbrev pub HasNoValue : {S : Type 0} → (S → Option (List ℕ)) → ℕ → Bad → S → Type 0
HasNoValue told slot bad disk = ((place : ℕ) × (bad ≡ Damaged slot place)) × (told disk ≡ None)

-- A back that serves, and one whose incarnation has ended at an append.
use Rattle.std.specs.Prelude.{◌≡◌, ◌≢◌, ◌⊎◌, ℕ, ℤ, suc, ◌+◌, ◌-◌, ◌≤◌, nat_lt, Bool, true, false, not, List, [], ◌∷◌, ◌++◌, length, Option, Some, None, Result, OnOk, OnErr, vec_len}
use Rattle.std.specs.List.{flat_map}
use Rattle.std.specs.Vec.{vec_capacity}
use Rattle.batch_codec.specs.Frames as codec
use Rattle.batch_journal.specs.Frames.{Frame, holds, journal_bytes, batches_in}
use Rattle.batch_journal.specs.Moments.{IsTold}
use Rattle.batch_journal.specs.Recovery.{IsJournal}
use Rattle.batch_journal.specs.Rest.{IsAtRest, IsStaged, RecoversToOneOf, disk_in}
use Rattle.batch_journal.specs.declared.journal.Journal.{Journal}
use Rattle.do_value.specs.declared.fault.NoMemory.{NoMemory}
use Rattle.timeline.specs.declared.caller.Cause.TheVariants as causes
use Rattle.timeline.specs.declared.entry.Entry.{Entry}
use Rattle.storage_map.specs.Contents.{Contents, nothing, apply}
use Rattle.storage_map.specs.Limits.{Object}
use Rattle.storage_map.specs.Ops.{batch_bytes}
use Rattle.storage_map.specs.declared.op.Op.{Op}
use Rattle.timeline.specs.History.{Incarnation, History, durable, batches_in as batches_taken}
use Rattle.timeline.specs.Logs.{Fronted, backed}
use Rattle.timeline.specs.Passed.{Passed}
use Rattle.timeline.specs.declared.back_log.Stop.{Stop}
use Rattle.timeline.specs.declared.caller.Cause.{Cause}
use Rattle.object_storage.specs.Stored.{HasStored, HasKept}
use Rattle.output_gate.specs.Counted.{counts_in, AreCounted, AreRising, HasRisenIn}
use Rattle.output_gate.specs.Down.{place_down, IsDown}
use Rattle.output_gate.specs.Ended.{IsLogged, IsLoggedDown, Marks, late_if}
use Rattle.output_gate.specs.Fits.{IsAsk, is_halt, last_of}
use Rattle.output_gate.specs.Gate.{place_of, IsGate}
use Rattle.output_gate.specs.Held.{stays, waiting_in, has_halt, has_failed_read, is_read, unread_in, HaltsLast}
use Rattle.output_gate.specs.Kept.{MayBe, NameOnly}
use Rattle.output_gate.specs.Passing.{AreMended}
use Rattle.output_gate.specs.Standing.{AreLogs, own_entries}
use Rattle.output_gate.specs.Storing.{IsDiskOf}
use Rattle.output_gate.specs.declared.back.Back.{Back}
use Rattle.output_gate.specs.declared.back.Ending.{Ending}
use Rattle.output_gate.specs.declared.back.Mode.{Mode}
use Rattle.output_gate.specs.declared.back.Mode.TheVariants.{Mounted, Wanted, Down}
use Rattle.output_gate.specs.declared.store.Fault.{Fault}
use Rattle.output_gate.specs.declared.store.Store.TheVariants as store

-- The log's lists fit, and have the room that a flush of what is staged needs; the counters are theirs.
pub record HasRoom {D : Type 0} (back : Back D) : Type 0 where
  pub logs : AreLogs (backed back.log)
  pub flights : back.before ≢ back.durable → vec_len back.log.flights + 1 ≤ vec_capacity back.log.flights
  pub stops : back.before ≢ back.durable → vec_len back.log.stops + 1 ≤ vec_capacity back.log.stops
  pub number : back.number ≡ suc (length back.log.stops.items)
  pub own : back.own ≡ length (batches_taken (own_entries (backed back.log)))
  pub few : back.before ≤ length back.log.taken.items
  pub own_few : back.own ≤ length back.log.taken.items
  pub followed : length back.log.ends.items ≡ length back.log.stops.items

-- A map is stored: the cache is one of it, and what isn't in memory stands in the frames, or in what is staged behind them for the
-- slot's object, or for any where it has none yet.
abbrev pub AreStored : {D : Type 0} → Back D → List Frame → List (List Op) → Contents → Type 0
AreStored back frames staged m = (object : Object) → MayBe back.identity object → HasStored frames object staged back.cache m

-- The last entry is the halt that is held, or, where the end by a read that failed is held, the ask of that read.
abbrev pub HaltsBy : {D : Type 0} → Entry → Back D → Type 0
HaltsBy e back =
    ((has_failed_read back.held.items ≡ false) × (is_halt e.body ≡ true)) ⊎ ((has_failed_read back.held.items ≡ true) × IsAsk e.body)

-- Of any disk: the journal is at rest, its frames name the object, what isn't durable is staged, and some map is stored; after want of
-- memory the cache isn't sound.
pub record IsSafe {D : Type 0} (told : D → Option (List ℕ)) (image : D → List ℕ → Type 0) (sound : Bool) (journal : Journal D) (back : Back D) : Type 0 where
  pub store : back.store ≡ store.Journal journal
  pub mode : back.mode ≡ Mounted
  pub room : HasRoom back
  pub frames : List Frame
  pub staged : List (List Op)
  pub at_rest : IsAtRest told image journal frames
  pub named : NameOnly back.identity frames
  pub unflown : back.before ≡ back.durable + length staged
  pub own : length staged ≤ back.own
  pub unflushed : back.unflushed ≡ length (flat_map batch_bytes staged)
  pub staged_for : (object : Object) → back.identity ≡ Some object → IsStaged journal object staged
  pub nameless : back.identity ≡ None → (staged ≡ []) × ((object : Object) → IsStaged journal object [])
  pub halts : HaltsLast back.before back.held.items
  pub halted : has_halt back.held.items ≡ true → (e : Entry) × (last_of back.log.taken.items ≡ Some e) × (e.incarnation ≡ back.number) × HaltsBy e back
  pub stored : sound ≡ true → (m : Contents) × AreStored back frames staged m

-- Of a disk that tells its content: the frames have the batches of the start and those that are durable, the other batches of the
-- line are staged, what the line leaves is stored, what is kept of reads stands in the frames, and what is held are the messages that
-- wait.
pub record IsServing {D : Type 0} (moment_of : D → ℕ) (left_since : D → ℕ → List ℕ → Type 0) (told : D → Option (List ℕ)) (image : D → List ℕ → Type 0)
    (start : List (List Op)) (opening : ℕ) (sound : Bool) (journal : Journal D) (back : Back D) : Type 0 where
  pub room : HasRoom back
  pub frames : List Frame
  pub left : List Passed
  pub flown : List (List Op)
  pub staged : List (List Op)
  pub gate : (front : Fronted) → IsGate moment_of left_since back.identity start opening front (place_of front (backed back.log)) (disk_in journal)
      (record { released = back.log.released.items; left = left; waiting = waiting_in back.held.items; flown = flown; staged = staged }) back.before
      back.durable
  pub at_rest : IsAtRest told image journal frames
  pub named : NameOnly back.identity frames
  pub batches : batches_in frames ≡ start ++ flown
  pub unflown : back.before ≡ back.durable + length staged
  pub unflushed : back.unflushed ≡ length (flat_map batch_bytes staged)
  pub staged_for : (object : Object) → back.identity ≡ Some object → IsStaged journal object staged
  pub nameless : back.identity ≡ None → (staged ≡ []) × ((object : Object) → IsStaged journal object [])
  pub stored : sound ≡ true → AreStored back frames staged (apply nothing (flat_map (λ ops. ops) (start ++ flown ++ staged)))
  pub kept : sound ≡ true → HasKept frames back.cache

abbrev pub marks_of : {D : Type 0} → Back D → Marks
marks_of back = record { settled = back.settled; late = back.late; needs = back.needs }

-- An end by a read that failed is held, of the newest incarnation: the disk's counts round it stand behind those of the log, and over a disk that
-- tells its content they rose.
pub record IsUnread {D : Type 0} (tells : Type 0) (now : ℕ) (back : Back D) (counts : ℕ × ℕ) : Type 0 where
  pub rising : AreRising 0 (counts_in (backed back.log) ++ counts ∷ []) now
  pub rose : tells → HasRisenIn counts

abbrev pub IsReading : {D : Type 0} → (tells : Type 0) → (now : ℕ) → Back D → Type 0
IsReading tells now back = (counts : ℕ × ℕ) → unread_in back.held.items ≡ counts ∷ [] → IsUnread tells now back counts

-- The newest incarnation is mounted.
pub record IsMounted {D : Type 0} (moment_of : D → ℕ) (left_since : D → ℕ → List ℕ → Type 0) (told : D → Option (List ℕ)) (image : D → List ℕ → Type 0)
    (faults_of : D → ℕ)
    (start : List (List Op)) (opening : ℕ) (sound : Bool) (back : Back D) : Type 0 where
  pub journal : Journal D
  pub safe : IsSafe told image sound journal back
  pub serves : IsTold (told (disk_in journal)) → IsServing moment_of left_since told image start opening sound journal back
  pub logged : IsLogged (IsTold (told (disk_in journal))) (backed back.log) (marks_of back) back.own back.before back.durable
  pub counts : AreCounted (IsTold (told (disk_in journal))) (backed back.log) (faults_of (disk_in journal))
  pub reads : IsReading (IsTold (told (disk_in journal))) (faults_of (disk_in journal)) back

-- It isn't mounted, since an end of which this is known.
abbrev pub IsAtEnd : Ending → Mode → Type 0
IsAtEnd ending mode = (mode ≡ Wanted ending) ⊎ (mode ≡ Down ending)

-- Of any disk: the counters are the logs'.
pub record IsSafeEnded {D : Type 0} (disk : D) (ending : Ending) (back : Back D) : Type 0 where
  pub store : IsDiskOf back.store disk
  pub mode : IsAtEnd ending back.mode
  pub logs : AreLogs (backed back.log)
  pub number : back.number ≡ suc (length back.log.stops.items)
  pub gone : length back.log.stops.items ≡ suc (length back.log.ends.items)
  pub even : back.before ≡ back.durable
  pub own : back.own ≡ length (batches_taken (own_entries (backed back.log)))
  pub none : back.own ≡ 0
  pub unflushed : back.unflushed ≡ 0
  pub more : ending.flown ≤ ending.whole
  pub few : back.durable + (ending.whole - ending.flown) ≤ length back.log.taken.items
  pub halts : has_halt back.held.items ≡ false

-- Of a disk that tells its content: it has the frames, or these and the flight that failed, and that is all that a crash leaves;
-- where the journal was full it has the frames.
pub record IsEnded {D : Type 0} (moment_of : D → ℕ) (left_since : D → ℕ → List ℕ → Type 0) (image : D → List ℕ → Type 0)
    (start : List (List Op)) (opening : ℕ) (disk : D) (ending : Ending) (back : Back D) : Type 0 where
  pub frames : List Frame
  pub flight : codec.Frame
  pub ended : ℕ
  pub taken : List Entry
  pub left : List Passed
  pub flown : List (List Op)
  pub last : Fronted → Incarnation
  pub rest : Fronted → History
  pub end : ending.end ≡ length (journal_bytes frames) + 1
  pub is_flown : (front : Fronted) → ending.flown ≡ durable (last front)
  pub is_whole : ending.whole ≡ ending.flown + length flight.batches
  pub logs : AreLogs (backed back.log)
  pub place : (front : Fronted) → place_of front (backed back.log) ≡ place_down ended taken (last front) (rest front)
  pub down : (front : Fronted) → IsDown moment_of left_since back.identity start opening front ended taken (last front) (rest front) disk
      (record { released = back.log.released.items; left = left; waiting = waiting_in back.held.items; flown = flown; staged = flight.batches }) back.durable
  pub object : back.identity ≡ Some flight.object
  pub named : NameOnly back.identity frames
  pub batches : batches_in frames ≡ start ++ flown
  pub outcomes : (c : List ℕ) → image disk c → RecoversToOneOf frames (holds flight) c
  pub mended : (back.mode ≡ Wanted ending) → AreMended taken
  pub gone : length back.log.stops.items ≡ suc (length back.log.ends.items)
  pub number : back.number ≡ suc (length back.log.stops.items)
  pub full : (needed limit : ℕ) → ending.cause ≡ causes.Full needed limit → (c : List ℕ) → image disk c → IsJournal c frames

-- The newest incarnation isn't mounted.
pub record IsUnmounted {D : Type 0} (moment_of : D → ℕ) (left_since : D → ℕ → List ℕ → Type 0) (told : D → Option (List ℕ)) (image : D → List ℕ → Type 0)
    (faults_of : D → ℕ)
    (start : List (List Op)) (opening : ℕ) (back : Back D) : Type 0 where
  pub disk : D
  pub ending : Ending
  pub safe : IsSafeEnded disk ending back
  pub ended : IsTold (told disk) → IsEnded moment_of left_since image start opening disk ending back
  pub logged : IsLoggedDown (IsTold (told disk)) (backed back.log) ending (marks_of back) back.durable
  pub counts : AreCounted (IsTold (told disk)) (backed back.log) (faults_of disk)

-- the alarm of the map that the storage stands for
abbrev pub alarm_of : {D : Type 0} → Back D → Option (ℤ × ℕ)
alarm_of back = back.cache.index.alarm

-- What holds of a back whose cache is sound, or needn't be; and a step from such a back to such.
abbrev pub IsBackAs : {D : Type 0} → (D → ℕ) → (D → ℕ → List ℕ → Type 0) → (D → Option (List ℕ)) → (D → List ℕ → Type 0) → (D → ℕ) → List (List Op) → ℕ
    → (sound : Bool) → Back D → Type 0
IsBackAs moment_of left_since told image faults_of start opening sound back =
    IsMounted moment_of left_since told image faults_of start opening sound back ⊎ IsUnmounted moment_of left_since told image faults_of start opening back

abbrev pub KeepsBackAs : {D : Type 0} → (D → ℕ) → (D → ℕ → List ℕ → Type 0) → (D → Option (List ℕ)) → (D → List ℕ → Type 0) → (D → ℕ) → (sound later : Bool)
    → (old new : Back D) → Type 0
KeepsBackAs moment_of left_since told image faults_of sound later old new = (start : List (List Op)) (opening : ℕ)
    → IsBackAs moment_of left_since told image faults_of start opening sound old → IsBackAs moment_of left_since told image faults_of start opening later new

abbrev pub CanServeAs : {D : Type 0} → (D → ℕ) → (D → ℕ → List ℕ → Type 0) → (D → Option (List ℕ)) → (D → List ℕ → Type 0) → (D → ℕ) → (sound : Bool) → Back D
    → Type 0
CanServeAs moment_of left_since told image faults_of sound back = (start : List (List Op)) × (opening : ℕ)
    × IsBackAs moment_of left_since told image faults_of start opening sound back

-- Nothing was done that a later step sees, but to the cache and the store: the log, what is held, how the back stands and what it
-- counts are as before.
pub record IsAsBefore {D : Type 0} (old new : Back D) : Type 0 where
  pub log : backed new.log ≡ backed old.log
  pub held : new.held.items ≡ old.held.items
  pub stuck : new.stuck ≡ old.stuck
  pub identity : new.identity ≡ old.identity
  pub mode : new.mode ≡ old.mode
  pub before : new.before ≡ old.before
  pub durable : new.durable ≡ old.durable
  pub limit : new.limit ≡ old.limit

-- Memory was wanting at a step of this back.
abbrev pub is_stopped : {D : Type 0} → Back D → Bool
is_stopped back = back.stopped

-- Memory was wanting at a step, and the back is stopped; or it wasn't, and the back isn't.
pub record StopsBy {D A : Type 0} (result : Result A NoMemory) (new : Back D) : Type 0 where
  pub good : OnOk result (is_stopped new ≡ false)
  pub wanting : OnErr result (is_stopped new ≡ true)

-- What holds of a back after each of its steps: it is sound where it isn't stopped. A step keeps this.
abbrev pub IsBack : {D : Type 0} → (D → ℕ) → (D → ℕ → List ℕ → Type 0) → (D → Option (List ℕ)) → (D → List ℕ → Type 0) → (D → ℕ) → List (List Op) → ℕ → Back D
    → Type 0
IsBack moment_of left_since told image faults_of start opening back = IsBackAs moment_of left_since told image faults_of start opening
    (not (is_stopped back)) back

abbrev pub KeepsBack : {D : Type 0} → (D → ℕ) → (D → ℕ → List ℕ → Type 0) → (D → Option (List ℕ)) → (D → List ℕ → Type 0) → (D → ℕ) → (old new : Back D)
    → Type 0
KeepsBack moment_of left_since told image faults_of old new = (start : List (List Op)) (opening : ℕ)
    → IsBack moment_of left_since told image faults_of start opening old → IsBack moment_of left_since told image faults_of start opening new

abbrev pub CanServe : {D : Type 0} → (D → ℕ) → (D → ℕ → List ℕ → Type 0) → (D → Option (List ℕ)) → (D → List ℕ → Type 0) → (D → ℕ) → Back D → Type 0
CanServe moment_of left_since told image faults_of back = (start : List (List Op)) × (opening : ℕ)
    × IsBack moment_of left_since told image faults_of start opening back

-- What the two ends of a flush need of the back, and what they do to it.
pub record CanLand {D : Type 0} (back : Back D) : Type 0 where
  pub more : back.durable ≤ back.before
  pub flights : vec_len back.log.flights + 1 ≤ vec_capacity back.log.flights

pub record Lands {D : Type 0} (old new : Back D) : Type 0 where
  pub flights : new.log.flights.items ≡ old.log.flights.items ++ (old.before - old.durable) ∷ []
  pub log : new.log ≡ record old.log { flights = new.log.flights }
  pub same : new ≡ record old { log = new.log; durable = old.before; unflushed = 0 }

pub record CanStop {D : Type 0} (back : Back D) : Type 0 where
  pub more : back.durable ≤ back.before
  pub own : back.before ≤ back.durable + back.own
  pub stops : vec_len back.log.stops + 1 ≤ vec_capacity back.log.stops
  pub number : back.number ≡ suc (length back.log.stops.items)

abbrev pub stop_of : {D : Type 0} → Back D → Cause → Stop
stop_of back cause = record { cause = cause; flights = length back.log.flights.items; batches = back.own; read = false }

abbrev pub halt_of : {D : Type 0} → Back D → Cause → Stop
halt_of back cause = record { cause = cause; flights = length back.log.flights.items; batches = back.own; read = is_read cause }

abbrev pub ending_of : {D : Type 0} → Back D → Fault → Ending
ending_of back fault = record { cause = fault.cause; end = fault.end; flown = back.own - (back.before - back.durable); whole = back.own }

pub record Stops {D : Type 0} (old new : Back D) (fault : Fault) : Type 0 where
  pub stops : new.log.stops.items ≡ old.log.stops.items ++ stop_of old fault.cause ∷ []
  pub log : new.log ≡ record old.log { stops = new.log.stops }
  pub held : new.held.items ≡ flat_map (stays old.durable old.number fault.cause) old.held.items
  pub same : new ≡ record old {
    log = new.log;
    held = new.held;
    mode = Wanted (ending_of old fault);
    before = old.durable;
    needs = old.durable;
    own = 0;
    settled = old.durable;
    late = late_if (nat_lt old.durable old.needs) old.needs;
    unflushed = 0;
    number = old.number + 1;
  }

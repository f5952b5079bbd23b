-- What a take does, as its caller sees it.
use Rattle.std.specs.Prelude.{◌≡◌, ◌⊎◌, ℕ, ◌+◌, ◌<◌, Bool, true, false, List, [], ◌∷◌, ◌++◌, option_to_list, ◌-◌, length, slice_get, Option, Some, None, IfSome, is_some, Result, Ok, Err}
use Rattle.batch_journal.specs.Frames.{Frame}
use Rattle.batch_journal.specs.Moments.{IsTold}
use Rattle.batch_journal.specs.Rest.{IsAtRest}
use Rattle.batch_journal.specs.declared.journal.Journal.{Journal}
use Rattle.do_disk.specs.Disk.{Rose}
use Rattle.do_value.specs.declared.fault.NoMemory.{NoMemory}
use Rattle.storage_map.specs.Contents.{Contents}
use Rattle.storage_map.specs.Limits.{Object}
use Rattle.storage_map.specs.declared.op.Op.{Op}
use Rattle.timeline.specs.Logs.{Backed, backed}
use Rattle.timeline.specs.Passed.{follows}
use Rattle.timeline.specs.declared.back_log.Stop.{Stop}
use Rattle.timeline.specs.declared.caller.Cause.{Cause}
use Rattle.timeline.specs.declared.caller.Cause.TheVariants as cause
use Rattle.timeline.specs.declared.caller.Failure.TheVariants as failure
use Rattle.timeline.specs.declared.entry.Body.TheVariants as body
use Rattle.timeline.specs.declared.message.Message.{Message}
use Rattle.timeline.specs.declared.message.Message.TheVariants as message
use Rattle.output_gate.specs.declared.held.Held.{Held}
use Rattle.output_gate.specs.declared.held.HeldBody.TheVariants as held
use Rattle.timeline.specs.declared.entry.Body.{Body}
use Rattle.timeline.specs.declared.entry.Entry.{Entry}
use Rattle.timeline.specs.declared.notice.Notice.{Notice}
use Rattle.timeline.specs.declared.notice.Stepped.{Stepped}
use Rattle.timeline.specs.declared.notice.Stepped.TheVariants.{Nothing}
use Rattle.output_gate.specs.Fits.{IsAsk, comes_behind, fits_mounted, fits_down, last_of}
use Rattle.output_gate.specs.Held.{has_failed_read}
use Rattle.output_gate.specs.declared.back.Ending.{Ending}
use Rattle.output_gate.specs.declared.back.Mode.{Mode}
use Rattle.output_gate.specs.declared.back.Mode.TheVariants.{Mounted, Wanted, Down}
use Rattle.output_gate.specs.Serving.{AreStored, IsMounted, IsUnmounted, IsAsBefore}
use Rattle.output_gate.specs.Storing.{IsDiskOf, KeepsDisk, ReadsDisk}
use Rattle.output_gate.specs.Taking.{notice_of, fit_of, LogRoom, most_unflushed}
use Rattle.object_storage.specs.Stored.{HasKept}
use Rattle.output_gate.specs.declared.back.Back.{Back}
use Rattle.output_gate.specs.declared.store.Store.TheVariants as store
use Rattle.output_gate.specs.declared.fit.Fit.{Fit}
use Rattle.output_gate.specs.declared.fit.Fit.TheVariants as fit

abbrev pub is_unfit : Fit → Bool
is_unfit fit.Unfit = true
is_unfit _ = false

-- An entry that is taken is logged; one that leaves the back stuck isn't.
abbrev pub logged_as : Fit → Backed → Entry → Backed
logged_as fit.Unfit log e = log
logged_as _ log e = record log { taken = log.taken ++ e ∷ [] }

-- what the front is told at once
abbrev pub notice_as : Fit → Entry → Contents → Option Notice
notice_as fit.Own e m = notice_of e.number m e.body
notice_as _ e m = None

-- The counts of faults before and after a read of the disk that failed, where one did: its ask isn't answered.
abbrev pub Failed : Type 0
Failed = Option (ℕ × ℕ)

abbrev pub notice_with : Failed → Fit → Entry → Contents → Option Notice
notice_with None f e m = notice_as f e m
notice_with (Some counts) f e m = None

-- The map that a back answers by while its incarnation is mounted: what its journal's frames and its cache have stored.
pub record StandsForMap {D : Type 0} (told : D → Option (List ℕ)) (image : D → List ℕ → Type 0) (m : Contents) (back : Back D) : Type 0 where
  pub journal : Journal D
  pub frames : List Frame
  pub staged : List (List Op)
  pub at : back.store ≡ store.Journal journal
  pub at_rest : IsAtRest told image journal frames
  pub stored : AreStored back frames staged m
  pub kept : HasKept frames back.cache

abbrev pub HasMap : {D : Type 0} → (D → Option (List ℕ)) → (D → List ℕ → Type 0) → Contents → Back D → Type 0
HasMap told image m back = back.mode ≡ Mounted → StandsForMap told image m back

-- A read fails of an ask of the newest incarnation alone, while that is mounted.
abbrev pub MayAsk : Failed → Body → Type 0
MayAsk None b = Unit {0}
MayAsk (Some counts) b = IsAsk b

abbrev pub MayFail : {D : Type 0} → Failed → Back D → Entry → Type 0
MayFail None back e = Unit {0}
MayFail (Some counts) back e = (fit_of back e ≡ fit.Own) × IsAsk e.body

-- What is held of an entry of the newest incarnation, by the batches before it, those up to the last confirmed one, and the incarnation
-- of whose line they are: a message needs the latter, a sync and a halt need all.
abbrev pub held_by : (before needs since number : ℕ) → Body → List Held
held_by before needs since number (body.Message sent) = record { body = held.Message sent; needs = needs; since = since } ∷ []
held_by before needs since number body.Sync = record { body = held.Sync number; needs = before; since = since } ∷ []
held_by before needs since number (body.Halt cause) = record { body = held.Halt cause; needs = before; since = since } ∷ []
held_by before needs since number _ = []

-- A message of an incarnation that has ended is held where it still passes; else, of a reply, the failure, which needs what was durable at
-- that end.
abbrev pub late_message : (late : Option ℕ) → Cause → (settled incarnation : ℕ) → Message → List Held
late_message (Some needs) c settled incarnation sent = record { body = held.Message sent; needs = needs; since = incarnation } ∷ []
late_message None c settled incarnation (message.Reply to result) =
    record { body = held.Message (message.Reply to (Err (failure.Reset c))); needs = settled; since = incarnation } ∷ []
late_message None c settled incarnation sent = []

abbrev pub late_by : Option Stop → (late : Option ℕ) → (settled incarnation : ℕ) → Body → List Held
late_by (Some stop) late settled incarnation (body.Message sent) = late_message late stop.cause settled incarnation sent
late_by _ late settled incarnation b = []

-- Behind a confirmed batch that comes late none passes.
abbrev pub late_after : Body → Option ℕ → Option ℕ
late_after (body.Batch ops tail true) late = None
late_after _ late = late

abbrev pub late_held : {D : Type 0} → Back D → Entry → List Held
late_held back e = late_by (slice_get back.log.stops.items (length back.log.stops.items - 1)) back.late back.settled e.incarnation e.body

-- what is held of an entry
abbrev pub held_as : {D : Type 0} → Fit → Back D → Entry → List Held
held_as fit.Unfit back e = []
held_as fit.Own back e = held_by back.before back.needs back.number e.number e.body
held_as fit.Down back e = held_by back.before back.before (back.number - 1) e.number e.body
held_as fit.Late back e = late_held back e

-- Where a read failed the end of its incarnation by that is held, behind all that was taken before.
abbrev pub held_with : {D : Type 0} → Failed → Fit → Back D → Entry → List Held
held_with None f back e = held_as f back e
held_with (Some counts) f back e = record { body = held.Halt (cause.Disk counts.0 counts.1); needs = back.before; since = back.number } ∷ []

-- The same of an entry of the newest incarnation, while that is mounted.
abbrev pub own_answer : Failed → ℕ → Contents → Body → Option Notice
own_answer None number m b = notice_of number m b
own_answer (Some counts) number m b = None

abbrev pub own_held : Failed → (before needs since number : ℕ) → Body → List Held
own_held None before needs since number b = held_by before needs since number b
own_held (Some counts) before needs since number b = record { body = held.Halt (cause.Disk counts.0 counts.1); needs = before; since = since } ∷ []

-- A `Mend` of an incarnation that is down asks for a mounting; nothing else that is taken changes how a back stands.
abbrev pub asked : Mode → Mode
asked (Down ending) = Wanted ending
asked mode = mode

abbrev pub mode_by : Body → Mode → Mode
mode_by body.Mend mode = asked mode
mode_by _ mode = mode

abbrev pub mode_after : Fit → Mode → Body → Mode
mode_after fit.Down mode b = mode_by b mode
mode_after _ mode b = mode

-- A batch of the newest incarnation is one more before the next message.
abbrev pub before_by : Body → ℕ → ℕ
before_by (body.Batch ops tail confirmed) before = before + 1
before_by _ before = before

abbrev pub before_after : Fit → ℕ → Body → ℕ
before_after fit.Own before b = before_by b before
before_after _ before b = before

-- What the next message needs behind a batch that was counted just now.
abbrev pub needs_behind : Bool → (before needs : ℕ) → ℕ
needs_behind true before needs = before
needs_behind false before needs = needs

-- A confirmed one is needed by the next message, with all before it.
abbrev pub needs_by : Body → (before needs : ℕ) → ℕ
needs_by (body.Batch ops tail confirmed) before needs = follows before needs confirmed
needs_by _ before needs = needs

abbrev pub needs_after : Fit → (before needs : ℕ) → Body → ℕ
needs_after fit.Own before needs b = needs_by b before needs
needs_after _ before needs b = needs

-- A `Bind` makes the slot's object known.
abbrev pub identity_by : Body → Option Object → Option Object
identity_by (body.Bind object) identity = Some object
identity_by _ identity = identity

abbrev pub identity_after : Fit → Option Object → Body → Option Object
identity_after fit.Own identity b = identity_by b identity
identity_after _ identity b = identity

-- An entry goes into the log, with what is held of it, or leaves the back stuck.
pub record Enters {D : Type 0} (failed : Failed) (old new : Back D) (e : Entry) : Type 0 where
  pub may : MayFail failed old e
  pub log : backed new.log ≡ logged_as (fit_of old e) (backed old.log) e
  pub stuck : new.stuck ≡ is_unfit (fit_of old e)
  pub held : new.held.items ≡ old.held.items ++ held_with failed (fit_of old e) old e
  pub mode : new.mode ≡ mode_after (fit_of old e) old.mode e.body
  pub before : new.before ≡ before_after (fit_of old e) old.before e.body
  pub needs : new.needs ≡ needs_after (fit_of old e) old.before old.needs e.body
  pub identity : new.identity ≡ identity_after (fit_of old e) old.identity e.body
  pub durable : new.durable ≡ old.durable
  pub limit : new.limit ≡ old.limit

-- Nothing is done, and all is as before.
pub record IsIdle {D A B : Type 0} (old new : Back D) (taken_before taken : List A) (sent_before sent : List B)
    (result : Result Stepped NoMemory) : Type 0 where
  pub nothing : result ≡ Ok Nothing
  pub back : new ≡ old
  pub took : taken ≡ taken_before
  pub told : sent ≡ sent_before

-- The next entry of the line is taken, and the front is told what it waits for: over a disk that tells its content what the map says, where no
-- read failed, and a read fails only where the count of faults rose.
pub record Takes {D : Type 0} (told : D → Option (List ℕ)) (image : D → List ℕ → Type 0) (old new : Back D) (got_before got : List Entry)
    (sent_before sent : List Notice) : Type 0 where
  pub entry : Entry
  pub took : got ≡ got_before ++ entry ∷ []
  pub failed : Failed
  pub enters : Enters failed old new entry
  pub answer : Option Notice
  pub sends : sent ≡ sent_before ++ option_to_list answer
  pub answers : (disk : D) → IsDiskOf old.store disk → IsTold (told disk) → (m : Contents) → HasMap told image m old
      → answer ≡ notice_with failed (fit_of old entry) entry m
  pub unfit : is_unfit (fit_of old entry) ≡ true → answer ≡ None
  pub rose : (disk : D) → IsDiskOf old.store disk → IsTold (told disk) → IfSome failed (λ counts. Rose counts.0 counts.1)

-- The same of an entry that was taken off the line.
pub record TakesEntry {D : Type 0} (told : D → Option (List ℕ)) (image : D → List ℕ → Type 0) (old new : Back D) (entry : Entry)
    (answer : Option Notice) : Type 0 where
  pub failed : Failed
  pub enters : Enters failed old new entry
  pub answers : (disk : D) → IsDiskOf old.store disk → IsTold (told disk) → (m : Contents) → HasMap told image m old
      → answer ≡ notice_with failed (fit_of old entry) entry m
  pub unfit : is_unfit (fit_of old entry) ≡ true → answer ≡ None
  pub rose : (disk : D) → IsDiskOf old.store disk → IsTold (told disk) → IfSome failed (λ counts. Rose counts.0 counts.1)

-- Memory was wanting: an entry is gone from the line, and the front wasn't told of it. Nothing was done of it, or it was entered
-- and its notice is lost.
pub record LosesEntry {D : Type 0} (old new : Back D) (got_before got : List Entry) (sent_before sent : List Notice) : Type 0 where
  pub entry : Entry
  pub took : got ≡ got_before ++ entry ∷ []
  pub told : sent ≡ sent_before
  pub log : (backed new.log ≡ backed old.log) ⊎ (backed new.log ≡ record (backed old.log) { taken = old.log.taken.items ++ entry ∷ [] })
  pub entered : IsAsBefore old new ⊎ ((failed : Failed) × Enters failed old new entry)

-- What taking an entry of the newest incarnation needs while it is mounted, and does.
pub record CanTake {D : Type 0} (moment_of : D → ℕ) (left_since : D → ℕ → List ℕ → Type 0) (told : D → Option (List ℕ)) (image : D → List ℕ → Type 0)
    (faults_of : D → ℕ)
    (old : Back D) (number : ℕ) (b : Body) : Type 0 where
  pub start : List (List Op)
  pub opening : ℕ
  pub back : IsMounted moment_of left_since told image faults_of start opening true old
  pub room : LogRoom old.log
  pub comes : comes_behind (last_of old.log.taken.items) (record { incarnation = old.number; number = number; body = b }) ≡ true
  pub goes_on : has_failed_read old.held.items ≡ false
  pub fits : fits_mounted b (is_some old.identity) ≡ true
  pub few : old.unflushed < most_unflushed

pub record TakesOwn {D : Type 0} (moment_of : D → ℕ) (left_since : D → ℕ → List ℕ → Type 0) (told : D → Option (List ℕ)) (image : D → List ℕ → Type 0)
    (faults_of : D → ℕ)
    (old new : Back D) (number : ℕ) (b : Body) (answer : Option Notice) : Type 0 where
  pub failed : Failed
  pub may : MayAsk failed b
  pub answers : (disk : D) → IsDiskOf old.store disk → IsTold (told disk) → (m : Contents) → StandsForMap told image m old
      → answer ≡ own_answer failed number m b
  pub rose : (disk : D) → IsDiskOf old.store disk → IsTold (told disk) → IfSome failed (λ counts. Rose counts.0 counts.1)
  pub log : backed new.log ≡ record (backed old.log) { taken = old.log.taken.items ++ record { incarnation = old.number; number = number; body = b } ∷ [] }
  pub stuck : new.stuck ≡ old.stuck
  pub holds : new.held.items ≡ old.held.items ++ own_held failed old.before old.needs old.number number b
  pub mode : new.mode ≡ old.mode
  pub before : new.before ≡ before_by b old.before
  pub needs : new.needs ≡ needs_by b old.before old.needs
  pub identity : new.identity ≡ identity_by b old.identity
  pub durable : new.durable ≡ old.durable
  pub limit : new.limit ≡ old.limit
  pub disk : ReadsDisk told old.store new.store
  pub back : (start : List (List Op)) (opening : ℕ) → IsMounted moment_of left_since told image faults_of start opening true old
      → IsMounted moment_of left_since told image faults_of start opening true new

pub record FailsOwn {D : Type 0} (moment_of : D → ℕ) (left_since : D → ℕ → List ℕ → Type 0) (told : D → Option (List ℕ)) (image : D → List ℕ → Type 0)
    (faults_of : D → ℕ)
    (old new : Back D) : Type 0 where
  pub same : IsAsBefore old new
  pub disk : ReadsDisk told old.store new.store
  pub back : (start : List (List Op)) (opening : ℕ) → IsMounted moment_of left_since told image faults_of start opening true old
      → IsMounted moment_of left_since told image faults_of start opening false new

-- The same of the newest incarnation while it isn't mounted.
pub record CanTakeDown {D : Type 0} (moment_of : D → ℕ) (left_since : D → ℕ → List ℕ → Type 0) (told : D → Option (List ℕ)) (image : D → List ℕ → Type 0)
    (faults_of : D → ℕ)
    (old : Back D) (number : ℕ) (b : Body) : Type 0 where
  pub start : List (List Op)
  pub opening : ℕ
  pub back : IsUnmounted moment_of left_since told image faults_of start opening old
  pub room : LogRoom old.log
  pub fits : fits_down b ≡ true
  pub ending : Ending
  pub down : old.mode ≡ Down ending

pub record TakesDown {D : Type 0} (moment_of : D → ℕ) (left_since : D → ℕ → List ℕ → Type 0) (told : D → Option (List ℕ)) (image : D → List ℕ → Type 0)
    (faults_of : D → ℕ)
    (old new : Back D) (number : ℕ) (b : Body) : Type 0 where
  pub log : backed new.log ≡ record (backed old.log) { taken = old.log.taken.items ++ record { incarnation = old.number; number = number; body = b } ∷ [] }
  pub stuck : new.stuck ≡ old.stuck
  pub holds : new.held.items ≡ old.held.items ++ held_by old.before old.before (old.number - 1) number b
  pub mode : new.mode ≡ mode_by b old.mode
  pub before : new.before ≡ old.before
  pub needs : new.needs ≡ old.needs
  pub identity : new.identity ≡ old.identity
  pub durable : new.durable ≡ old.durable
  pub limit : new.limit ≡ old.limit
  pub disk : KeepsDisk old.store new.store
  pub back : (start : List (List Op)) (opening : ℕ) → IsUnmounted moment_of left_since told image faults_of start opening old
      → IsUnmounted moment_of left_since told image faults_of start opening new

pub record FailsDown {D : Type 0} (moment_of : D → ℕ) (left_since : D → ℕ → List ℕ → Type 0) (told : D → Option (List ℕ)) (image : D → List ℕ → Type 0)
    (faults_of : D → ℕ)
    (old new : Back D) : Type 0 where
  pub same : IsAsBefore old new
  pub disk : KeepsDisk old.store new.store
  pub back : (start : List (List Op)) (opening : ℕ) → IsUnmounted moment_of left_since told image faults_of start opening old
      → IsUnmounted moment_of left_since told image faults_of start opening new

pub record TakesLate {D : Type 0} (old new : Back D) (e : Entry) : Type 0 where
  pub log : backed new.log ≡ record (backed old.log) { taken = old.log.taken.items ++ e ∷ [] }
  pub holds : new.held.items ≡ old.held.items ++ late_held old e
  pub same : new ≡ record old { held = new.held; late = late_after e.body old.late; log = new.log }

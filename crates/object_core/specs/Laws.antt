-- What holds of each object whose halves run on one thread, over every list of choices.
use Rattle.std.specs.Prelude.{◌≡◌, ℕ, suc, false, List, [], ◌++◌, map, Option}
use Rattle.std.specs.List.{flat_map}
use Rattle.batch_journal.specs.Moments.{IsTold}
use Rattle.batch_journal.specs.declared.mount.Mounted.{Mounted}
use Rattle.do_tree.specs.Tree.{Script}
use Rattle.lane.specs.Lanes.{sent_on}
use Rattle.storage_map.specs.Contents.{Contents}
use Rattle.timeline.specs.Headline.{AreDurable, IsHistory, IsPrefix, IsQuiet, parts_of, pass_of, release_of}
use Rattle.timeline.specs.History.{history, incarnation_at, incarnations, resets}
use Rattle.timeline.specs.Intake.{Front, Mode, Taken, opened}
use Rattle.timeline.specs.Laws.{IsAtRest}
use Rattle.timeline.specs.Logs.{Backed, Fronted, fronted, backed}
use Rattle.timeline.specs.Passed.{passed}
use Rattle.timeline.specs.Told.{spoken, spoken_in}
use Rattle.timeline.specs.declared.entry.Entry.{Entry}
use Rattle.timeline.specs.declared.message.Message.{Message}
use Rattle.object_front.specs.Came.{HasGot}
use Rattle.object_front.specs.Classed.{IsClassed}
use Rattle.object_front.specs.Evaluated.{seen}
use Rattle.front_half.specs.Standing.{Stood, IsClass, IsHalf, IsTakenBy, fresh, is_stopped, kind_in, nothing_logged}
use Rattle.object_front.specs.declared.evaluated.Evaluated.{Evaluated}
use Rattle.front_half.specs.declared.half.Half.{Half}
use Rattle.output_gate.specs.Logs.{IsFresh}
use Rattle.output_gate.specs.Serving as serving
use Rattle.output_gate.specs.Storing.{IsDiskOf}
use Rattle.output_gate.specs.Telling.{HasTold, opened_map}
use Rattle.output_gate.specs.declared.back.Back.{Back}
use Rattle.front_history.specs.Paired.{logged_with}
use Rattle.object_core.specs.Limited.{IsLimitedBy}
use Rattle.object_core.specs.One.{AreFresh, HasItsClass, IsNamed, IsOne, Origin, TellsNow, class_in, messages}
use Rattle.object_core.specs.Stepping.{HasNothing}
use Rattle.object_core.specs.declared.choice.Choice.TheVariants.{Turn, Take, Flush, Release, Mend}
use Rattle.object_core.specs.declared.object.Core.{Core}

-- A back and a front that were just made, the front with the class of the slot's object and with its alarm, are those of a slot that was
-- just mounted.
abbrev pub HalvesAreFresh : {D : Type 0} → Back D → Type 0
HalvesAreFresh {D} back = (script : Script) (mounted : Mounted D) (front : Half Evaluated) → IsFresh mounted back
    → IsHalf seen script front (fresh (class_in script mounted.identity) mounted.index.alarm) → fronted front.log ≡ nothing_logged
    → AreFresh script front back

-- While the object's disk tells its content: what was said is what the script tells over the delivered events, each incarnation over
-- the map with which it starts; what was taken begins what was sent; each end kept what its cause keeps; what left begins what passes.
abbrev pub OneIsHistory : {D : Type 0} → (D → ℕ) → (D → ℕ → List ℕ → Type 0) → (D → Option (List ℕ)) → (D → List ℕ → Type 0) → (D → ℕ) → Core D → Type 0
OneIsHistory moment_of left_since told image faults_of core = (script : Script) (origin : Origin) → TellsNow told core.back
    → (one : IsOne moment_of left_since told image faults_of script origin core)
    → (class : ℕ) → IsClass one.st.class class → IsHistory script class (opened_map origin.start) (fronted core.front.half.log) (backed core.back.log)

-- The front has taken an intake through the input gate: an event is delivered to an idle object alone, so that none stands while the
-- storage is waited for, or an end or a mounting; and each was eligible. All that is logged follows from it; of what its last item says
-- some may not have been sent where memory was wanting.
pub record HasIntake (script : Script) (class : ℕ) (from : Contents) (log : Fronted) : Type 0 where
  pub front : Front
  pub taken : List Taken
  pub unsent : List Entry
  pub by : IsTakenBy (kind_in script class) (opened from.alarm) taken front (logged_with log unsent)

abbrev pub OneHasIntake : {D : Type 0} → (D → ℕ) → (D → ℕ → List ℕ → Type 0) → (D → Option (List ℕ)) → (D → List ℕ → Type 0) → (D → ℕ) → Core D → Type 0
OneHasIntake moment_of left_since told image faults_of core = (script : Script) (origin : Origin) → TellsNow told core.back
    → (one : IsOne moment_of left_since told image faults_of script origin core)
    → (class : ℕ) → IsClass one.st.class class → HasIntake script class (opened_map origin.start) (fronted core.front.half.log)

-- Each event that the front got from the inbox is accounted for, over any disk, and calls were delivered in the order in which they came.
abbrev pub OneHasGot : {D : Type 0} → (D → ℕ) → (D → ℕ → List ℕ → Type 0) → (D → Option (List ℕ)) → (D → List ℕ → Type 0) → (D → ℕ) → Core D → Type 0
OneHasGot moment_of left_since told image faults_of core = (script : Script) (origin : Origin)
    → (one : IsOne moment_of left_since told image faults_of script origin core) → HasGot core.front.half one.st core.inbox.got

-- The front's class is that of the slot's object at the opening, or of the one that was bound since; and the back knows one of these.
pub record HasClass {D : Type 0} (script : Script) (origin : Origin) (front : Half Evaluated) (st : Stood) (back : Back D) : Type 0 where
  pub classed : IsClassed script (class_in script origin.object) front st
  pub named : IsNamed origin.object back

abbrev pub OneHasClass : {D : Type 0} → (D → ℕ) → (D → ℕ → List ℕ → Type 0) → (D → Option (List ℕ)) → (D → List ℕ → Type 0) → (D → ℕ) → Core D → Type 0
OneHasClass moment_of left_since told image faults_of core = (script : Script) (origin : Origin)
    → (one : IsOne moment_of left_since told image faults_of script origin core) → HasClass script origin core.front.half one.st core.back

-- What the newest incarnation has said, where memory wasn't wanting at the front: the failures of the calls that the one before left
-- without a reply are all there; and where no notice is waited for, all that it says is.
pub record IsWhole (script : Script) (class : ℕ) (opened : Contents) (front : Fronted) (back : Backed) (below : ℕ) (mode : Mode) : Type 0 where
  pub begins : IsPrefix (spoken_in (resets (incarnations front back below))) (spoken (incarnation_at front back below).sent)
  pub whole : IsAtRest mode → spoken (incarnation_at front back below).sent
      ≡ flat_map (λ part. part) (parts_of script class opened front back (incarnation_at front back below) (incarnations front back below))

abbrev pub OneIsWhole : {D : Type 0} → (D → ℕ) → (D → ℕ → List ℕ → Type 0) → (D → Option (List ℕ)) → (D → List ℕ → Type 0) → (D → ℕ) → Core D → Type 0
OneIsWhole moment_of left_since told image faults_of core = (script : Script) (origin : Origin) → TellsNow told core.back
    → (one : IsOne moment_of left_since told image faults_of script origin core)
    → (class : ℕ) → IsClass one.st.class class → is_stopped core.front.half ≡ false → (below : ℕ) → one.st.front.incarnation ≡ suc below
    → IsWhole script class (opened_map origin.start) (fronted core.front.half.log) (backed core.back.log) below one.st.front.mode

-- The messages that wait to be collected, and those that were, are the last that it has released.
abbrev pub OneHasLeft : {D : Type 0} → (D → ℕ) → (D → ℕ → List ℕ → Type 0) → (D → Option (List ℕ)) → (D → List ℕ → Type 0) → (D → ℕ) → Core D → Type 0
OneHasLeft moment_of left_since told image faults_of core = (script : Script) (origin : Origin)
    → IsOne moment_of left_since told image faults_of script origin core → messages core.back.log.released.items ≡ origin.left ++ sent_on core.out

-- The journal has the limit with which the slot was mounted, whatever has ended since, and an end by a full journal is of it.
abbrev pub OneIsLimited : {D : Type 0} → (D → ℕ) → (D → ℕ → List ℕ → Type 0) → (D → Option (List ℕ)) → (D → List ℕ → Type 0) → (D → ℕ) → Core D → Type 0
OneIsLimited moment_of left_since told image faults_of core = (script : Script) (origin : Origin)
    → IsOne moment_of left_since told image faults_of script origin core → IsLimitedBy told origin.extent core.back

-- What left and what a crash leaves, now and at each moment since the opening.
abbrev pub OneHasTold : {D : Type 0} → (D → ℕ) → (D → ℕ → List ℕ → Type 0) → (D → Option (List ℕ)) → (D → List ℕ → Type 0) → (D → ℕ) → Core D → Type 0
OneHasTold {D} moment_of left_since told image faults_of core = (script : Script) (origin : Origin) (disk : D)
    → IsDiskOf core.back.store disk → IsTold (told disk) → IsOne moment_of left_since told image faults_of script origin core
    → HasTold moment_of left_since faults_of core.back.identity origin.start origin.opening (fronted core.front.half.log) disk (backed core.back.log)

-- Nothing is to be done in an object, whatever is chosen, but to give it an event.
pub record HasNothingToDo {D : Type 0} (script : Script) (core : Core D) : Type 0 where
  pub turn : HasNothing script core Turn
  pub take : HasNothing script core Take
  pub flush : HasNothing script core Flush
  pub release : HasNothing script core Release
  pub mend : HasNothing script core Mend

-- Neither half is stopped for want of memory, and the front doesn't stand still at what no back and no switch sends.
pub record GoesOn {D : Type 0} (core : Core D) : Type 0 where
  pub front : is_stopped core.front.half ≡ false
  pub back : serving.is_stopped core.back ≡ false
  pub fits : core.front.half.stuck ≡ false

-- Then no event waits, and the logs are those of a quiet object: all that was sent was taken, all that is to be said was said, all that was written is durable,
-- all that passes was released, and each event that was got was delivered, answered by `Down` or dropped, or may not enter.
abbrev pub OneIsQuiet : {D : Type 0} → (D → ℕ) → (D → ℕ → List ℕ → Type 0) → (D → Option (List ℕ)) → (D → List ℕ → Type 0) → (D → ℕ) → Core D → Type 0
OneIsQuiet moment_of left_since told image faults_of core = (script : Script) (origin : Origin) → TellsNow told core.back
    → (one : IsOne moment_of left_since told image faults_of script origin core) → (class : ℕ) → IsClass one.st.class class
    → HasItsClass script origin.object → GoesOn core → HasNothingToDo script core → origin.left ≡ []
    → (core.inbox.waiting ≡ [])
    × IsQuiet script class (opened_map origin.start) (fronted core.front.half.log) (backed core.back.log) core.inbox.got (sent_on core.out)

-- What an object has let go in which nothing is to be done, also where its front stands still: all that was sent was taken, all that was written is
-- durable, and all that passes was released, and has left.
pub record HasLetGo (front : Fronted) (back : Backed) (gone : List Message) : Type 0 where
  pub taken : back.taken ≡ front.sent
  pub durable : AreDurable (history front back)
  pub released : map release_of back.released ≡ map pass_of (passed (history front back))
  pub left : gone ≡ map (λ release. release.message) back.released

-- Neither half being stopped for want of memory, whatever the front's class is.
abbrev pub OneHasLetGo : {D : Type 0} → (D → ℕ) → (D → ℕ → List ℕ → Type 0) → (D → Option (List ℕ)) → (D → List ℕ → Type 0) → (D → ℕ) → Core D → Type 0
OneHasLetGo moment_of left_since told image faults_of core = (script : Script) (origin : Origin) → TellsNow told core.back
    → IsOne moment_of left_since told image faults_of script origin core → HasItsClass script origin.object
    → is_stopped core.front.half ≡ false → serving.is_stopped core.back ≡ false → HasNothingToDo script core → origin.left ≡ []
    → HasLetGo (fronted core.front.half.log) (backed core.back.log) (sent_on core.out)

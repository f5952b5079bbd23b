-- What holds of one object, both of whose halves run on one thread, after each of its steps.
use Rattle.std.specs.Prelude.{◌≡◌, ◌⊎◌, ℕ, ℤ, true, false, List, [], ◌++◌, map, Option, Some, None, is_some}
use Rattle.std.specs.List.{Contains}
use Rattle.batch_journal.specs.Moments.{IsTold}
use Rattle.do_tree.specs.Lookup.{class_named}
use Rattle.do_tree.specs.Tree.{Script}
use Rattle.lane.specs.Lanes.{Both, sent_on}
use Rattle.storage_map.specs.Limits.{Object}
use Rattle.storage_map.specs.declared.op.Op.{Op}
use Rattle.timeline.specs.Intake.{Taken, opened}
use Rattle.timeline.specs.Logs.{Fronted, fronted, backed}
use Rattle.timeline.specs.declared.entry.Body.TheVariants as body
use Rattle.timeline.specs.declared.entry.Entry.{Entry}
use Rattle.timeline.specs.declared.event.Event.{Event}
use Rattle.timeline.specs.declared.message.Message.{Message as Sent}
use Rattle.timeline.specs.declared.notice.Notice.{Notice}
use Rattle.timeline.specs.declared.back_log.Release.{Release}
use Rattle.object_front.specs.Came.{HasGot}
use Rattle.object_front.specs.Classed.{IsClassed}
use Rattle.object_front.specs.Evaluated.{seen}
use Rattle.front_half.specs.Standing as standing
use Rattle.front_half.specs.Standing.{Stood, IsHalf, IsClass, IsTakenBy, fresh, kind_in, nothing_logged}
use Rattle.object_front.specs.declared.evaluated.Evaluated.{Evaluated}
use Rattle.front_half.specs.declared.half.Half.{Half}
use Rattle.output_gate.specs.Logs.{no_log}
use Rattle.output_gate.specs.Serving as serving
use Rattle.output_gate.specs.Serving.{alarm_of, IsBack}
use Rattle.output_gate.specs.Storing.{HasLimit, IsDiskOf}
use Rattle.output_gate.specs.Telling.{opened_map}
use Rattle.output_gate.specs.declared.back.Back.{Back}
use Rattle.front_history.specs.Paired.{ArePaired}
use Rattle.object_messages.specs.Naming.{answered_in, asked_in, messages_of}
use Rattle.object_core.specs.Dropping.{IsDropping}
use Rattle.object_core.specs.Fitting.{IsFitIntake, known_over}
use Rattle.object_core.specs.Heard.{IsHeard}
use Rattle.object_core.specs.Limited.{Extent, IsLimitedBy, extent_of}
use Rattle.object_core.specs.Seen.{seen_of}
use Rattle.object_core.specs.declared.object.Core.{Core}

-- Nothing went through a queue yet.
abbrev pub unused : {X : Type 0} → Both X
unused = record { got = []; waiting = [] }

abbrev pub messages : List Release → List Sent
messages released = map (λ (release : Release). release.message) released

-- The class of the slot's object, where the slot has an object of one.
abbrev pub class_in : Script → Option Object → Option ℕ
class_in script None = None
class_in script (Some object) = class_named script object.0

-- Both halves of a slot that was just mounted: nothing is logged, and the front was made with the alarm of the back's map, and with the
-- class of its object.
pub record AreFresh {D : Type 0} (script : Script) (front : Half Evaluated) (back : Back D) : Type 0 where
  pub stands : IsHalf seen script front (fresh (class_in script back.identity) (alarm_of back))
  pub goes : standing.is_stopped front ≡ false
  pub front_log : fronted front.log ≡ nothing_logged
  pub back_log : backed back.log ≡ no_log
  pub held : back.held.items ≡ []
  pub free : back.stuck ≡ false
  pub serves : serving.is_stopped back ≡ false
  pub limit : HasLimit back.limit back.store

-- A back's disk tells its content now.
abbrev pub TellsNow : {D : Type 0} → (told : D → Option (List ℕ)) → Back D → Type 0
TellsNow {D} told back = (disk : D) × IsDiskOf back.store disk × IsTold (told disk)

-- While the back's disk tells its content, front and back are a pair of any class that the front may have.
abbrev pub TellOfPair : {D : Type 0} → (told : D → Option (List ℕ)) → Script → (start : List (List Op)) → Stood → Half Evaluated → Back D
    → (under_way : List Entry) → (notices : List Notice) → Type 0
TellOfPair told script start st front back under_way notices = TellsNow told back → (class : ℕ) → IsClass st.class class
    → ArePaired (kind_in script class) (opened_map start) st front (seen_of (opened_map start) back) under_way notices

-- While neither half is stopped, and the disk tells its content, the front hears of its back.
abbrev pub HearsOfBack : {D : Type 0} → (told : D → Option (List ℕ)) → (start : List (List Op)) → Stood → Half Evaluated → Back D → (under_way : List Entry)
    → (notices : List Notice) → Type 0
HearsOfBack told start st front back under_way notices = TellsNow told back → standing.is_stopped front ≡ false → serving.is_stopped back ≡ false
    → IsHeard st.front (seen_of (opened_map start) back) under_way notices

-- The slot has no object, or one of a class that its script has.
abbrev pub HasItsClass : Script → Option Object → Type 0
HasItsClass script object = is_some object ≡ is_some (class_in script object)

-- While neither half is stopped, and the disk tells its content, all that is sent fits: the back isn't stuck, and it knows the slot's object
-- where that was bound before what it has taken, or by it.
abbrev pub FitsItsBack : {D : Type 0} → (told : D → Option (List ℕ)) → Script → Option Object → Half Evaluated → Back D → Type 0
FitsItsBack told script object front back = HasItsClass script object → TellsNow told back → standing.is_stopped front ≡ false → serving.is_stopped back ≡ false
    → (back.stuck ≡ false) × (is_some back.identity ≡ known_over (is_some object) back.log.taken.items)

-- A front that was made with this alarm, and with this class or none, stands at what it has taken; each event was one that it takes.
abbrev pub HasTaken : Script → Option ℕ → Option (ℤ × ℕ) → Half Evaluated → Stood → Type 0
HasTaken script first alarm front st = (class : ℕ) → IsClass st.class class
    → (taken : List Taken) × IsTakenBy (kind_in script class) (opened alarm) taken st.front (fronted front.log) × IsFitIntake script first taken

-- A front was given an answer to a call or a fetch that it didn't make.
pub record IsGivenUnasked (log : Fronted) (got : List Event) : Type 0 where
  pub asked : ℕ × ℕ
  pub given : Contains (answered_in got) asked
  pub unasked : Contains (asked_in (messages_of log.sent)) asked → ⊥

-- While memory suffices for the front, and the disk tells its content, it stands still only at such an answer.
abbrev pub SticksAtAnswers : {D : Type 0} → (told : D → Option (List ℕ)) → Half Evaluated → Back D → (got : List Event) → Type 0
SticksAtAnswers told front back got = TellsNow told back → standing.is_stopped front ≡ false → front.stuck ≡ true → IsGivenUnasked (fronted front.log) got

-- From what an object has run: the batches of its slot's journal at the opening, the disk's moment then, the slot's object then, what
-- it had released and others had taken before the halves were in one place, and how many bytes its journal may have and where it ended.
pub record Origin : Type 0 where
  pub start : List (List Op)
  pub opening : ℕ
  pub object : Option Object
  pub left : List Sent
  pub extent : Extent

-- That of a slot that was just mounted.
abbrev pub mounted_at : {D : Type 0} → (start : List (List Op)) → (opening : ℕ) → Back D → Origin
mounted_at start opening back = record { start = start; opening = opening; object = back.identity; left = []; extent = extent_of back }

-- The back knows the slot's object: that of the opening, or, where it had none, one whose binding it has taken.
abbrev pub IsNamed : {D : Type 0} → Option Object → Back D → Type 0
IsNamed object back = (back.identity ≡ object)
    ⊎ ((object ≡ None) × (bound : Object) × (back.identity ≡ Some bound) × Contains (map (λ (e : Entry). e.body) back.log.taken.items) (body.Bind bound))

-- Both halves, with the lanes between them: the back stands, and the front at what it has taken unless memory was wanting; its class is
-- that of the slot's object at the opening, or of the one that was bound since, which the back knows once it has taken the binding; all
-- events that the front got are accounted for; what it has sent is what the back has logged as taken and what waits, and between them the
-- one entry that the back took and didn't log, if it is stuck or memory was wanting; the messages that wait are the last that it has
-- released; no notice was lost but for want of memory; and the journal has the limit that it was mounted with,
-- and was full only where an end says so.
pub record IsOneOf {D : Type 0} (moment_of : D → ℕ) (left_since : D → ℕ → List ℕ → Type 0) (told : D → Option (List ℕ))
    (image : D → List ℕ → Type 0) (faults_of : D → ℕ) (script : Script) (origin : Origin)
    (front : Half Evaluated) (inbox : Both Event) (back : Back D) (line : Both Entry) (notices : Both Notice) (out : Both Sent) : Type 0 where
  pub back_stands : IsBack moment_of left_since told image faults_of origin.start origin.opening back
  pub alarm : Option (ℤ × ℕ)
  pub st : Stood
  pub front_stands : standing.is_stopped front ≡ false → IsHalf seen script front st
  pub has_taken : standing.is_stopped front ≡ false → HasTaken script (class_in script origin.object) alarm front st
  pub classed : IsClassed script (class_in script origin.object) front st
  pub named : IsNamed origin.object back
  pub has_got : HasGot front st inbox.got
  pub lost : List Entry
  pub none_lost : back.stuck ≡ false → serving.is_stopped back ≡ false → lost ≡ []
  pub is_line : front.log.sent.items ≡ back.log.taken.items ++ lost ++ line.waiting
  pub left : messages back.log.released.items ≡ origin.left ++ sent_on out
  pub pair : TellOfPair told script origin.start st front back (lost ++ line.waiting) notices.waiting
  pub fits : FitsItsBack told script origin.object front back
  pub heard : HearsOfBack told origin.start st front back (lost ++ line.waiting) notices.waiting
  pub sticks : SticksAtAnswers told front back inbox.got
  pub limited : IsLimitedBy told origin.extent back
  pub drops : TellsNow told back → IsDropping script (class_in script origin.object) alarm front st back.log.downs.items inbox.got

abbrev pub IsOne : {D : Type 0} → (D → ℕ) → (D → ℕ → List ℕ → Type 0) → (D → Option (List ℕ)) → (D → List ℕ → Type 0) → (D → ℕ)
    → Script → Origin → Core D → Type 0
IsOne moment_of left_since told image faults_of script origin core =
    IsOneOf moment_of left_since told image faults_of script origin core.front.half core.inbox core.back core.line core.notices core.out

abbrev pub CanRun : {D : Type 0} → (D → ℕ) → (D → ℕ → List ℕ → Type 0) → (D → Option (List ℕ)) → (D → List ℕ → Type 0) → (D → ℕ)
    → Script → Core D → Type 0
CanRun moment_of left_since told image faults_of script core =
    (origin : Origin) × IsOne moment_of left_since told image faults_of script origin core

abbrev pub KeepsOne : {D : Type 0} → (D → ℕ) → (D → ℕ → List ℕ → Type 0) → (D → Option (List ℕ)) → (D → List ℕ → Type 0) → (D → ℕ)
    → Script → (old new : Core D) → Type 0
KeepsOne moment_of left_since told image faults_of script old new = (origin : Origin)
    → IsOne moment_of left_since told image faults_of script origin old → IsOne moment_of left_since told image faults_of script origin new

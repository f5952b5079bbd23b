-- What the rows of a report tell.
use Rattle.std.specs.Prelude.{◌≡◌, ◌⊎◌, ◌≤◌, ℕ, List, [], length, map, slice_get, Option, Some, None}
use Rattle.std.specs.List.{Contains}
use Rattle.batch_journal.specs.Moments.{IsTold}
use Rattle.do_tree.specs.Tree.{Script}
use Rattle.lane.specs.Lanes.{StartsWith}
use Rattle.mailbox.specs.Posting.{of_slot}
use Rattle.object_core.specs.Classless.{HasDoneNothing}
use Rattle.object_core.specs.Dropping.{AreFitting}
use Rattle.object_core.specs.Drops.{DropsOnly}
use Rattle.object_core.specs.Laws.{HasIntake}
use Rattle.object_core.specs.Limited.{IsFullAt}
use Rattle.object_core.specs.One.{Origin, class_in, messages}
use Rattle.object_core.specs.Owing.{IsOwed}
use Rattle.object_front.specs.Came.{AreCome}
use Rattle.object_front.specs.Classed.{class_by}
use Rattle.front_half.specs.Standing.{IsClass}
use Rattle.object_messages.specs.Naming.{asked_in}
use Rattle.object_messages.specs.Ends.{TellNoEnd}
use Rattle.object_messages.specs.Unmoved.{AreAnswers}
use Rattle.output_gate.specs.Kept.{RecoversTo}
use Rattle.output_gate.specs.Telling.{HasTold, opened_map}
use Rattle.output_gate.specs.Kept.{MayBe}
use Rattle.output_gate.specs.Written.{AreFilled}
use Rattle.placement.specs.Slots.{Slots, object_at}
use Rattle.storage_map.specs.Limits.{Object}
use Rattle.timeline.specs.Headline.{IsHistory, IsPrefix}
use Rattle.timeline.specs.History.{history as logged}
use Rattle.timeline.specs.Logs.{fronted, backed}
use Rattle.timeline.specs.Switch.{SwitchLog}
use Rattle.timeline.specs.declared.back_log.Stop.{Stop}
use Rattle.timeline.specs.declared.entry.Body.TheVariants as body
use Rattle.timeline.specs.declared.entry.Entry.{Entry}
use Rattle.timeline.specs.declared.event.Event.{Event}
use Rattle.timeline.specs.declared.message.Message.{Message}
use Rattle.host_core.specs.Quiet.{IsOfNoClass}
use Rattle.host_core.specs.Slots.{IsBegun}
use Rattle.host_core.specs.declared.report.SlotReport.{SlotReport}

-- The row's object is the one that the slot had at the opening, or, where it had none, one that was bound since.
abbrev pub IsObjectIn : {S : Type 0} → Option Object → SlotReport S → Type 0
IsObjectIn named row = (row.identity ≡ named)
    ⊎ ((named ≡ None) × (bound : Object) × (row.identity ≡ Some bound) × Contains (map (λ (e : Entry). e.body) row.back.taken.items) (body.Bind bound))

-- What was posted to the slot: the object got the first of it. Of what it got each event was delivered, answered by `Down`, dropped or kept,
-- each once, and at most one was lost to it; and calls were delivered in the order in which they were posted.
pub record AreServed {S : Type 0} (posts : List Event) (row : SlotReport S) : Type 0 where
  pub got : List Event
  pub first : StartsWith posts got
  pub keeps : List Event
  pub lost : List Event
  pub few : length lost ≤ 1
  pub come : AreCome got (fronted row.front) keeps lost

-- What a crash leaves of a row's store, now or at any moment since the opening, recovers to what it recovered to at the opening.
abbrev pub RecoversAsOpened : {S : Type 0} (left_since : S → ℕ → List ℕ → Type 0) → Origin → SlotReport S → Type 0
RecoversAsOpened left_since origin row = (c : List ℕ) → left_since row.store origin.opening c → RecoversTo row.identity origin.start c

-- What the object said is what its script tells over the delivered events, each incarnation over the map with which it starts, and events were
-- delivered through the input gate. As long as none of the delivered events gave it a class, it has done nothing.
pub record HasMeaning {S : Type 0} (script : Script) (named : Option Object) (origin : Origin) (row : SlotReport S) : Type 0 where
  pub history : (class : ℕ) → IsClass (class_by script (class_in script named) (fronted row.front)) class
      → IsHistory script class (opened_map origin.start) (fronted row.front) (backed row.back)
  pub intake : (class : ℕ) → IsClass (class_by script (class_in script named) (fronted row.front)) class
      → HasIntake script class (opened_map origin.start) (fronted row.front)
  pub unbound : class_by script (class_in script named) (fronted row.front) ≡ None → HasDoneNothing (fronted row.front) (backed row.back)

-- What a crash leaves, now or at any moment since the opening, recovers to a prefix of the object's whole batches, which since a release holds
-- what the release needs, and where nothing was taken to what it recovered to at the opening. At an end by a full journal the frame of what was
-- taken and had not flown would have passed the limit, and the end tells the bytes that were needed.
pub record HasKept {S : Type 0} (moment_of : S → ℕ) (left_since : S → ℕ → List ℕ → Type 0) (faults_of : S → ℕ) (limit : ℕ) (origin : Origin)
    (row : SlotReport S) : Type 0 where
  pub tells : HasTold moment_of left_since faults_of row.identity origin.start origin.opening (fronted row.front) row.store (backed row.back)
  pub unwritten : (backed row.back).taken ≡ [] → RecoversAsOpened left_since origin row
  pub filled : (object : Object) → MayBe row.identity object
      → AreFilled limit origin.extent.end object (logged (fronted row.front) (backed row.back))

-- Nobody was replied to more often than he called, and each call and fetch that left was sent; where no incarnation has stopped, no message that
-- left tells of an end; where what was posted fits, no call and no binding of it was dropped; and an object of no class of the script, to which
-- nothing but answers was posted, asked nothing.
pub record HasAnswered {S : Type 0} (script : Script) (named : Option Object) (posts : List Event) (row : SlotReport S) : Type 0 where
  pub owed : IsOwed (fronted row.front) (messages row.back.released.items)
  pub unended : (backed row.back).stops ≡ [] → TellNoEnd (messages row.back.released.items)
  pub drops : AreFitting script (class_in script named) posts → DropsOnly posts (fronted row.front) row.back.downs.items
  pub silent : IsOfNoClass script named → AreAnswers posts → asked_in (messages row.back.released.items) ≡ []

-- What one row tells of its slot, whose file had this content, to which these events were posted, and from which these messages were routed.
-- While its disk tells its content, the object did what its script says, its storage is kept, and it answered whom it had to. Over any disk an
-- end by a full journal names this number of bytes, and tells more than these.
pub record IsRow {S : Type 0} (moment_of : S → ℕ) (left_since : S → ℕ → List ℕ → Type 0) (told : S → Option (List ℕ)) (faults_of : S → ℕ)
    (limit : ℕ) (script : Script) (content : Option (List ℕ)) (named : Option Object) (posts : List Event) (routed : List Message)
    (row : SlotReport S) : Type 0 where
  pub origin : Origin
  pub begun : IsBegun limit content named origin
  pub object : IsObjectIn named row
  pub meaning : IsTold (told row.store) → HasMeaning script named origin row
  pub kept : IsTold (told row.store) → HasKept moment_of left_since faults_of limit origin row
  pub answered : IsTold (told row.store) → HasAnswered script named posts row
  pub served : AreServed posts row
  pub routes : IsPrefix routed (messages row.back.released.items)
  pub full : (stop : Stop) → Contains (backed row.back).stops stop → IsFullAt limit stop.cause

-- Each row tells this of its own slot.
abbrev pub AreRows : {S : Type 0} (moment_of : S → ℕ) (left_since : S → ℕ → List ℕ → Type 0) (told : S → Option (List ℕ)) (faults_of : S → ℕ)
    → (limit : ℕ) → Script → (contents : ℕ → Option (List ℕ)) → (named : Slots) → SwitchLog → List (SlotReport S) → Type 0
AreRows {S} moment_of left_since told faults_of limit script contents named log rows = (slot : ℕ) (row : SlotReport S) → slice_get rows slot ≡ Some row
    → IsRow moment_of left_since told faults_of limit script (contents slot) (object_at named slot) (of_slot slot log.posts) (of_slot slot log.routed) row

-- What the rows tell of slots whose objects rest at the end of a run.
use Rattle.std.specs.Prelude.{◌≡◌, ◌<◌, ◌+◌, ℕ, List, [], map, slice_get, Option, Some, None, is_some, true}
use Rattle.std.specs.List.{All}
use Rattle.batch_journal.specs.Moments.{IsTold}
use Rattle.do_tree.specs.Tree.{Script}
use Rattle.mailbox.specs.Posting.{of_slot}
use Rattle.object_core.specs.Dropping.{AreFitting}
use Rattle.object_core.specs.Fetches.{IsUnanswered}
use Rattle.object_core.specs.Laws.{HasLetGo}
use Rattle.object_core.specs.Leaving.{left_of}
use Rattle.object_core.specs.One.{HasItsClass, Origin, class_in, messages}
use Rattle.object_front.specs.Came.{AreCome, IsPartOf, events}
use Rattle.object_front.specs.Classed.{class_by}
use Rattle.front_half.specs.Standing.{IsClass}
use Rattle.object_messages.specs.Exact.{IsServedOnce, callers}
use Rattle.object_messages.specs.Naming.{answered_in, asked_in, called_in, replied_in, times, times_of}
use Rattle.output_gate.specs.Telling.{opened_map}
use Rattle.placement.specs.Slots.{Slots, object_at}
use Rattle.storage_map.specs.Limits.{Object}
use Rattle.switch_history.specs.Answering.{AreAnsweredOrLeft}
use Rattle.switch_history.specs.Asks.{open_of, who_waits}
use Rattle.switch_history.specs.Lines.{AreToldOnce}
use Rattle.switch_history.specs.Posted.{calls_of, calls_to}
use Rattle.timeline.specs.Headline.{IsQuiet}
use Rattle.timeline.specs.Logs.{fronted, backed}
use Rattle.timeline.specs.Switch as timeline
use Rattle.timeline.specs.Switch.{SwitchLog}
use Rattle.timeline.specs.declared.caller.Caller.{Caller}
use Rattle.timeline.specs.declared.caller.Caller.TheVariants as from
use Rattle.timeline.specs.declared.event.Event.{Event}
use Rattle.timeline.specs.declared.message.Message.{Message}
use Rattle.timeline.specs.declared.notice.Waits.{Waits}
use Rattle.timeline.specs.declared.notice.Waits.TheVariants as waits
use Rattle.host_core.specs.Slots.{IsBegun}
use Rattle.host_core.specs.declared.report.SlotReport.{SlotReport}

-- A slot with an object of a class that the script has, or with none, holds nothing back, while its disk tells its content: all that was sent
-- was taken, all that was written is durable, all that passes was released, and what was routed from the slot is all that was released.
pub record IsLetGo {S : Type 0} (told : S → Option (List ℕ)) (script : Script) (named : Option Object) (routed : List Message)
    (row : SlotReport S) : Type 0 where
  pub each : IsTold (told row.store) → HasItsClass script named → HasLetGo (fronted row.front) (backed row.back) routed

-- Each row tells this of its own slot.
abbrev pub AreLetGo : {S : Type 0} (told : S → Option (List ℕ)) → Script → (named : Slots) → SwitchLog → List (SlotReport S) → Type 0
AreLetGo {S} told script named log rows = (slot : ℕ) (row : SlotReport S) → slice_get rows slot ≡ Some row
    → IsLetGo told script (object_at named slot) (of_slot slot log.routed) row

-- Each row's disk tells its content.
abbrev pub RowsTell : {S : Type 0} (told : S → Option (List ℕ)) → List (SlotReport S) → Type 0
RowsTell {S} told rows = (slot : ℕ) (row : SlotReport S) → slice_get rows slot ≡ Some row → IsTold (told row.store)

-- The slot has an object of a class that the script hasn't.
abbrev pub IsOfNoClass : Script → Option Object → Type 0
IsOfNoClass script object = (is_some object ≡ true) × (class_in script object ≡ None)

-- A left call that waits for a fetch waits for one that was routed and to which no answer was posted.
abbrev pub WaitsForRouted : (posts : List Event) → (routed : List Message) → Caller × Waits → Type 0
WaitsForRouted posts routed (from, waits.Fetch incarnation number) = IsUnanswered posts routed (incarnation, number)
WaitsForRouted posts routed (from, wait) = Unit {0}

-- The slot is quiet: its object has said the whole of what it says, nothing is held back, and each event that was posted was delivered, answered
-- by `Down` or dropped, or is kept since it may not enter, once, none being lost. And this is what it leaves: the calls that have no reply.
pub record IsSettled {S : Type 0} (limit : ℕ) (script : Script) (content : Option (List ℕ)) (named : Option Object) (posts : List Event) (routed : List Message)
    (remaining : List (Caller × Waits)) (row : SlotReport S) : Type 0 where
  pub origin : Origin
  pub begun : IsBegun limit content named origin
  pub keeps : List Event
  pub come : AreCome posts (fronted row.front) keeps []
  pub quiet : (class : ℕ) → IsClass (class_by script (class_in script named) (fronted row.front)) class
      → IsQuiet script class (opened_map origin.start) (fronted row.front) (backed row.back) posts routed
  pub let_go : HasLetGo (fronted row.front) (backed row.back) routed
  pub left : (class : ℕ) → IsClass (class_by script (class_in script named) (fronted row.front)) class
      → remaining ≡ left_of script class (opened_map origin.start) (fronted row.front) (backed row.back) keeps
  -- where what was posted fits its object
  pub waits : AreFitting script (class_in script named) posts → All (WaitsForRouted posts routed) remaining
  -- where it dropped no call, who called once got one reply or is left
  pub once : called_in (fronted row.front).dropped ≡ [] → IsServedOnce (called_in posts) (replied_in routed) (callers remaining)

-- A slot with an object of no class of the script rests as it was at the opening: nothing was posted to it, and its object got nothing, has said
-- nothing, so that nothing of it was taken, has let go all that passes, and leaves nothing.
pub record IsUntouched {S : Type 0} (posts : List Event) (routed : List Message) (remaining : List (Caller × Waits)) (row : SlotReport S) : Type 0 where
  pub posted : posts ≡ []
  pub delivered : (fronted row.front).delivered ≡ []
  pub downed : (fronted row.front).downed ≡ []
  pub dropped : (fronted row.front).dropped ≡ []
  pub sent : (fronted row.front).sent ≡ []
  pub taken : (backed row.back).taken ≡ []
  pub let_go : HasLetGo (fronted row.front) (backed row.back) routed
  pub left : remaining ≡ []

-- So a slot rests, by the class of its object at the opening.
pub record IsSettledSlot {S : Type 0} (limit : ℕ) (script : Script) (content : Option (List ℕ)) (named : Option Object) (posts : List Event)
    (routed : List Message)
    (remaining : List (Caller × Waits)) (row : SlotReport S) : Type 0 where
  pub known : HasItsClass script named → IsSettled limit script content named posts routed remaining row
  pub unknown : IsOfNoClass script named → IsUntouched posts routed remaining row

-- What is left of this slot, in order.
abbrev pub remaining_of : ℕ → List (ℕ × Caller × Waits) → List (Caller × Waits)
remaining_of slot left = of_slot slot (map (λ item. (item.0, (item.1, item.2))) left)

-- While all disks tell their content, each row tells this of its own slot.
abbrev pub AreSettled : {S : Type 0} (told : S → Option (List ℕ)) → (limit : ℕ) → Script → (contents : ℕ → Option (List ℕ)) → (named : Slots) → SwitchLog
    → (left : List (ℕ × Caller × Waits)) → List (SlotReport S) → Type 0
AreSettled {S} told limit script contents named log left rows = RowsTell told rows → (slot : ℕ) (row : SlotReport S) → slice_get rows slot ≡ Some row
    → IsSettledSlot limit script (contents slot) (object_at named slot) (of_slot slot log.posts) (of_slot slot log.routed) (remaining_of slot left) row

-- No object dropped a call.
abbrev pub DropNoCalls : {S : Type 0} → List (SlotReport S) → Type 0
DropNoCalls {S} rows = (slot : ℕ) (row : SlotReport S) → slice_get rows slot ≡ Some row → called_in (fronted row.front).dropped ≡ []

-- A call or a fetch of an object that was routed got exactly one answer, or it is a call that is left, or a fetch that is open.
abbrev pub HaveOneAnswer : SwitchLog → timeline.Switch → (left : List (ℕ × Caller × Waits)) → Type 0
HaveOneAnswer log s left = (slot : ℕ) (asked : ℕ × ℕ)
    → times_of asked (answered_in (of_slot slot log.posts)) + times (from.Object slot asked.0 asked.1) (who_waits left) + open_of slot asked s.unanswered
    ≡ times_of asked (asked_in (of_slot slot log.routed))

-- Each accepted call has exactly one line that replies to it or gives its error, or it is left, once, and then has its `waiting` line: so it has
-- exactly one line of these three kinds. And so has each call and fetch of an object exactly one answer, or it waits for it.
pub record AnswersOnce (before log : SwitchLog) (after : timeline.Switch) (left : List (ℕ × Caller × Waits)) : Type 0 where
  pub calls : AreAnsweredOrLeft before.accepted before.lines left
  pub lines : AreToldOnce before.accepted log.lines
  pub asks : HaveOneAnswer before after left

-- So it is while all disks tell their content.
abbrev pub AreCallsAnswered : {S : Type 0} (told : S → Option (List ℕ)) → (before log : SwitchLog) → (after : timeline.Switch)
    → (left : List (ℕ × Caller × Waits)) → List (SlotReport S) → Type 0
AreCallsAnswered {S} told before log after left rows = RowsTell told rows → AnswersOnce before log after left

-- All that is left is of slots that are there.
abbrev pub AreLeftIn : ℕ → (left : List (ℕ × Caller × Waits)) → Type 0
AreLeftIn slots left = All (λ item. item.0 < slots) left

-- The calls of a slot's object that were delivered to another are some of those that left and name that one, once each and in order.
abbrev pub AreCallsInOrder : {S : Type 0} → (after : timeline.Switch) → List (SlotReport S) → Type 0
AreCallsInOrder {S} after rows = (slot other : ℕ) (from to : SlotReport S) (object : Object) → slice_get rows slot ≡ Some from
    → slice_get rows other ≡ Some to → timeline.object_at after other ≡ Some object
    → IsPartOf (calls_of slot (called_in (events to.front.delivered.items))) (calls_to object (messages from.back.released.items))

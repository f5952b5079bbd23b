-- The calls that were delivered to a slot, in the order in which they left another.
use Rattle.std.proofs.Common.{◌≡◌, ap, sym, subst, refl, ℕ, List, [], ◌∷◌, ◌++◌, Option}
use Rattle.std.specs.List.{flat_map}
use Rattle.do_tree.specs.Tree.{Script}
use Rattle.mailbox.specs.Posting.{of_slot}
use Rattle.object_core.specs.One.{messages}
use Rattle.object_front.proofs.Accounted.{part_before, part_behind, part_itself, part_trans}
use Rattle.object_front.specs.Came.{IsPartOf, calls, events, nothing, shares, skips}
use Rattle.object_messages.specs.Naming.{called_in}
use Rattle.placement.specs.Slots.{Slots}
use Rattle.switch_history.specs.Laws.{CallsComeInOrder}
use Rattle.switch_history.specs.Posted.{call_of, call_to, calls_of, calls_to}
use Rattle.timeline.specs.Logs.{fronted}
use Rattle.timeline.specs.Replies.{caller_of}
use Rattle.timeline.specs.Switch as timeline
use Rattle.timeline.specs.Switch.{IsSwitchRun, SwitchLog, opened}
use Rattle.timeline.specs.declared.caller.Caller.{Caller}
use Rattle.timeline.specs.declared.event.Event.{Event}
use Rattle.timeline.specs.declared.event.Event.TheVariants as event
use Rattle.timeline.specs.declared.message.Message.{Message}
use Rattle.host_core.specs.Quiet.{AreCallsInOrder}
use Rattle.host_core.specs.Rows.{AreRows, AreServed}
use Rattle.host_core.specs.declared.report.SlotReport.{SlotReport}

-- what stands behind other items is part of all
part_last : {Y : Type 0} (xs ys : List Y) → IsPartOf ys (xs ++ ys)
part_last [] ys = part_itself ys
part_last (x ∷ xs) ys = skips x ys (xs ++ ys) (part_last xs ys)

-- what is made of each item of a part is part of what is made of all
part_flat : {X Y : Type 0} (f : X → List Y) (xs ys : List X) → IsPartOf xs ys → IsPartOf (flat_map f xs) (flat_map f ys)
part_flat f _ _ nothing = nothing
part_flat f _ _ (shares x xs ys part) = part_behind (f x) (flat_map f xs) (flat_map f ys) (part_flat f xs ys part)
part_flat f xs _ (skips y _ ys part) =
    part_trans (flat_map f xs) (flat_map f ys) (f y ++ flat_map f ys) (part_flat f xs ys part) (part_last (f y) (flat_map f ys))

-- who called, by the calls alone
called_by_calls : (es : List Event) → called_in (calls es) ≡ called_in es
called_by_calls [] = refl
called_by_calls (event.Call from method args depth at ∷ es) = ap (λ (callers : List Caller). from ∷ callers) (called_by_calls es)
called_by_calls (event.Answer incarnation number result at ∷ es) = called_by_calls es
called_by_calls (event.Tick at ∷ es) = called_by_calls es
called_by_calls (event.Evict at ∷ es) = called_by_calls es
called_by_calls (event.Bind object ∷ es) = called_by_calls es

-- the calls that were delivered are some of those that were posted, in their order
module _ {S : Type 0} (posts : List Event) (row : SlotReport S) (served : AreServed posts row) where
  abbrev delivered : List Event
  delivered = events (fronted row.front).delivered

  calls_got : IsPartOf (calls delivered) (calls served.got)
  calls_got =
      part_trans (calls delivered) (calls delivered ++ calls served.keeps) (calls served.got) (part_before (calls delivered) (calls served.keeps)) served.come.order

  called_got : IsPartOf (called_in delivered) (called_in served.got)
  called_got =
      subst (λ (callers : List Caller). IsPartOf callers (called_in served.got)) (called_by_calls delivered)
      (subst (λ (callers : List Caller). IsPartOf (called_in (calls delivered)) callers) (called_by_calls served.got)
      (part_flat caller_of (calls delivered) (calls served.got) calls_got))

  called_posted : IsPartOf (called_in delivered) (called_in posts)
  called_posted =
      part_trans (called_in delivered) (called_in served.got) (called_in posts) called_got
      (part_flat caller_of served.got posts
      (subst (λ (es : List Event). IsPartOf served.got es) (sym served.first.1) (part_before served.got served.first.0)))

-- so they are some of those that left, in their order
pub come_in_order : {S : Type 0} (moment_of : S → ℕ) (left_since : S → ℕ → List ℕ → Type 0) (told : S → Option (List ℕ)) (faults_of : S → ℕ) (limit : ℕ) (script : Script)
    (contents : ℕ → Option (List ℕ)) (named : Slots) (log : SwitchLog) (after : timeline.Switch) (rows : List (SlotReport S))
    → CallsComeInOrder → IsSwitchRun script (opened named) log after → AreRows moment_of left_since told faults_of limit script contents named log rows
    → AreCallsInOrder after rows
come_in_order moment_of left_since told faults_of limit script contents named log after rows law run are slot other from to object is_from is_to is_object =
    let sends = are slot from is_from in
    let gets = are other to is_to in
    part_trans (calls_of slot (called_in (events to.front.delivered.items))) (calls_of slot (called_in (of_slot other log.posts)))
    (calls_to object (messages from.back.released.items))
    (part_flat (call_of slot) (called_in (events to.front.delivered.items)) (called_in (of_slot other log.posts)) (called_posted (of_slot other log.posts) to gets.served))
    (part_trans (calls_of slot (called_in (of_slot other log.posts))) (calls_to object (of_slot slot log.routed)) (calls_to object (messages from.back.released.items))
    (law script named log after run slot other object is_object)
    (part_flat (call_to object) (of_slot slot log.routed) (messages from.back.released.items)
    (subst (λ (ms : List Message). IsPartOf (of_slot slot log.routed) ms) sends.routes.1 (part_before (of_slot slot log.routed) sends.routes.0))))

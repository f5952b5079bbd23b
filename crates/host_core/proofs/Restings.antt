-- Objects that rest, where nothing is routed any more.
use Rattle.std.proofs.Common.{◌≡◌, ◌<◌, ◌∙◌, ap, sym, subst, ℕ, List, [], ◌++◌, map, length, append-nil, Option, arith}
use Rattle.std.specs.Prelude.{Result}
use Rattle.std.proofs.lemmas.List.{append_cancel_left}
use Rattle.std.proofs.lemmas.Option.{slice_get_within}
use Rattle.do_tree.specs.Tree.{Script}
use Rattle.lane.specs.Lanes.{Both, sent_on, StartsWith}
use Rattle.timeline.specs.Switch.{SwitchLog}
use Rattle.timeline.specs.declared.event.Event.{Event}
use Rattle.timeline.specs.declared.message.Message.{Message}
use Rattle.mailbox.specs.Posting.{of_slot}
use Rattle.mailbox.specs.Runs.{log_of}
use Rattle.mailbox.specs.Taken.{AreEmpty}
use Rattle.mailbox.specs.declared.fault.SwitchFault.{SwitchFault}
use Rattle.mailbox.specs.declared.switch.Switch.{Switch}
use Rattle.object_core.specs.declared.object.Core.{Core}
use Rattle.host_core.proofs.Queues.{none_waits, same_waits}
use Rattle.host_core.proofs.Routings.{at_some, slots_moved}
use Rattle.host_core.proofs.Servings.{ActsOn, SameOuts, moves_none}
use Rattle.host_core.specs.Objects.{AllSlots, AreResting, AreRouted}
use Rattle.host_core.specs.Slots.{IsResting}
use Rattle.host_core.specs.declared.objects.Objects.{Objects}

-- Lanes of which all that is known was taken.
empty_slots : {D : Type 0} (P : ℕ → Core D → Both Event → Both Message → Type 0) (slots : ℕ) (objects : Objects D) → slots ≡ length objects.cores.items → AllSlots P objects
    → AreEmpty (λ (p : Both Message). p.got) (λ (p : Both Message). sent_on p) 0 slots objects.outs.items
    → AllSlots (λ slot core inbox out. StartsWith out.got (sent_on out)) objects
empty_slots P slots objects many all empty = record {
  inboxes = all.inboxes;
  outs = all.outs;
  each = λ slot core inbox out is_core is_inbox is_out.
      let within = subst (λ (n : ℕ). slot < n) (sym many) (slice_get_within objects.cores.items slot core is_core) in
      let here = empty slot (omega arith) within in (
        here.0,
        sym (at_some (λ (p : Both Message). p.got) objects.outs.items slot out is_out) ∙ here.1
            ∙ ap (λ (xs : List Message). xs ++ here.0) (at_some (λ (p : Both Message). sent_on p) objects.outs.items slot out is_out),
      );
}

-- The lanes as a call has them.
pub empty_on : (outs own : List (Both Message)) (slots : ℕ) → outs ≡ own → AreEmpty (λ (p : Both Message). p.got) (λ (p : Both Message). sent_on p) 0 slots outs
    → AreEmpty (λ (p : Both Message). p.got) (λ (p : Both Message). sent_on p) 0 slots own
empty_on outs own slots same empty = subst (λ (xs : List (Both Message)). AreEmpty (λ (p : Both Message). p.got) (λ (p : Both Message). sent_on p) 0 slots xs) same empty

module _ {D W T : Type 0} (taken : W → Option (List ℕ)) (faults : W → ℕ) (before after : Switch W) (old new : Objects D) (result : Result T SwitchFault)
    (cores : new.cores.items ≡ old.cores.items) (acts : ActsOn taken faults before after old new result) (lanes : SameOuts old new)
    (still : log_of after ≡ log_of before)
    (same : map (λ (p : Both Message). p.got) new.outs.items ≡ map (λ (p : Both Message). p.got) old.outs.items) where
  none_posted : acts.posted.since ≡ []
  none_posted =
      append_cancel_left (log_of before).posts acts.posted.since []
      (sym acts.posted.logged ∙ ap (λ (log : SwitchLog). log.posts) still ∙ sym (append-nil (log_of before).posts))

  pub resting_still : (script : Script) → AreResting script old → AreResting script new
  resting_still script =
      slots_moved (log_of before) (log_of after) old new
      (moves_none taken faults before after old new result cores acts lanes same (ap (λ (log : SwitchLog). log.routed) still))
      (λ slot core inbox out. IsResting script core inbox) (λ slot core inbox out. IsResting script core inbox)
      (λ slot core inbox later out then sent left got told resting. record {
        settled = resting.settled;
        given = same_waits inbox later left (sent ∙ ap (λ posts. sent_on inbox ++ of_slot slot posts) none_posted ∙ append-nil (sent_on inbox)) ∙ resting.given;
        let_go = resting.let_go;
      })

  pub routed_still : (P : ℕ → Core D → Both Event → Both Message → Type 0) (slots : ℕ) → slots ≡ length old.cores.items → AllSlots P old
      → AreEmpty (λ (p : Both Message). p.got) (λ (p : Both Message). sent_on p) 0 slots old.outs.items → AreRouted new
  routed_still P slots many all empty =
      slots_moved (log_of before) (log_of after) old new
      (moves_none taken faults before after old new result cores acts lanes same (ap (λ (log : SwitchLog). log.routed) still))
      (λ slot core inbox out. StartsWith out.got (sent_on out)) (λ slot core inbox out. out.waiting ≡ [])
      (λ slot core inbox later out then sent left got told starts.
      none_waits then (starts.0, got ∙ append-nil out.got ∙ starts.1 ∙ ap (λ (xs : List Message). xs ++ starts.0) (sym told)))
      (empty_slots P slots old many all empty)

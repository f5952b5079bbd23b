-- What is posted to the slots and taken from them, and what holds of them then.
use Rattle.std.proofs.Common.{◌≡◌, ◌<◌, ◌∙◌, ap, sym, subst, inl, inr, ℕ, List, [], ◌∷◌, ◌++◌, map, length, set, get_or, cond, append-nil, append_assoc, Option, Some}
use Rattle.std.proofs.Common.{arith}
use Rattle.std.specs.Prelude.{Bool, true, false, ◌==◌, slice_get}
use Rattle.std.specs.List.{All}
use Rattle.std.proofs.lemmas.Bool.{cases_eq}
use Rattle.std.proofs.lemmas.Bool.Decides.{nat_tests}
use Rattle.std.proofs.lemmas.List.{get_or-map, get_or-set_same, get_or-set_other, length-map}
use Rattle.std.proofs.lemmas.List.Elements.{All-append}
use Rattle.std.proofs.lemmas.Option.{slice_get_within, get_or_from_slice_get}
use Rattle.do_tree.specs.Tree.{Script}
use Rattle.lane.specs.Lanes.{Both, sent_on}
use Rattle.placement.specs.Slots.{Slots}
use Rattle.timeline.specs.Switch.{SwitchLog}
use Rattle.timeline.specs.declared.event.Event.{Event}
use Rattle.timeline.specs.declared.message.Message.{Message}
use Rattle.mailbox.proofs.Sendings.{of_slot-append}
use Rattle.mailbox.specs.Posting.{at_slot, of_slot}
use Rattle.object_core.specs.declared.object.Core.{Core}
use Rattle.host_core.proofs.Goings.{going_stands}
use Rattle.host_core.proofs.Placings.{get_there, slots_by}
use Rattle.host_core.specs.Objects.{AllSlots, AreGoing, AreSlots, AreThere, CanAllRun}
use Rattle.host_core.specs.declared.objects.Objects.{Objects}

abbrev pub got_of : {X : Type 0} → Both X → List X
got_of queue = queue.got

-- ---- what is at a slot
pub at_some : {S X : Type 0} (items : S → List X) (ends : List S) (slot : ℕ) (end : S) → slice_get ends slot ≡ Some end → at_slot items ends slot ≡ items end
at_some items ends slot end is =
    get_or-map items ends slot end [] (slice_get_within ends slot end is) ∙ ap items (get_or_from_slice_get ends slot end end is)

pub at_same : {S X : Type 0} (items : S → List X) (old new : List S) → map items new ≡ map items old → (slot : ℕ) → at_slot items new slot ≡ at_slot items old slot
at_same {S} {X} items old new same slot = ap (λ (lanes : List (List X)). get_or lanes slot []) same

pub is_own : (n k : ℕ) → n ≡ k → (n == k) ≡ true
is_own n k e = grind (arith, nat_tests, e)

pub is_other : (n k : ℕ) → (n ≡ k → ⊥) → (n == k) ≡ false
is_other n k e = grind (arith, nat_tests, e)

-- One item more was taken from one slot.
pub at_taken : {S X : Type 0} (got : S → List X) (old new : List S) (own : ℕ) (item : X) → own < length old
    → map got new ≡ set (map got old) own (at_slot got old own ++ item ∷ [])
    → (slot : ℕ) → at_slot got new slot ≡ at_slot got old slot ++ of_slot slot ((own, item) ∷ [])
at_taken {S} {X} got old new own item within now slot =
    let less = subst (λ (n : ℕ). own < n) (sym (length-map old got)) within in
    ap (λ (lanes : List (List X)). get_or lanes slot []) now ∙
    (elim (cases_eq own slot) as (λ _. get_or (set (map got old) own (at_slot got old own ++ item ∷ [])) slot [] ≡ at_slot got old slot ++ of_slot slot ((own, item) ∷ [])) [
      | inl here ↦
          ap (λ (n : ℕ). get_or (set (map got old) own (at_slot got old own ++ item ∷ [])) n []) (sym here)
          ∙ get_or-set_same (map got old) own (at_slot got old own ++ item ∷ []) [] less
          ∙ ap (λ (n : ℕ). at_slot got old n ++ item ∷ []) here
          ∙ ap (λ (b : Bool). at_slot got old slot ++ cond b (item ∷ []) []) (sym (is_own own slot here))
      | inr away ↦
          get_or-set_other (map got old) own slot (at_slot got old own ++ item ∷ []) [] (λ e. away (sym e))
          ∙ sym (append-nil (at_slot got old slot))
          ∙ ap (λ (b : Bool). at_slot got old slot ++ cond b (item ∷ []) []) (sym (is_other own slot away))
    ])

-- ---- what goes to the slots and from them
-- The objects stay; each inbox was sent what was posted to its slot, and of each lane out what was routed from its slot was taken.
pub record Moves {D : Type 0} (before after : SwitchLog) (old new : Objects D) : Type 0 where
  pub cores : new.cores.items ≡ old.cores.items
  pub inboxes : length new.inboxes.items ≡ length old.inboxes.items
  pub outs : length new.outs.items ≡ length old.outs.items
  pub posts : List (ℕ × Event)
  pub posted : after.posts ≡ before.posts ++ posts
  pub sent : (slot : ℕ) → at_slot sent_on new.inboxes.items slot ≡ at_slot sent_on old.inboxes.items slot ++ of_slot slot posts
  pub left : (slot : ℕ) → at_slot got_of new.inboxes.items slot ≡ at_slot got_of old.inboxes.items slot
  pub routed : List (ℕ × Message)
  pub taken : after.routed ≡ before.routed ++ routed
  pub got : (slot : ℕ) → at_slot got_of new.outs.items slot ≡ at_slot got_of old.outs.items slot ++ of_slot slot routed
  pub told : (slot : ℕ) → at_slot sent_on new.outs.items slot ≡ at_slot sent_on old.outs.items slot

-- What is the same of an item more.
going_more : {X : Type 0} (slot : ℕ) (old new : List X) (log later since : List (ℕ × X)) → new ≡ old ++ of_slot slot since → old ≡ of_slot slot log
    → later ≡ log ++ since → new ≡ of_slot slot later
going_more {X} slot old new log later since more was is =
    more ∙ ap (λ (xs : List X). xs ++ of_slot slot since) was ∙ sym (of_slot-append slot log since) ∙ ap (of_slot slot) (sym is)

-- It is more also behind what was there before.
behind_more : {X : Type 0} (before old new more : List X) → new ≡ old ++ more → before ++ new ≡ (before ++ old) ++ more
behind_more {X} before old new more is = ap (λ (xs : List X). before ++ xs) is ∙ sym (append_assoc before old more)

module _ {D : Type 0} (before after : SwitchLog) (old new : Objects D) (moves : Moves before after old new) where
  cores_many : length new.cores.items ≡ length old.cores.items
  cores_many = ap length moves.cores

  -- A slot of the new ones was one of the old ones, of the same object, with queues through which so much went.
  pub slots_moved : (P Q : ℕ → Core D → Both Event → Both Message → Type 0)
      → ((slot : ℕ) (core : Core D) (inbox later : Both Event) (out then : Both Message)
      → sent_on later ≡ sent_on inbox ++ of_slot slot moves.posts → later.got ≡ inbox.got
      → then.got ≡ out.got ++ of_slot slot moves.routed → sent_on then ≡ sent_on out
      → P slot core inbox out → Q slot core later then)
      → AllSlots P old → AllSlots Q new
  slots_moved P Q step all = record {
    inboxes = moves.inboxes ∙ all.inboxes ∙ sym cores_many;
    outs = moves.outs ∙ all.outs ∙ sym cores_many;
    each = λ slot core later then is_core is_later is_then.
        let inbox = get_there new.inboxes.items old.inboxes.items slot later (sym moves.inboxes) is_later in
        let out = get_there new.outs.items old.outs.items slot then (sym moves.outs) is_then in
        step slot core inbox.0 later out.0 then
        (sym (at_some sent_on new.inboxes.items slot later is_later) ∙ moves.sent slot
        ∙ ap (λ (xs : List Event). xs ++ of_slot slot moves.posts) (at_some sent_on old.inboxes.items slot inbox.0 inbox.1))
        (sym (at_some got_of new.inboxes.items slot later is_later) ∙ moves.left slot ∙ at_some got_of old.inboxes.items slot inbox.0 inbox.1)
        (sym (at_some got_of new.outs.items slot then is_then) ∙ moves.got slot
        ∙ ap (λ (xs : List Message). xs ++ of_slot slot moves.routed) (at_some got_of old.outs.items slot out.0 out.1))
        (sym (at_some sent_on new.outs.items slot then is_then) ∙ moves.told slot ∙ at_some sent_on old.outs.items slot out.0 out.1)
        (all.each slot core inbox.0 out.0 (subst (λ (xs : List (Core D)). slice_get xs slot ≡ Some core) moves.cores is_core) inbox.1 out.1);
  }

  pub there_moved : AreThere (length old.cores.items) before → All (λ (sent : ℕ × Message). sent.0 < length old.cores.items) moves.routed
      → AreThere (length new.cores.items) after
  there_moved there more =
      subst (λ (n : ℕ). AreThere n after) (sym cores_many)
      (subst (All (λ (sent : ℕ × Message). sent.0 < length old.cores.items)) (sym moves.taken)
      (All-append (λ (sent : ℕ × Message). sent.0 < length old.cores.items) before.routed moves.routed there more))

  module _ (moment_of : D → ℕ) (left_since : D → ℕ → List ℕ → Type 0) (told : D → Option (List ℕ)) (image : D → List ℕ → Type 0) (faults_of : D → ℕ)
      (limit : ℕ) (script : Script) (contents : ℕ → Option (List ℕ)) (named : Slots) where
    pub going_moved : AreGoing moment_of left_since told image faults_of limit script contents named before old
        → AreGoing moment_of left_since told image faults_of limit script contents named after new
    going_moved = slots_moved _ _ (λ slot core inbox later out then sent left got same going. record {
      origin = going.origin;
      begun = going.begun;
      one = going.one;
      given_before = going.given_before;
      taken_before = going.taken_before;
      posted = going_more slot (going.given_before ++ sent_on inbox) (going.given_before ++ sent_on later) before.posts after.posts moves.posts
          (behind_more going.given_before (sent_on inbox) (sent_on later) (of_slot slot moves.posts) sent) going.posted moves.posted;
      gives = going.gives ∙ ap (λ (xs : List Event). going.given_before ++ xs) (sym left);
      routed_first = going_more slot (going.taken_before ++ out.got) (going.taken_before ++ then.got) before.routed after.routed moves.routed
          (behind_more going.taken_before out.got then.got (of_slot slot moves.routed) got) going.routed_first moves.taken;
      hands = going.hands ∙ ap (λ (xs : List Message). going.taken_before ++ xs) (sym same);
    })

-- ---- the slots at an end
module _ {D : Type 0} (moment_of : D → ℕ) (left_since : D → ℕ → List ℕ → Type 0) (told : D → Option (List ℕ)) (image : D → List ℕ → Type 0) (faults_of : D → ℕ)
    (limit : ℕ) (script : Script) (contents : ℕ → Option (List ℕ)) (named : Slots) (log : SwitchLog) (objects : Objects D) where
  pub all_stand : AreGoing moment_of left_since told image faults_of limit script contents named log objects
      → AreSlots moment_of left_since told image faults_of limit script contents named log objects
  all_stand = slots_by _ _ objects (λ slot core inbox out within. going_stands moment_of left_since told image faults_of limit script _ _ _ _ core inbox out)

  pub going_can : AreGoing moment_of left_since told image faults_of limit script contents named log objects → CanAllRun moment_of left_since told image faults_of script objects
  going_can = slots_by _ _ objects (λ slot core inbox out within going. (going.origin, going.one))

  pub standing_can : AreSlots moment_of left_since told image faults_of limit script contents named log objects → CanAllRun moment_of left_since told image faults_of script objects
  standing_can = slots_by _ _ objects (λ slot core inbox out within stands. (stands.origin, stands.one))

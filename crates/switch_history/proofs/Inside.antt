-- Calls are posted to slots that are there, and fit messages come from such.
use Rattle.std.proofs.Common.{◌≡◌, ◌≤◌, ◌<◌, ◌∙◌, ℕ, suc, ℤ, List, [], ◌∷◌, length, map, cond, Option, Some, None, Err, true, false, refl, sym, ap, subst, arith, true≢false, ⊎_elim}
use Rattle.std.specs.Prelude.{Bool, Result, is_some, slice_get, ◌==◌}
use Rattle.std.specs.List.{All, AllByRecursion}
use Rattle.std.proofs.lemmas.Bool.{cases_lt}
use Rattle.std.proofs.lemmas.Bool.Decides.{nat_tests}
use Rattle.std.proofs.lemmas.List.{length-set}
use Rattle.std.proofs.lemmas.List.Elements.{recursion_from_All}
use Rattle.std.proofs.lemmas.List.Quantifiers.{position-Some}
use Rattle.std.proofs.lemmas.Option.{slice_get_within}
use Rattle.do_value.specs.declared.value.Value.{Value}
use Rattle.do_tree.specs.Tree.{Script}
use Rattle.mailbox.specs.Posting.{of_slot}
use Rattle.object_messages.specs.Exact.{IsServedOnce, callers}
use Rattle.object_messages.specs.Naming.{called_in, replied_in}
use Rattle.timeline.specs.Lines.{Identity, Line}
use Rattle.timeline.specs.Switch.{Switch, SwitchLog, Given, accepts, answers_to, flattened, free_slot, is_free, is_known, is_object, object_at, opened, routes, slot_of, tick_posts}
use Rattle.timeline.specs.declared.caller.Caller.{Caller}
use Rattle.timeline.specs.declared.caller.Caller.TheVariants as from
use Rattle.timeline.specs.declared.caller.Failure.{Failure}
use Rattle.timeline.specs.declared.event.Event.{Event}
use Rattle.timeline.specs.declared.event.Event.TheVariants as event
use Rattle.timeline.specs.declared.message.Message.{Message}
use Rattle.timeline.specs.declared.notice.Waits.{Waits}
use Rattle.switch_history.specs.Answering.{AreOfSlots, AreServedOnce, left_of_slot}
use Rattle.switch_history.specs.Fit.{IsFitRun, begins, accepted, routed}
use Rattle.switch_history.proofs.Cases.{OfCall, by_line, by_message}
use Rattle.switch_history.proofs.Slots.{all_append}

-- A call is posted to a slot that is there.
abbrev IsInside : ℕ → ℕ × Event → Type 0
IsInside slots (slot, event.Call caller method args depth at) = slot < slots
IsInside slots (slot, e) = Unit {0}

abbrev AreInside : ℕ → List (ℕ × Event) → Type 0
AreInside slots posts = AllByRecursion (IsInside slots) posts

-- What is given leaves as many slots, and posts calls to these.
abbrev Stays : Switch → Given → Type 0
Stays s given = (length given.after.objects ≡ length s.objects) × AreInside (length s.objects) given.posts

slot_inside : (s : Switch) (to : Identity) (slot : ℕ) → slot_of s to ≡ Some slot → slot < length s.objects
slot_inside s to slot is = (position-Some (is_object to) s.objects slot None is).0

free_inside : (s : Switch) (slot : ℕ) → free_slot s ≡ Some slot → slot < length s.objects
free_inside s slot is = (position-Some is_free s.objects slot None is).0

to_caller : (s : Switch) (to : Caller) (result : Result Value Failure) → Stays s (answers_to s to result)
to_caller s (from.Request line number) result = (refl, tt)
to_caller s (from.Object slot incarnation number) result = (refl, (tt, tt))

of_call : (script : Script) (s : Switch) (caller : Caller) (to : Identity) → OfCall script s (Stays s) caller to
of_call script s caller to = record {
  refused = λ f _. to_caller s caller (Err f);
  posted = λ number slot args depth _ own. (refl, (slot_inside s to slot own, tt));
  bound = λ number slot args depth _ free. (length-set s.objects slot (Some to), (tt, (free_inside s slot free, tt)));
}

ticks_inside : (script : Script) (slots : ℕ) (moment : ℤ) (slot : ℕ) (objects : List (Option Identity)) → AreInside slots (tick_posts script moment slot objects)
ticks_inside script slots moment slot [] = tt
ticks_inside script slots moment slot (None ∷ objects) = ticks_inside script slots moment (suc slot) objects
ticks_inside script slots moment slot (Some object ∷ objects) = by_known (is_known script object) (ticks_inside script slots moment (suc slot) objects)
  where
    by_known : (b : Bool) → AreInside slots (tick_posts script moment (suc slot) objects)
        → AreInside slots (cond b ((slot, event.Tick moment) ∷ tick_posts script moment (suc slot) objects) (tick_posts script moment (suc slot) objects))
    by_known true rest = (tt, rest)
    by_known false rest = rest

line_stays : (script : Script) (s : Switch) (l : Line) → Stays s (accepts script s l)
line_stays script s l = by_line script s (λ m given. Stays s given) (record {
  calls = λ at number to method args. of_call script s (from.Request at number) to;
  ticked = λ at moment. (refl, ticks_inside script (length s.objects) moment 0 s.objects);
  refused = λ m number why _. (refl, tt);
  closed = λ m k result fetch _ _. (refl, (tt, tt));
  evicted = λ at slot object _ _. (refl, (tt, tt));
  unknown = λ at object. (refl, tt);
}) l

message_stays : (script : Script) (s : Switch) (sent : ℕ × Message) → Stays s (routes script s sent)
message_stays script s sent = by_message script s (λ m given. Stays s given) (record {
  nothing = λ m. (refl, tt);
  replied = λ slot to result _. to_caller s to result;
  called = λ slot incarnation number to object method args depth _. of_call script s (from.Object slot incarnation number) to;
  fetched = λ slot incarnation number value object _. (refl, tt);
}) sent

-- An object stands in a slot that is there.
object_inside : (s : Switch) (slot : ℕ) → is_some (object_at s slot) ≡ true → slot < length s.objects
object_inside s slot is = by_item (slice_get s.objects slot) refl is
  where
    by_item : (x : Option (Option Identity)) → slice_get s.objects slot ≡ x → is_some (flattened x) ≡ true → slot < length s.objects
    by_item None at some = absurd (true≢false (sym some))
    by_item (Some x) at some = slice_get_within s.objects slot x at

-- What holds of a run.
pub record IsWithin (slots : ℕ) (log : SwitchLog) (s : Switch) : Type 0 where
  pub many : length s.objects ≡ slots
  pub posts : AreInside slots log.posts
  pub routed : AllByRecursion (λ (sent : ℕ × Message). sent.0 < slots) log.routed

pub run_within : (script : Script) (named : List (Option Identity)) (log : SwitchLog) (s : Switch) → IsFitRun script (opened named) log s → IsWithin (length named) log s
run_within script named _ _ begins = record { many = refl; posts = tt; routed = tt }
run_within script named _ _ (accepted log s l run) =
    let before = run_within script named log s run in
    let step = line_stays script s l in record {
      many = step.0 ∙ before.many;
      posts = all_append (IsInside (length named)) log.posts (accepts script s l).posts before.posts
          (subst (λ (n : ℕ). AreInside n (accepts script s l).posts) before.many step.1);
      routed = before.routed;
    }
run_within script named _ _ (routed log s sent fit run) =
    let before = run_within script named log s run in
    let step = message_stays script s sent in record {
      many = step.0 ∙ before.many;
      posts = all_append (IsInside (length named)) log.posts (routes script s sent).posts before.posts
          (subst (λ (n : ℕ). AreInside n (routes script s sent).posts) before.many step.1);
      routed = all_append (λ (m : ℕ × Message). m.0 < length named) log.routed (sent ∷ []) before.routed
          (subst (λ (n : ℕ). sent.0 < n) before.many (object_inside s sent.0 fit.comes), tt);
    }

-- Of a slot that isn't there nothing is called or routed.
away : (slot own slots : ℕ) → own < slots → slots ≤ slot → (own == slot) ≡ false
away slot own slots less more = grind (arith, nat_tests)

pub none_called : (slots slot : ℕ) → slots ≤ slot → (posts : List (ℕ × Event)) → AreInside slots posts → called_in (of_slot slot posts) ≡ []
none_called slots slot more [] all = refl
none_called slots slot more ((own, event.Call caller method args depth at) ∷ posts) all =
    ap (λ (b : Bool). called_in (cond b (event.Call caller method args depth at ∷ of_slot slot posts) (of_slot slot posts))) (away slot own slots all.0 more)
    ∙ none_called slots slot more posts all.1
none_called slots slot more ((own, event.Bind identity) ∷ posts) all = by_slot (own == slot) (none_called slots slot more posts all.1)
  where
    by_slot : (b : Bool) → called_in (of_slot slot posts) ≡ [] → called_in (cond b (event.Bind identity ∷ of_slot slot posts) (of_slot slot posts)) ≡ []
    by_slot true rest = rest
    by_slot false rest = rest
none_called slots slot more ((own, event.Answer incarnation number result at) ∷ posts) all = by_slot (own == slot) (none_called slots slot more posts all.1)
  where
    by_slot : (b : Bool) → called_in (of_slot slot posts) ≡ [] → called_in (cond b (event.Answer incarnation number result at ∷ of_slot slot posts) (of_slot slot posts)) ≡ []
    by_slot true rest = rest
    by_slot false rest = rest
none_called slots slot more ((own, event.Tick at) ∷ posts) all = by_slot (own == slot) (none_called slots slot more posts all.1)
  where
    by_slot : (b : Bool) → called_in (of_slot slot posts) ≡ [] → called_in (cond b (event.Tick at ∷ of_slot slot posts) (of_slot slot posts)) ≡ []
    by_slot true rest = rest
    by_slot false rest = rest
none_called slots slot more ((own, event.Evict at) ∷ posts) all = by_slot (own == slot) (none_called slots slot more posts all.1)
  where
    by_slot : (b : Bool) → called_in (of_slot slot posts) ≡ [] → called_in (cond b (event.Evict at ∷ of_slot slot posts) (of_slot slot posts)) ≡ []
    by_slot true rest = rest
    by_slot false rest = rest

pub none_of : {X : Type 0} (slots slot : ℕ) → slots ≤ slot → (items : List (ℕ × X)) → AllByRecursion (λ (item : ℕ × X). item.0 < slots) items → of_slot slot items ≡ []
none_of slots slot more [] all = refl
none_of {X} slots slot more (item ∷ items) all =
    ap (λ (b : Bool). cond b (item.1 ∷ of_slot slot items) (of_slot slot items)) (away slot item.0 slots all.0 more) ∙ none_of slots slot more items all.1

pub left_inside : (slots : ℕ) (left : List (ℕ × Caller × Waits)) → All (λ (item : ℕ × Caller × Waits). item.0 < slots) left
    → AllByRecursion (λ (item : ℕ × (Caller × Waits)). item.0 < slots) (map (λ (item : ℕ × Caller × Waits). (item.0, (item.1, item.2))) left)
left_inside slots left all = each left (recursion_from_All (λ (item : ℕ × Caller × Waits). item.0 < slots) left all)
  where
    each : (items : List (ℕ × Caller × Waits)) → AllByRecursion (λ (item : ℕ × Caller × Waits). item.0 < slots) items
        → AllByRecursion (λ (item : ℕ × (Caller × Waits)). item.0 < slots) (map (λ (item : ℕ × Caller × Waits). (item.0, (item.1, item.2))) items)
    each [] so = tt
    each (item ∷ items) so = (so.0, each items so.1)

-- So each slot's object served who called it, also where the slot isn't there.
module _ (script : Script) (named : List (Option Identity)) (log : SwitchLog) (s : Switch) (left : List (ℕ × Caller × Waits))
    (run : IsFitRun script (opened named) log s) (of_slots : AreOfSlots (length named) left) (served_within : AreServedOnce (length named) log left) where
  none_served : IsServedOnce [] [] []
  none_served = record { exact = λ c once. refl; named = λ c is. is }

  served_behind : (slot : ℕ) → length named ≤ slot
      → IsServedOnce (called_in (of_slot slot log.posts)) (replied_in (of_slot slot log.routed)) (callers (left_of_slot slot left))
  served_behind slot more =
      let within = run_within script named log s run in
      subst (λ (cs : List Caller). IsServedOnce cs (replied_in (of_slot slot log.routed)) (callers (left_of_slot slot left)))
      (sym (none_called (length named) slot more log.posts within.posts))
      (subst (λ (ms : List Message). IsServedOnce [] (replied_in ms) (callers (left_of_slot slot left))) (sym (none_of (length named) slot more log.routed within.routed))
      (subst (λ (items : List (Caller × Waits)). IsServedOnce [] [] (callers items))
      (sym (none_of (length named) slot more (map (λ (item : ℕ × Caller × Waits). (item.0, (item.1, item.2))) left) (left_inside (length named) left of_slots))) none_served))

  pub served_all : (slot : ℕ) → IsServedOnce (called_in (of_slot slot log.posts)) (replied_in (of_slot slot log.routed)) (callers (left_of_slot slot left))
  served_all slot = ⊎_elim (λ less. served_within slot less) (λ more. served_behind slot more) (cases_lt slot (length named))

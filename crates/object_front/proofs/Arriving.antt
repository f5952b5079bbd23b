-- An event that a front takes, by what becomes of it, and what it leaves of those that are kept.
use Rattle.std.proofs.Common.{◌≡◌, ◌∙◌, sym, ap, subst, refl, true≢false, cond, ℕ, suc, zero, Bool, true, false, List, [], ◌∷◌, ◌++◌, take, drop, append_assoc, append-nil, Option, Some, None}
use Rattle.std.specs.Prelude.{IsPermutation, if◌then◌else◌, slice_get, unwrap_or, is_some, ◌||◌, ℤ}
use Rattle.std.specs.List.{list_any}
use Rattle.std.proofs.lemmas.List.Elements.{filter-append}
use Rattle.do_tree.specs.Tree.{Script}
use Rattle.do_value.specs.declared.value.Value.{Value}
use Rattle.timeline.specs.Eligible.{is_eligible, is_eligible_while, is_stale, is_early, is_fit}
use Rattle.timeline.specs.Intake.{Mode, serves, down}
use Rattle.timeline.specs.Object.{Object, idle, waiting, ended, is_blocked}
use Rattle.timeline.specs.declared.caller.Caller.{Caller}
use Rattle.timeline.specs.declared.event.Event.{Event}
use Rattle.timeline.specs.declared.event.Event.TheVariants as event
use Rattle.front_half.specs.Kinds.{is_call}
use Rattle.front_half.specs.Standing.{Stood}
use Rattle.front_half.specs.Taking.{IsFirst, stale, at_mode, doing, may_enter, waits, without}
use Rattle.front_half.specs.declared.testing.Doing.TheVariants.{Delivers, Wants, Defers, Drops, Sticks}
use Rattle.front_half.proofs.Decided.{IsDelivery, delivery_of, mode_of_wanted}
use Rattle.front_half.proofs.Doings.{no_defers, of_two, of_stale, of_down}
use Rattle.object_front.proofs.Accounted.{all_of, part_itself, part_behind, part_more, part_longer, part_trans, out_of_kept, keeps_as}
use Rattle.object_front.specs.Came.{IsPartOf, skips, calls, wanting, kept}
use Rattle.std.proofs.lemmas.List.Sorted.{IsPermutation-to_front, IsPermutation-trans, IsPermutation-cons, IsPermutation-middle}

-- What is delivered is eligible for an object that serves, a call asks for a mounting only of one that is down, and what isn't eligible alone is
-- deferred.
abbrev IsDeliveredAt : Mode → Event → Type 0
IsDeliveredAt m e = (o : Object) × (m ≡ serves (idle o)) × (is_eligible o e ≡ true)

is_delivered : (script : Script) (st : Stood) (e : Event) → doing script st e ≡ Delivers → IsDeliveredAt st.front.mode e
is_delivered script st e is = let by : IsDelivery script st e = delivery_of script st e is in (by.object, by.mode, by.eligible)

abbrev IsDown : Mode → Type 0
IsDown m = (call : Option Event) × (m ≡ down call)

is_wanted : (script : Script) (st : Stood) (e : Event) → waits st.front.mode ≡ false → doing script st e ≡ Wants → IsDown st.front.mode
is_wanted script st e free is = (None, mode_of_wanted script st e free is)

defers_at : (now : ℕ) (m : Mode) (e : Event) → may_enter m e ≡ true → at_mode now m e ≡ Defers → ⊥
defers_at now (serves (idle o)) e may is =
    of_two ⊥ (is_stale now o e) (stale (is_early now o.made e)) (if is_eligible o e then Delivers else Defers) Defers
    (λ _ so. of_stale ⊥ (is_early now o.made e) Defers (no_defers _ Drops refl) (no_defers _ Sticks refl) so)
    (λ _ so. of_two ⊥ (is_eligible o e) Delivers Defers Defers (λ _ x. no_defers _ Delivers refl x) (λ unfit _. absurd (true≢false (sym may ∙ unfit))) so)
    is
defers_at now (serves (waiting o t b)) e may is = absurd (true≢false (sym may))
defers_at now (serves (ended c)) e may is = absurd (true≢false (sym may))
defers_at now (down call) e may is = of_down ⊥ now e Defers (no_defers _ Wants refl) (no_defers _ Drops refl) (no_defers _ Sticks refl) is

not_deferred : (script : Script) (st : Stood) (e : Event) → may_enter st.front.mode e ≡ true → doing script st e ≡ Defers → ⊥
not_deferred script st e may is =
    of_two ⊥ (is_fit script st.class e) (at_mode st.front.incarnation st.front.mode e) Drops Defers
    (λ _ so. defers_at st.front.incarnation st.front.mode e may so)
    (λ _ so. no_defers _ Drops refl so)
    is

-- Where a call is eligible each is.
blocked_call : (b resumes rests : Bool) (e : Event) → is_call e ≡ true → is_eligible_while b resumes rests e ≡ true → b ≡ false
blocked_call b resumes rests (event.Bind identity) is may = absurd (true≢false (sym is))
blocked_call b resumes rests (event.Answer incarnation number result at) is may = absurd (true≢false (sym is))
blocked_call b resumes rests (event.Tick at) is may = absurd (true≢false (sym is))
blocked_call b resumes rests (event.Evict at) is may = absurd (true≢false (sym is))
blocked_call true resumes rests (event.Call from method args depth at) is may = absurd (true≢false (sym may))
blocked_call false resumes rests (event.Call from method args depth at) is may = refl

free_call : (b resumes rests : Bool) (from : Caller) (method : ℕ) (args : List Value) (depth : ℕ) (at : ℤ) → b ≡ false
    → is_eligible_while b resumes rests (event.Call from method args depth at) ≡ true
free_call true resumes rests from method args depth at is = absurd (true≢false is)
free_call false resumes rests from method args depth at is = refl

of_or : (a b : Bool) → (a || b) ≡ false → (a ≡ false) × (b ≡ false)
of_or true b is = absurd (true≢false is)
of_or false b is = (refl, is)

no_calls : (o : Object) (es : List Event) → is_blocked o ≡ false → list_any (is_eligible o) es ≡ false → calls es ≡ []
no_calls o [] free is = refl
no_calls o (event.Bind identity ∷ es) free is = no_calls o es free (of_or (is_eligible o (event.Bind identity)) (list_any (is_eligible o) es) is).1
no_calls o (event.Answer incarnation number result at ∷ es) free is =
    no_calls o es free (of_or (is_eligible o (event.Answer incarnation number result at)) (list_any (is_eligible o) es) is).1
no_calls o (event.Tick at ∷ es) free is = no_calls o es free (of_or (is_eligible o (event.Tick at)) (list_any (is_eligible o) es) is).1
no_calls o (event.Evict at ∷ es) free is = no_calls o es free (of_or (is_eligible o (event.Evict at)) (list_any (is_eligible o) es) is).1
no_calls o (event.Call from method args depth at ∷ es) free is =
    absurd (true≢false (sym (free_call (is_blocked o) _ _ from method args depth at free) ∙ (of_or (is_eligible o (event.Call from method args depth at)) (list_any (is_eligible o) es) is).0))

no_calls_at : (m : Mode) (e : Event) (es : List Event) → IsDeliveredAt m e → is_call e ≡ true → list_any (may_enter m) es ≡ false → calls es ≡ []
no_calls_at m e es at is none =
    no_calls at.0 es (blocked_call (is_blocked at.0) _ _ e is at.2) (subst (λ (mode : Mode). list_any (may_enter mode) es ≡ false) at.1 none)

-- While an object is down each deferred event may be taken.
none_at_down : (m : Mode) (es : List Event) → IsDown m → list_any (may_enter m) es ≡ false → es ≡ []
none_at_down m [] at none = refl
none_at_down m (e ∷ es) at none =
    absurd (true≢false (subst (λ (mode : Mode). list_any (may_enter mode) (e ∷ es) ≡ false) at.1 none))

free_wants : (m : Mode) → waits m ≡ false → wanting m ≡ []
free_wants (serves state) free = refl
free_wants (down None) free = refl
free_wants (down (Some call)) free = absurd (true≢false free)

-- An event that stands in a list, what stands before it, and what behind.
find_at : (es : List Event) (place : ℕ) (e : Event) → slice_get es place ≡ Some e → es ≡ take place es ++ e ∷ drop (suc place) es
find_at [] place e is = absurd (true≢false (ap is_some (sym is)))
find_at (first ∷ es) zero e is = ap (λ (o : Option Event). unwrap_or o first ∷ es) is
find_at (first ∷ es) (suc place) e is = ap (λ (l : List Event). first ∷ l) (find_at es place e is)

-- Lists of calls, with an event that is one or isn't.
abbrev if_call : Bool → Event → List Event → List Event
if_call b e es = cond b (e ∷ es) es

new_call : (b : Bool) (a k before : List Event) (e : Event) → (b ≡ true → k ≡ []) → IsPartOf (a ++ k) before
    → IsPartOf ((a ++ if_call b e []) ++ k) (before ++ if_call b e [])
new_call true a k before e alone part =
    let none : k ≡ [] = alone refl in
    let shorter : IsPartOf a before = subst (λ (l : List Event). IsPartOf l before) (ap (λ (l : List Event). a ++ l) none ∙ append-nil a) part in
    subst (λ (l : List Event). IsPartOf l (before ++ e ∷ [])) (sym (ap (λ (l : List Event). (a ++ e ∷ []) ++ l) none ∙ append-nil (a ++ e ∷ []))) (part_more a before (e ∷ []) shorter)
new_call false a k before e alone part =
    subst (λ (l : List Event). IsPartOf ((a ++ []) ++ k) l) (sym (append-nil before)) (subst (λ (l : List Event). IsPartOf (l ++ k) before) (sym (append-nil a)) part)

pub out_call : (b : Bool) (a k : List Event) (e : Event) → IsPartOf (a ++ k) (a ++ if_call b e k)
out_call true a k e = part_behind a k (e ∷ k) (skips e k k (part_itself k))
out_call false a k e = part_itself (a ++ k)

same_call : (b : Bool) (a first last : List Event) (e : Event) → (b ≡ true → first ≡ []) → (a ++ if_call b e []) ++ (first ++ last) ≡ a ++ (first ++ if_call b e last)
same_call true a first last e alone =
    ap (λ (l : List Event). (a ++ e ∷ []) ++ (l ++ last)) (alone refl) ∙ append_assoc a (e ∷ []) last ∙ ap (λ (l : List Event). a ++ (l ++ e ∷ last)) (sym (alone refl))
same_call false a first last e alone = ap (λ (l : List Event). l ++ (first ++ last)) (append-nil a)

calls_of : (es others : List Event) → calls (es ++ others) ≡ calls es ++ calls others
calls_of es others = filter-append is_call es others

-- What is known of an event that is taken, before it is told what becomes of it: it is behind what is accounted for; and what holds of the
-- order of the calls in each case.
pub record Arrives (script : Script) (st : Stood) (e : Event) (got d w x lost : List Event) : Type 0 where
  pub each : IsPermutation got (e ∷ all_of d w x (kept st) lost)
  pub order : IsPartOf (calls d ++ calls (kept st)) (calls got)
  pub delivers : doing script st e ≡ Delivers → IsPartOf (calls (d ++ e ∷ []) ++ calls (kept st)) (calls got)
  pub none_waits : wanting st.front.mode ≡ []
  pub wants : doing script st e ≡ Wants → IsPartOf (calls d ++ calls (e ∷ st.deferred)) (calls got)
  pub defers : doing script st e ≡ Defers → IsPartOf (calls d ++ calls (kept st ++ e ∷ [])) (calls got)

module _ (script : Script) (st : Stood) (e : Event) (before d w x lost : List Event)
    (each : IsPermutation before (all_of d w x (kept st) lost)) (order : IsPartOf (calls d ++ calls (kept st)) (calls before))
    (free : waits st.front.mode ≡ false) where
  none : wanting st.front.mode ≡ []
  none = free_wants st.front.mode free

  kept_is : kept st ≡ st.deferred
  kept_is = ap (λ (l : List Event). l ++ st.deferred) none

  -- One that has just come.
  pub arrives_new : list_any (may_enter st.front.mode) st.deferred ≡ false → Arrives script st e (before ++ e ∷ []) d w x lost
  arrives_new no_other =
      let now : calls (before ++ e ∷ []) ≡ calls before ++ calls (e ∷ []) = calls_of before (e ∷ []) in
      record {
        each = IsPermutation-trans _ _ _ (IsPermutation-to_front before e) (IsPermutation-cons e _ _ each);
        order = subst (IsPartOf (calls d ++ calls (kept st))) (sym now) (part_longer _ _ _ order);
        delivers = λ is. subst (IsPartOf (calls (d ++ e ∷ []) ++ calls (kept st))) (sym now)
            (subst (λ (l : List Event). IsPartOf (l ++ calls (kept st)) (calls before ++ calls (e ∷ []))) (sym (calls_of d (e ∷ [])))
            (new_call (is_call e) (calls d) (calls (kept st)) (calls before) e
            (λ call. ap calls kept_is ∙ no_calls_at st.front.mode e st.deferred (is_delivered script st e is) call no_other) order));
        none_waits = none;
        wants = λ is.
            let empty : st.deferred ≡ [] = none_at_down st.front.mode st.deferred (is_wanted script st e free is) no_other in
            let shorter : IsPartOf (calls d) (calls before) =
            subst (λ (l : List Event). IsPartOf l (calls before)) (ap (λ (l : List Event). calls d ++ calls l) (kept_is ∙ empty) ∙ append-nil (calls d)) order in
            subst (IsPartOf (calls d ++ calls (e ∷ st.deferred))) (sym now)
            (subst (λ (l : List Event). IsPartOf (calls d ++ calls (e ∷ l)) (calls before ++ calls (e ∷ []))) (sym empty) (part_more (calls d) (calls before) (calls (e ∷ [])) shorter));
        defers = λ is. subst (IsPartOf (calls d ++ calls (kept st ++ e ∷ []))) (sym now)
            (subst (λ (l : List Event). IsPartOf l (calls before ++ calls (e ∷ [])))
            (append_assoc (calls d) (calls (kept st)) (calls (e ∷ [])) ∙ ap (λ (l : List Event). calls d ++ l) (sym (calls_of (kept st) (e ∷ []))))
            (part_more (calls d ++ calls (kept st)) (calls before) (calls (e ∷ [])) order));
      }

  -- One that was deferred, the first that may enter.
  pub arrives_deferred : (place : ℕ) → IsFirst st place e → Arrives script (without st place) e before d w x lost
  arrives_deferred place first =
      let front : List Event = take place st.deferred in
      let rest : List Event = drop (suc place) st.deferred in
      let there : kept st ≡ front ++ e ∷ rest = kept_is ∙ find_at st.deferred place e first.there in
      let now : kept (without st place) ≡ front ++ rest = ap (λ (l : List Event). l ++ (front ++ rest)) none in
      let in_order : IsPartOf (calls d ++ (calls front ++ if_call (is_call e) e (calls rest))) (calls before) =
      subst (λ (l : List Event). IsPartOf (calls d ++ l) (calls before)) (ap calls there ∙ calls_of front (e ∷ rest)) order in
      let left : calls (kept (without st place)) ≡ calls front ++ calls rest = ap calls now ∙ calls_of front rest in
      record {
        each = IsPermutation-trans _ _ _ (subst (λ (l : List Event). IsPermutation before (all_of d w x l lost)) there each)
            (IsPermutation-trans _ _ _ (keeps_as d w x (front ++ e ∷ rest) (e ∷ (front ++ rest)) lost (IsPermutation-middle front e rest))
            (subst (λ (l : List Event). IsPermutation (all_of d w x (e ∷ (front ++ rest)) lost) (e ∷ all_of d w x l lost)) (sym now) (out_of_kept d w x (front ++ rest) lost e)));
        order = subst (λ (l : List Event). IsPartOf (calls d ++ l) (calls before)) (sym left)
            (part_trans _ _ _ (part_behind (calls d) _ _ (out_call (is_call e) (calls front) (calls rest) e)) in_order);
        delivers = λ is.
            let at : IsDeliveredAt st.front.mode e = is_delivered script (without st place) e is in
            subst (λ (l : List Event). IsPartOf l (calls before))
            (sym (ap (λ (l : List Event). l ++ calls (kept (without st place))) (calls_of d (e ∷ [])) ∙ ap (λ (l : List Event). (calls d ++ calls (e ∷ [])) ++ l) left
            ∙ same_call (is_call e) (calls d) (calls front) (calls rest) e (λ call. no_calls_at st.front.mode e front at call first.before))) in_order;
        none_waits = none;
        wants = λ is.
            let empty : front ≡ [] = none_at_down st.front.mode front (is_wanted script (without st place) e free is) first.before in
            subst (λ (l : List Event). IsPartOf (calls d ++ l) (calls before))
            (ap (λ (l : List Event). calls l ++ if_call (is_call e) e (calls rest)) empty ∙ ap (λ (l : List Event). calls (e ∷ (l ++ rest))) (sym empty)) in_order;
        defers = λ is. absurd (not_deferred script (without st place) e first.may is);
      }

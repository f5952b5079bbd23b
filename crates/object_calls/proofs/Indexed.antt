-- The index of the fetches that wait has exactly those, also after one more and one fewer.
use Rattle.std.proofs.Common.{◌≡◌, ℕ, ◌+◌, ◌<◌, ◌≤◌, List, [], ◌∷◌, cond, true, false, true≢false, Option, Some, None, refl, sym, ap, ◌∙◌, subst, arith}
use Rattle.std.specs.Prelude.{Bool, IsSome, IfSome, unwrap_or, slice_get, Result, Ok, Err, OnOk, OnErr, is_err}
use Rattle.std.specs.Option.{is_none, is_some}
use Rattle.std.specs.declared.cmp.Ordering.{Ordering}
use Rattle.std.specs.Ordering.{nat_cmp, ordering_then, ordering_reverse, is_eq, is_gt}
use Rattle.std.specs.declared.cmp.Ordering.TheVariants.{Less, Equal, Greater}
use Rattle.std.specs.Cmp.{nat_cmp_is}
use Rattle.std.specs.Map.{lookup, remove_entry}
use Rattle.std.specs.declared.ops.Bound.TheVariants.{Included}
use Rattle.std.specs.BTreeMap.Range.{IsRangeOf, IsEntryInRange, IsInRange}
use Rattle.std.specs.BTreeMap.{BTreeMap, is_at, get, insert_entry, Updates, UpdatesBy}
use Rattle.std.proofs.lemmas.Cmp.{nat_cmp_total}
use Rattle.std.proofs.lemmas.Bool.Decides.{nat_tests}
use Rattle.object_calls.specs.Numbered.{under, AreAtMost}
use Rattle.object_calls.specs.Fetched.{Asker, Place, place, by_parts, IsIndexed}
use Rattle.object_calls.proofs.Numbers.{find_under, put_last, none_under, at_most_more, at_most_others, at_most_under}

-- ---- two places are tied exactly where they are one
both : (r s : Ordering) → is_eq (ordering_then r s) ≡ true → (is_eq r ≡ true) × (is_eq s ≡ true)
both Less s h = absurd (true≢false (sym h))
both Equal s h = (refl, h)
both Greater s h = absurd (true≢false (sym h))

together : (r s : Ordering) → is_eq r ≡ true → is_eq s ≡ true → is_eq (ordering_then r s) ≡ true
together Less s h g = h
together Equal s h g = g
together Greater s h g = h

pub one_number : (x y : ℕ) → is_eq (nat_cmp x y) ≡ true → x ≡ y
one_number x y h = grind (arith, nat_tests, h)

pub itself : (x : ℕ) → is_eq (nat_cmp x x) ≡ true
itself x = ap is_eq (sym (nat_cmp_is x x Equal refl))

pub one_place : (p q : Place) → is_at (by_parts p) q ≡ true → p ≡ q
one_place p q h =
    let last = both (ordering_then (ordering_then (nat_cmp p.0 q.0) (nat_cmp p.1 q.1)) (nat_cmp p.2 q.2)) (nat_cmp p.3 q.3) h in
    let third = both (ordering_then (nat_cmp p.0 q.0) (nat_cmp p.1 q.1)) (nat_cmp p.2 q.2) last.0 in
    let first = both (nat_cmp p.0 q.0) (nat_cmp p.1 q.1) third.0 in
    λ i. (one_number p.0 q.0 first.0 i, one_number p.1 q.1 first.1 i, one_number p.2 q.2 third.1 i, one_number p.3 q.3 last.1 i)

pub same_place : (p : Place) → is_at (by_parts p) p ≡ true
same_place p =
    together (ordering_then (ordering_then (nat_cmp p.0 p.0) (nat_cmp p.1 p.1)) (nat_cmp p.2 p.2)) (nat_cmp p.3 p.3)
    (together (ordering_then (nat_cmp p.0 p.0) (nat_cmp p.1 p.1)) (nat_cmp p.2 p.2)
    (together (nat_cmp p.0 p.0) (nat_cmp p.1 p.1) (itself p.0) (itself p.1)) (itself p.2)) (itself p.3)

-- ---- the places of one object's fetch lie next to each other
to_last : (r s : Ordering) → is_eq r ≡ true → ordering_then r s ≡ s
to_last Less s h = absurd (true≢false (sym h))
to_last Equal s h = refl
to_last Greater s h = absurd (true≢false (sym h))

up_to : (j m : ℕ) → j ≤ m → is_gt (nat_cmp j m) ≡ false
up_to j m less = grind (arith, nat_tests, less)

pub forward : (a : Asker) (j m : ℕ) → j ≤ m → is_gt (by_parts (place a j) (place a m)) ≡ false
forward a j m less =
    ap is_gt (to_last (ordering_then (ordering_then (nat_cmp a.0 a.0) (nat_cmp a.1 a.1)) (nat_cmp a.2 a.2)) (nat_cmp j m)
    (together (ordering_then (nat_cmp a.0 a.0) (nat_cmp a.1 a.1)) (nat_cmp a.2 a.2)
    (together (nat_cmp a.0 a.0) (nat_cmp a.1 a.1) (itself a.0) (itself a.1)) (itself a.2)))
    ∙ up_to j m less

at_most : (j m : ℕ) → is_gt (nat_cmp j m) ≡ false → j ≤ m
at_most j m h = grind (arith, nat_tests, h)

pub backward : (a : Asker) (j m : ℕ) → is_gt (by_parts (place a j) (place a m)) ≡ false → j ≤ m
backward a j m h =
    at_most j m
    (sym (ap is_gt (to_last (ordering_then (ordering_then (nat_cmp a.0 a.0) (nat_cmp a.1 a.1)) (nat_cmp a.2 a.2)) (nat_cmp j m)
    (together (ordering_then (nat_cmp a.0 a.0) (nat_cmp a.1 a.1)) (nat_cmp a.2 a.2)
    (together (nat_cmp a.0 a.0) (nat_cmp a.1 a.1) (itself a.0) (itself a.1)) (itself a.2)))) ∙ h)

turned : (r s : Ordering) → ordering_reverse (ordering_then r s) ≡ ordering_then (ordering_reverse r) (ordering_reverse s)
turned Less s = refl
turned Equal s = refl
turned Greater s = refl

-- what is at or behind one and at or before the other has the parts in which the two are one
between : (r s t : Ordering) → is_gt (ordering_then r s) ≡ false → is_gt (ordering_then (ordering_reverse r) t) ≡ false → is_eq r ≡ true
between Less s t h g = absurd (true≢false g)
between Equal s t h g = refl
between Greater s t h g = absurd (true≢false h)

other_side : (a : Asker) (p : Place)
    → ordering_then (ordering_then (nat_cmp p.0 a.0) (nat_cmp p.1 a.1)) (nat_cmp p.2 a.2)
    ≡ ordering_reverse (ordering_then (ordering_then (nat_cmp a.0 p.0) (nat_cmp a.1 p.1)) (nat_cmp a.2 p.2))
other_side a p =
    (λ i. ordering_then (ordering_then (nat_cmp_total.antisymm p.0 a.0 i) (nat_cmp_total.antisymm p.1 a.1 i)) (nat_cmp_total.antisymm p.2 a.2 i))
    ∙ ap (λ (o : Ordering). ordering_then o (ordering_reverse (nat_cmp a.2 p.2))) (sym (turned (nat_cmp a.0 p.0) (nat_cmp a.1 p.1)))
    ∙ sym (turned (ordering_then (nat_cmp a.0 p.0) (nat_cmp a.1 p.1)) (nat_cmp a.2 p.2))

pub is_between : (a : Asker) (j m : ℕ) (p : Place) → is_gt (by_parts (place a j) p) ≡ false → is_gt (by_parts p (place a m)) ≡ false → p ≡ place a p.3
is_between a j m p from upto =
    let parts = between (ordering_then (ordering_then (nat_cmp a.0 p.0) (nat_cmp a.1 p.1)) (nat_cmp a.2 p.2)) (nat_cmp j p.3) (nat_cmp p.3 m) from
    (sym (ap (λ (o : Ordering). is_gt (ordering_then o (nat_cmp p.3 m))) (other_side a p)) ∙ upto) in
    let third = both (ordering_then (nat_cmp a.0 p.0) (nat_cmp a.1 p.1)) (nat_cmp a.2 p.2) parts in
    let first = both (nat_cmp a.0 p.0) (nat_cmp a.1 p.1) third.0 in
    λ i. (sym (one_number a.0 p.0 first.0) i, sym (one_number a.1 p.1 first.1) i, sym (one_number a.2 p.2 third.1) i, p.3)

in_span : (a : Asker) (made k : ℕ) (first last : Place) → k ≤ made → made ≤ 18446744073709551615 → first ≡ place a 0 → last ≡ place a 18446744073709551615 → IsInRange by_parts (Included first) (Included last) (place a k)
in_span a made k first last given small from upto = (
  subst (λ (p : Place). is_gt (by_parts p (place a k)) ≡ false) (sym from) (forward a 0 k (omega arith)),
  subst (λ (p : Place). is_gt (by_parts (place a k) p) ≡ false) (sym upto) (forward a k 18446744073709551615 (omega (arith, given, small))),
)

-- What holds where the test passes and where it fails.
cases : {P : Type 0} (b : Bool) → (b ≡ true → P) → (b ≡ false → P) → P
cases true holds otherwise = holds refl
cases false holds otherwise = otherwise refl

fails : (b : Bool) → (b ≡ true → ⊥) → b ≡ false
fails true never = absurd (never refl)
fails false never = refl

value : {A : Type 0} (x y : A) → Some x ≡ Some y → x ≡ y
value x y h = ap (λ v. unwrap_or v x) h

no_value : {A : Type 0} (x : A) → None ≡ Some x → ⊥
no_value x h = true≢false (ap (λ v. is_none v) h)

none_there : {A : Type 0} (v : Option A) → v ≡ None → IsSome v → ⊥
none_there {A} v none some = true≢false (sym (subst (λ (w : Option A). IsSome w) none some))

is_there : {A : Type 0} (v : Option A) (x : A) → v ≡ Some x → IsSome v
is_there {A} v x h = ap (λ (w : Option A). is_some w) h

-- ---- what waits under a number, and what the index has at a place, each as a function
module _ {X : Type 0} where
  -- the one is what the other says
  pub record Match (f : ℕ → Option Asker) (g : Place → Option X) : Type 0 where
    pub there : (a : Asker) (k : ℕ) → f k ≡ Some a → IsSome (g (place a k))
    pub known : (a : Asker) (k : ℕ) → IsSome (g (place a k)) → f k ≡ Some a

  module _ (o : Asker) (n : ℕ) (f h : ℕ → Option Asker) (g e : Place → Option X) (was : Match f g) where
    abbrev tied : ℕ → Bool
    tied k = is_at (nat_cmp n) k

    abbrev tied_at : Asker → ℕ → Bool
    tied_at a k = is_at (by_parts (place o n)) (place a k)

    -- where the places are one, the numbers and the objects are
    number_of : (a : Asker) (k : ℕ) → tied_at a k ≡ true → n ≡ k
    number_of a k t = ap (λ (p : Place). p.3) (one_place (place o n) (place a k) t)

    asker_of : (a : Asker) (k : ℕ) → tied_at a k ≡ true → o ≡ a
    asker_of a k t = ap (λ (p : Place). (p.0, p.1, p.2)) (one_place (place o n) (place a k) t)

    apart : (a : Asker) (k : ℕ) → tied k ≡ false → tied_at a k ≡ false
    apart a k other = fails (tied_at a k) (λ t. true≢false (sym (subst (λ (j : ℕ). tied j ≡ true) (number_of a k t) (itself n)) ∙ other))

    tie : (a : Asker) (k : ℕ) → o ≡ a → n ≡ k → tied_at a k ≡ true
    tie a k p q = subst (λ (w : Place). is_at (by_parts (place o n)) w ≡ true) (λ i. place (p i) (q i)) (same_place (place o n))

    tie_number : (k : ℕ) → n ≡ k → tied k ≡ true
    tie_number k q = subst (λ (j : ℕ). tied j ≡ true) q (itself n)

    -- one fetch more, under a number that no other had
    pub match_added : (x : X) → f n ≡ None
        → ((k : ℕ) → h k ≡ cond (is_at (nat_cmp n) k) (Some o) (f k))
        → ((p : Place) → e p ≡ cond (is_at (by_parts (place o n)) p) (Some x) (g p))
        → Match h e
    match_added x new now place_now = record {
      there = λ a k s. cases (tied k)
          (λ t. let q = one_number n k t in let p = value o a (sym (now k ∙ ap (λ (b : Bool). cond b (Some o) (f k)) t) ∙ s) in
          is_there (e (place a k)) x (place_now (place a k) ∙ ap (λ (b : Bool). cond b (Some x) (g (place a k))) (tie a k p q)))
          (λ other. let old = was.there a k (sym (now k ∙ ap (λ (b : Bool). cond b (Some o) (f k)) other) ∙ s) in
          subst (λ (w : Option X). IsSome w) (sym (place_now (place a k) ∙ ap (λ (b : Bool). cond b (Some x) (g (place a k))) (apart a k other))) old);
      known = λ a k s. cases (tied_at a k)
          (λ t. now k ∙ ap (λ (b : Bool). cond b (Some o) (f k)) (tie_number k (number_of a k t)) ∙ ap (λ (w : Asker). Some w) (asker_of a k t))
          (λ other. let old = was.known a k (subst (λ (w : Option X). IsSome w) (place_now (place a k) ∙ ap (λ (b : Bool). cond b (Some x) (g (place a k))) other) s) in
          cases (tied k)
          (λ t. absurd (no_value a (sym new ∙ ap f (one_number n k t) ∙ old)))
          (λ untied. now k ∙ ap (λ (b : Bool). cond b (Some o) (f k)) untied ∙ old));
    }

    -- one fetch fewer
    pub match_out : f n ≡ Some o
        → ((k : ℕ) → h k ≡ cond (is_at (nat_cmp n) k) None (f k))
        → ((p : Place) → e p ≡ cond (is_at (by_parts (place o n)) p) None (g p))
        → Match h e
    match_out at now place_now = record {
      there = λ a k s. cases (tied k)
          (λ t. absurd (no_value a (sym (now k ∙ ap (λ (b : Bool). cond b None (f k)) t) ∙ s)))
          (λ other. let old = was.there a k (sym (now k ∙ ap (λ (b : Bool). cond b None (f k)) other) ∙ s) in
          subst (λ (w : Option X). IsSome w) (sym (place_now (place a k) ∙ ap (λ (b : Bool). cond b None (g (place a k))) (apart a k other))) old);
      known = λ a k s. cases (tied_at a k)
          (λ t. absurd (none_there (e (place a k)) (place_now (place a k) ∙ ap (λ (b : Bool). cond b None (g (place a k))) t) s))
          (λ other. let old = was.known a k (subst (λ (w : Option X). IsSome w) (place_now (place a k) ∙ ap (λ (b : Bool). cond b None (g (place a k))) other) s) in
          cases (tied k)
          (λ t. let q = one_number n k t in let p = value o a (sym at ∙ ap f q ∙ old) in absurd (true≢false (sym (tie a k p q) ∙ other)))
          (λ untied. now k ∙ ap (λ (b : Bool). cond b None (f k)) untied ∙ old));
    }

    -- one fetch more and then out again, under a number that no other had
    pub match_back : (x : X) (between : Place → Option X) → f n ≡ None
        → ((p : Place) → between p ≡ cond (is_at (by_parts (place o n)) p) (Some x) (g p))
        → ((p : Place) → e p ≡ cond (is_at (by_parts (place o n)) p) None (between p))
        → Match f e
    match_back x between new more fewer = record {
      there = λ a k s. cases (tied_at a k)
          (λ t. absurd (no_value a (sym new ∙ ap f (number_of a k t) ∙ s)))
          (λ other. let same = fewer (place a k) ∙ ap (λ (b : Bool). cond b None (between (place a k))) other ∙ more (place a k) ∙ ap (λ (b : Bool). cond b (Some x) (g (place a k))) other in
          subst (λ (w : Option X). IsSome w) (sym same) (was.there a k s));
      known = λ a k s. cases (tied_at a k)
          (λ t. absurd (none_there (e (place a k)) (fewer (place a k) ∙ ap (λ (b : Bool). cond b None (between (place a k))) t) s))
          (λ other. let same = fewer (place a k) ∙ ap (λ (b : Bool). cond b None (between (place a k))) other ∙ more (place a k) ∙ ap (λ (b : Bool). cond b (Some x) (g (place a k))) other in
          was.known a k (subst (λ (w : Option X). IsSome w) same s));
    }

  -- ---- the same of the maps
  match_of : (made : ℕ) (waiting : List (ℕ × Asker)) (index : BTreeMap Place X) → IsIndexed made waiting index → Match (λ k. under k waiting) (get by_parts index)
  match_of made waiting index is = record { there = is.there; known = is.known }

  pub none_indexed : (waiting : List (ℕ × Asker)) (index : BTreeMap Place X) → waiting ≡ [] → index.entries ≡ [] → IsIndexed 0 waiting index
  none_indexed waiting index none empty = record {
    numbers = subst (λ (l : List (ℕ × Asker)). AreAtMost 0 l) (sym none) tt;
    small = omega arith;
    there = λ a k s. absurd (no_value a (sym (ap (λ (l : List (ℕ × Asker)). under k l) none) ∙ s));
    known = λ a k s. absurd (none_there (get by_parts index (place a k)) (ap (λ (l : List (Place × X)). lookup (is_at (by_parts (place a k))) l) empty) s);
  }

  -- an index of the same entries
  pub same_indexed : (made : ℕ) (waiting later : List (ℕ × Asker)) (index new : BTreeMap Place X) → IsIndexed made waiting index → later ≡ waiting → new.entries ≡ index.entries → IsIndexed made later new
  same_indexed made waiting later index new is all same = record {
    numbers = subst (λ (l : List (ℕ × Asker)). AreAtMost made l) (sym all) is.numbers;
    small = is.small;
    there = λ a k s. subst (λ (l : List (Place × X)). IsSome (lookup (is_at (by_parts (place a k))) l)) (sym same) (is.there a k (sym (ap (λ (l : List (ℕ × Asker)). under k l) all) ∙ s));
    known = λ a k s. ap (λ (l : List (ℕ × Asker)). under k l) all ∙ is.known a k (subst (λ (l : List (Place × X)). IsSome (lookup (is_at (by_parts (place a k))) l)) same s);
  }

  module _ (o : Asker) (made : ℕ) (waiting later : BTreeMap ℕ Asker) (index new : BTreeMap Place X) (is : IsIndexed made waiting.entries index) where
    pub indexed_added : (x : X) → made < 18446744073709551615
        → Updates nat_cmp waiting later (made + 1) (Some o) → later.entries ≡ insert_entry nat_cmp waiting.entries (made + 1) o
        → Updates by_parts index new (place o (made + 1)) (Some x)
        → IsIndexed (made + 1) later.entries new
    indexed_added x room more entries placed =
        let fits : Match (λ k. under k later.entries) (get by_parts new) =
        match_added o (made + 1) (λ k. under k waiting.entries) (λ k. under k later.entries) (get by_parts index) (get by_parts new) (match_of made waiting.entries index is) x
        (none_under (made + 1) made waiting.entries is.numbers (omega arith))
        (λ k. sym (find_under k later.entries) ∙ more.0 k ∙ ap (λ (w : Option Asker). cond (is_at (nat_cmp (made + 1)) k) (Some o) w) (find_under k waiting.entries))
        placed.0 in
        record {
          numbers = subst (λ (l : List (ℕ × Asker)). AreAtMost (made + 1) l) (sym (entries ∙ put_last (made + 1) o made waiting.entries is.numbers (omega arith))) (at_most_more made o waiting.entries is.numbers);
          small = omega (arith, room);
          there = fits.there;
          known = fits.known;
        }

    pub indexed_back : (x : X) (between : BTreeMap Place X) → later.entries ≡ waiting.entries
        → Updates by_parts index between (place o (made + 1)) (Some x)
        → UpdatesBy by_parts (by_parts (place o (made + 1))) between new None
        → IsIndexed made later.entries new
    indexed_back x between all more fewer =
        let fits : Match (λ k. under k waiting.entries) (get by_parts new) =
        match_back o (made + 1) (λ k. under k waiting.entries) (λ k. under k waiting.entries) (get by_parts index) (get by_parts new) (match_of made waiting.entries index is) x (get by_parts between)
        (none_under (made + 1) made waiting.entries is.numbers (omega arith)) more.0 fewer.0 in
        record {
          numbers = subst (λ (l : List (ℕ × Asker)). AreAtMost made l) (sym all) is.numbers;
          small = is.small;
          there = λ a k s. fits.there a k (sym (ap (λ (l : List (ℕ × Asker)). under k l) all) ∙ s);
          known = λ a k s. ap (λ (l : List (ℕ × Asker)). under k l) all ∙ fits.known a k s;
        }

    pub indexed_out : (n : ℕ) → lookup (is_at (nat_cmp n)) waiting.entries ≡ Some o
        → UpdatesBy nat_cmp (nat_cmp n) waiting later None → later.entries ≡ remove_entry (is_at (nat_cmp n)) waiting.entries
        → UpdatesBy by_parts (by_parts (place o n)) index new None
        → IsIndexed made later.entries new
    indexed_out n at fewer entries placed =
        let fits : Match (λ k. under k later.entries) (get by_parts new) =
        match_out o n (λ k. under k waiting.entries) (λ k. under k later.entries) (get by_parts index) (get by_parts new) (match_of made waiting.entries index is)
        (sym (find_under n waiting.entries) ∙ at)
        (λ k. sym (find_under k later.entries) ∙ fewer.0 k ∙ ap (λ (w : Option Asker). cond (is_at (nat_cmp n) k) None w) (find_under k waiting.entries))
        placed.0 in
        record {
          numbers = subst (λ (l : List (ℕ × Asker)). AreAtMost made l) (sym entries) (at_most_others (is_at (nat_cmp n)) made waiting.entries is.numbers);
          small = is.small;
          there = fits.there;
          known = fits.known;
        }

  -- ---- what a span of the index has
  abbrev pub span : Place → Place → BTreeMap Place X → List (Place × X) → Type 0
  span first last index r = IsRangeOf by_parts (Included first) (Included last) index r

  pub none_in_span : (a : Asker) (made : ℕ) (waiting : List (ℕ × Asker)) (index : BTreeMap Place X) (first last : Place) (r : List (Place × X)) → IsIndexed made waiting index → first ≡ place a 0 → last ≡ place a 18446744073709551615 → span first last index r → r ≡ []
      → (k : ℕ) → under k waiting ≡ Some a → ⊥
  none_in_span a made waiting index first last r is from upto in_range none k h =
      none_there (get by_parts index (place a k)) (in_range.5 none (place a k) (in_span a made k first last (at_most_under k made a waiting is.numbers h) is.small from upto)) (is.there a k h)

  pub found_in_span : (a : Asker) (made : ℕ) (waiting : List (ℕ × Asker)) (index : BTreeMap Place X) (first last p : Place) (x : X) (r rest : List (Place × X)) → IsIndexed made waiting index → first ≡ place a 0 → last ≡ place a 18446744073709551615 → span first last index r → r ≡ (p, x) ∷ rest
      → under p.3 waiting ≡ Some a
  found_in_span a made waiting index first last p x r rest is from upto in_range shows =
      let entry : IsEntryInRange by_parts (Included first) (Included last) index (p, x) =
      subst (λ (l : List (Place × X)). IfSome (slice_get l 0) (IsEntryInRange by_parts (Included first) (Included last) index)) shows in_range.1 in
      let one : p ≡ place a p.3 = is_between a 0 18446744073709551615 p
      (subst (λ (q : Place). is_gt (by_parts q p) ≡ false) from entry.0.0)
      (subst (λ (q : Place). is_gt (by_parts p q) ≡ false) upto entry.0.1) in
      is.known a p.3 (subst (λ (q : Place). IsSome (get by_parts index q)) one (is_there (get by_parts index p) x entry.1))

  -- the first of a span has the least number
  pub least_in_span : (a : Asker) (made : ℕ) (waiting : List (ℕ × Asker)) (index : BTreeMap Place X) (first last p : Place) (x : X) (r rest : List (Place × X)) → IsIndexed made waiting index → first ≡ place a 0 → last ≡ place a 18446744073709551615 → span first last index r → r ≡ (p, x) ∷ rest
      → (other : ℕ) → under other waiting ≡ Some a → p.3 ≤ other
  least_in_span a made waiting index first last p x r rest is from upto in_range shows other h =
      let entry : IsEntryInRange by_parts (Included first) (Included last) index (p, x) =
      subst (λ (l : List (Place × X)). IfSome (slice_get l 0) (IsEntryInRange by_parts (Included first) (Included last) index)) shows in_range.1 in
      let one : p ≡ place a p.3 = is_between a 0 18446744073709551615 p
      (subst (λ (q : Place). is_gt (by_parts q p) ≡ false) from entry.0.0)
      (subst (λ (q : Place). is_gt (by_parts p q) ≡ false) upto entry.0.1) in
      let before : is_gt (by_parts p (place a other)) ≡ false =
      subst (λ (l : List (Place × X)). IfSome (slice_get l 0) (λ e. is_gt (by_parts e.0 (place a other)) ≡ false)) shows
      (in_range.2 (place a other) (in_span a made other first last (at_most_under other made a waiting is.numbers h) is.small from upto) (is.there a other h)) in
      backward a p.3 other (subst (λ (q : Place). is_gt (by_parts q (place a other)) ≡ false) one before)

-- ---- what holds where a call was answered well, or not
pub on_ok : {T E P : Type 0} (r : Result T E) → is_err r ≡ false → OnOk r P → P
on_ok (Ok v) h p = p
on_ok (Err e) h p = absurd (true≢false h)

pub on_err : {T E P : Type 0} (r : Result T E) → is_err r ≡ true → OnErr r P → P
on_err (Ok v) h p = absurd (true≢false (sym h))
on_err (Err e) h p = p

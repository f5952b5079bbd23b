-- Where no call and no fetch is answered twice, an answer is dropped only where its incarnation has ended.
use Rattle.std.proofs.Common.{◌≡◌, ◌∙◌, ap, sym, refl, subst, inl, inr, ⊎_elim, true≢false, ℕ, List, [], ◌∷◌, ◌++◌, arith}
use Rattle.std.proofs.lemmas.Bool.Decides.{nat_tests}
use Rattle.std.proofs.lemmas.List.Elements.{All-nil, All-cons, All-contains, All-contains_itself, All-from_recursion, Contains-append_cases}
use Rattle.std.proofs.lemmas.Map.Keys.{IsDistinct-IsPermutation}
use Rattle.std.specs.Prelude.{true, false, ◌==◌, ◌&&◌}
use Rattle.std.specs.List.{All, AllByRecursion, Contains, IsDistinct}
use Rattle.lane.specs.Lanes.{StartsWith}
use Rattle.timeline.specs.Logs.{Fronted}
use Rattle.timeline.specs.declared.back_log.Missed.{Missed}
use Rattle.timeline.specs.declared.event.Event.{Event}
use Rattle.timeline.specs.declared.event.Event.TheVariants as event
use Rattle.object_front.specs.Came.{AreCome, events}
use Rattle.object_messages.specs.Naming.{answered_by, answered_in}
use Rattle.object_core.specs.Dropping.{MayDrop}
use Rattle.object_core.specs.Drops.{AreAnsweredOnce, DropsOnly, IsOfEnded, same_answer}

-- Both or none answer the same.
flips_numbers : (i j n m : ℕ) → ((i == j) && (n == m)) ≡ ((j == i) && (m == n))
flips_numbers i j n m = grind (arith, nat_tests)

unanswered : (x y : Event) → answered_by y ≡ [] → same_answer x y ≡ false
unanswered (event.Answer i n r a) (event.Answer j m s b) is = absurd cc
unanswered (event.Answer i n r a) (event.Bind identity) is = refl
unanswered (event.Answer i n r a) (event.Call from method args depth at) is = refl
unanswered (event.Answer i n r a) (event.Tick at) is = refl
unanswered (event.Answer i n r a) (event.Evict at) is = refl
unanswered (event.Bind identity) y is = refl
unanswered (event.Call from method args depth at) y is = refl
unanswered (event.Tick at) y is = refl
unanswered (event.Evict at) y is = refl

flips : (x y : Event) → same_answer x y ≡ same_answer y x
flips (event.Answer i n r a) (event.Answer j m s b) = flips_numbers i j n m
flips (event.Answer i n r a) (event.Bind identity) = refl
flips (event.Answer i n r a) (event.Call from method args depth at) = refl
flips (event.Answer i n r a) (event.Tick at) = refl
flips (event.Answer i n r a) (event.Evict at) = refl
flips (event.Bind identity) y = sym (unanswered y (event.Bind identity) refl)
flips (event.Call from method args depth at) y = sym (unanswered y (event.Call from method args depth at) refl)
flips (event.Tick at) y = sym (unanswered y (event.Tick at) refl)
flips (event.Evict at) y = sym (unanswered y (event.Evict at) refl)

-- Parts of what holds of each.
module _ {X : Type 0} (P : X → Type 0) where
  last_of : (xs ys : List X) → AllByRecursion P (xs ++ ys) → AllByRecursion P ys
  last_of [] ys all = all
  last_of (x ∷ xs) ys all = last_of xs ys all.1

  first_of : (xs ys : List X) → AllByRecursion P (xs ++ ys) → AllByRecursion P xs
  first_of [] ys all = tt
  first_of (x ∷ xs) ys all = (all.0, first_of xs ys all.1)

-- The first events answer nothing that some of the later ones do.
abbrev Apart : List Event → Event → Type 0
Apart es x = AllByRecursion (λ (y : Event). same_answer x y ≡ false) es

apart : (first between later rest : List Event) → IsDistinct same_answer (first ++ (between ++ (later ++ rest))) → AllByRecursion (Apart later) first
unfolding IsDistinct
apart [] between later rest is = tt
apart (x ∷ first) between later rest is = (
  first_of (λ (y : Event). same_answer x y ≡ false) later rest
      (last_of (λ (y : Event). same_answer x y ≡ false) between (later ++ rest)
      (last_of (λ (y : Event). same_answer x y ≡ false) first (between ++ (later ++ rest)) is.0)),
  apart first between later rest is.1,
)

-- An event that answers this answers what an answer to it does.
names_none : {A : Type 0} (asked : ℕ × ℕ) → Contains [] asked → A
names_none asked has = absurd (omega (arith, has.1))

pub names_one : (i n j m : ℕ) → Contains {X = ℕ × ℕ} ((j, m) ∷ []) (i, n) → ◌≡◌ {A = ℕ × ℕ} (j, m) (i, n)
names_one i n j m has =
    sym (All-contains (λ (asked : ℕ × ℕ). asked ≡ (j, m)) ((j, m) ∷ []) (i, n)
    (All-cons (λ (asked : ℕ × ℕ). asked ≡ (j, m)) (j, m) [] refl (All-nil (λ (asked : ℕ × ℕ). asked ≡ (j, m)))) has)

same_numbers : (i n j m : ℕ) → j ≡ i → m ≡ n → ((j == i) && (m == n)) ≡ true
same_numbers i n j m is so = grind (arith, nat_tests)

module _ (i n : ℕ) (y : Event) (answers : (x : Event) → Contains (answered_by x) (i, n) → same_answer x y ≡ true) (later : List Event) (there : Contains later y) where
  none_twice : (first : List Event) → AllByRecursion (Apart later) first → Contains (answered_in first) (i, n) → ⊥
  none_twice [] all has = names_none (i, n) has
  none_twice (x ∷ first) all has =
      ⊎_elim
      (λ own. true≢false (sym (answers x own)
      ∙ All-contains (λ (z : Event). same_answer x z ≡ false) later y (All-from_recursion (λ (z : Event). same_answer x z ≡ false) later all.0) there))
      (λ others. none_twice first all.1 others)
      (Contains-append_cases (answered_by x) (answered_in first) (i, n) has)

module _ (log : Fronted) (downs : List Missed) (all : AllByRecursion (Apart log.dropped) (events log.delivered)) where
  ended_by : (e : Event) → MayDrop log downs e → Contains log.dropped e → IsOfEnded log e
  ended_by (event.Bind identity) may there = tt
  ended_by (event.Call from method args depth at) may there = tt
  ended_by (event.Answer i n result at) (inl less) there = less
  ended_by (event.Answer i n result at) (inr was) there =
      absurd (none_twice i n (event.Answer i n result at) answers log.dropped there (events log.delivered) all was)
    where
      answers : (x : Event) → Contains (answered_by x) (i, n) → same_answer x (event.Answer i n result at) ≡ true
      answers (event.Answer j m r a) has =
          let is = names_one i n j m has in
          same_numbers i n j m (ap (λ (asked : ℕ × ℕ). asked.0) is) (ap (λ (asked : ℕ × ℕ). asked.1) is)
      answers (event.Bind identity) has = names_none (i, n) has
      answers (event.Call from method args depth moment) has = names_none (i, n) has
      answers (event.Tick moment) has = names_none (i, n) has
      answers (event.Evict moment) has = names_none (i, n) has
  ended_by (event.Tick at) may there = tt
  ended_by (event.Evict at) may there = tt

-- The first events answer nothing twice where all don't.
first_once : (first rest : List Event) → AreAnsweredOnce (first ++ rest) → AreAnsweredOnce first
unfolding IsDistinct
first_once [] rest once = tt
first_once (x ∷ first) rest once = (first_of (λ (y : Event). same_answer x y ≡ false) first rest once.0, first_once first rest once.1)

-- So it is of an object's events, which stand once each among those that were delivered, dropped and so on.
pub drops_only : (got all : List Event) (log : Fronted) (downs : List Missed) (keeps lost : List Event) → StartsWith all got → AreCome got log keeps lost
    → All (MayDrop log downs) log.dropped → DropsOnly all log downs
drops_only got all log downs keeps lost (rest, is) come may = record {
  each = may;
  answers = λ once place d less.
      ended_by log downs
      (apart (events log.delivered) (events log.downed) log.dropped (keeps ++ lost)
      (IsDistinct-IsPermutation same_answer flips got (events log.delivered ++ (events log.downed ++ (log.dropped ++ (keeps ++ lost)))) come.each
      (first_once got rest (subst AreAnsweredOnce is once))))
      _ (may place d less) (All-contains_itself log.dropped place d less);
}

-- The open fetch of an object's call is the first one of that call.
use Rattle.std.proofs.Common.{◌≡◌, ◌<◌, ◌≤◌, ℕ, inl, inr, List, [], ◌∷◌, map, cond, Some, None, true, false, true≢false, refl, sym, ap, subst, ◌∙◌, arith}
use Rattle.std.specs.Prelude.{Bool, ◌==◌, ◌⊎◌}
use Rattle.std.specs.List.{AllByRecursion, find}
use Rattle.std.proofs.lemmas.Bool.{and_parts, and_from}
use Rattle.std.proofs.lemmas.Bool.Decides.{nat_tests}
use Rattle.std.proofs.lemmas.Option.{none-some}
use Rattle.object_calls.specs.Fetched.{Asker}
use Rattle.object_calls.specs.Numbered.{under}
use Rattle.timeline.specs.Finish.{is_fetch_of}
use Rattle.mailbox.specs.States.{open_fetch, AreAscending}

is_own : (n : ℕ) → (n == n) ≡ true
is_own n = grind (arith, nat_tests)

own : (n k : ℕ) → (n == k) ≡ true → n ≡ k
own n k h = grind (arith, nat_tests, h)

below : (n k : ℕ) → n < k → (n == k) ≡ false
below n k less = grind (arith, nat_tests, less)

module _ (a : Asker) where
  asks : ℕ × Asker → Bool
  asks f = is_fetch_of a.0 a.1 a.2 (open_fetch f)

  asks_own : (f : ℕ × Asker) → asks f ≡ true → f.1 ≡ a
  unfolding asks
  asks_own f h =
      let both = and_parts _ _ h in
      let first = and_parts _ _ both.0 in
      let slot : f.1.0 ≡ a.0 = own f.1.0 a.0 first.0 in
      let incarnation : f.1.1 ≡ a.1 = own f.1.1 a.1 first.1 in
      let number : f.1.2 ≡ a.2 = own f.1.2 a.2 both.1 in
      λ i. (slot i, incarnation i, number i)

  own_asks : (f : ℕ × Asker) → f.1 ≡ a → asks f ≡ true
  unfolding asks
  own_asks f is =
      subst (λ (b : Asker). is_fetch_of b.0 b.1 b.2 (open_fetch f) ≡ true) is
      (and_from _ _ (and_from _ _ (is_own f.1.0) (is_own f.1.1)) (is_own f.1.2))

  here : (f : ℕ × Asker) (fs : List (ℕ × Asker)) → under f.0 (f ∷ fs) ≡ Some f.1
  here f fs = ap (λ (b : Bool). cond b (Some f.1) (under f.0 fs)) (is_own f.0)

  behind : (k : ℕ) (f : ℕ × Asker) (fs : List (ℕ × Asker)) → f.0 < k → under k (f ∷ fs) ≡ under k fs
  behind k f fs less = ap (λ (b : Bool). cond b (Some f.1) (under k fs)) (below f.0 k less)

  -- what waits behind a number waits under a greater one
  later : (n k : ℕ) (b : Asker) (fs : List (ℕ × Asker)) → AllByRecursion (λ g. n < g.0) fs → under k fs ≡ Some b → n < k
  later n k b [] h found = absurd (none-some b found)
  later n k b (f ∷ fs) h found = at_first (f.0 == k) refl (later n k b fs h.1)
    where
      at_first : (c : Bool) → (f.0 == k) ≡ c → (under k fs ≡ Some b → n < k) → n < k
      at_first true is rest = subst (λ (m : ℕ). n < m) (own f.0 k is) h.0
      at_first false other rest = rest (sym (ap (λ (c : Bool). cond c (Some f.1) (under k fs)) other) ∙ found)

  some_same : (b c : Asker) → Some b ≡ Some c → b ≡ c
  some_same b c h = cc

  -- under this number, or behind it
  where_under : (k : ℕ) (f : ℕ × Asker) (fs : List (ℕ × Asker)) → under k (f ∷ fs) ≡ Some a → ((f.0 ≡ k) × (f.1 ≡ a)) ⊎ (under k fs ≡ Some a)
  where_under k f fs found = at_first (f.0 == k) refl
    where
      at_first : (c : Bool) → (f.0 == k) ≡ c → ((f.0 ≡ k) × (f.1 ≡ a)) ⊎ (under k fs ≡ Some a)
      at_first true is = inl (own f.0 k is, some_same f.1 a (sym (ap (λ (c : Bool). cond c (Some f.1) (under k fs)) is) ∙ found))
      at_first false other = inr (sym (ap (λ (c : Bool). cond c (Some f.1) (under k fs)) other) ∙ found)

  step : (f : ℕ × Asker) (fs : List (ℕ × Asker)) (b : Bool) → asks f ≡ b → find (is_fetch_of a.0 a.1 a.2) (map open_fetch (f ∷ fs)) ≡ cond b (Some (open_fetch f)) (find (is_fetch_of a.0 a.1 a.2) (map open_fetch fs))
  unfolding asks
  step f fs b is = ap (λ (c : Bool). cond c (Some (open_fetch f)) (find (is_fetch_of a.0 a.1 a.2) (map open_fetch fs))) is

  pub none_open : (fs : List (ℕ × Asker)) → AreAscending fs → ((k : ℕ) → under k fs ≡ Some a → ⊥) → find (is_fetch_of a.0 a.1 a.2) (map open_fetch fs) ≡ None
  none_open [] asc none = refl
  none_open (f ∷ fs) asc none =
      at_first (asks f) refl (none_open fs asc.1 (λ k found. none k (behind k f fs (later f.0 k a fs asc.0 found) ∙ found)))
    where
      at_first : (b : Bool) → asks f ≡ b → find (is_fetch_of a.0 a.1 a.2) (map open_fetch fs) ≡ None → find (is_fetch_of a.0 a.1 a.2) (map open_fetch (f ∷ fs)) ≡ None
      at_first true is rest = absurd (none f.0 (here f fs ∙ ap (λ (b : Asker). Some b) (asks_own f is)))
      at_first false other rest = step f fs false other ∙ rest

  pub first_open : (k : ℕ) (fs : List (ℕ × Asker)) → AreAscending fs → under k fs ≡ Some a → ((j : ℕ) → under j fs ≡ Some a → k ≤ j)
      → find (is_fetch_of a.0 a.1 a.2) (map open_fetch fs) ≡ Some (open_fetch (k, a))
  first_open k [] asc found least = absurd (none-some a found)
  first_open k (f ∷ fs) asc found least =
      at_first (asks f) refl (where_under k f fs found)
      (λ rest. first_open k fs asc.1 rest (λ j other. least j (behind j f fs (later f.0 j a fs asc.0 other) ∙ other)))
    where
      at_first : (b : Bool) → asks f ≡ b → ((f.0 ≡ k) × (f.1 ≡ a)) ⊎ (under k fs ≡ Some a)
          → (under k fs ≡ Some a → find (is_fetch_of a.0 a.1 a.2) (map open_fetch fs) ≡ Some (open_fetch (k, a)))
          → find (is_fetch_of a.0 a.1 a.2) (map open_fetch (f ∷ fs)) ≡ Some (open_fetch (k, a))
      at_first true is (inl own) rest = step f fs true is ∙ (λ i. Some (open_fetch (own.0 i, own.1 i)))
      at_first true is (inr tail) rest =
          let least_here : k ≤ f.0 = least f.0 (here f fs ∙ ap (λ (b : Asker). Some b) (asks_own f is)) in
          let past : f.0 < k = later f.0 k a fs asc.0 tail in
          absurd (omega (arith, least_here, past))
      at_first false other (inl own) rest = absurd (true≢false (sym (own_asks f own.1) ∙ other))
      at_first false other (inr tail) rest = step f fs false other ∙ rest tail

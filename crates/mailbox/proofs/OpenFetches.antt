-- The fetches without an answer, as the definition of a switch has them.
use Rattle.std.proofs.Common.{◌≡◌, ◌<◌, ◌≤◌, ◌+◌, ℕ, List, [], ◌∷◌, ◌++◌, map, length, cond, Option, Some, true, false, refl, sym, ap, subst, ◌∙◌, arith}
use Rattle.std.specs.Prelude.{Bool, ◌==◌, not, option_map}
use Rattle.std.specs.List.{AllByRecursion, find, filter}
use Rattle.std.proofs.lemmas.Bool.Decides.{nat_tests}
use Rattle.std.proofs.lemmas.Option.{none-some}
use Rattle.object_calls.specs.Fetched.{Asker}
use Rattle.object_calls.specs.Numbered.{Numbered, under, others}
use Rattle.timeline.specs.Lines.{Identity}
use Rattle.timeline.specs.Switch.{OpenFetch}
use Rattle.mailbox.specs.States.{open_fetch, AreAscending, IsSound}

above : (n k : ℕ) → n < k → (k == n) ≡ false
above n k less = grind (arith, nat_tests, less)

same : (n k : ℕ) → (k == n) ≡ true → k ≡ n
same n k h = grind (arith, nat_tests, h)

-- the fetch of a number
pub find_is : (k : ℕ) (fs : List (ℕ × Asker)) → find (λ o. o.k == k) (map open_fetch fs) ≡ option_map (λ a. open_fetch (k, a)) (under k fs)
find_is k [] = refl
find_is k (f ∷ fs) = at_first (f.0 == k) refl (find_is k fs)
  where
    at_first : (b : Bool) → (f.0 == k) ≡ b
        → find (λ o. o.k == k) (map open_fetch fs) ≡ option_map (λ a. open_fetch (k, a)) (under k fs)
        → cond (f.0 == k) (Some (open_fetch f)) (find (λ o. o.k == k) (map open_fetch fs))
        ≡ option_map (λ a. open_fetch (k, a)) (cond (f.0 == k) (Some f.1) (under k fs))
    at_first true here later =
        ap (λ (b : Bool). cond b (Some (open_fetch f)) (find (λ o. o.k == k) (map open_fetch fs))) here
        ∙ ap (λ (n : ℕ). Some (open_fetch (n, f.1))) (same k f.0 here)
        ∙ sym (ap (λ (b : Bool). option_map (λ a. open_fetch (k, a)) (cond b (Some f.1) (under k fs))) here)
    at_first false other later =
        ap (λ (b : Bool). cond b (Some (open_fetch f)) (find (λ o. o.k == k) (map open_fetch fs))) other
        ∙ later
        ∙ sym (ap (λ (b : Bool). option_map (λ a. open_fetch (k, a)) (cond b (Some f.1) (under k fs))) other)

-- those of other numbers
all_others : (k : ℕ) (fs : List (ℕ × Asker)) → AllByRecursion (λ g. k < g.0) fs → filter (λ o. not (o.k == k)) (map open_fetch fs) ≡ map open_fetch fs
all_others k [] h = refl
all_others k (f ∷ fs) h =
    ap (λ (b : Bool). cond (not b) (open_fetch f ∷ filter (λ o. not (o.k == k)) (map open_fetch fs)) (filter (λ o. not (o.k == k)) (map open_fetch fs))) (above k f.0 h.0)
    ∙ ap (λ (rest : List OpenFetch). open_fetch f ∷ rest) (all_others k fs h.1)

pub others_is : (k : ℕ) (fs : List (ℕ × Asker)) → AreAscending fs → map open_fetch (others k fs) ≡ filter (λ o. not (o.k == k)) (map open_fetch fs)
others_is k [] asc = refl
others_is k (f ∷ fs) asc = at_first (f.0 == k) refl (others_is k fs asc.1)
  where
    at_first : (b : Bool) → (f.0 == k) ≡ b
        → map open_fetch (others k fs) ≡ filter (λ o. not (o.k == k)) (map open_fetch fs)
        → map open_fetch (cond (f.0 == k) fs (f ∷ others k fs))
        ≡ cond (not (f.0 == k)) (open_fetch f ∷ filter (λ o. not (o.k == k)) (map open_fetch fs)) (filter (λ o. not (o.k == k)) (map open_fetch fs))
    at_first true here later =
        ap (λ (b : Bool). map open_fetch (cond b fs (f ∷ others k fs))) here
        ∙ sym (all_others k fs (subst (λ (n : ℕ). AllByRecursion (λ g. n < g.0) fs) (same k f.0 here) asc.0))
        ∙ sym (ap (λ (b : Bool). cond (not b) (open_fetch f ∷ filter (λ o. not (o.k == k)) (map open_fetch fs)) (filter (λ o. not (o.k == k)) (map open_fetch fs))) here)
    at_first false other later =
        ap (λ (b : Bool). map open_fetch (cond b fs (f ∷ others k fs))) other
        ∙ ap (λ (rest : List OpenFetch). open_fetch f ∷ rest) later
        ∙ sym (ap (λ (b : Bool). cond (not b) (open_fetch f ∷ filter (λ o. not (o.k == k)) (map open_fetch fs)) (filter (λ o. not (o.k == k)) (map open_fetch fs))) other)

-- the slot of a fetch is there
pub slot_there : (slots k : ℕ) (a : Asker) (fs : List (ℕ × Asker)) → AllByRecursion (λ f. f.1.0 < slots) fs → under k fs ≡ Some a → a.0 < slots
slot_there slots k a [] h found = absurd (none-some a found)
slot_there slots k a (f ∷ fs) h found = at_first (f.0 == k) refl (slot_there slots k a fs h.1)
  where
    at_first : (b : Bool) → (f.0 == k) ≡ b → (under k fs ≡ Some a → a.0 < slots) → a.0 < slots
    at_first true here later =
        let own : Some f.1 ≡ Some a = sym (ap (λ (c : Bool). cond c (Some f.1) (under k fs)) here) ∙ found in
        let is : f.1 ≡ a = cc in
        subst (λ (x : Asker). x.0 < slots) is h.0
    at_first false other later = later (sym (ap (λ (c : Bool). cond c (Some f.1) (under k fs)) other) ∙ found)

-- one fetch fewer, one more
fewer : (P : ℕ × Asker → Type 0) (k : ℕ) (fs : List (ℕ × Asker)) → AllByRecursion P fs → AllByRecursion P (others k fs)
fewer P k [] h = tt
fewer P k (f ∷ fs) h =
    elim (f.0 == k) as (λ (b : Bool). AllByRecursion P (cond b fs (f ∷ others k fs))) [
      | true ↦ h.1
      | false ↦ (h.0, fewer P k fs h.1)
    ]

ascending_fewer : (k : ℕ) (fs : List (ℕ × Asker)) → AreAscending fs → AreAscending (others k fs)
ascending_fewer k [] asc = tt
ascending_fewer k (f ∷ fs) asc =
    elim (f.0 == k) as (λ (b : Bool). AreAscending (cond b fs (f ∷ others k fs))) [
      | true ↦ asc.1
      | false ↦ (fewer (λ g. f.0 < g.0) k fs asc.0, ascending_fewer k fs asc.1)
    ]

more : (P : ℕ × Asker → Type 0) (fs : List (ℕ × Asker)) (f : ℕ × Asker) → AllByRecursion P fs → P f → AllByRecursion P (fs ++ f ∷ [])
more P [] f h own = (own, tt)
more P (g ∷ fs) f h own = (h.0, more P fs f h.1 own)

given_more : (made : ℕ) (fs : List (ℕ × Asker)) → AllByRecursion (λ f. f.0 ≤ made) fs → AllByRecursion (λ f. f.0 ≤ made + 1) fs
given_more made [] h = tt
given_more made (f ∷ fs) h = (omega (arith, h.0), given_more made fs h.1)

ascending_more : (made : ℕ) (a : Asker) (fs : List (ℕ × Asker)) → AllByRecursion (λ f. f.0 ≤ made) fs → AreAscending fs → AreAscending (fs ++ (made + 1, a) ∷ [])
ascending_more made a [] h asc = (tt, tt)
ascending_more made a (f ∷ fs) h asc = (more (λ g. f.0 < g.0) fs (made + 1, a) asc.0 (omega (arith, h.0)), ascending_more made a fs h.1 asc.1)

-- what is kept of the open fetches is so when one is answered, and when one is issued
pub sound_closed : (objects : List (Option Identity)) (fetches : Numbered Asker) (k : ℕ) → IsSound objects fetches → IsSound objects (record fetches { waiting = others k fetches.waiting })
sound_closed objects fetches k was = record {
  given = fewer (λ f. f.0 ≤ fetches.made) k fetches.waiting was.given;
  ascending = ascending_fewer k fetches.waiting was.ascending;
  there = fewer (λ f. f.1.0 < length objects) k fetches.waiting was.there;
}

pub sound_issued : (objects : List (Option Identity)) (fetches : Numbered Asker) (a : Asker) → a.0 < length objects → IsSound objects fetches
    → IsSound objects (record { made = fetches.made + 1; waiting = fetches.waiting ++ (fetches.made + 1, a) ∷ [] })
sound_issued objects fetches a within was = record {
  given = more (λ f. f.0 ≤ fetches.made + 1) fetches.waiting (fetches.made + 1, a) (given_more fetches.made fetches.waiting was.given) (omega arith);
  ascending = ascending_more fetches.made a fetches.waiting was.given was.ascending;
  there = more (λ f. f.1.0 < length objects) fetches.waiting (fetches.made + 1, a) was.there within;
}

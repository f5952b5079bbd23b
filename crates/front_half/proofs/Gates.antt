-- Only the newest of an object's tasks may have its block open: what that says of answers, and what is left without a task.
use Rattle.std.proofs.Common.{◌≡◌, ◌∙◌, sym, refl, ap, subst, ℕ, ◌+◌, ◌≤◌, List, [], ◌∷◌, ◌++◌, Bool, true, false, true≢false, ◌⊎◌, inl, inr, arith}
use Rattle.std.specs.Prelude.{◌==◌, ◌||◌, Some, if◌then◌else◌}
use Rattle.std.specs.List.{list_any}
use Rattle.std.proofs.lemmas.Bool.Decides.{nat_tests}
use Rattle.std.proofs.lemmas.Option.{none-some, same_Some}
use Rattle.timeline.specs.Eligible.{has_block}
use Rattle.timeline.specs.Object.{OpenTask, task_under, tasks_but}
use Rattle.front_half.specs.Gated.{AreGated}

abbrev pub any_block : List OpenTask → Bool
any_block ts = list_any (λ task. task.block) ts

same_number : (a b : ℕ) → (a == b) ≡ true → a ≡ b
same_number a b h = grind (arith, nat_tests, h)

two_numbers : (n k m : ℕ) → (n == k) ≡ true → n ≡ m → (k == m) ≡ false → ⊥
two_numbers n k m here is other = grind (arith, nat_tests, here, is, other)

not_itself : (n m : ℕ) → (n == m) ≡ false → n ≡ m → ⊥
not_itself n m other is = grind (arith, nat_tests, other, is)

closed_by : (b : Bool) → (b ≡ true → ⊥) → b ≡ false
closed_by false never = refl
closed_by true never = absurd (never refl)

neither : (a b : Bool) → a ≡ false → b ≡ false → (a || b) ≡ false
neither false b one other = other
neither true b one other = absurd (true≢false one)

pub first_closed : (a b : Bool) → (a || b) ≡ false → a ≡ false
first_closed false b h = refl
first_closed true b h = absurd (true≢false h)

pub rest_closed : (a b : Bool) → (a || b) ≡ false → b ≡ false
rest_closed false b h = h
rest_closed true b h = absurd (true≢false h)

rest_open : (a b : Bool) → a ≡ false → (a || b) ≡ true → b ≡ true
rest_open false b one h = h
rest_open true b one h = absurd (true≢false one)

-- No task waits under a number past the newest.
none_past : (newest : ℕ) (ts : List OpenTask) → AreGated newest newest ts → any_block ts ≡ false
none_past newest [] gated = refl
none_past newest (t ∷ ts) gated = let nowhere : ⊥ = omega (arith, gated.0, gated.1) in absurd nowhere

from_lower : (low past newest : ℕ) (ts : List OpenTask) → low ≤ past → AreGated past newest ts → AreGated low newest ts
from_lower low past newest [] lower gated = tt
from_lower low past newest (t ∷ ts) lower gated = (omega (arith, lower, gated.0), gated.1, gated.2, gated.3)

-- A task under another number than the newest has its block closed.
other_closed : (k past newest : ℕ) (ts : List OpenTask) → AreGated past newest ts → (k == newest) ≡ false → has_block (task_under k ts) ≡ false
other_closed k past newest [] gated other = refl
other_closed k past newest (t ∷ ts) gated other = by_first (t.number == k) refl (other_closed k t.number newest ts gated.3 other)
  where
    by_first : (b : Bool) → (t.number == k) ≡ b → has_block (task_under k ts) ≡ false → has_block (task_under k (t ∷ ts)) ≡ false
    by_first true here rest = rw here (closed_by t.block (λ is. two_numbers t.number k newest here (gated.2 is) other))
    by_first false there rest = rw there rest

-- Where a block is open it is that of the newest.
newest_open : (past newest : ℕ) (ts : List OpenTask) → AreGated past newest ts → any_block ts ≡ true → has_block (task_under newest ts) ≡ true
newest_open past newest [] gated any = absurd (true≢false (sym any))
newest_open past newest (t ∷ ts) gated any = by_first (t.number == newest) refl (newest_open t.number newest ts gated.3)
  where
    none_behind : t.number ≡ newest → any_block ts ≡ false
    none_behind is = none_past newest ts (subst (λ (n : ℕ). AreGated n newest ts) is gated.3)

    by_block : (b : Bool) → t.number ≡ newest → (b || any_block ts) ≡ true → b ≡ true
    by_block true is h = refl
    by_block false is h = absurd (true≢false (sym h ∙ none_behind is))

    by_first : (b : Bool) → (t.number == newest) ≡ b → (any_block ts ≡ true → has_block (task_under newest ts) ≡ true)
        → has_block (task_under newest (t ∷ ts)) ≡ true
    by_first true here rest = rw here (by_block t.block (same_number t.number newest here) any)
    by_first false there rest = rw there
        (rest (rest_open t.block (any_block ts) (closed_by t.block (λ is. not_itself t.number newest there (gated.2 is))) any))

pub only_newest : (newest : ℕ) (ts : List OpenTask) → AreGated 0 newest ts → any_block ts ≡ true → (k : ℕ) → has_block (task_under k ts) ≡ (k == newest)
only_newest newest ts gated any k = by_number (k == newest) refl
  where
    by_number : (b : Bool) → (k == newest) ≡ b → has_block (task_under k ts) ≡ (k == newest)
    by_number true is = ap (λ (n : ℕ). has_block (task_under n ts)) (same_number k newest is) ∙ newest_open 0 newest ts gated any ∙ sym is
    by_number false other = other_closed k 0 newest ts gated other ∙ sym other

-- Without one of them the tasks are still so, and one more may stand behind tasks whose blocks are closed.
pub gated_but : (k past newest : ℕ) (ts : List OpenTask) → AreGated past newest ts → AreGated past newest (tasks_but k ts)
gated_but k past newest [] gated = tt
gated_but k past newest (t ∷ ts) gated = by_first (t.number == k) refl (gated_but k t.number newest ts gated.3)
  where
    by_first : (b : Bool) → (t.number == k) ≡ b → AreGated t.number newest (tasks_but k ts) → AreGated past newest (tasks_but k (t ∷ ts))
    by_first true here rest = rw here (from_lower past t.number newest ts (omega (arith, gated.0)) gated.3)
    by_first false there rest = rw there (gated.0, gated.1, gated.2, rest)

pub gated_too : (past newest : ℕ) (ts : List OpenTask) (last : OpenTask) → past ≤ newest → AreGated past newest ts → any_block ts ≡ false
    → last.number ≡ newest + 1 → AreGated past (newest + 1) (ts ++ last ∷ [])
gated_too past newest [] last lower gated none is = (omega (arith, lower, is), omega (arith, is), λ opened. is, tt)
gated_too past newest (t ∷ ts) last lower gated none is = (
  gated.0,
  omega (arith, gated.1),
  λ opened. absurd (true≢false (sym opened ∙ first_closed t.block (any_block ts) none)),
  gated_too t.number newest ts last gated.1 gated.3 (rest_closed t.block (any_block ts) none) is,
)

-- Without the newest no block is open.
closed_but : (k : ℕ) (ts : List OpenTask) → any_block ts ≡ false → any_block (tasks_but k ts) ≡ false
closed_but k [] none = refl
closed_but k (t ∷ ts) none = by_first (t.number == k) refl (closed_but k ts (rest_closed t.block (any_block ts) none))
  where
    by_first : (b : Bool) → (t.number == k) ≡ b → any_block (tasks_but k ts) ≡ false → any_block (tasks_but k (t ∷ ts)) ≡ false
    by_first true here rest = rw here (rest_closed t.block (any_block ts) none)
    by_first false there rest = rw there (neither t.block (any_block (tasks_but k ts)) (first_closed t.block (any_block ts) none) rest)

closed_but_newest : (past newest : ℕ) (ts : List OpenTask) → AreGated past newest ts → any_block (tasks_but newest ts) ≡ false
closed_but_newest past newest [] gated = refl
closed_but_newest past newest (t ∷ ts) gated = by_first (t.number == newest) refl (closed_but_newest t.number newest ts gated.3)
  where
    by_first : (b : Bool) → (t.number == newest) ≡ b → any_block (tasks_but newest ts) ≡ false → any_block (tasks_but newest (t ∷ ts)) ≡ false
    by_first true here rest = rw here (none_past newest ts (subst (λ (n : ℕ). AreGated n newest ts) (same_number t.number newest here) gated.3))
    by_first false there rest = rw there
        (neither t.block (any_block (tasks_but newest ts)) (closed_by t.block (λ is. not_itself t.number newest there (gated.2 is))) rest)

under_number : (k : ℕ) (ts : List OpenTask) (t : OpenTask) → task_under k ts ≡ Some t → t.number ≡ k
under_number k [] t there = absurd (none-some t there)
under_number k (u ∷ ts) t there = by_first (u.number == k) refl (under_number k ts t)
  where
    by_first : (b : Bool) → (u.number == k) ≡ b → (task_under k ts ≡ Some t → t.number ≡ k) → t.number ≡ k
    by_first true here rest =
        subst (λ (x : OpenTask). x.number ≡ k) (same_Some u t (sym (ap (λ (c : Bool). if c then Some u else task_under k ts) here) ∙ there))
        (same_number u.number k here)
    by_first false other rest = rest (sym (ap (λ (c : Bool). if c then Some u else task_under k ts) other) ∙ there)

-- Where the task goes on whose block is open, or no block is, no other block is open.
pub others_closed : (k newest : ℕ) (ts : List OpenTask) (t : OpenTask) → AreGated 0 newest ts → task_under k ts ≡ Some t
    → (any_block ts ≡ false) ⊎ (has_block (task_under k ts) ≡ true) → any_block (tasks_but t.number ts) ≡ false
others_closed k newest ts t gated there (inl none) = closed_but t.number ts none
others_closed k newest ts t gated there (inr opened) = by_number (k == newest) refl
  where
    by_number : (b : Bool) → (k == newest) ≡ b → any_block (tasks_but t.number ts) ≡ false
    by_number true is = subst (λ (n : ℕ). any_block (tasks_but n ts) ≡ false) (sym (under_number k ts t there ∙ same_number k newest is))
        (closed_but_newest 0 newest ts gated)
    by_number false other = absurd (true≢false (sym opened ∙ other_closed k 0 newest ts gated other))

-- The tasks that wait, one by one: what the code does in its map is what the definitions do in their list.
use Rattle.std.proofs.Common.{◌≡◌, ◌∙◌, sym, refl, ap, subst, ℕ, ◌+◌, List, [], ◌∷◌, ◌++◌, true, false, true≢false, arith}
use Rattle.std.specs.Prelude.{Bool, Some, None, unwrap_or, ◌==◌, if◌then◌else◌}
use Rattle.std.specs.Option.{is_none}
use Rattle.std.proofs.lemmas.Bool.Decides.{nat_tests}
use Rattle.timeline.specs.Object.{Life, OpenTask, task_under, tasks_but}
use Rattle.object_calls.specs.Numbered.{AreAtMost, under, others}
use Rattle.front_turns.specs.Paused.{Paused}
use Rattle.front_turns.specs.Held.{AreHeld, IsHeld, IsPaused, blocks_in}
use Rattle.front_turns.specs.declared.object.Held.{Held}

pub held_too : {T : Type 0} (see : T → Paused) (l : Life) (hs : List (ℕ × Held T)) (ts : List OpenTask) (h : ℕ × Held T) (t : OpenTask)
    → AreHeld see l hs ts → IsHeld see l h t → AreHeld see l (hs ++ h ∷ []) (ts ++ t ∷ [])
held_too see l [] [] h t held last = (last, tt)
held_too see l [] (u ∷ ts) h t held last = elim held [ ]
held_too see l (g ∷ hs) [] h t held last = elim held [ ]
held_too see l (g ∷ hs) (u ∷ ts) h t held last = (held.0, held_too see l hs ts h t held.1 last)

pub blocks_too : (ts : List OpenTask) (t : OpenTask) → blocks_in (ts ++ t ∷ []) ≡ (if t.block then 1 else 0) + blocks_in ts
blocks_too [] t = refl
blocks_too (u ∷ ts) t =
    let rest = blocks_too ts t in
    let here : ℕ = if u.block then 1 else 0 in
    let more : ℕ = if t.block then 1 else 0 in
    let sums : here + (more + blocks_in ts) ≡ more + (here + blocks_in ts) = omega arith in
    ap (λ (n : ℕ). here + n) rest ∙ sums

-- The task of a number is the held one, and the others are the others.
pub record IsUnder {T : Type 0} (see : T → Paused) (l : Life) (number : ℕ) (h : Held T) (hs : List (ℕ × Held T)) (ts : List OpenTask) : Type 0 where
  pub task : OpenTask
  pub there : task_under number ts ≡ Some task
  pub number_is : task.number ≡ number
  pub paused : IsPaused l (see h.task) h.running task
  pub rest : AreHeld see l (others number hs) (tasks_but number ts)
  pub blocks : blocks_in ts ≡ (if task.block then 1 else 0) + blocks_in (tasks_but number ts)

same_number : (a b : ℕ) → (a == b) ≡ true → a ≡ b
same_number a b h = grind (arith, nat_tests, h)

swap_sums : (a b c d : ℕ) → c ≡ b + d → a + c ≡ b + (a + d)
swap_sums a b c d e = omega (arith, e)

none_is : {X : Type 0} (x : X) → None ≡ Some x → ⊥
none_is x e = true≢false (ap (λ o. is_none o) e)

some_is : {X : Type 0} (x y : X) → Some x ≡ Some y → x ≡ y
some_is x y e = ap (λ o. unwrap_or o x) e

pub found_under : {T : Type 0} (see : T → Paused) (l : Life) (number : ℕ) (h : Held T) (hs : List (ℕ × Held T)) (ts : List OpenTask)
    → AreHeld see l hs ts → under number hs ≡ Some h → IsUnder see l number h hs ts
found_under see l number h [] ts held there = absurd (none_is h there)
found_under see l number h (g ∷ hs) [] held there = elim held [ ]
found_under {T} see l number h (g ∷ hs) (u ∷ ts) held there =
    at_first (g.0 == number) refl (λ e. found_under see l number h hs ts held.1 e)
  where
    at_first : (b : Bool) → (g.0 == number) ≡ b → (under number hs ≡ Some h → IsUnder see l number h hs ts) → IsUnder see l number h (g ∷ hs) (u ∷ ts)
    at_first true here later =
        let same : (u.number == number) ≡ true = ap (λ (n : ℕ). n == number) held.0.number ∙ here in
        let is : g.1 ≡ h = some_is g.1 h (sym (ap (λ (c : Bool). if c then Some g.1 else under number hs) here) ∙ there) in
        record {
          task = u;
          there = rw same refl;
          number_is = same_number u.number number same;
          paused = subst (λ (x : Held T). IsPaused l (see x.task) x.running u) is held.0.paused;
          rest = rw (same, here) held.1;
          blocks = rw same refl;
        }
    at_first false other later =
        let same : (u.number == number) ≡ false = ap (λ (n : ℕ). n == number) held.0.number ∙ other in
        let f = later (sym (ap (λ (c : Bool). if c then Some g.1 else under number hs) other) ∙ there) in
        record {
          task = f.task;
          there = rw same f.there;
          number_is = f.number_is;
          paused = f.paused;
          rest = rw (same, other) (held.0, f.rest);
          blocks = rw same (swap_sums (if u.block then 1 else 0) (if f.task.block then 1 else 0) (blocks_in ts) (blocks_in (tasks_but number ts)) f.blocks);
        }

pub none_under_too : {T : Type 0} (see : T → Paused) (l : Life) (number : ℕ) (hs : List (ℕ × Held T)) (ts : List OpenTask)
    → AreHeld see l hs ts → under number hs ≡ None → task_under number ts ≡ None
none_under_too see l number [] [] held none = refl
none_under_too see l number [] (u ∷ ts) held none = elim held [ ]
none_under_too see l number (g ∷ hs) [] held none = elim held [ ]
none_under_too see l number (g ∷ hs) (u ∷ ts) held none =
    at_first (g.0 == number) refl (λ e. none_under_too see l number hs ts held.1 e)
  where
    at_first : (b : Bool) → (g.0 == number) ≡ b → (under number hs ≡ None → task_under number ts ≡ None) → task_under number (u ∷ ts) ≡ None
    at_first true here later = absurd (none_is g.1 (sym none ∙ ap (λ (c : Bool). if c then Some g.1 else under number hs) here))
    at_first false other later =
        let same : (u.number == number) ≡ false = ap (λ (n : ℕ). n == number) held.0.number ∙ other in
        rw same (later (sym (ap (λ (c : Bool). if c then Some g.1 else under number hs) other) ∙ none))

-- Where none waits under the number, none is taken out.
pub none_out : {X : Type 0} (number : ℕ) (es : List (ℕ × X)) → under number es ≡ None → others number es ≡ es
none_out number [] none = refl
none_out {X} number (e ∷ es) none = at_first (e.0 == number) refl (λ h. none_out number es h)
  where
    at_first : (b : Bool) → (e.0 == number) ≡ b → (under number es ≡ None → others number es ≡ es) → others number (e ∷ es) ≡ e ∷ es
    at_first true here later = absurd (none_is e.1 (sym none ∙ ap (λ (c : Bool). if c then Some e.1 else under number es) here))
    at_first false other later =
        ap (λ (c : Bool). if c then es else e ∷ others number es) other
        ∙ ap (λ (left : List (ℕ × X)). e ∷ left) (later (sym (ap (λ (c : Bool). if c then Some e.1 else under number es) other) ∙ none))

pub at_most_others : {X : Type 0} (number made : ℕ) (es : List (ℕ × X)) → AreAtMost made es → AreAtMost made (others number es)
at_most_others number made [] h = tt
at_most_others {X} number made (e ∷ es) h = at_first (e.0 == number) refl (at_most_others number made es h.1)
  where
    at_first : (b : Bool) → (e.0 == number) ≡ b → AreAtMost made (others number es) → AreAtMost made (others number (e ∷ es))
    at_first true here rest = rw here h.1
    at_first false other rest = rw other (h.0, rest)

-- Steps that are charged, and steps that are left.
use Rattle.std.proofs.Common.{◌≡◌, ℕ, zero, suc, ◌+◌, ◌-◌, ◌<◌, ◌≤◌, nat_le, Bool, true, false, [], ◌∷◌, refl, sym, ap, ◌∙◌, arith}
use Rattle.std.proofs.lemmas.Bool.{leb-false, leb-true, le-leb, lt-leb}
use Rattle.script_mean.specs.Task as task
use Rattle.script_mean.specs.Task.{Env}
use Rattle.script_mean.specs.Turn.{Next, Run, State, either, exceed, on_value, pass}
use Rattle.script_steps.specs.Seen.{charged}

-- Steps that are left are taken.
pub charged_takes : (n : ℕ) (part : Run) (env : Env) (next : Next) (st : State) → n ≤ st.left
    → charged n part env next st ≡ part env next (record st { left = st.left - n })
charged_takes zero part env next st h = let same : st.left ≡ st.left - 0 = omega arith in ap (λ k. part env next (record st { left = k })) same
charged_takes (suc n) part env next st h =
    ap (λ b. either b pass exceed env (on_value (λ _. part) next) (record st { left = st.left - suc n })) (le-leb (suc n) st.left h)

-- More steps than are left end the turn.
pub charged_exceeds : (n : ℕ) (part : Run) (env : Env) (next : Next) (st : State) → st.left < n
    → charged n part env next st ≡ task.exceeded st.closed ∷ []
charged_exceeds zero part env next st h = absurd (omega (arith, h))
charged_exceeds (suc n) part env next st h =
    ap (λ b. either b pass exceed env (on_value (λ _. part) next) (record st { left = st.left - suc n })) (lt-leb (suc n) st.left h)

-- Parts that do the same do it behind the same steps.
either_same : (b : Bool) (p q : Run) (env : Env) (next : Next) (st : State) → p env next st ≡ q env next st
    → either b pass exceed env (on_value (λ _. p) next) st ≡ either b pass exceed env (on_value (λ _. q) next) st
either_same true p q env next st e = e
either_same false p q env next st e = refl

pub charged_same : (n : ℕ) (p q : Run) (env : Env) (next : Next) → ((st : State) → p env next st ≡ q env next st) → (st : State)
    → charged n p env next st ≡ charged n q env next st
charged_same zero p q env next e st = e st
charged_same (suc n) p q env next e st = either_same (nat_le (suc n) st.left) p q env next (record st { left = st.left - suc n }) (e _)

-- Steps that are charged one after another are charged at once.
both_in : (a b : ℕ) (part : Run) (env : Env) (next : Next) (st : State) → a ≤ st.left → (t : Bool) → nat_le b (st.left - a) ≡ t
    → charged a (charged b part) env next st ≡ charged (a + b) part env next st
both_in a b part env next st h true e =
    let k : b ≤ st.left - a = leb-true b (st.left - a) e in
    let same : st.left - a - b ≡ st.left - (a + b) = omega arith in
    charged_takes a (charged b part) env next st h
    ∙ charged_takes b part env next (record st { left = st.left - a }) k
    ∙ ap (λ n. part env next (record st { left = n })) same
    ∙ sym (charged_takes (a + b) part env next st (omega arith))
both_in a b part env next st h false e =
    let k : st.left - a < b = leb-false b (st.left - a) e in
    charged_takes a (charged b part) env next st h
    ∙ charged_exceeds b part env next (record st { left = st.left - a }) k
    ∙ sym (charged_exceeds (a + b) part env next st (omega arith))

both : (a b : ℕ) (part : Run) (env : Env) (next : Next) (st : State) (t : Bool) → nat_le a st.left ≡ t
    → charged a (charged b part) env next st ≡ charged (a + b) part env next st
both a b part env next st true e = both_in a b part env next st (leb-true a st.left e) (nat_le b (st.left - a)) refl
both a b part env next st false e =
    let k : st.left < a = leb-false a st.left e in
    charged_exceeds a (charged b part) env next st k ∙ sym (charged_exceeds (a + b) part env next st (omega arith))

pub charged_more : (a b : ℕ) (part : Run) (env : Env) (next : Next) (st : State) → charged a (charged b part) env next st ≡ charged (a + b) part env next st
charged_more a b part env next st = both a b part env next st (nat_le a st.left) refl

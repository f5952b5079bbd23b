-- A caller's key in the sorted maps tells it from all others.
use Rattle.std.proofs.Common.{◌≡◌, ◌∙◌, refl, ap, ℕ, cond, arith}
use Rattle.std.specs.Prelude.{Bool, ◌==◌, ◌&&◌, if◌then◌else◌, Some}
use Rattle.std.specs.Ordering.{nat_cmp, ordering_then, is_eq}
use Rattle.std.specs.declared.cmp.Ordering.{Ordering}
use Rattle.std.specs.declared.cmp.Ordering.TheVariants.{Less, Equal, Greater}
use Rattle.std.specs.BTreeMap.{BTreeMap, is_at, get, Updates}
use Rattle.std.proofs.lemmas.Bool.Decides.{nat_tests}
use Rattle.timeline.specs.Replies.{same_caller}
use Rattle.timeline.specs.declared.caller.Caller.{Caller}
use Rattle.timeline.specs.declared.caller.Caller.TheVariants.{Request, Object}
use Rattle.front_half.specs.ByCallers.{by_parts, kept_for}

same_number : (n k : ℕ) → is_at (nat_cmp n) k ≡ (k == n)
same_number n k = grind (arith, nat_tests)

eq_then : (r s : Ordering) → is_eq (ordering_then r s) ≡ (is_eq r && is_eq s)
eq_then Less s = refl
eq_then Equal s = refl
eq_then Greater s = refl

same_parts : (p q : ℕ × ℕ × ℕ) → is_at (by_parts p) q ≡ (q.0 == p.0 && q.1 == p.1 && q.2 == p.2)
same_parts p q =
    eq_then (ordering_then (nat_cmp p.0 q.0) (nat_cmp p.1 q.1)) (nat_cmp p.2 q.2)
    ∙ ap (λ (b : Bool). b && is_eq (nat_cmp p.2 q.2)) (eq_then (nat_cmp p.0 q.0) (nat_cmp p.1 q.1))
    ∙ (λ i. same_number p.0 q.0 i && same_number p.1 q.1 i && same_number p.2 q.2 i)

-- Something is kept for the call of this object, and what is kept for others stays.
pub call_put : {X : Type 0} (kept : X) (requests : BTreeMap ℕ X) (calls later : BTreeMap (ℕ × ℕ × ℕ) X) (slot incarnation number : ℕ)
    → Updates by_parts calls later (slot, incarnation, number) (Some kept) → (from : Caller)
    → kept_for from (record { requests = requests; calls = later })
    ≡ (if same_caller from (Object slot incarnation number) then Some kept else kept_for from (record { requests = requests; calls = calls }))
call_put kept requests calls later slot incarnation number put (Request q n) = refl
call_put kept requests calls later slot incarnation number put (Object s i n) =
    put.0 (s, i, n) ∙ ap (λ (b : Bool). cond b (Some kept) (get by_parts calls (s, i, n))) (same_parts (slot, incarnation, number) (s, i, n))

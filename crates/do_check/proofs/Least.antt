-- The least of some faults is one of them, and no_more of them is before it.
use Rattle.std.proofs.Common.{◌≡◌, ℕ, ◌<◌, ◌≤◌, Bool, true, false, cond, List, [], ◌∷◌, ◌++◌, ◌⊎◌, inl, inr, Option, Some, None, refl, sym, ap, ◌∙◌, subst, true≢false, arith, eqb, ltb}
use Rattle.std.specs.Prelude.{◌&&◌, ◌||◌}
use Rattle.std.proofs.lemmas.Bool.{eqb-true, ltb-true}
use Rattle.std.proofs.lemmas.Bool.Decides.{nat_tests}
use Rattle.do_check.proofs.Has.{Each, Has, here, more, no_more, of_each, there}
use Rattle.do_check.proofs.Refused.{fault_within}
use Rattle.do_check.proofs.Sound.{Real, and_both, or_cases, script_sound}
use Rattle.do_check.specs.First.{IsRefusal, is_before, kept, least}
use Rattle.do_check.specs.Parts.{script_faults}
use Rattle.do_check.specs.declared.fault.CheckFault.{CheckFault}
use Rattle.do_tree.specs.Faults.{IsFault, IsFaultless, IsFirstFault, IsNotAfter, rank}
use Rattle.do_tree.specs.Tree.{Script}
use Rattle.do_tree.specs.declared.kind.CheckKind.{CheckKind}
use Rattle.do_tree.specs.declared.kind.CheckKind.TheVariants as kind

abbrev NotAfter : CheckFault → CheckFault → Type 0
NotAfter f g = IsNotAfter f.place f.kind g.place g.kind

itself_not_after : (f : CheckFault) → NotAfter f f
itself_not_after f = inr (refl, omega arith)

not_after_trans : (f g h : CheckFault) → NotAfter f g → NotAfter g h → NotAfter f h
not_after_trans f g h (inl p) (inl q) = inl (omega arith)
not_after_trans f g h (inl p) (inr q) = inl (omega (arith, q.0))
not_after_trans f g h (inr p) (inl q) = inl (omega (arith, p.0))
not_after_trans f g h (inr p) (inr q) = inr (omega (arith, p.0, q.0), omega (arith, p.1, q.1))

when_before : (f g : CheckFault) → is_before f g ≡ true → NotAfter f g
when_before f g h = elim (or_cases (ltb f.place g.place) _ h) [
  | inl e ↦ inl (ltb-true f.place g.place e)
  | inr e ↦ let q = and_both (eqb f.place g.place) _ e in
      let p : rank f.kind < rank g.kind = ltb-true _ _ q.1 in
      inr (eqb-true f.place g.place q.0, omega arith)
]

not_before : (a b r q : ℕ) → (ltb a b || (eqb a b && ltb r q)) ≡ false → (b < a) ⊎ ((b ≡ a) × (q ≤ r))
not_before a b r q h = grind (arith, nat_tests)

when_not_before : (f g : CheckFault) → is_before f g ≡ false → NotAfter g f
when_not_before f g h = not_before f.place g.place (rank f.kind) (rank g.kind) h

-- The least of a fault and some more.
record First (g : CheckFault) (fs : List CheckFault) : Type 0 where
  first : CheckFault
  is : least (Some g) fs ≡ Some first
  has : Has (g ∷ fs) first
  before : NotAfter first g
  each : Each (NotAfter first) fs

skip : {f g h : CheckFault} {fs : List CheckFault} → Has (g ∷ fs) h → Has (g ∷ f ∷ fs) h
skip here = here
skip (there h) = there (there h)

first_step : (f g : CheckFault) (fs : List CheckFault) (b : Bool) → is_before f g ≡ b → First f fs → First g fs → First g (f ∷ fs)
first_step f g fs true e p q = record {
  first = p.first;
  is = ap (λ b. least (cond b (Some f) (Some g)) fs) e ∙ p.is;
  has = there p.has;
  before = not_after_trans p.first f g p.before (when_before f g e);
  each = more p.before p.each;
}
first_step f g fs false e p q = record {
  first = q.first;
  is = ap (λ b. least (cond b (Some f) (Some g)) fs) e ∙ q.is;
  has = skip q.has;
  before = q.before;
  each = more (not_after_trans q.first g f q.before (when_not_before f g e)) q.each;
}

first_of : (g : CheckFault) (fs : List CheckFault) → First g fs
first_of g [] = record { first = g; is = refl; has = here; before = itself_not_after g; each = no_more }
first_of g (f ∷ fs) = first_step f g fs (is_before f g) refl (first_of f fs) (first_of g fs)

-- Nothing is found where there is nothing.
none_found : (fs : List CheckFault) → least None fs ≡ None → fs ≡ []
none_found [] h = refl
none_found (f ∷ fs) h = cc (first_of f fs).is

some_found : (fs : List CheckFault) (f : CheckFault) → least None fs ≡ Some f → Has fs f × Each (NotAfter f) fs
some_found [] f h = cc
some_found (g ∷ fs) f h =
    let r = first_of g fs in
    let e : r.first ≡ f = cc (r.is) in
    subst (λ x. Has (g ∷ fs) x × Each (NotAfter x) (g ∷ fs)) e (r.has, more r.before r.each)

-- The least fault that the walk finds is the script's first.
pub first_fault : (s : Script) (f : CheckFault) → least None (script_faults s) ≡ Some f → IsFirstFault s f.place f.kind
first_fault s f h =
    let found = some_found (script_faults s) f h in
    record {
      is = of_each (script_sound s) found.0;
      first = λ at k fault. of_each found.1 (fault_within s at k fault);
    }

no_fault : {x : CheckFault} (fs : List CheckFault) → fs ≡ [] → Has fs x → ⊥
no_fault [] e h = elim h [ ]
no_fault (f ∷ fs) e h = cc

-- Where it finds no_more, the script has no_more.
pub faultless : (s : Script) → least None (script_faults s) ≡ None → IsFaultless s
faultless s h = λ at k fault. no_fault (script_faults s) (none_found (script_faults s) h) (fault_within s at k fault)

-- The answers of the call.
no_memory_fault : (s : Script) (at : ℕ) (k : CheckKind) → IsFault s at k → k ≡ kind.NoMemory → ⊥
no_memory_fault s at k is e = subst (λ x. IsFault s at x) e is

pub refusal : (s : Script) (f : CheckFault) → least None (script_faults s) ≡ Some f → IsRefusal s f
refusal s f h = let first = first_fault s f h in (λ other. first, λ memory. absurd (no_memory_fault s f.place f.kind first.is memory))

pub memory_refusal : (s : Script) → IsRefusal s (record { place = 0; kind = kind.NoMemory })
memory_refusal s = (λ other. absurd (other refl), λ memory. refl)

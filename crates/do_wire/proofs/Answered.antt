-- What the builders of lists, records and texts answer, as faults of JSON.
use Rattle.std.proofs.Common.{◌≡◌, ◌≢◌, ℕ, List, ◌<◌, ◌≤◌, ◌-◌, Result, Ok, Err, IfErr, inl, inr, sym, ap, ◌∙◌, subst, arith}
use Rattle.std.proofs.lemmas.Bool.{cases_lt, lt-ltb, le-ltb}
use Rattle.do_value.specs.Limits.{most_bytes, most_levels, told}
use Rattle.do_value.specs.Tree.{Tree, size_of, depth_of}
use Rattle.do_value.specs.Seen.{tree_of}
use Rattle.do_value.specs.Faults.{built, IsBuilt}
use Rattle.do_value.specs.declared.value.Value.{Value}
use Rattle.do_value.specs.declared.fault.BuildFault.{BuildFault}
use Rattle.do_value.specs.declared.fault.BuildFault.TheVariants.{TooLarge as TooBig, NoMemory as NoRoom}
use Rattle.do_value.proofs.Allowed.{allowed_within, allowed_is}
use Rattle.do_wire.specs.Reading.{wire_fault_of}
use Rattle.do_wire.specs.declared.fault.WireFault.{WireFault}
use Rattle.do_wire.specs.declared.fault.WireFault.TheVariants.{TooLarge, NoMemory}

-- the fault is want of memory, or that so many bytes are too many
abbrev pub IsSizeFault : ℕ → WireFault → Type 0
IsSizeFault n e = e ≢ NoMemory → (e ≡ TooLarge) × (most_bytes < n)

-- what is larger has the fault too
pub larger : {m n : ℕ} {e : WireFault} → m ≤ n → IsSizeFault m e → IsSizeFault n e
larger {m} {n} {e} le h = λ other. ((h other).0, omega (arith, le, (h other).1))

-- a `?` hands the fault on
pub handed_on : (r : Result Value WireFault) (e : WireFault) (n : ℕ) → (x : WireFault) × (r ≡ Err x) × (x ≡ e) → IsSizeFault n e → IfErr r (IsSizeFault n)
handed_on r e n p h = rw (p.1, p.2) h

-- what isn't built and nests no deeper than a value is too large
pub unbuilt : (v : Value) (t : Tree) (e : BuildFault) → Err e ≡ built v → tree_of v ≡ t → depth_of t ≤ most_levels → IsSizeFault (size_of t) (wire_fault_of e)
unbuilt v t e h same shallow =
    let not_deep = le-ltb most_levels (depth_of (tree_of v)) (subst (λ u. depth_of u ≤ most_levels) (sym same) shallow) in
    elim (cases_lt most_bytes (size_of (tree_of v))) [
      | inl large ↦
          let tested = lt-ltb _ _ large in
          let answer : built v ≡ Err (TooBig (told (size_of (tree_of v))) most_bytes) = rw (not_deep, tested) in
          let is : e ≡ TooBig (told (size_of (tree_of v))) most_bytes = cc in
          λ other. (ap wire_fault_of is, subst (λ u. most_bytes < size_of u) same large)
      | inr small ↦
          let tested = le-ltb _ _ small in
          let answer : built v ≡ Ok v = rw (not_deep, tested) in
          absurd cc
    ]

-- what is built is small enough
pub built_small : (v w : Value) (t : Tree) → Ok w ≡ built v → tree_of v ≡ t → (tree_of w ≡ t) × (size_of t ≤ most_bytes)
built_small v w t h same =
    let within = allowed_within (depth_of (tree_of v)) (size_of (tree_of v)) v w (sym h) in
    (ap tree_of (allowed_is (depth_of (tree_of v)) (size_of (tree_of v)) v (Ok w) h) ∙ same, subst (λ u. size_of u ≤ most_bytes) same within.1)

-- a key that is refused is want of memory or too large
pub text_fault : (n : ℕ) (e : BuildFault) → (most_bytes < n → ◌≡◌ {A = Result (List ℕ) BuildFault} (Err e) (Err (TooBig (told n) most_bytes))) → (n ≤ most_bytes → e ≡ NoRoom)
    → IsSizeFault n (wire_fault_of e)
text_fault n e large small = elim (cases_lt most_bytes n) [
  | inl lt ↦
      let refused = large lt in
      let is : e ≡ TooBig (told n) most_bytes = cc in
      λ other. (ap wire_fault_of is, lt)
  | inr le ↦ λ other. absurd (other (ap wire_fault_of (small le)))
]

-- a record that isn't built is want of memory or too large
pub record_unbuilt : (v : Value) (t : Tree) (e : BuildFault) → IsBuilt v (Err e) → tree_of v ≡ t → depth_of t ≤ most_levels → IsSizeFault (size_of t) (wire_fault_of e)
record_unbuilt v t e (inl h) same shallow = unbuilt v t e h same shallow
record_unbuilt v t e (inr h) same shallow =
    let is : e ≡ NoRoom = cc in
    λ other. absurd (other (ap wire_fault_of is))

-- and one that is built is small enough
pub record_small : (v w : Value) (t : Tree) → IsBuilt v (Ok w) → tree_of v ≡ t → (tree_of w ≡ t) × (size_of t ≤ most_bytes)
record_small v w t (inl h) same = built_small v w t h same
record_small v w t (inr h) same = absurd cc

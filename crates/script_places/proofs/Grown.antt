-- What a part that is put into a value does to its size and depth, and so to the answer of the limits.
use Rattle.std.proofs.Common.{◌+◌, ◌<◌, ◌≤◌, ◌⊎◌, max, is_err, refl, ap, inl, inr, arith}
use Rattle.std.specs.Prelude.{IsErr}
use Rattle.std.proofs.lemmas.Bool.{cases_lt, lt-ltb, le-ltb}
use Rattle.do_value.specs.Limits.{most_bytes, most_levels}
use Rattle.do_value.specs.Tree.{Tree, size_of, depth_of}
use Rattle.script_ops.specs.Errors.{within_limits}
use Rattle.script_ops.proofs.Bounded.{within_small}

-- The whole is deeper than the part, no deeper than it and what was before, and no smaller than it.
pub record IsGrown (t v whole : Tree) : Type 0 where
  pub deep : 1 + depth_of t ≤ depth_of whole
  pub shallow : depth_of whole ≤ max (depth_of v) (1 + depth_of t)
  pub large : size_of t ≤ size_of whole

-- A value passes the limits of depth or of size.
abbrev pub Passes : Tree → Type 0
Passes t = (most_levels < depth_of t) ⊎ (most_bytes < size_of t)

-- What passes the limits isn't within them,
pub refused_if : (t : Tree) → Passes t → IsErr (within_limits t)
refused_if t (inl deep) = let too = lt-ltb most_levels (depth_of t) deep in rw too refl
refused_if t (inr large) = elim (cases_lt most_levels (depth_of t)) [
  | inl deep ↦ let too = lt-ltb most_levels (depth_of t) deep in rw too refl
  | inr shallow ↦
      let not_deep = le-ltb most_levels (depth_of t) shallow in
      let too = lt-ltb most_bytes (size_of t) large in
      rw (not_deep, too) refl
]

-- and what isn't within them passes them.
pub passes_if : (t : Tree) → IsErr (within_limits t) → Passes t
passes_if t refused = elim (cases_lt most_levels (depth_of t)) [
  | inl deep ↦ inl deep
  | inr shallow ↦ elim (cases_lt most_bytes (size_of t)) [
    | inl large ↦ inr large
    | inr small ↦ absurd (let within = ap (λ r. is_err r) (within_small t shallow small) in cc)
  ]
]

-- Where a part passes the limits, the whole does.
passes_grown : (t v whole : Tree) → IsGrown t v whole → Passes t → Passes whole
passes_grown t v whole grown (inl deep) = inl (omega (arith, grown.deep))
passes_grown t v whole grown (inr large) = inr (omega (arith, grown.large))

pub refused_grown : (t v whole : Tree) → IsGrown t v whole → IsErr (within_limits t) → IsErr (within_limits whole)
refused_grown t v whole grown refused = refused_if whole (passes_grown t v whole grown (passes_if t refused))

-- The ends of slices, and slices of values.
use Rattle.std.proofs.Common.{◌≡◌, ℕ, ◌-◌, ◌≤◌, min, true, false, ℤ, pos, negsuc, Option, Some, List, [], length, take, drop, refl, sym, ap, subst, ◌∙◌, arith}
use lib.IntN.{nat_abs}
use lib.Signed.{lt_z}
use mir.Syntax.{w64}
use mir.Val.{SFits, to_z, of_z}
use Rattle.std.proofs.lemmas.Bool.{ltb-true}
use Rattle.std.proofs.lemmas.Int.{to_z-of_z}
use Rattle.std.proofs.lemmas.List.{drop-map}
use Rattle.std.specs.List.{take-map, slice_range}
use Rattle.do_value.specs.Tree.{Tree, trees_of, items}
use Rattle.do_value.specs.Seen.{tree_of, trees_in}
use Rattle.do_value.specs.declared.value.Value.{Value}
use Rattle.script_ops.specs.Errors.{within_limits}
use Rattle.script_ops.specs.Lists.{items_of, place_in, bound, cut}
use Rattle.script_ops.specs.Calls.{slice}
use Rattle.script_ops.proofs.Parts.{items_back, count_is}
use Rattle.script_ops.proofs.Bounded.{slice_within}
use Rattle.do_value.specs.Sound.{IsValue}

below_plain : (count : ℕ) (z : ℤ) → lt_z z (pos 0) ≡ true → count - nat_abs z ≡ place_in count z
below_plain count (pos k) lt = absurd (let none = ltb-true k 0 lt in omega arith)
below_plain count (negsuc k) lt = omega arith

above_plain : (count : ℕ) (z : ℤ) → lt_z z (pos 0) ≡ false → min count (nat_abs z) ≡ place_in count z
above_plain count (pos k) lt = refl
above_plain count (negsuc k) lt = absurd (cc)

-- a place below 0, and another, in the code's 64 bits
pub place_below : (count : ℕ) (n z : ℤ) → SFits w64 n → n ≡ z → lt_z (to_z w64 (of_z w64 n)) (pos 0) ≡ true → count - nat_abs (to_z w64 (of_z w64 n)) ≡ place_in count z
place_below count n z fits same lt =
    let plain : to_z w64 (of_z w64 n) ≡ z = to_z-of_z w64 n fits ∙ same in
    ap (λ y. count - nat_abs y) plain ∙ below_plain count z (subst (λ y. lt_z y (pos 0) ≡ true) plain lt)

pub place_above : (count : ℕ) (n z : ℤ) → SFits w64 n → n ≡ z → lt_z (to_z w64 (of_z w64 n)) (pos 0) ≡ false → min count (nat_abs (to_z w64 (of_z w64 n))) ≡ place_in count z
place_above count n z fits same lt =
    let plain : to_z w64 (of_z w64 n) ≡ z = to_z-of_z w64 n fits ∙ same in
    ap (λ y. min count (nat_abs y)) plain ∙ above_plain count z (subst (λ y. lt_z y (pos 0) ≡ false) plain lt)

-- a slice of values has the slice of their trees
pub slice_trees : (vs : List Value) (from to : ℕ) → trees_in (slice_range vs from to) ≡ slice_range (trees_in vs) from to
slice_trees vs from to = sym (ap (take (to - from)) (drop-map tree_of from vs) ∙ take-map tree_of (to - from) (drop from vs))

-- a slice that runs backwards is empty
pub slice_none : {X : Type 0} (xs : List X) (from to : ℕ) → to ≤ from → slice_range xs from to ≡ []
slice_none xs from to le = let none : to - from ≡ 0 = omega arith in rw none refl

-- what is cut out of a list's values is its slice
pub slice_is : (vs : List Value) (list : List Tree) (from to : ℕ) (start end : Tree) → trees_in vs ≡ list → IsValue (items list)
    → ◌≡◌ {A = Option ℕ} (Some from) (bound (length vs) 0 start) → ◌≡◌ {A = Option ℕ} (Some to) (bound (length vs) (length vs) end)
    → within_limits (items (slice_range (trees_in vs) from to)) ≡ slice (items list) start end
slice_is vs list from to start end same value first second =
    let all = items_of (trees_of list) in
    let whole : trees_in vs ≡ all = same ∙ sym (items_back list) in
    ap (λ ts. within_limits (items (slice_range ts from to))) whole
    ∙ slice_within all from to (subst (λ ts. IsValue (items ts)) (sym (items_back list)) value) ∙ ap (λ b. cut all b (Some to)) first
    ∙ ap (λ b. cut all (bound (length vs) 0 start) b) second ∙ ap (λ n. cut all (bound n 0 start) (bound n n end)) (sym (count_is vs list same))

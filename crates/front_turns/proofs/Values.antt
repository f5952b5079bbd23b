-- A value is that of its tree.
use Rattle.std.proofs.Common.{◌≡◌, ◌∙◌, refl, sym, ap}
use Rattle.std.specs.Prelude.{Result, Ok, Err, IfOk}
use Rattle.do_value.specs.Seen.{tree_of}
use Rattle.do_value.specs.Tree.{Tree}
use Rattle.do_value.specs.declared.value.Value.{Value}
use Rattle.do_value.specs.declared.value.Value.TheVariants.{Undefined, Null, Bool as Truth, Num, Text, List as Listed, Rec}
use Rattle.script_ops.proofs.Parts.{items_back, fields_back}
use Rattle.script_mean.specs.Storing.{value_of}

pub value_back : (v : Value) → value_of (tree_of v) ≡ v
value_back Undefined = refl
value_back Null = refl
value_back (Truth b) = refl
value_back (Num z) = refl
value_back (Text bytes) = refl
value_back (Listed ts) = ap Listed (items_back ts)
value_back (Rec ps) = ap Rec (fields_back ps)

-- The value that was made of a tree, where it was made.
pub back_of : {E : Type 0} (t : Tree) (r : Result Value E) → IfOk r (λ v. tree_of v ≡ t) → IfOk r (λ v. v ≡ value_of t)
back_of t (Ok v) e = sym (value_back v) ∙ ap value_of e
back_of t (Err f) e = tt

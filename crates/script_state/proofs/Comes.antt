-- What answers give.
use Rattle.std.proofs.Common.{◌≡◌, ℕ, List, length, min, take, Option, Some, Result, Ok, Err, IfOk, refl, sym, ap, ◌∙◌}
use Rattle.std.specs.Prelude.{Bool, true, false, if◌then◌else◌}
use Rattle.std.specs.List.{All}
use Rattle.std.proofs.lemmas.List.{take_min}
use Rattle.std.proofs.lemmas.List.Elements.{All-take}
use Rattle.do_value.specs.Tree.{Tree}
use Rattle.do_value.specs.Seen.{tree_of}
use Rattle.do_value.specs.declared.value.Value.{Value}
use Rattle.storage_map.specs.declared.answer.Reading.{Reading}
use Rattle.storage_map.specs.declared.answer.Reading.TheVariants.{One, Pairs, Alarm, Count}
use Rattle.storage_map.specs.declared.op.Op.{Op}
use Rattle.storage_map.specs.declared.ask.StoreAsk.{StoreAsk}
use Rattle.storage_txn.specs.Overlay.{view}
use Rattle.storage_txn.specs.Writes.{IsOnKey, ops_of}
use Rattle.script_ops.specs.Answers.{Answers}
use Rattle.script_ops.specs.declared.fault.OpFault.{OpFault}
use Rattle.script_ops.specs.declared.fault.OpFault.TheVariants.{Throw, NoMemory}
use Rattle.script_mean.specs.Answers as answers
use Rattle.script_mean.specs.Answers.{completed_by, found}
use Rattle.script_mean.specs.Calls.{writes_of}
use Rattle.script_mean.specs.Task.{this}
use Rattle.script_steps.proofs.Begun.{if_ok}
use Rattle.script_steps.specs.Seen.{outcome_of}
use Rattle.script_steps.specs.declared.focus.Outcome.{Outcome}
use Rattle.script_state.specs.Places.{IsEnd}

-- An operator's answer ends as what it means.
pub comes_to : (meant : Result Tree Tree) (answer : Result Value OpFault) (o : Outcome) → Answers meant answer → IsEnd answer o → answers.outcome_of meant ≡ outcome_of o
comes_to meant (Ok v) o is end = ap answers.outcome_of is ∙ sym end
comes_to meant (Err (Throw v)) o is end = ap answers.outcome_of is ∙ sym end
comes_to meant (Err NoMemory) o is end = absurd end

-- A value that a write was given is what its completion gives, whatever was counted.
pub this_given : (tail : ℕ) (v : Tree) (r : Reading) → completed_by tail (this v) r ≡ v
this_given tail v (One x) = refl
this_given tail v (Pairs ps) = refl
this_given tail v (Alarm a) = refl
this_given tail v (Count n) = refl

-- The first of the operations.
pub first_ops : (n : ℕ) (ops : List Op) → take (min n (length ops)) ops ≡ take n ops
first_ops n ops = take_min n ops

pub first_keyed : (n : ℕ) (ops : List Op) → All IsOnKey ops → All IsOnKey (take n ops)
first_keyed n ops all = All-take IsOnKey n ops all

-- What a delete finds, through the first of the operations of a transaction that is there.
pub found_ends : (made : Option (Option (List Op))) (txn : Option (List Op)) (n : ℕ) (ask : StoreAsk) (below reading : Reading) (v : Value)
    → made ≡ Some txn → reading ≡ view (take n (ops_of txn)) ask below → tree_of v ≡ found reading
    → answers.gave (found (view (take n (writes_of made)) ask below)) ≡ answers.gave (tree_of v)
found_ends made txn n ask below reading v is read told =
    ap (λ t. answers.gave (found (view (take n (writes_of t)) ask below))) is ∙ ap (λ x. answers.gave (found x)) (sym read) ∙ ap answers.gave (sym told)

-- A reading of the kind that was asked gives what is read in it, one of another kind something else.
pub of_kind : {E : Type 0} (k b : Bool) (x y : answers.Outcome) (r : Result Outcome E) → k ≡ b → k ≡ true
    → IfOk r (λ o. x ≡ outcome_of o) → IfOk r (λ o. (if b then x else y) ≡ outcome_of o)
of_kind k b x y r same is = if_ok r (λ o end. ap (λ (z : Bool). if z then x else y) (sym same ∙ is) ∙ end)

pub of_another_kind : (k b : Bool) (x y : answers.Outcome) → k ≡ b → k ≡ false → (if b then x else y) ≡ y
of_another_kind k b x y same is = ap (λ (z : Bool). if z then x else y) (sym same ∙ is)

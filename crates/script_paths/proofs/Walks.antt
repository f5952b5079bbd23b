-- How paths go on, by the point that they have come to.
use Rattle.std.proofs.Common.{◌≡◌, ℕ, ◌≤◌, Bool, Result, IfOk, sym, ap, subst, ◌∙◌}
use Rattle.do_tree.specs.Tree.{Links}
use Rattle.script_mean.specs.Calls.{Calls}
use Rattle.script_mean.specs.Meaning.{links}
use Rattle.script_mean.specs.Task.{Fields}
use Rattle.script_mean.specs.Turn.{Run}
use Rattle.script_steps.proofs.Begun.{if_ok}
use Rattle.script_steps.specs.Paths.{point_of}
use Rattle.script_steps.specs.Seen.{move_run}
use Rattle.script_steps.specs.Weight.{LeavesLess, walk_weight}
use Rattle.script_steps.specs.declared.focus.Move.{Move}
use Rattle.script_steps.specs.declared.path.Point.{Point}
use Rattle.script_paths.proofs.Onward.{less_more}
use Rattle.script_paths.specs.Reading.{UnfoldsOn}

-- What unfolds so whatever the fields are.
pub walks_by : {E : Type 0} (awaited : Bool) (p q : Point) → p ≡ q → (ls : Links) (fields : Fields) (r : Result Move E)
    → IfOk r (λ m. (calls : Calls) → links awaited calls (point_of q) ls ≡ move_run calls m)
    → IfOk r (UnfoldsOn fields (λ calls. links awaited calls (point_of p) ls))
walks_by awaited p q e ls fields r h =
    if_ok r (λ m g calls env next st here. ap (λ (x : Run). x env next st) (ap (λ x. links awaited calls (point_of x) ls) e ∙ g calls)) h

-- What is left, by the point.
pub walks_less : {E : Type 0} (p q : Point) → p ≡ q → (ls : Links) (k : ℕ) → k ≤ walk_weight q ls → (r : Result Move E)
    → IfOk r (LeavesLess k) → IfOk r (LeavesLess (walk_weight p ls))
walks_less p q e ls k h r g = subst (λ x. IfOk r (LeavesLess (walk_weight x ls))) (sym e) (less_more k (walk_weight q ls) h r g)

-- How the parts of paths and of writes go on with the value of the part inside them.
use Rattle.std.proofs.Common.{◌≡◌, Bool, List, Ok, Err, ap}
use Rattle.do_value.specs.Tree.{Tree}
use Rattle.do_value.specs.declared.operator.BinOp.{BinOp}
use Rattle.do_tree.specs.Tree.{Links}
use Rattle.script_mean.specs.Answers.{gave, threw}
use Rattle.script_mean.specs.Calls.{Calls}
use Rattle.script_mean.specs.Frames.{to_index, to_update}
use Rattle.script_mean.specs.Meaning.{links}
use Rattle.script_mean.specs.Paths.{holds}
use Rattle.script_mean.specs.Places.{Root, Step, element, put, write}
use Rattle.script_mean.specs.Turn.{ends, of, ◌>>=◌}
use Rattle.script_ops.specs.Binary.{binary}
use Rattle.script_steps.specs.Seen.{handed}

module _ (calls : Calls) where
  -- A path goes on from the item that its index names.
  pub index_goes : (awaited : Bool) (v i part : Tree) (ls : Links) → element v i ≡ Ok part
      → handed calls (to_index awaited v ls) (gave i) ≡ links awaited calls (holds part) ls
  index_goes awaited v i part ls e = ap (λ r. of r >>= (λ p. links awaited calls (holds p) ls)) e

  -- It throws where the index names none.
  pub index_throws : (awaited : Bool) (v i error : Tree) (ls : Links) → element v i ≡ Err error
      → handed calls (to_index awaited v ls) (gave i) ≡ ends (threw error)
  index_throws awaited v i error ls e = ap (λ r. of r >>= (λ p. links awaited calls (holds p) ls)) e

  -- A place has what the operator makes of its old value and the right side.
  pub update_writes : (root : Root) (ss : List Step) (o : BinOp) (old v new : Tree) → binary o old v ≡ Ok new
      → handed calls (to_update root ss o old) (gave v) ≡ write root ss (put new)
  update_writes root ss o old v new e = ap (λ r. of r >>= (λ n. write root ss (put n))) e

  -- It keeps its value where the operator throws.
  pub update_fails : (root : Root) (ss : List Step) (o : BinOp) (old v error : Tree) → binary o old v ≡ Err error
      → handed calls (to_update root ss o old) (gave v) ≡ ends (threw error)
  update_fails root ss o old v error e = ap (λ r. of r >>= (λ n. write root ss (put n))) e

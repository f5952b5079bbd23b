-- How paths go on from parts of values.
use Rattle.std.proofs.Common.{◌≡◌, Bool, Result, Ok, Err, ap}
use Rattle.do_value.specs.Tree.{Tree}
use Rattle.do_tree.specs.Tree.{Links}
use Rattle.script_mean.specs.Answers.{threw}
use Rattle.script_mean.specs.Calls.{Calls}
use Rattle.script_mean.specs.Meaning.{links}
use Rattle.script_mean.specs.Paths.{holds}
use Rattle.script_mean.specs.Turn.{ends}
use Rattle.script_paths.specs.Onward.{part_on}

-- A part that is there is what the path goes on from.
pub part_is : (awaited : Bool) (calls : Calls) (r : Result Tree Tree) (t : Tree) (ls : Links) → r ≡ Ok t → part_on awaited calls r ls ≡ links awaited calls (holds t) ls
part_is awaited calls r t ls e = ap (λ x. part_on awaited calls x ls) e

-- What is thrown in its place ends the path.
pub part_throws : (awaited : Bool) (calls : Calls) (r : Result Tree Tree) (t : Tree) (ls : Links) → r ≡ Err t → part_on awaited calls r ls ≡ ends (threw t)
part_throws awaited calls r t ls e = ap (λ x. part_on awaited calls x ls) e

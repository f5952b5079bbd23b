use Rattle.std.proofs.Common.{ℕ, List, ap, ◌∙◌}
use Rattle.std.specs.FinMap.{from_entries}
use Rattle.do_value.specs.declared.value.Value.{Value}
use Rattle.storage_map.specs.Contents.{Values}
use Rattle.storage_txn.proofs.Directions.{turned_sorted, same_told}
use Rattle.storage_txn.proofs.left.PairsLeft.new.Goals as goal

pub returns-clause-sorted : goal.returns-clause-sorted
returns-clause-sorted c = turned_sorted c.ascends-ascending.result c.args.reverse c.is_backward.result c.as_slice-pairs.result.now c.ascends-ascending.ensures c.is_backward.ensures

pub returns-clause-same : goal.returns-clause-same
returns-clause-same c =
    let told : List (List ℕ × Value) → Values = λ ps. from_entries ps in
    same_told c.ascends-ascending.result c.is_backward.result c.as_slice-pairs.result.now c.ascends-ascending.ensures
    ∙ ap told c.as_slice-pairs.ensures.pairs

use Rattle.std.proofs.Common.{◌≡◌, ◌++◌, length}
use Rattle.storage_map.specs.Orders.{IsOrderly}
use Rattle.storage_map.specs.declared.answer.Reading.TheVariants.{Pairs}
use Rattle.storage_map.specs.declared.ask.StoreAsk.TheVariants.{List as Listed}
use Rattle.storage_txn.specs.Overlay.{view}
use Rattle.storage_txn.proofs.overlay.copied.Given as goal

-- the pairs so far and those to be lent are the listing
abbrev pub invariant-loop-key : goal.invariant-loop-key
invariant-loop-key l = record {
  built : Pairs (l.pairs.items ++ l.merged) ≡ view l.ops (Listed l.options) (Pairs l.below);
  order : IsOrderly (l.pairs.items ++ l.merged);
}

abbrev pub decreases-loop-key : goal.decreases-loop-key
decreases-loop-key l = length l.merged

use Rattle.std.proofs.Common.{false, arith}
use Rattle.storage_txn.proofs.Directions.{short_toward, first_told}
use Rattle.storage_txn.proofs.left.ascends.Goals as goal

pub returns-then-pairs-lt2 : goal.returns-then-pairs-lt2
returns-then-pairs-lt2 c = short_toward false c.args.pairs.now (omega arith)

pub returns : goal.returns
returns c = first_told c.args.pairs.now c.index-pairs-0.result c.index-pairs-1.result c.rises.result c.requires (omega arith) c.rises.ensures

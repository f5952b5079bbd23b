use Rattle.storage_txn.specs.Walked.{left_of}
use Rattle.storage_txn.proofs.Listing.{merged_view, merged_order}
use Rattle.storage_txn.proofs.merged.Merged.new.Goals as goal

pub returns-clause-listed : goal.returns-clause-listed
returns-clause-listed c = merged_view c.args.options.now c.args.below.now c.args.ops.now (left_of c.new.result) c.new.ensures.left

pub returns-clause-order : goal.returns-clause-order
returns-clause-order c = merged_order c.args.options.now c.args.below.now c.args.ops.now (left_of c.new.result) c.new.ensures.left

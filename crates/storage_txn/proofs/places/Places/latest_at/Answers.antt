use Rattle.storage_txn.specs.Touched.{through}
use Rattle.storage_txn.proofs.Placing.{latest_of}
use Rattle.storage_txn.proofs.places.Places.latest_at.Goals as goal

pub returns : goal.returns
returns c = λ old. latest_of c.args.ops.now c.args.self.now.count c.args.key.now old (through c.placed.result old) (through c.after_ops.result old) (c.placed.ensures old) (c.after_ops.ensures old)

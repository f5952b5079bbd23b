use Rattle.storage_txn.proofs.Listing.{key_read}
use Rattle.storage_txn.proofs.walk.key_at.Goals as goal

pub returns : goal.returns
returns c = key_read c.args.ops.now c.args.place c.index-ops-place.result _ c.requires c.index-ops-place.is c.key_of.ensures.key

use Rattle.std.proofs.Common.{refl, ◌∙◌}
use Rattle.storage_txn.proofs.Passing.{walk_start}
use Rattle.storage_txn.proofs.walk.Walk.new.Goals as goal

pub returns-clause-walk : goal.returns-clause-walk
returns-clause-walk c = walk_start _ c.requires (c.new.ensures ∙ c.within.ensures) c.new-2.ensures.sorted refl

use Rattle.std.proofs.Common.{ap}
use Rattle.std.specs.Prelude.{nat_eq}
use Rattle.std.specs.Map.{lookup}
use Rattle.indexmap.specs.IndexMap.{get}
use Rattle.placement.proofs.Indexes.{listed_none}
use Rattle.placement.proofs.directory.Directory.new.Goals as goal

pub returns : goal.returns
returns c = listed_none (get nat_eq c.new-3.result) c.args.slots (λ slot. ap (lookup (nat_eq slot)) c.new-3.ensures.empty)

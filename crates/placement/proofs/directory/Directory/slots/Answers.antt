use Rattle.std.proofs.Common.{length, nat_eq, sym, ap, ◌∙◌}
use Rattle.indexmap.specs.IndexMap.{get}
use Rattle.placement.proofs.Indexes.{length-listed}
use Rattle.placement.proofs.directory.Directory.slots.Goals as goal

pub returns : goal.returns
returns c = sym (length-listed (get nat_eq c.self.inside.objects) c.self.inside.slots) ∙ ap length c.self.view_is

use Rattle.std.proofs.Common.{sym, ap, ◌∙◌}
use Rattle.std.specs.Prelude.{nat_eq}
use Rattle.indexmap.specs.IndexMap.{get}
use Rattle.placement.specs.Slots.{Slots, object_at}
use Rattle.placement.proofs.Indexes.{object_at_is}
use Rattle.placement.proofs.directory.Directory.at.Goals as goal

pub returns : goal.returns
returns c =
    let at_slot = object_at_is (get nat_eq c.self.inside.objects) c.self.inside.slots c.self.invariant.within c.args.slot in
    c.get.ensures.value ∙ sym at_slot ∙ ap (λ (all : Slots). object_at all c.args.slot) c.self.view_is

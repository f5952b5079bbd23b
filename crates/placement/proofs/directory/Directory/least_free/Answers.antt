use Rattle.std.proofs.Common.{ap, sym, ◌∙◌}
use Rattle.std.specs.Prelude.{nat_eq}
use Rattle.indexmap.specs.IndexMap.{get}
use Rattle.placement.specs.Slots.{least_free}
use Rattle.placement.specs.Numbers.{same_numbers}
use Rattle.placement.proofs.Indexes.{least_free_is, none_free_is}
use Rattle.placement.proofs.directory.Directory.least_free.Goals.{then-self, else-self}
use Rattle.placement.proofs.directory.Directory.least_free.Goals as goal

pub returns-clause-free : goal.returns-clause-free
returns-clause-free c =
    let i = c.self.inside in
    let named = get same_numbers i.named in
    let objects = get nat_eq i.objects in
    let slot = c.first_without-self-inside.result in
    let first = c.first_without-self-inside.ensures in
    elim c.if-self.branch [
      | then-self w ↦ w.result-is ∙ sym (least_free_is i.slots i.passed i.texts named objects c.self.invariant slot first w.if-self.true) ∙ ap least_free c.self.view_is
      | else-self w ↦ w.result-is ∙ sym (none_free_is i.slots i.passed i.texts named objects c.self.invariant slot first w.if-self.false) ∙ ap least_free c.self.view_is
    ]

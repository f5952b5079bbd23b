use Rattle.std.proofs.Common.{◌≡◌, length, nat_eq, Err, sym, ap, subst, ◌∙◌}
use Rattle.indexmap.specs.IndexMap.{get}
use Rattle.placement.specs.declared.answers.PlaceFault.TheVariants.{NoSlot}
use Rattle.placement.specs.Slots.{Slots, IsFree}
use Rattle.placement.proofs.Places.{least_is_free}
use Rattle.placement.proofs.Indexes.{length-listed}
use Rattle.placement.proofs.directory.Directory.slot_of.Goals as goal

pub returns-in_default-least_free-clause-no_slot : goal.returns-in_default-least_free-clause-no_slot
returns-in_default-least_free-clause-no_slot c =
    let i = c.self.inside in
    let long : i.slots ≡ length c.args.self.now = sym (length-listed (get nat_eq i.objects) i.slots) ∙ ap length (c.self.view_is ∙ c.least_free.ensures.same) in
    λ none. ap (λ slots. Err (NoSlot slots)) long

pub put_copy-requires-clause-free : goal.put_copy-requires-clause-free
put_copy-requires-clause-free c =
    let slot = c.in-Some-least_free.slot in
    subst (λ (all : Slots). IsFree all slot) (sym c.least_free.ensures.same) (least_is_free c.args.self.now slot (sym c.in-Some-least_free.ensures.free))

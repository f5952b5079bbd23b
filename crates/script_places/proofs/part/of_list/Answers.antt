use Rattle.std.proofs.Common.{sym, ◌∙◌}
use Rattle.script_places.proofs.ReadBack.{property_length}
use Rattle.script_places.proofs.part.of_list.Goals as goal

pub returns-then-is_length : goal.returns-then-is_length
returns-then-is_length c =
    property_length c.args.items.now c.args.name.now c.count_items.result (sym c.is_length.ensures ∙ c.if-is_length.true) c.count_items.ensures

use Rattle.std.proofs.Common.{ap, ◌∙◌}
use Rattle.do_value.specs.Seen.{tree_of}
use Rattle.script_mean.specs.Places.{property}
use Rattle.script_places.proofs.ReadBack.{property_field}
use Rattle.script_places.proofs.part.named.Goals as goal

pub returns-in-Rec : goal.returns-in-Rec
returns-in-Rec c =
    ap (λ v. property (tree_of v) c.args.name.now) c.in-Rec.is ∙ property_field _ c.args.name.now _ c.field.ensures

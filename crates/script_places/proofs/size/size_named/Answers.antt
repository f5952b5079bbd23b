use Rattle.std.proofs.Common.{Ok, sym, subst}
use Rattle.do_value.specs.Seen.{tree_of}
use Rattle.script_mean.specs.Places.{named, with_part}
use Rattle.script_places.specs.Changes.{Sizes}
use Rattle.script_places.proofs.Sized.{sized_named}
use Rattle.script_places.proofs.size.size_named.Goals as goal

pub returns-in-Rec : goal.returns-in-Rec
returns-in-Rec c = λ t e.
    subst (λ v. Sizes (with_part (tree_of v) (named c.args.name.now) t) (Ok c.size_with_field.result)) (sym c.in-Rec.is)
    (sized_named c.in-Rec.fields c.args.name.now t c.size_with_field.result (c.size_with_field.ensures.size t e))

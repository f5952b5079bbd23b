use Rattle.std.proofs.Common.{sym, subst}
use Rattle.do_value.specs.Seen.{tree_of}
use Rattle.do_value.specs.Tree.{fields}
use Rattle.script_mean.specs.Places.{named}
use Rattle.script_places.specs.Changes.{IsTaken}
use Rattle.script_places.proofs.PutBack.{taken_named_if}
use Rattle.script_places.proofs.change.take_named.Goals as goal

pub returns-in-Rec : goal.returns-in-Rec
returns-in-Rec c =
    subst (λ v. IsTaken (tree_of v) (fields c.take_field.new.fields) (named c.args.name.now) c.take_field.result) (sym c.in-Rec.is)
    (taken_named_if c.in-Rec.fields c.take_field.new.fields c.args.name.now c.take_field.result c.take_field.ensures.taken c.take_field.ensures.rest c.take_field.ensures.no_room)

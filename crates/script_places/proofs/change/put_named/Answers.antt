use Rattle.std.proofs.Common.{sym, subst}
use Rattle.do_value.specs.Seen.{tree_of}
use Rattle.do_value.specs.Tree.{fields}
use Rattle.script_mean.specs.Places.{named, with_part}
use Rattle.script_places.specs.Changes.{Puts}
use Rattle.script_places.proofs.PutBack.{puts_named}
use Rattle.script_places.proofs.change.put_named.Goals as goal

pub returns-in-Rec : goal.returns-in-Rec
returns-in-Rec c =
    subst (λ v. Puts (with_part (tree_of v) (named c.args.name.now) (tree_of c.args.part)) (fields c.put_field.new.fields) c.put_field.result) (sym c.in-Rec.is)
    (puts_named c.in-Rec.fields c.args.name.now (tree_of c.args.part) _ c.put_field.result c.put_field.ensures)

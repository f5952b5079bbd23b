use Rattle.std.proofs.Common.{sym, subst}
use Rattle.do_value.specs.Seen.{tree_of}
use Rattle.do_value.specs.Tree.{fields}
use Rattle.script_mean.specs.Places.{indexed, with_part}
use Rattle.script_places.specs.Changes.{Puts}
use Rattle.script_places.proofs.PutBack.{puts_keyed}
use Rattle.script_places.proofs.change.put_into_record.Goals as goal

pub returns-in-Text : goal.returns-in-Text
returns-in-Text c =
    subst (λ i. Puts (with_part (fields c.args.fields.now) (indexed (tree_of i)) (tree_of c.args.part)) (fields c.put_field.new.fields) c.put_field.result) (sym c.in-Text.is)
    (puts_keyed c.args.fields.now c.in-Text.name (tree_of c.args.part) _ c.put_field.result c.put_field.ensures)

use Rattle.std.proofs.Common.{sym, subst}
use Rattle.do_value.specs.Seen.{tree_of}
use Rattle.do_value.specs.Tree.{fields}
use Rattle.script_mean.specs.Places.{indexed}
use Rattle.script_places.specs.Changes.{IsTaken}
use Rattle.script_places.proofs.PutBack.{taken_keyed_if}
use Rattle.script_places.proofs.change.take_from_record.Goals as goal

pub returns-in-Text : goal.returns-in-Text
returns-in-Text c =
    subst (λ i. IsTaken (fields c.args.fields.now) (fields c.take_field.new.fields) (indexed (tree_of i)) c.take_field.result) (sym c.in-Text.is)
    (taken_keyed_if c.args.fields.now c.take_field.new.fields c.in-Text.name c.take_field.result c.take_field.ensures.taken c.take_field.ensures.rest c.take_field.ensures.no_room)

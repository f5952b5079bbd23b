use Rattle.do_value.specs.Seen.{tree_of}
use Rattle.script_mean.specs.Places.{push as pushed}
use Rattle.script_places.specs.Steps.{steps_in}
use Rattle.script_steps.proofs.Begun.{if_ok}
use Rattle.script_state.proofs.Written.{own_wrote}
use Rattle.script_state.proofs.places.push_field.Goals as goal

pub returns : goal.returns
returns c =
    if_ok c.ended.result
    (λ o end.
    own_wrote c.args.name.now (steps_in c.args.steps.now) (pushed (tree_of c.args.value)) c.args.fields.now c.push_fields.new.fields c.push_fields.result o
    c.push_fields.ensures end)
    c.ended.ensures

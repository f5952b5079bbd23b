use Rattle.do_value.specs.Seen.{tree_of}
use Rattle.script_mean.specs.Places.{put}
use Rattle.script_places.specs.Steps.{steps_in}
use Rattle.script_steps.proofs.Begun.{if_ok}
use Rattle.script_state.proofs.Written.{own_wrote}
use Rattle.script_state.proofs.places.assign_field.Goals as goal

pub returns : goal.returns
returns c =
    if_ok c.ended.result
    (λ o end.
    own_wrote c.args.name.now (steps_in c.args.steps.now) (put (tree_of c.args.value)) c.args.fields.now c.assign_fields.new.fields c.assign_fields.result o
    c.assign_fields.ensures end)
    c.ended.ensures

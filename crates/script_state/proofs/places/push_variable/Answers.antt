use Rattle.do_value.specs.Seen.{tree_of}
use Rattle.script_mean.specs.Places.{push as pushed}
use Rattle.script_places.specs.Steps.{steps_in}
use Rattle.script_steps.proofs.Begun.{if_ok}
use Rattle.script_vars.specs.Seen.{env_of}
use Rattle.script_state.proofs.Written.{variable_set}
use Rattle.script_state.proofs.places.push_variable.Goals as goal

pub returns : goal.returns
returns c =
    if_ok c.ended.result
    (λ o end.
    variable_set c.args.name.now _ _ (steps_in c.args.steps.now) (pushed (tree_of c.args.value)) (env_of c.args.vars.now) (env_of c.take.new.self) (env_of c.set.new.self)
    c.in-Some.whole c.push_value-written.new.whole c.push_value-written.result o
    c.as_str.ensures c.as_str-2.ensures c.in-Some.ensures.value c.take.ensures.after c.push_value-written.ensures c.set.ensures end)
    c.ended.ensures

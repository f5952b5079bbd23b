use Rattle.std.proofs.Common.{ap, ◌∙◌, refl}
use Rattle.do_value.specs.Seen.{tree_of}
use Rattle.script_mean.specs.Places.{put, write}
use Rattle.script_places.specs.Steps.{steps_in}
use Rattle.script_steps.proofs.Begun.{if_ok}
use Rattle.script_steps.specs.Paths.{root_of}
use Rattle.script_vars.specs.Seen.{env_of}
use Rattle.script_state.specs.Seen.{state_of}
use Rattle.script_state.proofs.state.State.assign.Goals as goal

pub returns-in-Variable : goal.returns-in-Variable
returns-in-Variable c =
    if_ok c.assign_variable.result
    (λ o goes. λ next rs.
    ap (λ r. write (root_of r) (steps_in c.args.steps.now) (put (tree_of c.args.value)) (env_of c.args.self.now.vars) next (state_of c.args.self.now rs)) c.in-Variable.is
    ∙ goes next (state_of c.args.self.now rs))
    c.assign_variable.ensures

pub returns-in-Own : goal.returns-in-Own
returns-in-Own c =
    if_ok c.assign_field.result
    (λ o goes. λ next rs.
    ap (λ r. write (root_of r) (steps_in c.args.steps.now) (put (tree_of c.args.value)) (env_of c.args.self.now.vars) next (state_of c.args.self.now rs)) c.in-Own.is
    ∙ goes (env_of c.args.self.now.vars) next (state_of c.args.self.now rs) refl)
    c.assign_field.ensures

use Rattle.std.proofs.Common.{ap, ◌∙◌, refl, sym}
use Rattle.do_value.specs.Seen.{trees_in}
use Rattle.script_mean.specs.Places.{own, variable, write}
use Rattle.script_mean.specs.Places.{push as pushed}
use Rattle.script_ops.specs.Calls.{argument}
use Rattle.script_places.specs.Steps.{steps_in}
use Rattle.script_steps.proofs.Begun.{if_ok}
use Rattle.script_steps.specs.Paths.{root_of}
use Rattle.script_vars.specs.Seen.{env_of}
use Rattle.script_state.specs.Seen.{state_of}
use Rattle.script_state.proofs.state.State.push.Goals as goal

pub returns-in-Variable : goal.returns-in-Variable
returns-in-Variable c =
    if_ok c.push_variable.result
    (λ o goes. λ next rs.
    ap (λ r. write (root_of r) (steps_in c.args.steps.now) (pushed (argument 0 (trees_in c.args.args.items))) (env_of c.args.self.now.vars) next (state_of c.args.self.now rs)) c.in-Variable.is
    ∙ ap (λ t. write (variable c.in-Variable.name) (steps_in c.args.steps.now) (pushed t) (env_of c.args.self.now.vars) next (state_of c.args.self.now rs)) (sym c.first-value.ensures)
    ∙ goes next (state_of c.args.self.now rs))
    c.push_variable.ensures

pub returns-in-Own : goal.returns-in-Own
returns-in-Own c =
    if_ok c.push_field.result
    (λ o goes. λ next rs.
    ap (λ r. write (root_of r) (steps_in c.args.steps.now) (pushed (argument 0 (trees_in c.args.args.items))) (env_of c.args.self.now.vars) next (state_of c.args.self.now rs)) c.in-Own.is
    ∙ ap (λ t. write (own c.in-Own.name) (steps_in c.args.steps.now) (pushed t) (env_of c.args.self.now.vars) next (state_of c.args.self.now rs)) (sym c.first-value.ensures)
    ∙ goes (env_of c.args.self.now.vars) next (state_of c.args.self.now rs) refl)
    c.push_field.ensures

use Rattle.std.proofs.Common.{ap, ◌∙◌}
use Rattle.script_mean.specs.Frames.{written}
use Rattle.script_places.specs.Steps.{steps_in}
use Rattle.script_steps.proofs.Begun.{if_ok}
use Rattle.script_steps.specs.Paths.{root_of, writing_of}
use Rattle.script_vars.specs.Seen.{env_of}
use Rattle.script_paths.proofs.places.written.Goals as goal

pub returns-in-Assigns-clause-same : goal.returns-in-Assigns-clause-same
returns-in-Assigns-clause-same c =
    let env = env_of c.args.vars.now in
    if_ok c.assigned.result
    (λ m p calls next st here. ap (λ w. written calls (writing_of w) (root_of c.args.root) (steps_in c.args.steps.items) env next st) c.in-Assigns.is ∙ p calls next st)
    c.assigned.ensures.same

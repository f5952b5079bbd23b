use Rattle.std.proofs.Common.{ap, ◌∙◌}
use Rattle.script_mean.specs.Turn.{Run}
use Rattle.script_steps.proofs.Begun.{if_ok}
use Rattle.script_vars.specs.Seen.{env_of}
use Rattle.script_paths.proofs.begun.begin.Goals as goal

pub returns-clause-same : goal.returns-clause-same
returns-clause-same c =
    if_ok c.begin_bare.result (λ m p calls next st. ap (λ (r : Run). r (env_of c.args.vars.now) next st) (c.in_ok-awaited.ensures.same calls) ∙ p calls next st) c.begin_bare.ensures.same

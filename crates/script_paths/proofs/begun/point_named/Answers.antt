use Rattle.std.proofs.Common.{sym, ap, ◌∙◌}
use Rattle.script_mean.specs.Paths.{begun_by}
use Rattle.script_mean.specs.Turn.{bound}
use Rattle.script_steps.proofs.Begun.{if_ok}
use Rattle.script_vars.specs.Seen.{env_of}
use Rattle.script_paths.proofs.begun.point_named.Goals as goal

pub returns-in-Some : goal.returns-in-Some
returns-in-Some c =
    if_ok c.point_standing.result
    (λ point p. ap (λ b. begun_by c.args.name.now b) (ap (λ n. bound n (env_of c.args.vars.now)) (sym c.as_str.ensures) ∙ sym c.in-Some.ensures)
    ∙ p c.args.name.now) c.point_standing.ensures

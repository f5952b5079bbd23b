use Rattle.std.proofs.Common.{refl, arith}
use Rattle.script_steps.proofs.Begun.{if_ok}
use Rattle.script_steps.specs.declared.focus.Focus.TheVariants as focus
use Rattle.script_eval.proofs.machine.Machine.read_named.Goals as goal

pub returns : goal.returns
returns c = if_ok c.read_charged.result (λ p led. led (focus.Named c.args.name) (λ calls. refl, omega arith)) c.read_charged.ensures

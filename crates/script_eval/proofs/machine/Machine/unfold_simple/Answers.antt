use Rattle.std.proofs.Common.{◌≡◌, refl, arith}
use Rattle.std.proofs.lemmas.Grind.{common_steps}
use Rattle.script_steps.proofs.Begun.{if_ok}
use Rattle.script_steps.proofs.Turns.{write_begins}
use Rattle.script_steps.specs.declared.focus.Focus.TheVariants as focus
use Rattle.script_eval.proofs.machine.Machine.unfold_simple.Goals as goal

pub returns-in_default : goal.returns-in_default
returns-in_default c =
    let same : c.deref.result.now ≡ c.args.inner.now.value = grind (arith, common_steps) in
    if_ok c.write_charged.result
    (λ p led. led (focus.Simple c.args.inner.now) (λ calls. write_begins calls c.args.inner.now.value c.deref.result.now c.args.inner.now c.in_default.not-Nothing same refl, omega arith))
    c.write_charged.ensures

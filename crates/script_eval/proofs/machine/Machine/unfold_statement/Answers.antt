use Rattle.std.proofs.Common.{◌≡◌, refl, arith}
use Rattle.std.proofs.lemmas.Grind.{common_steps}
use Rattle.do_tree.specs.declared.stmt.Stmt.TheVariants as node
use Rattle.script_steps.proofs.Begun.{if_ok}
use Rattle.script_steps.proofs.Run.{block_begins, simple_begins}
use Rattle.script_steps.specs.declared.focus.Focus.TheVariants as focus
use Rattle.script_eval.proofs.AtOnce.{steps_same}
use Rattle.script_eval.specs.Machines.{leads_of}
use Rattle.script_eval.proofs.machine.Machine.unfold_statement.Goals as goal

pub returns-in-Simple : goal.returns-in-Simple
returns-in-Simple c =
    let is : c.args.stmt.now.value ≡ node.Simple c.in-Simple.inner = grind (arith, common_steps) in
    if_ok c.unfold_simple.result
    (λ p led. steps_same (focus.Run c.args.stmt.now) (focus.Simple c.in-Simple.inner) c.args.self.now c.unfold_simple.new.self (leads_of p c.unfold_simple.new.focus)
    (λ calls. simple_begins calls c.in-Simple.inner c.in-Simple.inner _ is refl) (omega arith) led)
    c.unfold_simple.ensures

pub returns-in-Block : goal.returns-in-Block
returns-in-Block c =
    let is : c.args.stmt.now.value ≡ node.Block c.in-Block.block = grind (arith, common_steps) in
    if_ok c.enter_charged.result
    (λ p led. led (focus.Run c.args.stmt.now) (λ calls. block_begins calls c.in-Block.block c.in-Block.block _ is refl, omega arith))
    c.enter_charged.ensures

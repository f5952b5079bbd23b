use Rattle.std.proofs.Common.{IfOk, subst}
use Rattle.do_tree.specs.Seen.{class_of}
use Rattle.script_eval.specs.Machines.{Steps, leads_of}
use Rattle.script_eval.proofs.machine.Machine.advance.Goals as goal

pub returns : goal.returns
returns c =
    subst (λ f. IfOk c.step.result (λ p. Steps (class_of c.args.class.now) f c.args.self.now c.step.new.self (leads_of p c.step.new.focus)))
    c.replace-part.ensures.value c.step.ensures

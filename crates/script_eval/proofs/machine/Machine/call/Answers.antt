use Rattle.std.proofs.Common.{refl}
use Rattle.do_tree.specs.Seen.{class_of}
use Rattle.script_steps.proofs.Begun.{if_ok}
use Rattle.script_steps.specs.declared.focus.Focus.TheVariants as focus
use Rattle.script_eval.proofs.Led.{step_leads}
use Rattle.script_eval.specs.Machines.{leads_of}
use Rattle.script_eval.proofs.machine.Machine.call.Goals as goal

pub returns : goal.returns
returns c =
    let old = c.args.self.now in
    let now = c.act_on_call.new.state in
    if_ok c.apply.result
    (λ p led. step_leads (class_of c.args.class.now) c.args.has_handler (focus.Call c.args.callee c.args.got) old (record old { state = now }) c.apply.new.self now c.in_ok-a.a
    (leads_of p c.apply.new.focus) c.requires.handler refl c.in_ok-a.ensures led)
    c.apply.ensures

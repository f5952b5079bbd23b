use Rattle.script_steps.specs.declared.path.Callee.TheVariants as callee
use Rattle.script_eval.proofs.Acted.{call_helps}
use Rattle.script_eval.proofs.calls.act_on_call.Goals as goal

pub returns-in-Object : goal.returns-in-Object
returns-in-Object c =
    call_helps c.args.has_handler c.args.callee (callee.Object c.in-Object.awaited c.in-Object.name) c.args.got c.args.state.now c.helper.result c.in-Object.is c.helper.ensures

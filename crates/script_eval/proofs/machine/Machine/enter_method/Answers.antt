use Rattle.script_eval.proofs.Helped.{called_body, put_calls}
use Rattle.script_eval.proofs.machine.Machine.enter_method.Goals as goal

pub returns : goal.returns
returns c =
    put_calls c.args.method.now c.args.awaited c.args.args c.args.self.now _ _ c.put_next.new.focus c.put_next.ensures
    (called_body c.args.method.now c.args.awaited c.args.args c.args.self.now c.in_ok-vars.vars _ _ c.in_ok-body.body _
    c.replace-caller.ensures.after c.replace-caller.ensures.value c.in_ok-push.ensures c.in_ok-body.ensures c.in_ok-vars.ensures)

use Rattle.script_eval.proofs.Called.{method_acts}
use Rattle.script_eval.proofs.calls.method_of.Goals as goal

pub returns : goal.returns
returns c =
    method_acts c.args.class c.args.method c.args.name c.args.got c.args.state.now c.call_object.new.state c.in_ok-call_object.field-0
    c.in_ok-call_object.ensures.same c.in_ok-call_object.ensures.ready

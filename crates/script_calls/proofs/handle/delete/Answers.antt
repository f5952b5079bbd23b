use Rattle.script_calls.proofs.Handles.{deleted_not}
use Rattle.script_calls.proofs.handle.delete.Goals as goal

pub returns-in_default : goal.returns-in_default
returns-in_default c = record {
  same = deleted_not c.args.ops.items c.args.gives c.args.state.now c.extend.new.state c.in_ok-extended.extended c.requires.counts c.in_ok-extended.ensures.same c.in_default.not-Gave;
  ready = tt;
}

use Rattle.std.proofs.Common.{◌≡◌, Bool, List}
use Rattle.do_tree.specs.Seen.{class_of}
use Rattle.script_mean.specs.Task.{Resume}
use Rattle.script_eval.specs.Machines.{IsDeep, to_go, turns_of}
use Rattle.script_eval.proofs.machine.Machine.turn.Given as goal

abbrev pub invariant-steps : goal.invariant-steps
invariant-steps l = record {
  deep : IsDeep l.self;
  same : (starts : Bool) (rs : List Resume) → turns_of (class_of l.class) starts l.fn.focus l.fn.self rs ≡ turns_of (class_of l.class) starts l.focus l.self rs;
}

abbrev pub decreases-steps : goal.decreases-steps
decreases-steps l = to_go l.focus l.self

use Rattle.std.proofs.Common.{◌≡◌, map, take}
use Rattle.front_half.specs.Leaving.{with_wait}
use Rattle.front_half.proofs.leaving.leave_calls.Given as goal

abbrev pub invariant-loop-caller : goal.invariant-loop-caller
invariant-loop-caller l = l.left.items ≡ map (with_wait l.served) (take l.caller-index l.callers)

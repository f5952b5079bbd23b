use Rattle.std.proofs.Common.{◌≡◌, ◌++◌, drop}
use Rattle.std.specs.List.{flat_map}
use Rattle.timeline.specs.Left.{left_event}
use Rattle.front_half.proofs.leaving.leave_deferred.Given as goal

-- the calls so far, and those in what is left
abbrev pub invariant-loop-event : goal.invariant-loop-event
invariant-loop-event l = l.left.items ++ flat_map left_event (drop l.event-index l.deferred) ≡ l.fn.left.items ++ flat_map left_event l.deferred

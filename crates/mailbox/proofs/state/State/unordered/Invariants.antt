use Rattle.std.proofs.Common.{◌≡◌, map}
use Rattle.std.specs.List.{flat_map}
use Rattle.timeline.specs.Finish as finish
use Rattle.mailbox.specs.Left.{seen_left}
use Rattle.mailbox.proofs.state.State.unordered.Given as goal

-- the lines so far are those of what was gone over
abbrev pub invariant-loop-slot : goal.invariant-loop-slot
invariant-loop-slot l = map seen_left l.lines.items ≡ flat_map (finish.left_line l.self) l.yielded

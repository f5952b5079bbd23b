use Rattle.std.proofs.Common.{◌≡◌, take}
use Rattle.timeline.specs.Replies.{resets_of}
use Rattle.front_half.proofs.unanswered.build_resets.Given as goal

abbrev pub invariant-loop-caller : goal.invariant-loop-caller
invariant-loop-caller l = l.bodies.items ≡ resets_of l.cause (take l.caller-index l.callers)

use Rattle.std.proofs.Common.{◌≡◌, ◌++◌, map}
use Rattle.timeline.specs.Steps.{batch}
use Rattle.front_turns.proofs.say.say_batches.Given as goal

abbrev pub invariant-loop-made : goal.invariant-loop-made
invariant-loop-made l = l.says.items ≡ l.fn.says.items ++ map batch l.yielded

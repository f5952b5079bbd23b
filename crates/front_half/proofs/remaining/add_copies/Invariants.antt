use Rattle.std.proofs.Common.{◌≡◌, ◌++◌}
use Rattle.front_half.proofs.remaining.add_copies.Given as goal

-- the copies so far, and what is left to copy
abbrev pub invariant-loop-event : goal.invariant-loop-event
invariant-loop-event l = l.events.items ++ l.event-iterator ≡ l.fn.events.items ++ l.more

use Rattle.std.proofs.Common.{◌≡◌}
use Rattle.std.specs.Option.{option_or}
use Rattle.timeline.specs.declared.caller.Caller.{Caller}
use Rattle.front_half.specs.ByCallers.{kept_for}
use Rattle.front_half.specs.Leaving.{first_wait}
use Rattle.front_half.proofs.leaving.find_served.Given as goal

-- whom a task so far serves, or one of those that are left
abbrev pub invariant-loop-number : goal.invariant-loop-number
invariant-loop-number g l = (from : Caller)
    → option_or (kept_for from l.served) (first_wait l.answers l.incarnation l.number-iterator from) ≡ first_wait l.answers l.incarnation l.object.tasks.entries from

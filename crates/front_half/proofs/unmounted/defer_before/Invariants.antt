use Rattle.std.proofs.Common.{◌≡◌, ◌++◌, ◌∷◌}
use Rattle.front_half.proofs.unmounted.defer_before.Given as goal

-- what is deferred so far, and what is left to copy
abbrev pub invariant-loop-other : goal.invariant-loop-other
invariant-loop-other l = l.deferred ++ l.other-iterator ≡ l.fn.event ∷ l.others

use Rattle.std.proofs.Common.{◌≡◌, ◌++◌, drop}
use Rattle.front_half.specs.Answering.{without_reply}
use Rattle.front_half.proofs.Answered.{callers_in}
use Rattle.front_half.proofs.unanswered.find_callers.Given as goal

-- the callers so far, and those in what is left
abbrev pub invariant-loop-logged : goal.invariant-loop-logged
invariant-loop-logged l = l.callers.items ++ without_reply l.answered (callers_in (drop l.logged-index l.delivered)) ≡ without_reply l.answered (callers_in l.delivered)

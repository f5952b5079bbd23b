use Rattle.std.proofs.Common.{◌≡◌, drop}
use Rattle.std.specs.Prelude.{◌||◌, is_some}
use Rattle.std.specs.List.{list_any}
use Rattle.timeline.specs.Replies.{same_caller}
use Rattle.timeline.specs.declared.caller.Caller.{Caller}
use Rattle.front_half.specs.ByCallers.{kept_for}
use Rattle.front_half.proofs.Answered.{answered_in}
use Rattle.front_half.proofs.unanswered.find_answered.Given as goal

-- whoever was noted so far or is answered in what is left
abbrev pub invariant-loop-entry : goal.invariant-loop-entry
invariant-loop-entry l = (from : Caller)
    → (is_some (kept_for from l.answered) || list_any (same_caller from) (answered_in (drop l.entry-index l.sent))) ≡ list_any (same_caller from) (answered_in l.sent)

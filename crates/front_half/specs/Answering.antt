-- Which calls have their reply, as a front finds them.
use Rattle.std.specs.Prelude.{Bool, not, is_some, List}
use Rattle.std.specs.List.{filter}
use Rattle.timeline.specs.declared.caller.Caller.{Caller}
use Rattle.front_half.specs.declared.by_caller.ByCaller.{ByCaller}
use Rattle.front_half.specs.ByCallers.{kept_for}

-- Something is kept for each caller who was answered.
abbrev pub waits_for_reply : {X : Type 0} → ByCaller X → Caller → Bool
waits_for_reply answered from = not (is_some (kept_for from answered))

abbrev pub without_reply : {X : Type 0} → ByCaller X → List Caller → List Caller
without_reply answered callers = filter (waits_for_reply answered) callers

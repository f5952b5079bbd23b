-- Which calls and fetches are let through. This project's profile.
use Rattle.std.specs.Prelude.{◌≤◌, ◌<◌, ℕ, Option, Some, None, Result, Ok, Err}
use Rattle.script_mean.specs.declared.answer.Answer.{Answer}
use Rattle.timeline.specs.Limits.{most_depth, most_calls}
use Rattle.script_ops.specs.Errors.{call_too_deep, too_many_calls}
use Rattle.timeline.specs.Steps.{throws}
use Rattle.object_calls.specs.declared.admission.CallFault.{CallFault}
use Rattle.object_calls.specs.declared.admission.CallFault.TheVariants.{Depth, TooManyCalls}

-- The depth is tested first.
abbrev pub IsRefused : CallFault → ℕ → ℕ → Type 0
IsRefused Depth depth made = most_depth < depth
IsRefused TooManyCalls depth made = (depth ≤ most_depth) × (most_calls ≤ made)

-- What the call throws.
abbrev pub thrown_for : {X : Type 0} → Result X CallFault → Option Answer
thrown_for (Ok _) = None
thrown_for (Err Depth) = Some (throws call_too_deep)
thrown_for (Err TooManyCalls) = Some (throws too_many_calls)

use Rattle.std.proofs.Common.{◌∙◌, ap, List, map}
use Rattle.timeline.specs.declared.caller.Caller.{Caller}
use Rattle.front_turns.specs.Held.{object_of}
use Rattle.front_half.specs.Leaving.{with_wait}
use Rattle.front_half.proofs.Waiting.{calls_left}
use Rattle.front_half.proofs.leaving.leave_delivered.Goals as goal

pub returns : goal.returns
returns g c = λ l ts same held.
    calls_left l (object_of c.args.object.now ts) c.args.deferred.now c.in_ok-served.served c.in_ok-callers.callers.items _ c.in_ok-left.left.items
    (c.in_ok-served.ensures l ts same held) c.in_ok-callers.ensures
    (c.in_ok-left.ensures ∙ ap (λ (callers : List Caller). map (with_wait c.in_ok-served.served) callers) c.as_slice.ensures.value)

use Rattle.std.proofs.Common.{◌∙◌, ap, ◌++◌}
use Rattle.std.specs.Prelude.{List}
use Rattle.std.specs.List.{flat_map}
use Rattle.timeline.specs.Left.{left_event}
use Rattle.timeline.specs.declared.caller.Caller.{Caller}
use Rattle.timeline.specs.declared.notice.Waits.{Waits}
use Rattle.front_half.proofs.leaving.find_left.Goals as goal

pub returns : goal.returns
returns g c = λ l ts same held.
    c.in_ok-leave_deferred.ensures
    ∙ ap (λ (calls : List (Caller × Waits)). calls ++ flat_map left_event c.args.deferred.now) (c.in_ok-left.ensures l ts same held)

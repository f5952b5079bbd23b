use Rattle.std.proofs.Common.{◌≡◌, ℕ, drop}
use Rattle.std.specs.Prelude.{◌||◌}
use Rattle.std.specs.BTreeSet.{contains}
use Rattle.std.specs.List.{list_any}
use Rattle.std.specs.Ordering.{nat_cmp}
use Rattle.timeline.specs.Left.{is_answer_to}
use Rattle.front_half.proofs.leaving.find_deferred.Given as goal

-- what was noted so far, or is an answer in what is left
abbrev pub invariant-loop-event : goal.invariant-loop-event
invariant-loop-event l = (number : ℕ)
    → (contains nat_cmp l.answers number || list_any (is_answer_to l.incarnation number) (drop l.event-index l.deferred)) ≡ list_any (is_answer_to l.incarnation number) l.deferred

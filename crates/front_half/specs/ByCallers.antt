-- What is kept for a caller.
use Rattle.std.specs.Prelude.{ℕ, Option}
use Rattle.std.specs.Ordering.{nat_cmp, ordering_then}
use Rattle.std.specs.declared.cmp.Ordering.{Ordering}
use Rattle.std.specs.BTreeMap.{get}
use Rattle.timeline.specs.declared.caller.Caller.{Caller}
use Rattle.timeline.specs.declared.caller.Caller.TheVariants.{Request, Object}
use Rattle.front_half.specs.declared.by_caller.ByCaller.{ByCaller}

-- A call of an object: the slot, the incarnation, the number; in that order.
abbrev pub by_parts : ℕ × ℕ × ℕ → ℕ × ℕ × ℕ → Ordering
by_parts x y = ordering_then (ordering_then (nat_cmp x.0 y.0) (nat_cmp x.1 y.1)) (nat_cmp x.2 y.2)

-- A request is known by its line alone.
abbrev pub kept_for : {X : Type 0} → Caller → ByCaller X → Option X
kept_for (Request line number) kept = get nat_cmp kept.requests line
kept_for (Object slot incarnation number) kept = get by_parts kept.calls (slot, incarnation, number)

use Rattle.std.proofs.Common.{◌≡◌, ◌++◌, ◌≤◌, length, take, drop}
use Rattle.std.specs.List.{flat_map}
use Rattle.output_gate.specs.Held.{stays}
use Rattle.output_gate.proofs.held.discard_all.Given as goal

abbrev pub invariant-loop : goal.invariant-loop
invariant-loop l =
    (l.held.items ≡ drop l.counter l.fn.held.items ++ flat_map (stays l.durable l.number l.cause) (take l.counter l.fn.held.items))
    × (l.counter ≤ l.end) × (l.end ≡ length l.fn.held.items)

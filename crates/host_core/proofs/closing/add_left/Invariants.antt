use Rattle.std.specs.Prelude.{◌≡◌, ◌++◌}
use Rattle.host_core.specs.Closing.{with_slot}
use Rattle.host_core.proofs.closing.add_left.Given as goal

-- the items so far stand behind what was left
abbrev pub invariant-loop-item : goal.invariant-loop-item
invariant-loop-item l = record {
  all : l.fn.remaining.items ≡ l.yielded ++ l.item-iterator.rest.items;
  added : l.left.items ≡ l.fn.left.items ++ with_slot l.fn.slot l.yielded;
}

use Rattle.std.proofs.Common.{◌≡◌, ◌+◌, length, take}
use Rattle.std.specs.List.{flat_map}
use Rattle.storage_map.specs.Ops.{op_bytes}
use Rattle.output_gate.proofs.taking.batch_size.Given as goal

abbrev pub invariant-loop-op : goal.invariant-loop-op
invariant-loop-op l = (l.size ≡ 4 + length (flat_map op_bytes (take l.op-index l.fn.batch))) × (l.op-items ≡ l.fn.batch)

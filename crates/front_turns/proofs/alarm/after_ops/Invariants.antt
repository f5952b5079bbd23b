use Rattle.std.proofs.Common.{◌≡◌, drop}
use Rattle.storage_map.specs.Stored.{alarm_after}
use Rattle.front_turns.proofs.alarm.after_ops.Given as goal

abbrev pub invariant-loop-op : goal.invariant-loop-op
invariant-loop-op l = alarm_after l.after (drop l.op-index l.ops) ≡ alarm_after l.fn.alarm l.ops

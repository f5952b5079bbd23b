use Rattle.std.proofs.Common.{◌≡◌, drop}
use Rattle.std.specs.List.{list_any}
use Rattle.alarm_core.specs.AlarmRule.{touches}
use Rattle.front_turns.proofs.alarm.any_touches.Given as goal

abbrev pub invariant-loop-op : goal.invariant-loop-op
invariant-loop-op l = list_any touches (drop l.op-index l.ops) ≡ list_any touches l.ops

-- What a handler's end writes.
use Rattle.storage_map.specs.Alarms.{IsAlarm}
use Rattle.storage_map.specs.declared.op.Op.{Op}
use Rattle.storage_map.specs.declared.op.Op.TheVariants.{Put, Delete, DeleteAll, SetAlarm, ClearAlarm}

-- An operation on the alarm, within its limits.
abbrev pub IsAlarmOp : Op → Type 0
IsAlarmOp (SetAlarm time retry) = IsAlarm time retry
IsAlarmOp ClearAlarm = Unit {0}
IsAlarmOp (Put key value) = ⊥
IsAlarmOp (Delete key) = ⊥
IsAlarmOp DeleteAll = ⊥

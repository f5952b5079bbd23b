-- When an alarm is due, and what is written when its handler has ended. After the alarms documentation; how often and after
-- which delays a handler is tried again, and what it sees of the alarm, are this project's profile.
use Rattle.std.specs.Prelude.{ℕ, ◌+◌, ◌*◌, ◌^◌, nat_lt, ℤ, pos, ◌+ℤ◌, Bool, true, false, if◌then◌else◌, Option, Some, None}
use Rattle.std.specs.Int.{int_min}
use Rattle.std.specs.Int.Signed.{le_z}
use Rattle.storage_map.specs.Limits as limits
use Rattle.storage_map.specs.declared.op.Op.{Op}
use Rattle.storage_map.specs.declared.op.Op.TheVariants.{SetAlarm, ClearAlarm, Put, Delete, DeleteAll}

-- The latest time of an alarm, and its greatest retry number.
abbrev pub most_time : ℤ
most_time = pos limits.most_time

abbrev pub most_retry : ℕ
most_retry = limits.most_retry

-- The alarm's time isn't after the moment, and no handler runs.
abbrev pub is_due : Option (ℤ × ℕ) → Bool → ℤ → Bool
is_due None running moment = false
is_due (Some alarm) true moment = false
is_due (Some alarm) false moment = le_z alarm.0 moment

-- What is written when the handler has ended, where the alarm wasn't touched while it ran.
abbrev pub after_success : Bool → Option Op
after_success true = None
after_success false = Some ClearAlarm

-- A retry comes 2 seconds after the first failure, and then each time after twice the delay before. Times are in milliseconds.
abbrev pub tried_again : ℕ → ℤ → Op
tried_again retry clock = SetAlarm (int_min (clock +ℤ pos (2000 * 2 ^ retry)) most_time) (retry + 1)

abbrev pub after_failure : ℕ → Bool → ℤ → Option Op
after_failure retry true clock = None
after_failure retry false clock = Some (if nat_lt retry most_retry then tried_again retry clock else ClearAlarm)

-- Whether an operation sets or clears the alarm.
abbrev pub touches : Op → Bool
touches (SetAlarm time retry) = true
touches ClearAlarm = true
touches (Put key value) = false
touches (Delete key) = false
touches DeleteAll = false

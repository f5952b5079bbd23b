-- Of which kind an event is.
use Rattle.std.specs.Prelude.{ℕ, Bool, true, false, Option, Some, None}
use Rattle.timeline.specs.declared.event.Event.{Event}
use Rattle.timeline.specs.declared.event.Event.TheVariants as event

abbrev pub is_tick : Event → Bool
is_tick (event.Tick at) = true
is_tick e = false

-- The depth of a call.
abbrev pub call_depth : Event → Option ℕ
call_depth (event.Call from method args depth at) = Some depth
call_depth e = None

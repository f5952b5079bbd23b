-- Of which kind an event is.
use Rattle.std.specs.Prelude.{ℕ, Bool, true, false, Option, Some, None}
use Rattle.timeline.specs.declared.event.Event.{Event}
use Rattle.timeline.specs.declared.event.Event.TheVariants as event

abbrev pub is_bind : Event → Bool
is_bind (event.Bind identity) = true
is_bind e = false

abbrev pub is_call : Event → Bool
is_call (event.Call from method args depth at) = true
is_call e = false

-- The incarnation and the number that an answer names.
abbrev pub named_by : Event → Option (ℕ × ℕ)
named_by (event.Answer incarnation number result at) = Some (incarnation, number)
named_by e = None

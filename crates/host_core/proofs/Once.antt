-- What may be dropped is no call.
use Rattle.std.proofs.Common.{◌≡◌, refl, List, [], ◌∷◌}
use Rattle.std.proofs.lemmas.List.Elements.{All-head, All-tail}
use Rattle.std.specs.List.{All}
use Rattle.object_core.specs.Dropping.{MayDrop}
use Rattle.object_messages.specs.Naming.{called_in}
use Rattle.timeline.specs.Logs.{Fronted}
use Rattle.timeline.specs.declared.back_log.Missed.{Missed}
use Rattle.timeline.specs.declared.event.Event.{Event}
use Rattle.timeline.specs.declared.event.Event.TheVariants as event

-- no call is among what may be dropped
pub none_called : (log : Fronted) (downs : List Missed) (dropped : List Event) → All (MayDrop log downs) dropped → called_in dropped ≡ []
none_called log downs [] all = refl
none_called log downs (event.Bind identity ∷ dropped) all = none_called log downs dropped (All-tail (MayDrop log downs) (event.Bind identity) dropped all)
none_called log downs (event.Call from method args depth at ∷ dropped) all = absurd (All-head (MayDrop log downs) (event.Call from method args depth at) dropped all)
none_called log downs (event.Answer incarnation number result at ∷ dropped) all =
    none_called log downs dropped (All-tail (MayDrop log downs) (event.Answer incarnation number result at) dropped all)
none_called log downs (event.Tick at ∷ dropped) all = none_called log downs dropped (All-tail (MayDrop log downs) (event.Tick at) dropped all)
none_called log downs (event.Evict at ∷ dropped) all = none_called log downs dropped (All-tail (MayDrop log downs) (event.Evict at) dropped all)

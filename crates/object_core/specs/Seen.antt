-- What the front's side of an object sees of its back, whatever memory sufficed for.
use Rattle.storage_map.specs.Contents.{Contents}
use Rattle.timeline.specs.History.{said_in, start_after}
use Rattle.timeline.specs.Logs.{Backed, backed}
use Rattle.timeline.specs.Told.{written}
use Rattle.front_half.specs.Standing.{nothing_logged}
use Rattle.output_gate.specs.Standing.{older_of, own_entries}
use Rattle.output_gate.specs.declared.back.Back.{Back}
use Rattle.object_history.specs.Pair.{Rear}
use Rattle.object_history.specs.Seen.{rear_of}

-- The map that the newest incarnation of a log has written, over the one with which it started.
abbrev pub due_map : (opened : Contents) → Backed → Contents
due_map opened log = written (start_after opened (older_of nothing_logged log)) (said_in (own_entries log))

-- A back is seen with this map: what it tells is of the same while it is mounted, but for one that memory didn't suffice for.
abbrev pub seen_of : {D : Type 0} → (opened : Contents) → Back D → Rear
seen_of opened back = rear_of (due_map opened (backed back.log)) back

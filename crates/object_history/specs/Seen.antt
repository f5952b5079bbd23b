-- What the front's side of an object sees of its back.
use Rattle.std.specs.Prelude.{ℕ, List, [], ◌∷◌}
use Rattle.std.specs.List.{flat_map}
use Rattle.storage_map.specs.Contents.{Contents}
use Rattle.timeline.specs.Logs.{backed}
use Rattle.output_gate.specs.declared.back.Back.{Back}
use Rattle.output_gate.specs.declared.back.Mode.{Mode}
use Rattle.output_gate.specs.declared.back.Mode.TheVariants.{Mounted, Wanted, Down}
use Rattle.output_gate.specs.declared.held.Held.{Held as BackHeld}
use Rattle.output_gate.specs.declared.held.HeldBody.{HeldBody}
use Rattle.output_gate.specs.declared.held.HeldBody.TheVariants.{Message, Sync, Halt}
use Rattle.object_history.specs.Pair.{Held, Stand, mounted, wanted, fallen, sync, halt, Rear}

-- What is held for the front, messages left out.
abbrev pub held_for : ℕ → HeldBody → List Held
held_for needs (Message sent) = []
held_for needs (Sync number) = record { hold = sync number; needs = needs } ∷ []
held_for needs (Halt cause) = record { hold = halt cause; needs = needs } ∷ []

abbrev pub held_of : BackHeld → List Held
held_of held = held_for held.needs held.body

abbrev pub stand_of : Mode → Stand
stand_of Mounted = mounted
stand_of (Wanted ending) = wanted ending.cause
stand_of (Down ending) = fallen ending.cause

-- It is seen with the map that is due of it.
abbrev pub rear_of : {D : Type 0} → (m : Contents) → Back D → Rear
rear_of m back = record {
  log = backed back.log;
  stand = stand_of back.mode;
  held = flat_map held_of back.held.items;
  before = back.before;
  durable = back.durable;
  map = m;
}

-- What writes into places answer.
use Rattle.std.specs.Prelude.{◌≡◌, ℕ, List, Result, Err}
use Rattle.do_value.specs.Keyed.{value_at}
use Rattle.do_value.specs.Tree.{Tree}
use Rattle.do_value.specs.Seen.{tree_of}
use Rattle.script_ops.specs.declared.fault.OpFault.{OpFault}
use Rattle.script_ops.specs.declared.fault.OpFault.TheVariants.{Throw, NoMemory}
use Rattle.script_mean.specs.Places.{Step, Change, at_part, limited, with_own, or_undefined, ◌then◌}
use Rattle.script_mean.specs.Task.{Fields}

-- The whole with its part at the end of the steps changed, within the limits of values, and what the write gives.
abbrev pub written : List Step → Change → Tree → Result (Tree × Tree) Tree
written ss change whole = at_part ss change whole then limited

-- The same of a field of the object itself: its fields are within the limits as one record.
abbrev pub own_written : List ℕ → List Step → Change → Fields → Result (Fields × Tree) Tree
own_written name ss change ps = at_part ss change (or_undefined (value_at name ps)) then with_own name ps

-- The fault throws what the definition throws, or there is no memory.
abbrev pub IsThrown : {A : Type 0} → Result A Tree → OpFault → Type 0
IsThrown meant (Throw v) = meant ≡ Err (tree_of v)
IsThrown meant NoMemory = Unit {0}

-- Unless there was no memory, all is as it was.
abbrev pub Keeps : {A : Type 0} → A → A → OpFault → Type 0
Keeps old new (Throw v) = new ≡ old
Keeps old new NoMemory = Unit {0}

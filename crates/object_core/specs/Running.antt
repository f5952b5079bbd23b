-- A run: step after step, up to the first want of memory.
use Rattle.std.specs.Prelude.{ℕ, Bool, List, [], ◌∷◌, Result, Ok, Err, Option}
use Rattle.do_tree.specs.Tree.{Script}
use Rattle.do_value.specs.declared.fault.NoMemory.{NoMemory}
use Rattle.object_core.specs.Stepping.{Steps}
use Rattle.object_core.specs.declared.choice.Choice.{Choice}
use Rattle.object_core.specs.declared.object.Core.{Core}

pub data Runs {D : Type 0} (moment_of : D → ℕ) (told : D → Option (List ℕ)) (image : D → List ℕ → Type 0) (faults_of : D → ℕ) (script : Script) :
    (old new : Core D) → List Choice → Result (Unit {0}) NoMemory → Type 0 where
  ends : (core : Core D) → Runs moment_of told image faults_of script core core [] (Ok tt)
  goes_on : (old next new : Core D) (choice : Choice) (later : List Choice) (did : Bool) (result : Result (Unit {0}) NoMemory)
      → Steps moment_of told image faults_of script old next choice (Ok did) → Runs moment_of told image faults_of script next new later result
      → Runs moment_of told image faults_of script old new (choice ∷ later) result
  halts : (old new : Core D) (choice : Choice) (later : List Choice) (fault : NoMemory)
      → Steps moment_of told image faults_of script old new choice (Err fault) → Runs moment_of told image faults_of script old new (choice ∷ later) (Err fault)

-- Runs that follow one another, and what the disk tells behind them.
use Rattle.std.proofs.Common.{◌≡◌, ◌∙◌, refl, ℕ, List, [], ◌∷◌, ◌++◌, Option}
use Rattle.std.specs.Prelude.{Bool, Result, Ok, Err, IsErr}
use Rattle.do_tree.specs.Tree.{Script}
use Rattle.do_value.specs.declared.fault.NoMemory.{NoMemory}
use Rattle.output_gate.specs.Storing.{KeepsTelling}
use Rattle.object_core.proofs.Rebuilding.{disk_of}
use Rattle.object_core.specs.One.{CanRun}
use Rattle.object_core.specs.Running.{Runs, ends, goes_on, halts}
use Rattle.object_core.specs.Stepping.{Steps}
use Rattle.object_core.specs.declared.choice.Choice.{Choice}
use Rattle.object_core.specs.declared.object.Core.{Core}

module _ {D : Type 0} (moment_of : D → ℕ) (told : D → Option (List ℕ)) (image : D → List ℕ → Type 0) (faults_of : D → ℕ) (script : Script) where
  runs_as : (old mid new : Core D) (first later : List Choice) (result after : Result (Unit {0}) NoMemory) → Runs moment_of told image faults_of script old mid first result
      → result ≡ Ok tt → Runs moment_of told image faults_of script mid new later after → Runs moment_of told image faults_of script old new (first ++ later) after
  runs_as _ _ new _ later _ after (ends core) is then_runs = then_runs
  runs_as _ _ new _ later _ after (goes_on old next mid choice rest did result steps runs) is then_runs =
      goes_on old next new choice (rest ++ later) did after steps (runs_as next mid new rest later result after runs is then_runs)
  runs_as _ _ new _ later _ after (halts old mid choice rest fault steps) is then_runs = absurd cc

  pub runs_on : (old mid new : Core D) (first later : List Choice) (after : Result (Unit {0}) NoMemory) → Runs moment_of told image faults_of script old mid first (Ok tt)
      → Runs moment_of told image faults_of script mid new later after → Runs moment_of told image faults_of script old new (first ++ later) after
  runs_on old mid new first later after runs then_runs = runs_as old mid new first later (Ok tt) after runs refl then_runs

  -- one choice more
  pub runs_more : (old mid new : Core D) (first : List Choice) (choice : Choice) (did : Bool) → Runs moment_of told image faults_of script old mid first (Ok tt)
      → Steps moment_of told image faults_of script mid new choice (Ok did) → Runs moment_of told image faults_of script old new (first ++ choice ∷ []) (Ok tt)
  runs_more old mid new first choice did runs steps =
      runs_on old mid new first (choice ∷ []) (Ok tt) runs (goes_on mid new new choice [] did (Ok tt) steps (ends new))

  -- memory was wanting at the next
  pub runs_out : (old mid new : Core D) (first : List Choice) (choice : Choice) (rest : List Choice) (fault : NoMemory) → Runs moment_of told image faults_of script old mid first (Ok tt)
      → Steps moment_of told image faults_of script mid new choice (Err fault) → Runs moment_of told image faults_of script old new (first ++ choice ∷ rest) (Err fault)
  runs_out old mid new first choice rest fault runs steps =
      runs_on old mid new first (choice ∷ rest) (Err fault) runs (halts mid new choice rest fault steps)

  -- the want of memory that it answers
  pub runs_stop : (old new : Core D) (choices : List Choice) (fault : NoMemory) (result : Result (Unit {0}) NoMemory) → IsErr result
      → Runs moment_of told image faults_of script old new choices (Err fault) → Runs moment_of told image faults_of script old new choices result
  runs_stop old new choices fault (Ok done) is runs = absurd cc
  runs_stop old new choices fault (Err other) is runs = runs

-- What a disk tells before two runs and behind them.
pub told_on : {D : Type 0} (moment_of : D → ℕ) (left_since : D → ℕ → List ℕ → Type 0) (told : D → Option (List ℕ)) (image : D → List ℕ → Type 0) (faults_of : D → ℕ)
    (script : Script) (old middle new : Core D) → CanRun moment_of left_since told image faults_of script middle → KeepsTelling told old.back.store middle.back.store
    → KeepsTelling told middle.back.store new.back.store → KeepsTelling told old.back.store new.back.store
told_on moment_of left_since told image faults_of script old middle new can first later disk left at into =
    let between = disk_of moment_of left_since told image faults_of script can.0 middle.front.half middle.inbox _ middle.back can.1.back_stands in
    later between.0 left between.1 into ∙ first disk between.0 at between.1

-- How a run shows its end: by its status, and by a line where that has one.
use Rattle.std.specs.Prelude.{◌≡◌, ◌⊎◌, ℕ, List, Option}
use Rattle.do_disk.specs.Disk.{Rose}
use Rattle.host_core.specs.declared.settings.ServeEnd.{ServeEnd}
use Rattle.host_core.specs.declared.settings.ServeEnd.TheVariants as ends
use Rattle.do_host.specs.SlotLines.{bad_line}
use Rattle.do_host.specs.Status.{status_of, stop_status}
use Rattle.do_host.specs.Written.{WritesAll, WritesFirstOf}
use Rattle.do_host.specs.declared.early_end.EarlyEnd.{EarlyEnd}
use Rattle.do_host.specs.declared.early_end.EarlyEnd.TheVariants.{Refused, Stopped}

-- all of a line was written and the status is its own, or a write failed after the first bytes of it
abbrev pub TellsLine : Option (List ℕ) → Option (List ℕ) → List ℕ → ℕ → ℕ → Type 0
TellsLine before after line own status = ((status ≡ own) × WritesAll before after line) ⊎ ((status ≡ 6) × WritesFirstOf before after line)

-- the status and the output of a run that ends before a slot is asked for
abbrev pub EndsAs : Option (List ℕ) → Option (List ℕ) → ℕ → EarlyEnd → Type 0
EndsAs before after status (Refused line) = TellsLine before after line.items 2 status
EndsAs before after status (Stopped stop) = (status ≡ stop_status stop) × (after ≡ before)

-- The line of a bad slot was written, and the status is 7; or a write failed after the first bytes of it, and the sink's count of faults rose; or
-- memory was wanting for it.
abbrev pub TellsBad : {W : Type 0} → (W → Option (List ℕ)) → (W → ℕ) → W → W → ℕ → List ℕ → Type 0
TellsBad taken faults_of out after status line = ((status ≡ 7) × WritesAll (taken out) (taken after) line × (faults_of after ≡ faults_of out))
    ⊎ ((status ≡ 6) × WritesFirstOf (taken out) (taken after) line × Rose (faults_of out) (faults_of after))
    ⊎ ((status ≡ 4) × (after ≡ out))

-- What follows the slots' end: the line of a bad one, and nothing else; and the status.
abbrev pub TellsEnd : {W : Type 0} → (W → Option (List ℕ)) → (W → ℕ) → W → W → ℕ → ServeEnd → Type 0
TellsEnd taken faults_of out after status (ends.BadSlot bad) = TellsBad taken faults_of out after status (bad_line bad)
TellsEnd taken faults_of out after status end = (status ≡ status_of end) × (after ≡ out)

-- The status of a run. This project's profile: 0 where all was done, 1 for words that aren't taken, 2 for a script that is refused, 3 where the
-- depot or a slot's disk failed while the slots were opened, 4 for want of memory, 5 for a read fault, 6 for a write fault, 7 for a bad slot.
use Rattle.std.specs.Prelude.{◌≢◌, ℕ, [], ◌∷◌, Result, Ok, Err}
use Rattle.std.specs.List.{Contains}
use Rattle.do_disk.specs.declared.depot.DepotFault.{DepotFault}
use Rattle.do_disk.specs.declared.depot.DepotFault.TheVariants.{Failed, NoMemory as NoDepotMemory}
use Rattle.host_core.specs.declared.settings.ServeEnd.{ServeEnd}
use Rattle.host_core.specs.declared.settings.ServeEnd.TheVariants as ends
use Rattle.do_host.specs.declared.run_end.RunEnd.{RunEnd}
use Rattle.do_host.specs.declared.run_end.RunEnd.TheVariants.{DepotFailed, NoMemory, WriteFailed}

-- a status that a run may end with
abbrev pub IsStatus : ℕ → Type 0
IsStatus status = Contains (0 ∷ 1 ∷ 2 ∷ 3 ∷ 4 ∷ 5 ∷ 6 ∷ 7 ∷ []) status

-- a status of a run that ends before a slot is asked for
abbrev pub IsEarlyStatus : ℕ → Type 0
IsEarlyStatus status = Contains (2 ∷ 3 ∷ 4 ∷ 6 ∷ []) status

-- a status of `check`
abbrev pub IsCheckStatus : ℕ → Type 0
IsCheckStatus status = Contains (0 ∷ 2 ∷ 3 ∷ 4 ∷ 6 ∷ []) status

-- a status of `dump`
abbrev pub IsDumpStatus : ℕ → Type 0
IsDumpStatus status = Contains (0 ∷ 3 ∷ 4 ∷ 6 ∷ 7 ∷ []) status

-- a status at which a run that serves or prints nothing writes nothing: none of those of a line that tells of the words, the script or
-- the slot, and no write fault
abbrev pub IsSilentStatus : ℕ → Type 0
IsSilentStatus status = (status ≢ 0) × (status ≢ 1) × (status ≢ 2) × (status ≢ 6) × (status ≢ 7)

-- the status of an end of the slots
abbrev pub status_of : ServeEnd → ℕ
status_of ends.Finished = 0
status_of ends.OpenFailed = 3
status_of ends.NoMemory = 4
status_of ends.ReadFailed = 5
status_of ends.WriteFailed = 6
status_of (ends.BadSlot bad) = 7

-- the status of an early stop
abbrev pub stop_status : RunEnd → ℕ
stop_status DepotFailed = 3
stop_status NoMemory = 4
stop_status WriteFailed = 6

abbrev pub depot_stop : DepotFault → RunEnd
depot_stop Failed = DepotFailed
depot_stop NoDepotMemory = NoMemory

-- the end of a run whose slots were printed, or in part
abbrev pub dump_end : Result (Unit {0}) RunEnd → ServeEnd
dump_end (Ok done) = ends.Finished
dump_end (Err DepotFailed) = ends.OpenFailed
dump_end (Err NoMemory) = ends.NoMemory
dump_end (Err WriteFailed) = ends.WriteFailed

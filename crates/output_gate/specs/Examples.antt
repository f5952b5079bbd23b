-- Logs that no back has, for the examples.
use Rattle.std.specs.Prelude.{ℕ, ◌+◌, ◌≤◌, true, false, List, [], ◌∷◌, Option, None}
use Rattle.batch_journal.specs.Frames.{header_end}
use Rattle.storage_map.specs.Limits.{Object}
use Rattle.storage_map.specs.declared.op.Op.{Op}
use Rattle.storage_map.specs.declared.op.Op.TheVariants.{DeleteAll}
use Rattle.timeline.specs.History.{history}
use Rattle.timeline.specs.Logs.{Fronted, Backed}
use Rattle.timeline.specs.declared.back_log.Missed.{Missed}
use Rattle.timeline.specs.declared.back_log.Stop.{Stop}
use Rattle.timeline.specs.declared.caller.Cause.TheVariants as cause
use Rattle.timeline.specs.declared.entry.Body.TheVariants as body
use Rattle.output_gate.specs.Logs.{no_log}
use Rattle.output_gate.specs.Telling.{HasTold}
use Rattle.output_gate.specs.Written.{AreFilled}

abbrev pub misses : ℕ → Missed
misses incarnation = record { incarnation = incarnation; before = 0; after = 0 }

abbrev pub exceeds : Stop
exceeds = record { cause = cause.Exceeded; flights = 0; batches = 0; read = false }

-- A mounting failed though nothing had ended.
abbrev pub missed_unended : Backed
missed_unended = record no_log { downs = misses 2 ∷ [] }

-- Behind one end a mounting failed to begin the incarnation that had ended.
abbrev pub missed_ended : Backed
missed_ended = record no_log { stops = exceeds ∷ []; downs = misses 1 ∷ [] }

-- No back tells this log.
abbrev pub IsToldByNone : {D : Type 0} → (D → ℕ) → (D → ℕ → List ℕ → Type 0) → (D → ℕ) → Backed → Type 0
IsToldByNone {D} moment_of left_since faults_of log = (object : Option Object) (start : List (List Op)) (opening : ℕ) (front : Fronted) (disk : D)
    → HasTold moment_of left_since faults_of object start opening front disk log → ⊥

-- A journal of 4,096 bytes is said to be full at the first small write, without a flight.
abbrev pub early : Stop
early = record { cause = cause.Full 4097 4096; flights = 0; batches = 1; read = false }

abbrev pub full_early : Backed
full_early = record no_log { taken = record { incarnation = 1; number = 1; body = body.Batch (DeleteAll ∷ []) None true } ∷ []; stops = early ∷ [] }

-- The object a of the class C.
abbrev pub some_object : Object
some_object = (67 ∷ [], 97 ∷ [])

-- No journal of so many bytes that had no batch at the opening, and at most a marker, was full as this log of the object says.
abbrev pub IsFilledByNone : Backed → Type 0
IsFilledByNone log = (front : Fronted) (end : ℕ) → end ≤ header_end + 45 → AreFilled 4096 end some_object (history front log) → ⊥

-- Rows that no report has, for the examples.
use Rattle.std.specs.Prelude.{◌≡◌, ℕ, true, List, [], ◌∷◌, Option, Some, None, Err}
use Rattle.batch_journal.specs.Moments.{IsTold}
use Rattle.do_tree.specs.Tree.{Script}
use Rattle.front_half.specs.Standing.{nothing_logged}
use Rattle.output_gate.specs.Examples.{some_object}
use Rattle.output_gate.specs.Logs.{no_log}
use Rattle.storage_map.specs.Limits.{Object}
use Rattle.storage_map.specs.declared.op.Op.TheVariants.{DeleteAll}
use Rattle.timeline.specs.Histories.{entry, sends}
use Rattle.timeline.specs.Logs.{Backed, Fronted, backed, fronted}
use Rattle.timeline.specs.declared.caller.Caller.{Caller}
use Rattle.timeline.specs.declared.caller.Failure.TheVariants as failure
use Rattle.timeline.specs.declared.entry.Body.TheVariants as body
use Rattle.timeline.specs.declared.event.Event.{Event}
use Rattle.timeline.specs.declared.message.Message.{Message}
use Rattle.timeline.specs.declared.notice.Waits.{Waits}
use Rattle.host_core.specs.Quiet.{IsUntouched}
use Rattle.host_core.specs.Rows.{IsObjectIn, IsRow}
use Rattle.host_core.specs.declared.report.SlotReport.{SlotReport}

-- A caller was answered though no object was bound.
abbrev pub answered_unbound : Fronted
answered_unbound = record nothing_logged { sent = entry 1 1 (sends 1 (Err failure.Exceeded)) ∷ [] }

-- No row of a slot that had no object shows this of its front.
abbrev pub IsNoRow : {S : Type 0} → (S → ℕ) → (S → ℕ → List ℕ → Type 0) → (S → Option (List ℕ)) → (S → ℕ) → Fronted → Type 0
IsNoRow {S} moment_of left_since told faults_of log = (limit : ℕ) (script : Script) (content : Option (List ℕ)) (posts : List Event) (routed : List Message)
    (row : SlotReport S) → IsTold (told row.store) → fronted row.front ≡ log
    → IsRow moment_of left_since told faults_of limit script content None posts routed row → ⊥

-- A batch was taken that deletes all keys.
abbrev pub wiped : Backed
wiped = record no_log { taken = entry 1 1 (body.Batch (DeleteAll ∷ []) None true) ∷ [] }

-- No slot rests as it was at the opening whose back shows this.
abbrev pub IsTouchedBy : (S : Type 0) → Backed → Type 0
IsTouchedBy S log = (posts : List Event) (routed : List Message) (remaining : List (Caller × Waits)) (row : SlotReport S)
    → backed row.back ≡ log → IsUntouched posts routed remaining row → ⊥

-- A slot that had an object at the opening has it still.
abbrev pub KeepsObject : (S : Type 0) → Type 0
KeepsObject S = (object : Object) (row : SlotReport S) → IsObjectIn (Some object) row → row.identity ≡ Some object

-- No row of a slot that had no object, and whose journal may have 4,096 bytes, shows that it was full as this log says.
abbrev pub IsNoFullRow : {S : Type 0} → (S → ℕ) → (S → ℕ → List ℕ → Type 0) → (S → Option (List ℕ)) → (S → ℕ) → Backed → Type 0
IsNoFullRow {S} moment_of left_since told faults_of log = (script : Script) (content : Option (List ℕ)) (posts : List Event) (routed : List Message)
    (row : SlotReport S) → IsTold (told row.store) → backed row.back ≡ log → row.identity ≡ Some some_object
    → IsRow moment_of left_since told faults_of 4096 script content None posts routed row → ⊥

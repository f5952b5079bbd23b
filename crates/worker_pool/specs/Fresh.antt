-- With what a run of the workers begins.
use Rattle.std.specs.Prelude.{◌≡◌, ℕ, List, slice_get, Option, Some, None}
use Rattle.do_tree.specs.Tree.{Script}
use Rattle.line_server.specs.Lines.{count_of, fault_of as reading_fault}
use Rattle.line_server.specs.declared.lines.Lines.{Lines}
use Rattle.mailbox.specs.Runs.{fault_of, log_of, slots_of}
use Rattle.mailbox.specs.declared.switch.Switch.{Switch}
use Rattle.object_core.specs.One.{AreFresh}
use Rattle.output_gate.specs.Serving.{IsBack}
use Rattle.storage_map.specs.declared.op.Op.{Op}
use Rattle.timeline.specs.Switch.{no_log}
use Rattle.host_workers.specs.declared.joining.Halves.{Halves}

-- A switch of so many slots that has done nothing.
pub record IsFreshSwitch {W : Type 0} (slots : ℕ) (switch : Switch W) : Type 0 where
  pub log : log_of switch ≡ no_log
  pub free : fault_of switch ≡ None
  pub many : slots_of switch ≡ slots

-- A reader that has read nothing.
pub record IsFreshReader {R : Type 0} (lines : Lines R) : Type 0 where
  pub free : reading_fault lines ≡ None
  pub none_read : count_of lines ≡ 0

module _ {D : Type 0} (moment_of : D → ℕ) (left_since : D → ℕ → List ℕ → Type 0) (told : D → Option (List ℕ)) (image : D → List ℕ → Type 0)
    (faults_of : D → ℕ) (script : Script) where
  -- The halves of a slot that was just mounted, with some batches and at some moment of its disk.
  pub record IsFreshSlot (halves : Halves D) : Type 0 where
    pub fresh : AreFresh script halves.front.half halves.back
    pub some : (start : List (List Op)) × (opening : ℕ) × IsBack moment_of left_since told image faults_of start opening halves.back

  -- So are those of each slot.
  abbrev pub AreFreshSlots : List (Halves D) → Type 0
  AreFreshSlots all = (slot : ℕ) (halves : Halves D) → slice_get all slot ≡ Some halves → IsFreshSlot halves

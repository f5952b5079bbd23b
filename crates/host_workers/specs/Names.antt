-- What names one run.
use Rattle.std.specs.Prelude.{ℕ, ℤ, List, [], Option, None}
use Rattle.do_tree.specs.Tree.{Script}
use Rattle.lane.specs.Lanes.{LaneId, nowhere}
use Rattle.storage_map.specs.Limits.{Object}
use Rattle.storage_map.specs.declared.op.Op.{Op}
use Rattle.timeline.specs.Switch.{Switch, opened}
use Rattle.object_core.specs.Limited.{Extent}

-- Of no journal.
abbrev pub no_extent : Extent
no_extent = record { limit = 0; end = 0 }

-- The script; how many slots there are, and for each, by its number: its four lanes (to the front events and notices, from it its entries, and
-- what its back lets go), the class and the alarm with which its front begins, with which batches and at which moment its back was
-- mounted, its object then, how many bytes its journal may have and where that ended; the lane of the lines; the switch from which the run
-- begins; what the input was said to be as a whole; what the sink holds, where it tells it; and how many reads and writes of them have
-- failed before.
pub record Run : Type 1 where
  pub script : Script
  pub slots : ℕ
  pub inboxes : ℕ → LaneId
  pub notices : ℕ → LaneId
  pub entries : ℕ → LaneId
  pub outs : ℕ → LaneId
  pub classes : ℕ → Option ℕ
  pub alarms : ℕ → Option (ℤ × ℕ)
  pub begun : ℕ → List (List Op) → ℕ → Type 0
  pub objects : ℕ → Option Object
  pub extents : ℕ → Extent
  pub lines : LaneId
  pub switch : Switch
  pub input : List ℕ → Type 0
  pub held : Option (List ℕ)
  pub read_faults : ℕ
  pub write_faults : ℕ

-- A run of no slot.
abbrev pub nobody : Run
nobody = record {
  script = record { import = None; classes = [] };
  slots = 0;
  inboxes = λ slot. nowhere;
  notices = λ slot. nowhere;
  entries = λ slot. nowhere;
  outs = λ slot. nowhere;
  classes = λ slot. None;
  alarms = λ slot. None;
  begun = λ slot start opening. Unit {0};
  objects = λ slot. None;
  extents = λ slot. no_extent;
  lines = nowhere;
  switch = opened [];
  input = λ whole. Unit {0};
  held = None;
  read_faults = 0;
  write_faults = 0;
}

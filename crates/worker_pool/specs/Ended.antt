-- What a run of the workers leaves.
use Rattle.std.specs.Prelude.{◌≡◌, ◌<◌, ◌≤◌, ◌+◌, ℕ, List, [], ◌++◌, length, map, slice_get, Option, Some, None, Ok, Err}
use Rattle.std.specs.List.{All}
use Rattle.do_tree.specs.Tree.{Script}
use Rattle.lane.specs.Lanes.{StartsWith, sent_on}
use Rattle.line_server.specs.Lines.{IsAllRead, IsFirstOf, IsReading, LooksAt, count_of, fault_of as reading_fault, source_of}
use Rattle.line_server.specs.Requests.{SeenLine}
use Rattle.line_server.specs.Seen.{seen}
use Rattle.line_server.specs.declared.fault.LineFault.TheVariants.{ReadFailed}
use Rattle.line_server.specs.declared.line.Line as read
use Rattle.line_server.specs.declared.lines.Lines.{Lines}
use Rattle.mailbox.specs.Posting.{of_slot}
use Rattle.mailbox.specs.Runs.{fault_of, log_of, out_of, slots_of, state_of}
use Rattle.mailbox.specs.Seen.{seen_line}
use Rattle.mailbox.specs.SoFar.{IsRunSoFar}
use Rattle.mailbox.specs.declared.fault.SwitchFault.TheVariants.{WriteFailed}
use Rattle.mailbox.specs.declared.switch.Switch.{Switch}
use Rattle.object_core.specs.One.{IsOne, mounted_at}
use Rattle.object_core.specs.declared.object.Core.{Core}
use Rattle.output_gate.specs.Serving.{IsBack}
use Rattle.storage_map.specs.declared.op.Op.{Op}
use Rattle.switch_history.specs.Answering.{AreInOrder}
use Rattle.switch_history.specs.Fit.{IsFitRun}
use Rattle.timeline.specs.declared.event.Event.{Event}
use Rattle.timeline.specs.declared.message.Message.{Message}
use Rattle.host_workers.specs.Lines.{AreUpTo, HasCounted, most_at}
use Rattle.host_workers.specs.Switches.{HasPrinted, kept_in}
use Rattle.host_workers.specs.declared.joining.Halves.{Halves}
use Rattle.worker_pool.specs.declared.ran.Ran.{Ran}

-- The object of a slot's halves, which were just mounted when the run began: these events were posted to it, and these of its messages were taken.
-- It is one from whatever its mounting is said to have been.
pub record IsRunOf {D : Type 0} (moment_of : D → ℕ) (left_since : D → ℕ → List ℕ → Type 0) (told : D → Option (List ℕ)) (image : D → List ℕ → Type 0)
    (faults_of : D → ℕ) (script : Script) (begun : Halves D) (posts : List Event) (taken : List Message) (core : Core D) : Type 0 where
  pub given : sent_on core.inbox ≡ posts
  pub collected : core.out.got ≡ taken
  pub one : (start : List (List Op)) (opening : ℕ) → IsBack moment_of left_since told image faults_of start opening begun.back
      → IsOne moment_of left_since told image faults_of script (mounted_at start opening begun.back) core

-- Of the whole input the reader gave these lines and no others, but for the last, where memory was wanting to pass it on.
pub record HasPassedOn {R : Type 0} (left : R → Option (List ℕ)) (whole : List ℕ) (sent : List SeenLine) (goes_on : Type 0) (lines : Lines R) : Type 0 where
  pub lost : List SeenLine
  pub few : length lost ≤ 1
  pub none_lost : goes_on → lost ≡ []
  pub goes : reading_fault lines ≡ None → IsReading left whole (sent ++ lost) lines
  pub first : IsFirstOf left whole (sent ++ lost) lines
  pub looked : LooksAt left whole (sent ++ lost) (most_at (reading_fault lines)) lines
  pub exact : reading_fault lines ≡ Some ReadFailed → IsAllRead left whole (sent ++ lost) lines

-- Each slot's object stands by what the switch has posted and routed: those of the first slots are joined, and of the others there are the halves.
pub record HasObjects {D R W : Type 0} (moment_of : D → ℕ) (left_since : D → ℕ → List ℕ → Type 0) (told : D → Option (List ℕ)) (image : D → List ℕ → Type 0)
    (faults_of : D → ℕ) (script : Script) (all : List (Halves D)) (ran : Ran D R W) : Type 0 where
  pub many : length ran.cores.items + length ran.apart.items ≡ length all
  pub cores : (slot : ℕ) (begun : Halves D) (core : Core D) → slice_get all slot ≡ Some begun → slice_get ran.cores.items slot ≡ Some core
      → IsRunOf moment_of left_since told image faults_of script begun (of_slot slot (log_of ran.switch).posts)
      (of_slot slot ((log_of ran.switch).routed ++ kept_in ran.kept)) core
  pub apart : (at : ℕ) (begun halves : Halves D) → slice_get all (length ran.cores.items + at) ≡ Some begun → slice_get ran.apart.items at ≡ Some halves
      → (core : Core D) × (core.front ≡ halves.front) × (core.back ≡ halves.back)
      × IsRunOf moment_of left_since told image faults_of script begun (of_slot (length ran.cores.items + at) (log_of ran.switch).posts)
      (of_slot (length ran.cores.items + at) ((log_of ran.switch).routed ++ kept_in ran.kept)) core

-- The switch's log is a run from the switch with which it began, as far as it came, and a whole one whose messages were fit where nothing stopped
-- it. Each message that was taken came from one of so many slots.
pub record HasLogged {D R W : Type 0} (taken : W → Option (List ℕ)) (write_faults : W → ℕ) (script : Script) (many : ℕ) (switch : Switch W)
    (ran : Ran D R W) : Type 0 where
  pub there : All (λ sent. sent.0 < many) ((log_of ran.switch).routed ++ kept_in ran.kept)
  pub slots : slots_of ran.switch ≡ many
  pub so_far : IsRunSoFar script (state_of switch) (log_of ran.switch)
  pub run : fault_of ran.switch ≡ None → IsFitRun script (state_of switch) (log_of ran.switch) (state_of ran.switch)
  pub printed : HasPrinted taken write_faults (taken (out_of switch)) (write_faults (out_of switch)) ran.switch

-- The lines that the switch accepted are the first of those that the reader passed on, and those that are left are the others.
pub record HasReadLines {D R W : Type 0} (left : R → Option (List ℕ)) (read_faults : R → ℕ) (lines : Lines R) (ran : Ran D R W) : Type 0 where
  pub sent : List read.Line
  pub counted : HasCounted read_faults (read_faults (source_of lines)) ran.lines
  pub accepted : StartsWith (map seen_line sent) (log_of ran.switch).accepted
  pub rest : ran.end ≡ Ok tt → map seen_line sent ≡ (log_of ran.switch).accepted ++ map seen_line ran.rest.waiting
  pub order : AreInOrder (map seen_line sent)
  pub below : AreUpTo (count_of ran.lines) (map seen_line sent)
  pub reads : (whole : List ℕ) → IsReading left whole [] lines → HasPassedOn left whole (map seen sent) (ran.end ≡ Ok tt) ran.lines

-- Where nothing stopped it, all objects are joined; it ends by a write fault exactly where the switch met one.
pub record EndsSo {D R W : Type 0} (ran : Ran D R W) : Type 0 where
  pub goes_on : ran.end ≡ Ok tt → (fault_of ran.switch ≡ None) × (ran.apart.items ≡ [])
  pub write_failed : ran.end ≡ Err WriteFailed → fault_of ran.switch ≡ Some WriteFailed
  pub failed_write : fault_of ran.switch ≡ Some WriteFailed → ran.end ≡ Err WriteFailed

-- What the workers leave of halves, a switch and a reader: the objects, the switch's log, the lines, and how it ended.
pub record HasRun {D R W : Type 0} (moment_of : D → ℕ) (left_since : D → ℕ → List ℕ → Type 0) (told : D → Option (List ℕ)) (image : D → List ℕ → Type 0)
    (faults_of : D → ℕ) (left : R → Option (List ℕ)) (read_faults : R → ℕ) (taken : W → Option (List ℕ)) (write_faults : W → ℕ) (script : Script)
    (all : List (Halves D)) (switch : Switch W) (lines : Lines R) (ran : Ran D R W) : Type 0 where
  pub objects : HasObjects moment_of left_since told image faults_of script all ran
  pub logged : HasLogged taken write_faults script (length all) switch ran
  pub reading : HasReadLines left read_faults lines ran
  pub ends : EndsSo ran

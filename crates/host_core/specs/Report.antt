-- What the report of a run tells, and what a run does.
use Rattle.std.specs.Prelude.{◌≡◌, ◌≢◌, ◌⊎◌, ◌<◌, ◌≤◌, ℕ, true, List, [], ◌++◌, length, take, Option, None, IfSome, IsSome, option_map, ⊤}
use Rattle.do_disk.specs.Asks.{Ask}
use Rattle.do_disk.specs.Disk.{IfTold, Rose}
use Rattle.do_disk.specs.Slots.{most_slots}
use Rattle.do_tree.specs.Tree.{Script}
use Rattle.mailbox.specs.Left.{finished_by}
use Rattle.mailbox.specs.Seen.{seen_log}
use Rattle.mailbox.specs.Written.{text_of}
use Rattle.placement.specs.Slots.{Slots, IsOneEach}
use Rattle.timeline.specs.Switch as timeline
use Rattle.timeline.specs.Switch.{SwitchLog, IsSwitchRun, gave, no_log, opened}
use Rattle.timeline.specs.declared.caller.Caller.{Caller}
use Rattle.timeline.specs.declared.notice.Waits.{Waits}
use Rattle.line_server.specs.Limits.{most_lines}
use Rattle.host_core.specs.Asked.{AreAskedOnce}
use Rattle.host_core.specs.Complete.{AreUnended}
use Rattle.host_core.specs.Dropped.{AreDropsOnly}
use Rattle.host_core.specs.Ends.{is_served}
use Rattle.host_core.specs.Objects.{AreThere}
use Rattle.host_core.specs.Opening.{Asks, HasFailedDisk, IsBad, IsRefused, LeavesFile, LeavesHanded, slot_asks}
use Rattle.host_core.specs.Quiet.{AreCallsAnswered, AreCallsInOrder, AreLeftIn, AreLetGo, AreSettled}
use Rattle.host_core.specs.Reading.{Accepts, AcceptsAll, AcceptsAllRead}
use Rattle.host_core.specs.Rows.{AreRows}
use Rattle.mailbox.specs.SoFar.{IsRunSoFar}
use Rattle.host_core.specs.declared.report.Report.{Report}
use Rattle.host_core.specs.declared.report.SlotReport.{SlotReport}
use Rattle.host_core.specs.declared.settings.Bad.{Bad}
use Rattle.host_core.specs.declared.settings.ServeEnd.{ServeEnd}
use Rattle.host_core.specs.declared.settings.ServeEnd.TheVariants as ends
use Rattle.host_core.specs.declared.settings.Settings.{Settings}

-- The numbers of the settings lie in their ranges.
pub record AreInRange (settings : Settings) : Type 0 where
  pub some_slot : 1 ≤ settings.slots
  pub slots : settings.slots ≤ most_slots
  pub some_worker : 1 ≤ settings.workers
  pub workers : settings.workers ≤ 16
  pub header : 4096 ≤ settings.journal
  pub journal : settings.journal ≤ 1099511627776

-- The run hasn't begun.
pub record IsEmpty {S : Type 0} (report : Report S) : Type 0 where
  pub slots : report.slots.items ≡ []
  pub unopened : report.unopened ≡ None
  pub switch : seen_log report.switch ≡ no_log
  pub lines : report.lines ≡ 0

-- The log is a run, and behind it stand the lines of what is left at the end. Each slot is quiet, and what is left is what its logs show.
pub record IsFinished {S : Type 0} (told : S → Option (List ℕ)) (limit : ℕ) (script : Script) (contents : ℕ → Option (List ℕ)) (named : Slots) (log : SwitchLog)
    (rows : List (SlotReport S)) : Type 0 where
  pub before : SwitchLog
  pub after : timeline.Switch
  pub run : IsSwitchRun script (opened named) before after
  pub left : List (ℕ × Caller × Waits)
  pub finished : log ≡ gave before (finished_by after left)
  pub settled : AreSettled told limit script contents named log left rows
  pub left_in : AreLeftIn (length rows) left
  pub calls : AreCallsInOrder after rows
  pub once : AreCallsAnswered told before log after left rows

-- The slots had these objects at the opening, each in one slot; and the rows are those of the first of them.
pub record AreNamed {S : Type 0} (slots : ℕ) (named : Slots) (report : Report S) : Type 0 where
  pub many : length named ≡ slots
  pub one_each : IsOneEach named
  pub within : length report.slots.items ≤ slots

-- The switch's log is that of a run; each message that was routed came from a slot of a row; no call that was posted was dropped; nobody was asked
-- or answered twice; and where nothing was the cause of an end, no line says `Reset` or `Down`.
pub record HasSwitched {S : Type 0} (told : S → Option (List ℕ)) (faults_of : S → ℕ) (script : Script) (named : Slots) (report : Report S) : Type 0 where
  pub run : IsRunSoFar script (opened named) (seen_log report.switch)
  pub there : AreThere (length report.slots.items) (seen_log report.switch)
  pub drops : AreDropsOnly told script named (seen_log report.switch) report.slots.items
  pub asked : AreAskedOnce told (seen_log report.switch) report.slots.items
  pub unended : AreUnended told faults_of (seen_log report.switch) report.slots.items

-- The report has the one actual history: the slots had these objects, each row tells of its slot, and the switch's log tells of the lines and
-- messages. Where all was served that was read, it is whole, and nothing is held back. A bad slot is the one behind those that were mounted. Each
-- slot's journal may have so many bytes.
pub record IsReport {S : Type 0} (moment_of : S → ℕ) (left_since : S → ℕ → List ℕ → Type 0) (told : S → Option (List ℕ)) (faults_of : S → ℕ)
    (limit : ℕ) (script : Script) (contents : ℕ → Option (List ℕ)) (slots : ℕ) (end : ServeEnd) (report : Report S) : Type 0 where
  pub named : Slots
  pub objects : AreNamed slots named report
  pub rows : AreRows moment_of left_since told faults_of limit script contents named (seen_log report.switch) report.slots.items
  pub switched : HasSwitched told faults_of script named report
  pub finished : is_served end ≡ true → IsFinished told limit script contents named (seen_log report.switch) report.slots.items
  pub quiet : is_served end ≡ true → AreLetGo told script named (seen_log report.switch) report.slots.items
  pub bad : (bad : Bad) → end ≡ ends.BadSlot bad → IsBad contents named (length report.slots.items) bad

-- The lines that were read and accepted, from what the source had left before and what it has after.
pub record ReadsLines {S : Type 0} (before after : Option (List ℕ)) (end : ServeEnd) (report : Report S) : Type 0 where
  pub accepted : IfTold before (λ whole. Accepts whole after (seen_log report.switch).accepted report.lines)
  pub all : end ≡ ends.Finished → IfTold before (λ whole. AcceptsAll whole (seen_log report.switch).accepted report.lines)
  pub all_read : end ≡ ends.ReadFailed → IfTold before (λ whole. AcceptsAllRead whole after (seen_log report.switch).accepted report.lines)
  pub limit : report.lines ≤ most_lines

-- The text of the lines was written behind what the sink had taken, all of it but at a write fault, and there its first bytes.
pub record PrintsLines {S : Type 0} (before after : Option (List ℕ)) (end : ServeEnd) (report : Report S) : Type 0 where
  pub whole : end ≢ ends.WriteFailed → after ≡ option_map (λ taken. taken ++ text_of report.switch.lines.items) before
  pub front : (count : ℕ) × (count ≤ length (text_of report.switch.lines.items))
      × (after ≡ option_map (λ taken. taken ++ take count (text_of report.switch.lines.items)) before)

-- A run with fewer rows than slots ended at its opening, or before it.
abbrev pub is_opening_end : ServeEnd → Type 0
is_opening_end ends.OpenFailed = ⊤
is_opening_end (ends.BadSlot bad) = ⊤
is_opening_end ends.NoMemory = ⊤
is_opening_end other = ⊥

pub record IsOpened {S R W : Type 0} (slots : ℕ) (input input_after : R) (out out_after : W) (end : ServeEnd) (old new : Report S) : Type 0 where
  pub all : (is_opening_end end → ⊥) → length new.slots.items ≡ slots
  pub none_unopened : length new.slots.items ≡ slots → new.unopened ≡ None
  pub unread : length new.slots.items < slots → (input_after ≡ input) × (out_after ≡ out) × (new.switch ≡ old.switch) × (new.lines ≡ 0)
  pub early : (end ≡ ends.OpenFailed) ⊎ ((bad : Bad) × (end ≡ ends.BadSlot bad)) → length new.slots.items < slots
  pub kept : (bad : Bad) → end ≡ ends.BadSlot bad → IsSome new.unopened

-- The disk that wasn't mounted, that of the slot behind those that were.
pub record LeavesUnopened {S : Type 0} (told : S → Option (List ℕ)) (image : S → List ℕ → Type 0) (moment_of : S → ℕ) (left_since : S → ℕ → List ℕ → Type 0)
    (contents : ℕ → Option (List ℕ)) (end : ServeEnd) (report : Report S) : Type 0 where
  pub handed : IfSome report.unopened (LeavesHanded told image moment_of left_since (contents (length report.slots.items)))
  pub untouched : (bad : Bad) → end ≡ ends.BadSlot bad → IsRefused bad
      → IfSome report.unopened (LeavesFile left_since (contents (length report.slots.items)))

-- Each answer has its cause: a count of faults that rose.
pub record HasCause {S : Type 0} (faults_of : S → ℕ) (depot depot_after source source_after sink sink_after : ℕ) (end : ServeEnd)
    (report : Report S) : Type 0 where
  pub open_failed : end ≡ ends.OpenFailed → Rose depot depot_after ⊎ HasFailedDisk faults_of report.unopened
  pub read_failed : end ≡ ends.ReadFailed → Rose source source_after
  pub write_failed : end ≡ ends.WriteFailed → Rose sink sink_after
  pub sink_steady : end ≢ ends.WriteFailed → sink_after ≡ sink

-- What the depot was asked: for the slots of the folder from slot 0 on, each at most once, up to the one at which the opening stopped.
pub record AsksSlots {S : Type 0} (before after : List Ask) (folder : List ℕ) (slots : ℕ) (report : Report S) : Type 0 where
  pub first : Asks before after (slot_asks folder slots)
  pub mounted : length report.slots.items ≡ slots → after ≡ before ++ slot_asks folder slots

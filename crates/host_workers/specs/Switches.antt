-- What the cell of the switch has accepted, routed and posted.
use Rattle.std.specs.Prelude.{◌≡◌, ◌≤◌, ℕ, List, [], ◌∷◌, ◌++◌, length, map, Option, Some, None}
use Rattle.do_tree.specs.Checked.{tree_of}
use Rattle.do_tree.specs.Tree.{Script}
use Rattle.lane.specs.Lanes.{Sending, Taking}
use Rattle.line_server.specs.declared.line.Line as read
use Rattle.timeline.specs.Lines.{Line}
use Rattle.timeline.specs.Switch as switch
use Rattle.timeline.specs.declared.event.Event.{Event}
use Rattle.timeline.specs.declared.message.Message.{Message}
use Rattle.mailbox.specs.Posting.{at_slot, of_slot}
use Rattle.do_disk.specs.Disk.{Rose}
use Rattle.mailbox.specs.Runs.{log_of, state_of, fault_of, lines_of, out_of, slots_of}
use Rattle.mailbox.specs.Seen.{seen_line}
use Rattle.mailbox.specs.SoFar.{IsRunSoFar}
use Rattle.mailbox.specs.Written.{Writes, WritesInPart}
use Rattle.mailbox.specs.declared.fault.SwitchFault.TheVariants.{WriteFailed}
use Rattle.mailbox.specs.declared.switch.Switch.{Switch}
use Rattle.switch_history.specs.Fit.{IsFitRun}
use Rattle.host_workers.specs.declared.switch_cell.SwitchCell.{SwitchCell}

abbrev pub sent_on : Sending Event → List Event
sent_on end = end.sent

abbrev pub got_of : Taking Message → List Message
got_of end = end.got

abbrev pub told_of : Taking Message → List Message
told_of end = end.told

-- Nothing went through these ends.
abbrev pub AreUnused : List (Taking Message) → List (Sending Event) → Type 0
AreUnused outs inboxes = (slot : ℕ) → (at_slot got_of outs slot ≡ []) × (at_slot sent_on inboxes slot ≡ [])

-- The message that was taken and isn't routed, if there is one.
abbrev pub kept_in : Option (ℕ × Message) → List (ℕ × Message)
kept_in None = []
kept_in (Some sent) = sent ∷ []

-- Each slot has its two lanes, by its number: the posts to a slot that a switch has logged are those that were sent on the slot's inbox, and
-- the messages that it has logged as routed from it are those that its lane out gave, but for the one that is kept. The lines that are logged as
-- accepted are those that the end of the lines gave, but for the last, where memory was wanting for it. The log is that of a run from this
-- switch, as far as it came; and of a whole one, whose messages were fit, as long as nothing has failed.
pub record IsSwitchOver {W : Type 0} (script : Script) (first : switch.Switch) (s : Switch W) (kept : Option (ℕ × Message)) (outs : List (Taking Message))
    (inboxes : List (Sending Event)) (got : List read.Line) : Type 0 where
  pub each_out : length outs ≡ slots_of s
  pub each_inbox : length inboxes ≡ slots_of s
  pub posted : (slot : ℕ) → at_slot sent_on inboxes slot ≡ of_slot slot (log_of s).posts
  pub routed : (slot : ℕ) → at_slot got_of outs slot ≡ of_slot slot ((log_of s).routed ++ kept_in kept)
  pub lost : List Line
  pub few : length lost ≤ 1
  pub none_lost : fault_of s ≡ None → lost ≡ []
  pub accepted : map seen_line got ≡ (log_of s).accepted ++ lost
  pub run : fault_of s ≡ None → IsFitRun script first (log_of s) (state_of s)
  pub so_far : IsRunSoFar script first (log_of s)

-- The script that a cell runs.
abbrev pub script_of : {W T : Type 0} → SwitchCell W T → Script
script_of cell = tree_of cell.checked.now

-- So is the switch of a cell, over what went through the cell's own ends.
abbrev pub IsSwitchCell : {W T : Type 0} → switch.Switch → SwitchCell W T → Type 0
IsSwitchCell first cell = IsSwitchOver (script_of cell) first cell.switch cell.kept cell.outs.items cell.inboxes.items cell.lines.got

abbrev pub KeepsSwitchCell : {W T : Type 0} → (old new : SwitchCell W T) → Type 0
KeepsSwitchCell old new = (first : switch.Switch) → IsSwitchCell first old → IsSwitchCell first new

-- The ends are those of the same lanes, and the script is the same.
pub record SameLanes {W T : Type 0} (old new : SwitchCell W T) : Type 0 where
  pub lines : (new.lines.lane ≡ old.lines.lane) × (new.lines.told ≡ old.lines.told)
  pub outs : map (λ (end : Taking Message). end.lane) new.outs.items ≡ map (λ (end : Taking Message). end.lane) old.outs.items
  pub inboxes : map (λ (end : Sending Event). end.lane) new.inboxes.items ≡ map (λ (end : Sending Event). end.lane) old.inboxes.items
  pub script : script_of new ≡ script_of old

-- A line that was taken was accepted, or is lost: the cell is one over what it got with this line.
abbrev pub AcceptsLine : {W T : Type 0} → (old new : SwitchCell W T) → read.Line → Type 0
AcceptsLine old new line = (first : switch.Switch) (got : List read.Line)
    → IsSwitchOver (script_of old) first old.switch old.kept old.outs.items old.inboxes.items got
    → IsSwitchOver (script_of new) first new.switch new.kept new.outs.items new.inboxes.items (got ++ line ∷ [])

-- The lines that a switch has logged were written behind what its sink held, as far as the sink tells it; after a write that failed their
-- first bytes. The sink's count of faults rose there, and else is what it was.
pub record HasPrinted {W : Type 0} (taken : W → Option (List ℕ)) (faults : W → ℕ) (held : Option (List ℕ)) (from : ℕ) (s : Switch W) : Type 0 where
  pub written : (fault_of s ≡ Some WriteFailed → ⊥) → Writes held (taken (out_of s)) [] (lines_of s)
  pub part : fault_of s ≡ Some WriteFailed → WritesInPart held (taken (out_of s)) [] (lines_of s)
  pub failed : fault_of s ≡ Some WriteFailed → Rose from (faults (out_of s))
  pub steady : (fault_of s ≡ Some WriteFailed → ⊥) → faults (out_of s) ≡ from

abbrev pub KeepsPrinted : {W : Type 0} → (W → Option (List ℕ)) → (W → ℕ) → (old new : Switch W) → Type 0
KeepsPrinted taken faults old new = (held : Option (List ℕ)) (from : ℕ) → HasPrinted taken faults held from old → HasPrinted taken faults held from new

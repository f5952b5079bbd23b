-- A run: its objects, and the switch between them and the lines.
use Rattle.std.specs.Prelude.{◌≡◌, ◌⊎◌, ℕ, List, [], ◌∷◌, ◌++◌, length, Option, None, Result, Err}
use Rattle.do_tree.specs.Tree.{Script}
use Rattle.line_server.specs.declared.line.Line as read
use Rattle.timeline.specs.Lines.{Line}
use Rattle.timeline.specs.Switch.{IsSwitchRun, opened}
use Rattle.mailbox.specs.Runs.{log_of, state_of, fault_of, slots_of, out_of, lines_of}
use Rattle.mailbox.specs.Seen.{seen_line}
use Rattle.mailbox.specs.SoFar.{IsRunSoFar}
use Rattle.mailbox.specs.Written.{Writes, WritesInPart, CountsWrites}
use Rattle.mailbox.specs.declared.fault.SwitchFault.{SwitchFault}
use Rattle.mailbox.specs.declared.fault.SwitchFault.TheVariants.{NoMemory, WriteFailed}
use Rattle.mailbox.specs.declared.switch.Switch.{Switch}
use Rattle.placement.specs.Slots.{Slots}
use Rattle.switch_history.specs.Fit.{IsFitRun}
use Rattle.host_core.specs.Objects.{ObjectsTell, AreSlots, AreGoing, AreResting, AreRouted, AreThere}
use Rattle.do_disk.specs.Disk.{Rose}
use Rattle.host_core.specs.declared.serving.Stop.{Stop}
use Rattle.host_core.specs.declared.serving.Stop.TheVariants as stops
use Rattle.host_core.specs.declared.objects.Objects.{Objects}

module _ {D W : Type 0} (moment_of : D → ℕ) (left_since : D → ℕ → List ℕ → Type 0) (told : D → Option (List ℕ)) (image : D → List ℕ → Type 0)
    (faults_of : D → ℕ)
    (limit : ℕ) (script : Script) where
  -- Between two steps, as long as nothing has failed: the switch's log is a run from the objects that the slots had, and each slot goes on.
  pub record IsServing (contents : ℕ → Option (List ℕ)) (named : Slots) (switch : Switch W) (objects : Objects D) : Type 0 where
    pub run : IsSwitchRun script (opened named) (log_of switch) (state_of switch)
    pub slots : AreGoing moment_of left_since told image faults_of limit script contents named (log_of switch) objects
    pub there : AreThere (length objects.cores.items) (log_of switch)
    pub many : slots_of switch ≡ length objects.cores.items
    pub all : length named ≡ length objects.cores.items
    pub goes : fault_of switch ≡ None
    -- while all disks tell their content, each message that was routed was fit
    pub fit : ObjectsTell told objects → IsFitRun script (opened named) (log_of switch) (state_of switch)

  -- At any end. Where memory was wanting to join the halves of some slots, there are objects of the slots before these alone.
  pub record HasServed (contents : ℕ → Option (List ℕ)) (named : Slots) (switch : Switch W) (objects : Objects D) : Type 0 where
    pub run : IsRunSoFar script (opened named) (log_of switch)
    pub slots : AreSlots moment_of left_since told image faults_of limit script contents named (log_of switch) objects
    pub there : AreThere (length named) (log_of switch)

module _ {D W : Type 0} (moment_of : D → ℕ) (left_since : D → ℕ → List ℕ → Type 0) (told : D → Option (List ℕ)) (image : D → List ℕ → Type 0)
    (faults_of : D → ℕ)
    (script : Script) where
  -- Where it serves, it does so again.
  abbrev pub KeepsServing : (old new : Switch W) → (before after : Objects D) → Type 0
  KeepsServing old new before after = (limit : ℕ) (contents : ℕ → Option (List ℕ)) (named : Slots)
      → IsServing moment_of left_since told image faults_of limit script contents named old before
      → IsServing moment_of left_since told image faults_of limit script contents named new after

  -- Where it serves, this is an end.
  abbrev pub LeavesServed : (old new : Switch W) → (before after : Objects D) → Type 0
  LeavesServed old new before after = (limit : ℕ) (contents : ℕ → Option (List ℕ)) (named : Slots)
      → IsServing moment_of left_since told image faults_of limit script contents named old before
      → HasServed moment_of left_since told image faults_of limit script contents named new after

-- Nothing is under way: each slot rests, and no message waits.
pub record IsAtRest {D : Type 0} (script : Script) (objects : Objects D) : Type 0 where
  pub resting : AreResting script objects
  pub routed : AreRouted objects

-- The line at which a run stops is the last that is logged; or memory was wanting, and it isn't logged.
abbrev pub IsLoggedAt : read.Line → (before after : List Line) → Result (Unit {0}) SwitchFault → Type 0
IsLoggedAt line before after result = (after ≡ before ++ seen_line line ∷ []) ⊎ ((after ≡ before) × (result ≡ Err NoMemory))

-- What the lines of a switch are, is written: all of them, or at a write fault the first bytes; and the sink's count of faults rose exactly
-- there.
pub record Prints {W T : Type 0} (taken : W → Option (List ℕ)) (faults : W → ℕ) (old new : Switch W) (result : Result T SwitchFault) : Type 0 where
  pub written : (result ≡ Err WriteFailed → ⊥) → Writes (taken (out_of old)) (taken (out_of new)) (lines_of old) (lines_of new)
  pub part : result ≡ Err WriteFailed → WritesInPart (taken (out_of old)) (taken (out_of new)) (lines_of old) (lines_of new)
  pub counted : fault_of old ≡ None → CountsWrites (faults (out_of old)) (faults (out_of new)) result

-- The same of a run of lines, which stops at a write fault or for another cause.
pub record PrintsUntil {W : Type 0} (taken : W → Option (List ℕ)) (faults : W → ℕ) (old new : Switch W) (result : Result (Unit {0}) Stop) : Type 0 where
  pub written : (result ≡ Err stops.WriteFailed → ⊥) → Writes (taken (out_of old)) (taken (out_of new)) (lines_of old) (lines_of new)
  pub part : result ≡ Err stops.WriteFailed → WritesInPart (taken (out_of old)) (taken (out_of new)) (lines_of old) (lines_of new)
  pub failed : result ≡ Err stops.WriteFailed → Rose (faults (out_of old)) (faults (out_of new))
  pub steady : (result ≡ Err stops.WriteFailed → ⊥) → faults (out_of new) ≡ faults (out_of old)

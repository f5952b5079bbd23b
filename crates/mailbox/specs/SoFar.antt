-- The log of a switch as far as it came.
use Rattle.std.specs.Prelude.{ℕ, List, [], ◌∷◌, ◌++◌}
use Rattle.do_tree.specs.Tree.{Script}
use Rattle.timeline.specs.Lines.{Line}
use Rattle.timeline.specs.Switch as timeline
use Rattle.timeline.specs.Switch.{SwitchLog, IsSwitchRun, accepts, routes}
use Rattle.timeline.specs.declared.caller.Caller.{Caller}
use Rattle.timeline.specs.declared.message.Message.{Message}
use Rattle.timeline.specs.declared.notice.Waits.{Waits}
use Rattle.mailbox.specs.Left.{finished_by}
use Rattle.mailbox.specs.Runs.{Begins}

-- The log of a run of the switch; or of one that a fault cut short: behind the run its last line or message stands, with the first of the
-- posts and lines that this gives; or the first of the lines of what is left at the end.
pub data IsRunSoFar (script : Script) (first : timeline.Switch) (log : SwitchLog) : Type 0 where
  whole : (s : timeline.Switch) → IsSwitchRun script first log s → IsRunSoFar script first log
  in_line : (before : SwitchLog) (s : timeline.Switch) (l : Line) → IsSwitchRun script first before s
      → Begins (record before { accepted = before.accepted ++ l ∷ [] }) log (accepts script s l) → IsRunSoFar script first log
  in_message : (before : SwitchLog) (s : timeline.Switch) (sent : ℕ × Message) → IsSwitchRun script first before s
      → Begins (record before { routed = before.routed ++ sent ∷ [] }) log (routes script s sent) → IsRunSoFar script first log
  at_end : (before : SwitchLog) (s : timeline.Switch) (left : List (ℕ × Caller × Waits)) → IsSwitchRun script first before s
      → Begins before log (finished_by s left) → IsRunSoFar script first log

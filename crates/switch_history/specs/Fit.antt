-- A run of the switch whose routed messages are all fit: each came from a slot that had an object then, and one that replies to an object
-- names a slot that had one.
use Rattle.std.specs.Prelude.{ℕ, [], ◌∷◌, ◌++◌}
use Rattle.do_tree.specs.Tree.{Script}
use Rattle.timeline.specs.Lines.{Line}
use Rattle.timeline.specs.Switch.{Switch, SwitchLog, accepts, gave, no_log, routes}
use Rattle.timeline.specs.declared.message.Message.{Message}
use Rattle.mailbox.specs.Fit.{IsFit}

pub data IsFitRun (script : Script) (first : Switch) : SwitchLog → Switch → Type 0 where
  begins : IsFitRun script first no_log first
  accepted : (log : SwitchLog) (s : Switch) (l : Line) → IsFitRun script first log s
      → IsFitRun script first (gave (record log { accepted = log.accepted ++ l ∷ [] }) (accepts script s l)) (accepts script s l).after
  routed : (log : SwitchLog) (s : Switch) (sent : ℕ × Message) → IsFit s sent → IsFitRun script first log s
      → IsFitRun script first (gave (record log { routed = log.routed ++ sent ∷ [] }) (routes script s sent)) (routes script s sent).after

-- A run of the switch whose messages are all fit is a run.
use Rattle.do_tree.specs.Tree.{Script}
use Rattle.timeline.specs.Switch as switch
use Rattle.timeline.specs.Switch.{Switch, SwitchLog, IsSwitchRun}
use Rattle.switch_history.specs.Fit.{IsFitRun, begins, accepted, routed}

-- Each step of it is one of a run.
pub fit_is_run : (script : Script) (first : Switch) (log : SwitchLog) (s : Switch) → IsFitRun script first log s → IsSwitchRun script first log s
fit_is_run script first _ _ begins = switch.begins
fit_is_run script first _ _ (accepted log s l run) = switch.accepted log s l (fit_is_run script first log s run)
fit_is_run script first _ _ (routed log s sent fit run) = switch.routed log s sent (fit_is_run script first log s run)

use Rattle.std.proofs.Common.{◌≡◌, drop}
use Rattle.std.specs.List.{flat_map, list_any}
use Rattle.alarm_core.specs.AlarmRule.{touches}
use Rattle.front_turns.proofs.alarm.any_batch_touches.Given as goal

abbrev pub invariant-loop-made : goal.invariant-loop-made
invariant-loop-made l = list_any touches (flat_map (λ made. made.batch) (drop l.made-index l.batches)) ≡ list_any touches (flat_map (λ made. made.batch) l.batches)

use Rattle.std.proofs.Common.{◌≡◌, drop}
use Rattle.std.specs.List.{flat_map}
use Rattle.storage_map.specs.Stored.{alarm_after}
use Rattle.front_turns.proofs.alarm.after_batches.Given as goal

abbrev pub invariant-loop-made : goal.invariant-loop-made
invariant-loop-made l = alarm_after l.after (flat_map (λ made. made.batch) (drop l.made-index l.batches)) ≡ alarm_after l.fn.alarm (flat_map (λ made. made.batch) l.batches)

-- A log that hasn't changed.
use Rattle.std.proofs.Common.{refl}
use Rattle.timeline.specs.declared.back_log.BackLog.{BackLog}
use Rattle.output_gate.specs.Taking.{LogSame}

pub no_change : (log : BackLog) → LogSame log log
no_change log = record { same = refl; flights = λ room. room; stops = λ room. room }

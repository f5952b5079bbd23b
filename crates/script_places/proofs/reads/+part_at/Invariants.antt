use Rattle.std.proofs.Common.{length}
use Rattle.script_places.proofs.reads.+part_at.Given as goal

-- the steps that are left
abbrev pub decreases-part_at : goal.decreases-part_at
decreases-part_at l = length l.steps.now

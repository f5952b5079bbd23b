use Rattle.std.proofs.Common.{length}
use Rattle.script_places.proofs.change.+change.Given as goal

-- the steps that are left
abbrev pub decreases-change : goal.decreases-change
decreases-change l = length l.steps.now

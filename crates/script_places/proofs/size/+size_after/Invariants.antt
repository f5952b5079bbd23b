use Rattle.std.proofs.Common.{length}
use Rattle.script_places.proofs.size.+size_after.Given as goal

-- the steps that are left
abbrev pub decreases-size_after : goal.decreases-size_after
decreases-size_after l = length l.steps.now

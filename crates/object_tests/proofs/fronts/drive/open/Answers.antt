use Rattle.std.proofs.Common.{inr}
use Rattle.object_tests.proofs.fronts.drive.open.Goals as goal

pub returns : goal.returns
returns c = inr (_, c.new.ensures.stands)

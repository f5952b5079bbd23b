use Rattle.object_core.proofs.Freshness.{are_fresh}
use Rattle.object_core.proofs.laws.halves_are_fresh.Goals as goal

pub returns : goal.returns
returns g c script mounted front = are_fresh script mounted front c.args.back.now

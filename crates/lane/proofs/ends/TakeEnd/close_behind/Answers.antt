use Rattle.std.proofs.Common.{ap}
use Rattle.lane.proofs.Steps.{merges}
use Rattle.lane.proofs.ends.TakeEnd.close_behind.Goals as goal

pub absorb-requires-clause-rule : goal.absorb-requires-clause-rule
absorb-requires-clause-rule g c = merges _ _ _ _ (ap (λ v. v.sends) c.requires.sends.1) (ap (λ v. v.takes) c.self.invariant.1)

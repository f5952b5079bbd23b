use Rattle.object_core.proofs.laws.one_has_class.Goals as goal

pub returns : goal.returns
returns g c script origin one = record { classed = one.classed; named = one.named }

use Rattle.object_core.proofs.laws.one_is_limited.Goals as goal

pub returns : goal.returns
returns g c script origin one = one.limited

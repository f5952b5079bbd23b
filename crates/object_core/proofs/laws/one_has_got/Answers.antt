use Rattle.object_core.proofs.laws.one_has_got.Goals as goal

pub returns : goal.returns
returns g c script origin one = one.has_got

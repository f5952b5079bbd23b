use Rattle.object_core.proofs.laws.one_has_left.Goals as goal

pub returns : goal.returns
returns g c script origin one = one.left

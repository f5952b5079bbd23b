use Rattle.object_core.proofs.laws.one_sticks.Goals as goal

pub returns : goal.returns
returns g c script origin tells one on stuck = one.sticks tells on stuck

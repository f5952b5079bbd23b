use Rattle.object_front.proofs.Classes as classes
use Rattle.object_front.proofs.laws.class_comes.Goals as goal

pub returns : goal.returns
returns c = classes.class_comes

use Rattle.timeline.specs.Object.{idle}
use Rattle.timeline.proofs.Bounds.{fits}
use Rattle.timeline.proofs.laws.maps_answers_fit.Goals as goal

pub returns : goal.returns
returns c = λ n l m o taken are. fits n l m (idle o) taken tt are

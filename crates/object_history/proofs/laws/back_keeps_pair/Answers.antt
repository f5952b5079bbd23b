use Rattle.object_history.proofs.BackStepping.{steps_keep}
use Rattle.object_history.proofs.WellSaid.{delivers_well, answers_well}
use Rattle.object_history.proofs.laws.back_keeps_pair.Goals as goal

pub returns : goal.returns
returns c = λ k opened f front rear later got line told given notices known after steps are pair.
    steps_keep (record { on_event = delivers_well; on_answer = answers_well }) k opened f front rear line given notices later got told steps known after are pair

use Rattle.object_history.proofs.WellSaid.{delivers_well, answers_well}
use Rattle.object_history.proofs.laws.steps_say_well.Goals as goal

pub returns : goal.returns
returns c = record { on_event = delivers_well; on_answer = answers_well }

use Rattle.object_history.proofs.FrontKeeping.{front_keeps}
use Rattle.object_history.proofs.GoingOn.{begins_telling, tells_on_event, tells_on_answer}
use Rattle.object_history.proofs.SoFar.{tells_so_far, tells_whole}
use Rattle.object_history.proofs.WellSaid.{delivers_well, answers_well}
use Rattle.object_history.specs.Laws.{TellingGoesOn, TellingTells, StepsSayWell}
use Rattle.object_history.proofs.laws.front_keeps_pair.Goals as goal

-- A front tells what its script tells, and its steps say well.
goes_on : TellingGoesOn
goes_on = record {
  begins = begins_telling;
  on_event = λ k start before f o e so_far serving. tells_on_event k start before f so_far o e serving;
  on_answer = λ k start before f o t b n first so_far serving said maps. tells_on_answer k start before f so_far o t b n serving first said maps;
}

tells : TellingTells
tells = record { so_far = tells_so_far; whole = tells_whole }

well : StepsSayWell
well = record { on_event = delivers_well; on_answer = answers_well }

pub returns : goal.returns
returns c = front_keeps goes_on tells well

use Rattle.object_history.proofs.GoingOn.{begins_telling, tells_on_event, tells_on_answer}
use Rattle.object_history.proofs.laws.telling_goes_on.Goals as goal

pub returns : goal.returns
returns c = record {
  begins = begins_telling;
  on_event = λ k start before f o e so_far serving. tells_on_event k start before f so_far o e serving;
  on_answer = λ k start before f o t b n first so_far serving said maps. tells_on_answer k start before f so_far o t b n serving first said maps;
}

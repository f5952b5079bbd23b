use Rattle.front_history.proofs.Whole.{begins_so, is_whole}
use Rattle.front_history.proofs.laws.halves_are_whole.Goals as goal

pub returns : goal.returns
returns c = record {
  begins = λ k opened st half rear line notices below runs paired number. begins_so k opened st half rear line notices below runs paired number;
  whole = λ k opened st half rear line notices below runs paired number rests.
      is_whole k opened st half rear line notices below runs paired number c.telling_tells.ensures rests;
}

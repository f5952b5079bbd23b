use Rattle.std.proofs.Common.{refl}
use Rattle.front_half.proofs.half.Half.take_event.Goals as goal

pub returns-in-Err-clause-stops : goal.returns-in-Err-clause-stops
returns-in-Err-clause-stops g c = λ st half free. record { stopped = refl; cut = c.in-Err.ensures.cut st half free }

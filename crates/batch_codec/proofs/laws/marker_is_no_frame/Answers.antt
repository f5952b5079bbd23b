use Rattle.batch_codec.proofs.Marking.{marker_differs}
use Rattle.batch_codec.proofs.laws.marker_is_no_frame.Goals as goal

pub returns : goal.returns
returns c = marker_differs

use Rattle.script_ops.proofs.Joined.{pieces_joined}
use Rattle.script_ops.proofs.laws.pieces_join.Goals as goal

pub returns : goal.returns
returns c = pieces_joined

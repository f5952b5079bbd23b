use Rattle.switch_history.proofs.Ordered.{in_order}
use Rattle.switch_history.proofs.laws.calls_come_in_order.Goals as goal

pub returns : goal.returns
returns c = in_order

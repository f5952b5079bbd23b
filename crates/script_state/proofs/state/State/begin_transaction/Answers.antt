use Rattle.script_state.proofs.Ending.{transaction_begun}
use Rattle.script_state.proofs.state.State.begin_transaction.Goals as goal

pub returns : goal.returns
returns c = transaction_begun c.args.self.now c.cut.new.self c.new.result c.new.ensures c.in_ok-cut.ensures

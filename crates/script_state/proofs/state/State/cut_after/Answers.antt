use Rattle.script_state.proofs.Batches.{on_ok}
use Rattle.script_state.proofs.Ending.{awaited_cut}
use Rattle.script_state.proofs.state.State.cut_after.Goals as goal

pub returns-in-Present : goal.returns-in-Present
returns-in-Present c = on_ok c.cut.result (awaited_cut c.args.awaited c.args.self.now c.cut.new.self c.in-Present.is) c.cut.ensures

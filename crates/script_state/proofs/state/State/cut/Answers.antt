use Rattle.std.proofs.Common.{true≢false}
use Rattle.script_state.proofs.Batches.{cut_some, on_ok}
use Rattle.script_state.proofs.state.State.cut.Goals as goal

pub returns-in-Some : goal.returns-in-Some
returns-in-Some c =
    on_ok c.close-in-Some.result
    (cut_some c.in-Some.made c.args.self.now c.close.new.self c.close-in-Some.new.self c.in-Some.ensures.batch (λ e. true≢false (c.in-Some.ensures.none.1 e))
    c.close.ensures.empty)
    c.close-in-Some.ensures

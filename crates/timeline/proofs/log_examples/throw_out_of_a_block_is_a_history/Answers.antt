use Rattle.timeline.proofs.Refuting.{is_thrown}
use Rattle.timeline.proofs.log_examples.throw_out_of_a_block_is_a_history.Goals as goal

pub returns : goal.returns
returns c = is_thrown

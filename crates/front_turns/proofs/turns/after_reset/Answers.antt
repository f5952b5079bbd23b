use Rattle.front_turns.proofs.Saying.{says_more}
use Rattle.front_turns.proofs.turns.after_reset.Goals as goal

pub returns : goal.returns
returns g c = λ l o t again fields value running. rw running.purpose (says_more _ c.in_ok-say_batches.ensures (c.in_ok-state.ensures l))

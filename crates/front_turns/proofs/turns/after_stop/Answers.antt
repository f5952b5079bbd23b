use Rattle.front_turns.proofs.Saying.{says_more}
use Rattle.front_turns.proofs.turns.after_stop.Goals as goal

pub returns : goal.returns
returns g c = λ l o t again running. rw running.purpose (says_more _ c.in_ok-say_batches.ensures (c.in_ok-state.ensures l))

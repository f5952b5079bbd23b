use Rattle.front_turns.proofs.Saying.{says_more}
use Rattle.front_turns.proofs.asks.asks_store.Goals as goal

pub returns : goal.returns
returns g c = λ l ts t again held paused. says_more _ c.in_ok-say_batches.ensures (c.in_ok-state.ensures l ts t held paused)

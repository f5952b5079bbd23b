use Rattle.front_turns.proofs.Saying.{idle_says, says_more}
use Rattle.front_turns.proofs.Asking.{asked_with, written_by_last}
use Rattle.front_turns.specs.Held.{object_of}
use Rattle.front_turns.proofs.asks.asks_written.Goals as goal

pub returns-in-None : goal.returns-in-None
returns-in-None g c = λ l ts t held paused. rw c.in-None.ensures.none (idle_says ts held)

pub returns-in_ok-state-in-Some : goal.returns-in_ok-state-in-Some
returns-in_ok-state-in-Some g c = λ l ts t held paused.
    rw (written_by_last (object_of c.args.object ts) t c.args.tail c.args.batches.items c.in-Some.batches.items c.in-Some.made c.in-Some.ensures.some)
    (says_more _ c.in_ok-say_batches-in-Some.ensures
    (asked_with g.T.Task.seen l _ _ _ (object_of c.args.object ts) t c.args.tail _ _ _ c.into_batch.ensures (c.in_ok-state-in-Some.ensures l ts t held paused)))

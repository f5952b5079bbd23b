use Rattle.front_turns.proofs.Saying.{idle_says}
use Rattle.front_turns.proofs.serving.begins.Goals as goal

pub returns-in_ok-state-in-Call : goal.returns-in_ok-state-in-Call
returns-in_ok-state-in-Call g c = λ ts held. rw c.in-Call.is (c.in_ok-state-in-Call.ensures ts held)

pub returns-in_ok-state-in-Tick : goal.returns-in_ok-state-in-Tick
returns-in_ok-state-in-Tick g c = λ ts held. rw c.in-Tick.is (c.in_ok-state-in-Tick.ensures ts held)

pub returns-in-Bind : goal.returns-in-Bind
returns-in-Bind g c = λ ts held. rw c.in-Bind.is (idle_says ts held)

pub returns-in-Answer : goal.returns-in-Answer
returns-in-Answer g c = λ ts held. rw c.in-Answer.is (idle_says ts held)

pub returns-in-Evict : goal.returns-in-Evict
returns-in-Evict g c = λ ts held. rw c.in-Evict.is (idle_says ts held)

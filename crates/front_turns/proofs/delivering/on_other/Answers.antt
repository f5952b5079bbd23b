use Rattle.std.proofs.Common.{◌∙◌, sym, true≢false, ap}
use Rattle.front_turns.specs.Kinds.{call_depth, is_tick}
use Rattle.front_turns.proofs.Methods.{nothing}
use Rattle.front_turns.proofs.delivering.on_other.Goals as goal

pub returns-in_ok-state-in-Bind : goal.returns-in_ok-state-in-Bind
returns-in_ok-state-in-Bind g c = λ ts held call tick. rw c.in-Bind.is (c.in_ok-state-in-Bind.ensures _ ts held)

pub returns-in_ok-state-in-Answer : goal.returns-in_ok-state-in-Answer
returns-in_ok-state-in-Answer g c = λ ts held call tick. rw c.in-Answer.is (c.in_ok-state-in-Answer.ensures ts held)

pub returns-in-Evict : goal.returns-in-Evict
returns-in-Evict g c = λ ts held call tick. rw c.in-Evict.is (c.on_evict.ensures _ ts _ held)

pub returns-in-Call : goal.returns-in-Call
returns-in-Call g c = λ ts held call tick. absurd (nothing c.in-Call.depth (sym call ∙ ap call_depth c.in-Call.is))

pub returns-in-Tick : goal.returns-in-Tick
returns-in-Tick g c = λ ts held call tick. absurd (true≢false (sym (ap is_tick c.in-Tick.is) ∙ tick))

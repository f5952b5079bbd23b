use Rattle.std.proofs.Common.{◌∙◌, sym, ap, not}
use Rattle.front_turns.specs.Held.{object_of}
use Rattle.front_half.specs.Kinds.{is_call}
use Rattle.front_half.proofs.Judging.{answer_eligible, bind_eligible, call_eligible, evict_eligible, tick_eligible}
use Rattle.front_half.proofs.testing.is_eligible.Goals as goal

pub returns-in-Bind : goal.returns-in-Bind
returns-in-Bind g c = λ l ts held. sym (bind_eligible (object_of c.args.object.now ts) c.args.event.now _ c.in-Bind.is)

pub returns-in-Answer : goal.returns-in-Answer
returns-in-Answer g c = λ l ts held.
    c.lets_answer.ensures l ts held ∙ sym (answer_eligible (object_of c.args.object.now ts) c.args.event.now _ _ _ _ c.in-Answer.is)

pub returns-in-Evict : goal.returns-in-Evict
returns-in-Evict g c = λ l ts held. c.lets_evict.ensures l ts held ∙ sym (evict_eligible (object_of c.args.object.now ts) c.args.event.now _ c.in-Evict.is)

pub returns-in-Call : goal.returns-in-Call
returns-in-Call g c = λ l ts held.
    ap not (c.is_blocked.ensures l ts held) ∙ sym (call_eligible (object_of c.args.object.now ts) c.args.event.now (ap is_call c.in-Call.is))

pub returns-in-Tick : goal.returns-in-Tick
returns-in-Tick g c = λ l ts held.
    ap not (c.is_blocked-in-Tick.ensures l ts held) ∙ sym (tick_eligible (object_of c.args.object.now ts) c.args.event.now _ c.in-Tick.is)

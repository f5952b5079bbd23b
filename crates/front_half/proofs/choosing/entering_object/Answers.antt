use Rattle.std.proofs.Common.{◌≡◌, ◌∙◌, sym, ap, Bool, true, false}
use Rattle.timeline.specs.Eligible.{has_no_task, is_eligible_while, resumes_block}
use Rattle.timeline.specs.Object.{Object, is_blocked}
use Rattle.front_turns.specs.Held.{object_of}
use Rattle.front_half.proofs.Gates.{only_newest}
use Rattle.front_half.proofs.choosing.entering_object.Goals as goal

pub returns-then-is_blocked : goal.returns-then-is_blocked
returns-then-is_blocked g c = λ l ts constructor held gated event.
    let o : Object = object_of c.args.object.now ts in
    let blocked : is_blocked o ≡ true = sym (c.is_blocked.ensures l ts held) ∙ c.if-is_blocked.true in
    ap (λ (b : Bool). is_eligible_while b (resumes_block o event) (has_no_task ts) event) blocked
    ∙ c.eligible_events_enter.ensures.blocked o c.args.object.now.made (only_newest c.args.object.now.made ts gated.tasks blocked) (has_no_task ts) event

pub returns-then-is_resting : goal.returns-then-is_resting
returns-then-is_resting g c = λ l ts constructor held gated event.
    let o : Object = object_of c.args.object.now ts in
    ap (λ (b : Bool). is_eligible_while b (resumes_block o event) (has_no_task ts) event) (sym (c.is_blocked.ensures l ts held) ∙ c.if-is_blocked.false)
    ∙ ap (λ (b : Bool). is_eligible_while false (resumes_block o event) b event) (sym (c.is_resting.ensures l ts held) ∙ c.if-is_resting.true)
    ∙ c.eligible_events_enter.ensures.rests (resumes_block o event) event

pub returns : goal.returns
returns g c = λ l ts constructor held gated event.
    let o : Object = object_of c.args.object.now ts in
    ap (λ (b : Bool). is_eligible_while b (resumes_block o event) (has_no_task ts) event) (sym (c.is_blocked.ensures l ts held) ∙ c.if-is_blocked.false)
    ∙ ap (λ (b : Bool). is_eligible_while false (resumes_block o event) b event) (sym (c.is_resting.ensures l ts held) ∙ c.if-is_resting.false)
    ∙ c.eligible_events_enter.ensures.runs (resumes_block o event) event

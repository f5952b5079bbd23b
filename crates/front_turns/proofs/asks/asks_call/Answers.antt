use Rattle.std.proofs.Common.{◌+◌, ◌∙◌, ap, refl}
use Rattle.std.specs.Prelude.{ℕ}
use Rattle.timeline.specs.declared.message.Message.{Message}
use Rattle.timeline.specs.declared.message.Message.TheVariants as message
use Rattle.timeline.specs.Steps as steps
use Rattle.front_turns.proofs.Asking.{called, goes_more}
use Rattle.front_turns.proofs.asks.asks_call.Goals as goal

pub returns : goal.returns
returns g c = λ l ts t again same held paused asked.
    let messages : ℕ → Message = λ number. message.Call l.incarnation number c.args.to c.args.method c.args.args (t.depth + 1) in
    goes_more _ l _ _ _ _ again _ _ c.in_ok-say_batches.ensures
    (c.in_ok-went.ensures l ts t again (t.depth + 1) messages held paused
    (λ made. called l t c.in_ok-number.number made c.args.to c.in_ok-callee.callee _ _ c.in_ok-callee.ensures asked)
    (λ made. ap (λ (n : ℕ). steps.refusal (n + 1) made) paused.running.depth ∙ c.deeper-depth.ensures.same made)
    (λ few. rw (same, paused.running.depth, c.deeper-depth.ensures.exact few) refl))

use Rattle.std.proofs.Common.{ap, refl}
use Rattle.std.specs.Prelude.{ℕ}
use Rattle.timeline.specs.declared.message.Message.{Message}
use Rattle.timeline.specs.declared.message.Message.TheVariants as message
use Rattle.front_turns.proofs.Asking.{fetched, goes_more}
use Rattle.front_turns.proofs.asks.asks_fetch.Goals as goal

pub returns : goal.returns
returns g c = λ l ts t again same held paused asked.
    let messages : ℕ → Message = λ number. message.Fetch l.incarnation number c.args.value in
    goes_more _ l _ _ _ _ again _ _ c.in_ok-say_batches.ensures
    (c.in_ok-went.ensures l ts t again 0 messages held paused (λ made. fetched l t c.in_ok-number.number made c.args.value asked) (λ made. refl) (λ few. ap (λ i. message.Fetch i c.in_ok-number.number c.args.value) same))

use Rattle.std.proofs.Common.{subst}
use Rattle.script_mean.specs.declared.ask.Ask.{Ask}
use Rattle.front_turns.specs.Held.{HasAsked}
use Rattle.front_turns.proofs.asks.on_ask.Goals as goal

pub returns-in_ok-state-in-Store : goal.returns-in_ok-state-in-Store
returns-in_ok-state-in-Store g c = λ l ts t again same held paused asked. rw c.in-Store.is (c.in_ok-state-in-Store.ensures l ts t again held paused)

pub returns-in_ok-state-in-Open : goal.returns-in_ok-state-in-Open
returns-in_ok-state-in-Open g c = λ l ts t again same held paused asked. rw c.in-Open.is (c.in_ok-state-in-Open.ensures l ts t again held paused)

pub returns-in_ok-state-in-Sync : goal.returns-in_ok-state-in-Sync
returns-in_ok-state-in-Sync g c = λ l ts t again same held paused asked. rw c.in-Sync.is (c.in_ok-state-in-Sync.ensures l ts t again held paused)

pub returns-in_ok-went-in-Call : goal.returns-in_ok-went-in-Call
returns-in_ok-went-in-Call g c = λ l ts t again same held paused asked.
    rw c.in-Call.is (c.in_ok-went-in-Call.ensures l ts t again same held paused (subst (λ (a : Ask). HasAsked l t a) c.in-Call.is asked))

pub returns-in_ok-went-in-Fetch : goal.returns-in_ok-went-in-Fetch
returns-in_ok-went-in-Fetch g c = λ l ts t again same held paused asked.
    rw c.in-Fetch.is (c.in_ok-went-in-Fetch.ensures l ts t again same held paused (subst (λ (a : Ask). HasAsked l t a) c.in-Fetch.is asked))

pub returns-in_ok-state-in-Written : goal.returns-in_ok-state-in-Written
returns-in_ok-state-in-Written g c = λ l ts t again same held paused asked. rw c.in-Written.is (c.in_ok-state-in-Written.ensures l ts t held paused)

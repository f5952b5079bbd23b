use Rattle.host_core.proofs.Servings.{on_ok_then}
use Rattle.host_core.proofs.closing.ask.Goals as goal

pub returns : goal.returns
returns c =
    on_ok_then c.add_left.result (λ added. record {
      asked_others = c.in_ok-asked.was;
      remaining = c.in_ok-remaining.remaining.items;
      added = added;
      is_left = c.in_ok-remaining.ensures;
    }) c.add_left.ensures

use Rattle.std.proofs.Common.{sym, refl, ap, ◌+◌}
use Rattle.std.specs.Prelude.{[], ◌∷◌, ◌++◌}
use Rattle.timeline.specs.Object as seen
use Rattle.timeline.specs.Object.{OpenTask}
use Rattle.timeline.specs.declared.entry.Body.TheVariants as body
use Rattle.front_turns.proofs.Saying.{one_said}
use Rattle.front_turns.proofs.asks.leaves.Goals as goal

pub returns : goal.returns
returns g c = λ l ts t again messages held paused waits is.
    let u : OpenTask = record t { number = c.args.number; made = t.made + 1 } in
    rw (sym c.requires.number, is)
    (one_said {o = c.in_ok-object.object} (body.Message c.args.message) (ts ++ u ∷ []) _
    (c.in_ok-object.ensures.holds l ts u held (record {
      linked = paused.linked;
      class = paused.class;
      block = paused.block;
      running = record { purpose = paused.running.purpose; depth = paused.running.depth; made = ap (λ n. n + 1) paused.running.made };
    }) refl (waits (t.made + 1)))
    (ap (λ (x : seen.Object). record x { tasks = ts ++ u ∷ [] }) c.in_ok-object.ensures.object)
    c.in_ok-say.ensures)

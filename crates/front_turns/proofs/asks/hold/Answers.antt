use Rattle.std.proofs.Common.{◌∙◌, sym, refl, subst, ap, ℕ, ◌+◌, List, [], ◌∷◌, ◌++◌, arith}
use Rattle.std.specs.Prelude.{if◌then◌else◌, Bool}
use Rattle.object_calls.specs.Numbered.{AreAtMost}
use Rattle.object_calls.proofs.Numbers.{put_last, at_most_more}
use Rattle.front_turns.specs.Held.{AreHeld}
use Rattle.front_turns.specs.declared.object.Held.{Held}
use Rattle.front_turns.proofs.Holding.{held_too, blocks_too}
use Rattle.front_turns.proofs.asks.hold.Goals as goal

pub returns-in-Ok : goal.returns-in-Ok
returns-in-Ok g c = record {
  object = refl;
  holds = λ l ts t held paused number waits.
      let o = c.args.object in
      let h : Held g.row.T.Denot = record { running = c.args.running; awaited = c.args.awaited; task = c.args.task } in
      let all = c.in-Ok.ensures.entries ∙ put_last c.args.number h o.made o.tasks.entries held.numbers (omega (arith, c.requires)) in
      record {
        tasks = subst (λ (hs : List (ℕ × Held g.row.T.Denot)). AreHeld g.T.Task.seen l hs (ts ++ t ∷ [])) (sym all)
            (held_too g.T.Task.seen l o.tasks.entries ts (c.args.number, h) t held.tasks (record { number = number; paused = paused; waits = waits }));
        blocks = c.in_ok-blocks.ensures ∙ ap (λ (b : Bool). (if b then 1 else 0) + o.blocks) (c.block.ensures ∙ sym paused.block)
            ∙ ap (λ (n : ℕ). (if t.block then 1 else 0) + n) held.blocks ∙ sym (blocks_too ts t);
        numbers = subst (λ (hs : List (ℕ × Held g.row.T.Denot)). AreAtMost c.args.number hs) (sym all)
            (rw c.requires (at_most_more o.made h o.tasks.entries held.numbers));
        parked = held.parked;
        clock = held.clock;
      };
}

use Rattle.std.proofs.Common.{◌∙◌, ◌+◌, sym, ap, subst}
use Rattle.std.specs.Prelude.{ℕ, Bool, List, if◌then◌else◌}
use Rattle.object_calls.specs.Numbered.{AreAtMost}
use Rattle.object_calls.proofs.Numbers.{find_under, out_others}
use Rattle.timeline.specs.Object.{tasks_but}
use Rattle.front_turns.specs.Held.{AreHeld, blocks_in}
use Rattle.front_turns.specs.declared.object.Held.{Held}
use Rattle.front_turns.proofs.Holding.{found_under, none_under_too, none_out, at_most_others}
use Rattle.front_turns.proofs.delivering.take_task.Goals as goal

pub returns-in-None-clause-none : goal.returns-in-None-clause-none
returns-in-None-clause-none g c = λ l ts held.
    let es = c.args.object.tasks.entries in
    let none = sym (find_under c.args.number es) ∙ sym c.remove.ensures.value ∙ c.in-None.is in
    let left = sym (c.remove.ensures.entries ∙ out_others c.args.number es ∙ none_out c.args.number es none) in (
      none_under_too g.T.Task.seen l c.args.number es ts held.tasks none,
      record {
        tasks = subst (λ (hs : List (ℕ × Held g.row.T.Denot)). AreHeld g.T.Task.seen l hs ts) left held.tasks;
        blocks = held.blocks;
        numbers = subst (λ (hs : List (ℕ × Held g.row.T.Denot)). AreAtMost c.args.object.made hs) left held.numbers;
        parked = held.parked;
        clock = held.clock;
      },
    )

pub returns-in-Some-clause-found : goal.returns-in-Some-clause-found
returns-in-Some-clause-found g c = λ l ts held.
    let es = c.args.object.tasks.entries in
    let there = sym (find_under c.args.number es) ∙ sym c.remove.ensures.value ∙ c.in-Some.is in
    let f = found_under g.T.Task.seen l c.args.number c.in-Some.held es ts held.tasks there in
    let left = sym (c.remove.ensures.entries ∙ out_others c.args.number es) in
    record {
      task = f.task;
      there = f.there;
      paused = f.paused;
      under = f.number_is;
      rest = record {
        tasks = subst (λ (hs : List (ℕ × Held g.row.T.Denot)). AreHeld g.T.Task.seen l hs (tasks_but c.args.number ts)) left f.rest;
        blocks = c.fewer_blocks.ensures (blocks_in (tasks_but c.args.number ts))
            (held.blocks ∙ f.blocks ∙ ap (λ (b : Bool). (if b then 1 else 0) + blocks_in (tasks_but c.args.number ts)) (f.paused.block ∙ sym c.block.ensures));
        numbers = subst (λ (hs : List (ℕ × Held g.row.T.Denot)). AreAtMost c.args.object.made hs) left (at_most_others c.args.number c.args.object.made es held.numbers);
        parked = held.parked;
        clock = held.clock;
      };
    }

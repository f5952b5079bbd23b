use Rattle.std.proofs.Common.{subst, refl}
use Rattle.timeline.specs.Steps.{latest_turn}
use Rattle.front_turns.specs.Held.{Runs, object_of}
use Rattle.front_turns.specs.declared.outcome.Outcome.{Outcome}
use Rattle.front_turns.proofs.Turning.{by_turn, rests_by_turn}
use Rattle.front_turns.proofs.turns.after_turn.Goals as goal

pub returns-in_ok-went-in-Paused : goal.returns-in_ok-went-in-Paused
returns-in_ok-went-in-Paused g c = λ l ts t again same held runs.
    let r = subst (λ (o : Outcome g.row.T.Denot). Runs g.T.Task.seen l o c.args.running t) c.in-Paused.is runs in
    by_turn g.T.Task.seen l _ _ _ again _ t (latest_turn l t) _ r.turn (c.in_ok-went-in-Paused.ensures l ts t again same held
    (record { linked = r.linked; class = r.class; block = refl; running = record { purpose = r.running.purpose; depth = r.running.depth; made = r.running.made } })
    (record { batches = _; fields = _; block = _; turn = r.turn }))

pub returns-in_ok-state-in-Done : goal.returns-in_ok-state-in-Done
returns-in_ok-state-in-Done g c = λ l ts t again same held runs.
    let r = subst (λ (o : Outcome g.row.T.Denot). Runs g.T.Task.seen l o c.args.running t) c.in-Done.is runs in
    rests_by_turn g.T.Task.seen l c.args.says.now.items _ _ again (object_of c.args.object ts) t (latest_turn l t) _ r.turn (c.in_ok-state-in-Done.ensures l ts t again held r.running)

pub returns-in_ok-state-in-Threw : goal.returns-in_ok-state-in-Threw
returns-in_ok-state-in-Threw g c = λ l ts t again same held runs.
    let r = subst (λ (o : Outcome g.row.T.Denot). Runs g.T.Task.seen l o c.args.running t) c.in-Threw.is runs in
    rests_by_turn g.T.Task.seen l c.args.says.now.items _ _ again (object_of c.args.object ts) t (latest_turn l t) _ r.turn (c.in_ok-state-in-Threw.ensures l ts t again held r.running)

pub returns-in_ok-state-in-Exceeded : goal.returns-in_ok-state-in-Exceeded
returns-in_ok-state-in-Exceeded g c = λ l ts t again same held runs.
    let r = subst (λ (o : Outcome g.row.T.Denot). Runs g.T.Task.seen l o c.args.running t) c.in-Exceeded.is runs in
    rests_by_turn g.T.Task.seen l c.args.says.now.items _ _ again (object_of c.args.object ts) t (latest_turn l t) _ r.turn (c.in_ok-state-in-Exceeded.ensures l (object_of c.args.object ts) t again r.running)

use Rattle.std.proofs.Common.{◌∙◌, ap, is_some, Option}
use Rattle.object_calls.proofs.Numbers.{find_under}
use Rattle.timeline.specs.Object.{is_open, task_under}
use Rattle.front_turns.specs.declared.object.Held.{Held}
use Rattle.front_half.proofs.Judging.{of_another, of_this, open_held}
use Rattle.front_half.proofs.testing.is_waited_for.Goals as goal

pub returns-then-incarnation-now : goal.returns-then-incarnation-now
returns-then-incarnation-now g c = λ l ts held. of_another c.args.incarnation c.args.now (is_open (task_under c.args.number ts)) c.if-incarnation-now.true

pub returns : goal.returns
returns g c = λ l ts held.
    let es = c.args.object.now.tasks.entries in
    c.contains_key.ensures
    ∙ ap (λ (o : Option (Held g.row.T.Denot)). is_some o) (find_under c.args.number es)
    ∙ open_held g.T.Task.seen l c.args.number es ts held.tasks
    ∙ of_this c.args.incarnation c.args.now (is_open (task_under c.args.number ts)) c.if-incarnation-now.false

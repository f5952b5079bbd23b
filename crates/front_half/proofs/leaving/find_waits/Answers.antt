use Rattle.front_turns.specs.Held.{object_of}
use Rattle.front_half.specs.ByCallers.{kept_for}
use Rattle.front_half.proofs.Waiting.{call_of_caller}
use Rattle.front_half.proofs.leaving.find_waits.Goals as goal

pub returns : goal.returns
returns g c = λ l ts same held from.
    call_of_caller g.T.Task.seen l c.args.incarnation c.args.deferred.now c.in_ok-answers.answers (kept_for from c.in_ok-served.served) from c.args.object.now.tasks.entries
    (object_of c.args.object.now ts) same c.in_ok-answers.ensures held.tasks (c.in_ok-served.ensures from)

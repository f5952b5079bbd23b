use Rattle.std.proofs.Common.{sym, subst}
use Rattle.std.specs.Prelude.{ℤ, ℕ, Option, Some}
use Rattle.do_tree.specs.Checked.{tree_of as script_in}
use Rattle.timeline.specs.Steps as steps
use Rattle.front_turns.specs.Held.{life_in, object_of, retry_of, Says}
use Rattle.front_turns.proofs.Saying.{idle_says}
use Rattle.front_turns.proofs.serving.begins_due.Goals as goal

pub returns-in-None : goal.returns-in-None
returns-in-None g c = λ ts held. rw c.in-None.is (idle_says ts held)

pub returns-in_ok-state-in-Some : goal.returns-in_ok-state-in-Some
returns-in_ok-state-in-Some g c = λ ts held.
    let l = life_in (script_in c.args.checked.now) c.args.class c.args.incarnation in
    subst (λ (h : Option (ℤ × ℕ)). Says g.T.Task.seen l c.args.says.now.items c.begins_alarm.new.says.items c.in_ok-state-in-Some.state
    (steps.begins_handler l (object_of c.args.object ts) (Some c.args.method) (retry_of h))) (sym c.in-Some.is) (c.in_ok-state-in-Some.ensures ts held)

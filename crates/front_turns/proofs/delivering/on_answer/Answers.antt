use Rattle.std.proofs.Common.{sym, refl, ap, subst}
use Rattle.std.specs.Prelude.{Option}
use Rattle.do_tree.specs.Checked.{tree_of as script_in}
use Rattle.timeline.specs.Object as seen
use Rattle.timeline.specs.Object.{OpenTask, tasks_but}
use Rattle.timeline.specs.Steps as steps
use Rattle.front_turns.specs.Held.{life_in, object_of, Says}
use Rattle.front_turns.specs.declared.object.State.TheVariants as state
use Rattle.front_turns.proofs.Saying.{rests_says}
use Rattle.front_turns.proofs.Stating.{was_taken, none_taken, answered_says}
use Rattle.front_turns.proofs.delivering.on_answer.Goals as goal

pub goes_on-requires-clause-held : goal.goes_on-requires-clause-held
goes_on-requires-clause-held g c =
    let l = life_in (script_in c.args.checked.now) c.args.class c.args.incarnation in
    let h = c.requires.held in
    let f = was_taken g.T.Task.seen l c.args.number c.take_task-object.result.1 c.in-Some.held c.args.object c.take_task-object.result.0 h.0 c.in-Some.is c.take_task-object.ensures.found h.1 in
    (tasks_but c.args.number h.0, f.task, f.rest, f.paused)

pub returns-in-None : goal.returns-in-None
returns-in-None g c = λ ts held.
    let l = life_in (script_in c.args.checked.now) c.args.class c.args.incarnation in
    let n = none_taken g.T.Task.seen l c.args.number c.take_task-object.result.1 c.args.object c.take_task-object.result.0 ts c.in-None.is c.take_task-object.ensures.none held in
    subst (λ (t : Option OpenTask). Says g.T.Task.seen l c.args.says.now.items c.args.says.now.items (state.Idle c.take_task-object.result.0) (steps.on_answer l (object_of c.args.object ts) t (steps.answer_of c.args.outcome)))
    (sym n.0) (rests_says {o = c.take_task-object.result.0} ts (object_of c.args.object ts) n.1 (ap (λ (x : seen.Object). record x { tasks = ts }) c.take_task-object.ensures.object) refl)

pub returns-in_ok-state-in-Some : goal.returns-in_ok-state-in-Some
returns-in_ok-state-in-Some g c = λ ts held.
    let l = life_in (script_in c.args.checked.now) c.args.class c.args.incarnation in
    let f = was_taken g.T.Task.seen l c.args.number c.take_task-object.result.1 c.in-Some.held c.args.object c.take_task-object.result.0 ts c.in-Some.is c.take_task-object.ensures.found held in
    answered_says g.T.Task.seen l c.args.says.now.items c.goes_on.new.says.items c.in_ok-state-in-Some.state c.args.number ts f.task (object_of c.args.object ts) (object_of c.take_task-object.result.0 (tasks_but c.args.number ts))
    _ _ f.there f.under (ap (λ (x : seen.Object). record x { tasks = tasks_but c.args.number ts }) c.take_task-object.ensures.object) c.in_ok-answer.ensures
    (c.in_ok-state-in-Some.ensures (tasks_but c.args.number ts) f.task f.rest f.paused) refl

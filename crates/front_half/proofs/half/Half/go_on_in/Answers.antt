use Rattle.do_tree.specs.Checked.{tree_of as script_in}
use Rattle.do_tree.specs.Tree.{Script}
use Rattle.timeline.specs.Object.{Life}
use Rattle.timeline.specs.Steps.{answers}
use Rattle.front_turns.specs.Held.{life_in, object_of}
use Rattle.front_turns.specs.declared.object.State.TheVariants.{Waiting}
use Rattle.front_half.specs.declared.half.Mode.TheVariants.{Serves}
use Rattle.front_half.proofs.Noticed.{Waits, waits_here, answer_gated, answer_leads, moves_on, stops_on}
use Rattle.front_half.proofs.half.Half.go_on_in.Goals as goal

pub answer_turn-requires-clause-held : goal.answer_turn-requires-clause-held
answer_turn-requires-clause-held g c =
    let r = c.requires.half in
    let w = waits_here g.T.Task.seen (script_in c.args.checked.now) c.args.self.now c.args.class c.args.object c.args.running c.args.task r.0 r.1 r.2 c.requires.class in
    (w.tasks, w.goes, w.held, w.paused)

pub returns-in_default-clause-stops : goal.returns-in_default-clause-stops
returns-in_default-clause-stops g c = λ a n is st half.
    let script : Script = script_in c.args.checked.now in
    let l : Life = life_in script c.args.class c.args.self.now.incarnation in
    let w : Waits g.T.Task.seen l st.front.mode c.args.object c.args.running c.args.task a =
    waits_here g.T.Task.seen script c.args.self.now c.args.class c.args.object c.args.running c.args.task a st half c.requires.class in
    stops_on g.T.Task.seen script c.args.self.now (Serves (Waiting c.args.object c.args.running c.args.task a)) c.args.class st n
    (answers l (object_of c.args.object w.tasks) w.goes c.args.answer) c.answer_turn.new.sent half c.requires.class c.requires.stopped
    (answer_leads g.T.Task.seen script c.args.self.now c.args.class c.args.object c.args.running c.args.task a n c.args.answer st half is w)
    (c.in_default.ensures.prefix w.tasks w.goes w.held w.paused)

pub returns-clause-moves : goal.returns-clause-moves
returns-clause-moves g c = λ a n is st half.
    let script : Script = script_in c.args.checked.now in
    let l : Life = life_in script c.args.class c.args.self.now.incarnation in
    let w : Waits g.T.Task.seen l st.front.mode c.args.object c.args.running c.args.task a =
    waits_here g.T.Task.seen script c.args.self.now c.args.class c.args.object c.args.running c.args.task a st half c.requires.class in
    moves_on g.T.Task.seen script c.args.self.now (Serves (Waiting c.args.object c.args.running c.args.task a)) c.args.class st n
    (answers l (object_of c.args.object w.tasks) w.goes c.args.answer) c.answer_turn.new.sent c.in-Ok.state c.in-Ok.count half c.requires.class
    (answer_leads g.T.Task.seen script c.args.self.now c.args.class c.args.object c.args.running c.args.task a n c.args.answer st half is w)
    (c.in-Ok.ensures.speaks w.tasks w.goes w.held w.paused)
    (answer_gated g.T.Task.seen script c.args.self.now c.args.class c.args.object c.args.running c.args.task a c.args.answer st half c.requires.class w)

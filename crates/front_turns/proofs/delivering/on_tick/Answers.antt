use Rattle.std.proofs.Common.{◌∙◌, sym, subst}
use Rattle.std.specs.Prelude.{Bool, if◌then◌else◌}
use Rattle.do_tree.specs.Checked.{tree_of as script_in}
use Rattle.do_tree.specs.Lookup.{alarm_of}
use Rattle.timeline.specs.Steps as steps
use Rattle.front_turns.specs.Held.{life_in, object_of, Says}
use Rattle.front_turns.specs.declared.object.State.TheVariants as state
use Rattle.front_turns.proofs.Saying.{idle_says}
use Rattle.front_turns.proofs.delivering.on_tick.Goals as goal

pub returns-then-is_due : goal.returns-then-is_due
returns-then-is_due g c = λ ts held.
    let l = life_in (script_in c.args.checked.now) c.args.class c.args.incarnation in
    let o = object_of c.args.object ts in
    subst (λ (b : Bool). Says g.T.Task.seen l c.args.says.now.items c.on_due.new.says.items c.in_ok-state.state
    (if b then steps.handles_due l o c.args.event o.alarm (alarm_of l.script l.class) else steps.rests o))
    (sym c.if-is_due.true ∙ c.is_due.ensures ts) (c.in_ok-state.ensures ts held)

pub returns : goal.returns
returns g c = λ ts held.
    let l = life_in (script_in c.args.checked.now) c.args.class c.args.incarnation in
    let o = object_of c.args.object ts in
    subst (λ (b : Bool). Says g.T.Task.seen l c.args.says.now.items c.args.says.now.items (state.Idle c.args.object)
    (if b then steps.handles_due l o c.args.event o.alarm (alarm_of l.script l.class) else steps.rests o))
    (sym c.if-is_due.false ∙ c.is_due.ensures ts) (idle_says ts held)

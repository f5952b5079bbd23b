use Rattle.std.proofs.Common.{◌∙◌, sym, subst}
use Rattle.do_tree.specs.Checked.{tree_of as script_in}
use Rattle.timeline.specs.Object.{Step}
use Rattle.front_turns.specs.Held.{life_in, object_of, Says}
use Rattle.front_turns.proofs.Stating.{on_call, on_ticking}
use Rattle.front_turns.proofs.delivering.on_event.Goals as goal

pub returns-then-is_tick : goal.returns-then-is_tick
returns-then-is_tick g c = λ ts held.
    let l = life_in (script_in c.args.checked.now) c.args.class c.args.incarnation in
    subst (λ (s : Step). Says g.T.Task.seen l c.args.says.now.items c.on_tick.new.says.items c.in_ok-state.state s)
    (on_ticking l (object_of c.args.object ts) c.args.event (sym c.is_tick.ensures ∙ c.if-is_tick.true)) (c.in_ok-state.ensures ts held)

pub returns-in_ok-state-in-Some : goal.returns-in_ok-state-in-Some
returns-in_ok-state-in-Some g c = λ ts held.
    let l = life_in (script_in c.args.checked.now) c.args.class c.args.incarnation in
    subst (λ (s : Step). Says g.T.Task.seen l c.args.says.now.items c.arrives.new.says.items c.in_ok-state-in-Some.state s)
    (on_call l (object_of c.args.object ts) c.args.event c.in-Some.depth (sym c.call_depth.ensures ∙ c.in-Some.is)) (c.in_ok-state-in-Some.ensures ts held)

pub returns-in_ok-state-in-None : goal.returns-in_ok-state-in-None
returns-in_ok-state-in-None g c = λ ts held.
    c.in_ok-state-in-None.ensures ts held (sym c.call_depth.ensures ∙ c.in-None.is) (sym c.is_tick.ensures ∙ c.if-is_tick.false)

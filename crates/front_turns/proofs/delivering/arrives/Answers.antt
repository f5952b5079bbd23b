use Rattle.std.proofs.Common.{◌∙◌, sym, subst}
use Rattle.std.specs.Prelude.{ℕ, Bool, Option, if◌then◌else◌}
use Rattle.do_tree.specs.Checked.{tree_of as script_in}
use Rattle.do_tree.specs.Lookup.{constructor_of}
use Rattle.timeline.specs.Steps as steps
use Rattle.front_turns.specs.Held.{life_in, object_of, Says}
use Rattle.front_turns.proofs.delivering.arrives.Goals as goal

pub starts_by-requires-clause-constructor : goal.starts_by-requires-clause-constructor
starts_by-requires-clause-constructor g c = sym c.constructor.ensures ∙ c.in-Some.is

pub returns-then-object : goal.returns-then-object
returns-then-object g c = λ ts held.
    let l = life_in (script_in c.args.checked.now) c.args.class c.args.incarnation in
    let o = object_of c.args.object ts in
    subst (λ (b : Bool). Says g.T.Task.seen l c.args.says.now.items c.begins.new.says.items c.in_ok-state.state
    (if b then steps.begins l o c.args.event else steps.starts_by l o c.args.event c.args.depth (constructor_of l.script l.class)))
    (sym c.if-object.true) (c.in_ok-state.ensures ts held)

pub returns-in_ok-state-in-None : goal.returns-in_ok-state-in-None
returns-in_ok-state-in-None g c = λ ts held.
    let l = life_in (script_in c.args.checked.now) c.args.class c.args.incarnation in
    let o = object_of c.args.object ts in
    subst (λ (b : Bool). Says g.T.Task.seen l c.args.says.now.items c.begins-in-None.new.says.items c.in_ok-state-in-None.state
    (if b then steps.begins l o c.args.event else steps.starts_by l o c.args.event c.args.depth (constructor_of l.script l.class)))
    (sym c.if-object.false)
    (subst (λ (k : Option ℕ). Says g.T.Task.seen l c.args.says.now.items c.begins-in-None.new.says.items c.in_ok-state-in-None.state (steps.starts_by l o c.args.event c.args.depth k))
    (sym c.in-None.is ∙ c.constructor.ensures) (c.in_ok-state-in-None.ensures ts held))

pub returns-in_ok-state-in-Some : goal.returns-in_ok-state-in-Some
returns-in_ok-state-in-Some g c = λ ts held.
    let l = life_in (script_in c.args.checked.now) c.args.class c.args.incarnation in
    let o = object_of c.args.object ts in
    subst (λ (b : Bool). Says g.T.Task.seen l c.args.says.now.items c.starts_by.new.says.items c.in_ok-state-in-Some.state
    (if b then steps.begins l o c.args.event else steps.starts_by l o c.args.event c.args.depth (constructor_of l.script l.class)))
    (sym c.if-object.false)
    (subst (λ (k : Option ℕ). Says g.T.Task.seen l c.args.says.now.items c.starts_by.new.says.items c.in_ok-state-in-Some.state (steps.starts_by l o c.args.event c.args.depth k))
    (sym c.in-Some.is ∙ c.constructor.ensures) (c.in_ok-state-in-Some.ensures ts held))

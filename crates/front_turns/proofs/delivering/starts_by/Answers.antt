use Rattle.std.proofs.Common.{subst}
use Rattle.do_tree.specs.Checked.{tree_of as script_in}
use Rattle.timeline.specs.Object.{starts}
use Rattle.std.specs.Prelude.{List, Some}
use Rattle.do_value.specs.Seen.{trees_in}
use Rattle.do_value.specs.declared.value.Value.{Value}
use Rattle.timeline.specs.Steps.{fresh, goes_on, then_parked}
use Rattle.front_turns.specs.Held.{life_in, object_of, Says}
use Rattle.front_turns.proofs.Methods.{has_constructor}
use Rattle.front_turns.proofs.delivering.starts_by.Goals as goal

pub starts-requires-clause-method : goal.starts-requires-clause-method
starts-requires-clause-method g c = has_constructor (script_in c.args.checked.now) c.args.class c.args.constructor c.requires.class c.requires.constructor

pub starts-requires-clause-held : goal.starts-requires-clause-held
starts-requires-clause-held g c =
    let h = c.requires.held in
    (h.0, record { tasks = h.1.tasks; blocks = h.1.blocks; numbers = h.1.numbers; parked = c.requires.method; clock = h.1.clock })

pub then_parked-requires-clause-state : goal.then_parked-requires-clause-state
then_parked-requires-clause-state g c =
    let h = c.requires.held in
    (_, (c.in_ok-state.ensures h.0 (record { tasks = h.1.tasks; blocks = h.1.blocks; numbers = h.1.numbers; parked = c.requires.method; clock = h.1.clock })).state)

pub returns : goal.returns
returns g c = λ ts h.
    let l = life_in (script_in c.args.checked.now) c.args.class c.args.incarnation in
    let o = object_of c.args.object ts in
    subst (λ (vs : List Value). Says g.T.Task.seen l c.args.says.now.items c.then_parked.new.says.items c.in_ok-state-2.state
    (then_parked l starts (goes_on l (record o { parked = Some c.args.event }) (fresh starts c.args.constructor (trees_in vs) c.args.depth o))))
    c.new-values.ensures.items
    (c.in_ok-state-2.ensures _ _
    (c.in_ok-state.ensures ts (record { tasks = h.tasks; blocks = h.blocks; numbers = h.numbers; parked = c.requires.method; clock = h.clock })))

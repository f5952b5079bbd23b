use Rattle.std.proofs.Common.{subst}
use Rattle.do_tree.specs.Checked.{tree_of as script_in}
use Rattle.front_turns.specs.Held.{life_in, IsState, Says}
use Rattle.front_turns.specs.declared.object.State.{State}
use Rattle.front_turns.proofs.Stating.{idle_on, waits_on, ended_on, held_of}
use Rattle.front_turns.proofs.serving.on_state.Goals as goal

pub begins_parked-requires-clause-held : goal.begins_parked-requires-clause-held
begins_parked-requires-clause-held g c =
    let l = life_in (script_in c.args.checked.now) c.args.class c.args.incarnation in
    held_of g.T.Task.seen l c.in-Idle.object c.requires.state.0
    (subst (λ (s : State g.row.T.Denot). IsState g.T.Task.seen l s c.requires.state.0) c.in-Idle.is c.requires.state.1)

pub returns-in_ok-state-in-Idle : goal.returns-in_ok-state-in-Idle
returns-in_ok-state-in-Idle g c = λ old step says.
    let l = life_in (script_in c.args.checked.now) c.args.class c.args.incarnation in
    idle_on g.T.Task.seen l old _ _ c.in-Idle.object _ step c.in_ok-state-in-Idle.ensures
    (subst (λ (s : State g.row.T.Denot). Says g.T.Task.seen l old c.args.says.now.items s step) c.in-Idle.is says)

pub returns-in-Waiting : goal.returns-in-Waiting
returns-in-Waiting g c = λ old step says.
    let l = life_in (script_in c.args.checked.now) c.args.class c.args.incarnation in
    waits_on g.T.Task.seen l old _ _ _ _ _ step (subst (λ (s : State g.row.T.Denot). Says g.T.Task.seen l old c.args.says.now.items s step) c.in-Waiting.is says)

pub returns-in-Ended : goal.returns-in-Ended
returns-in-Ended g c = λ old step says.
    let l = life_in (script_in c.args.checked.now) c.args.class c.args.incarnation in
    ended_on g.T.Task.seen l old _ _ step (subst (λ (s : State g.row.T.Denot). Says g.T.Task.seen l old c.args.says.now.items s step) c.in-Ended.is says)

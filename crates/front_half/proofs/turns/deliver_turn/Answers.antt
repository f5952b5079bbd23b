use Rattle.std.proofs.Common.{refl}
use Rattle.do_tree.specs.Checked.{tree_of as script_in}
use Rattle.front_turns.specs.Held.{life_in, object_of}
use Rattle.timeline.specs.Steps.{delivers}
use Rattle.front_half.proofs.Spoken.{all_sent, first_sent}
use Rattle.front_half.proofs.turns.deliver_turn.Goals as goal

pub returns-in-Ok-send_all-clause-speaks : goal.returns-in-Ok-send_all-clause-speaks
returns-in-Ok-send_all-clause-speaks g c = λ ts holds. let l = life_in (script_in c.args.checked.now) c.args.class c.args.incarnation in
    all_sent g.T.Task.seen l _ _ c.in-Ok.state (delivers l (object_of c.args.object ts) c.args.event) _ _ c.args.count _
    c.new-says.ensures.items (c.in-Ok.ensures ts holds) c.in-Ok-send_all.ensures.sent c.in-Ok-send_all.ensures.count

pub returns-in_default-clause-prefix : goal.returns-in_default-clause-prefix
returns-in_default-clause-prefix g c = λ ts holds. (_, refl)

pub returns-in-Err-clause-prefix : goal.returns-in-Err-clause-prefix
returns-in-Err-clause-prefix g c = λ ts holds. let l = life_in (script_in c.args.checked.now) c.args.class c.args.incarnation in
    first_sent g.T.Task.seen l _ _ c.in-Ok.state (delivers l (object_of c.args.object ts) c.args.event) _ _ c.args.count
    c.new-says.ensures.items (c.in-Ok.ensures ts holds) c.in-Err.ensures.prefix

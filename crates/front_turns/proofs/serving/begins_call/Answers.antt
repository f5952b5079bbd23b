use Rattle.std.proofs.Common.{◌∙◌, subst, map}
use Rattle.std.specs.Prelude.{List}
use Rattle.do_value.specs.Seen.{tree_of}
use Rattle.do_value.specs.declared.value.Value.{Value}
use Rattle.do_tree.specs.Checked.{tree_of as script_in}
use Rattle.timeline.specs.Object.{serves}
use Rattle.timeline.specs.Steps.{fresh, goes_on}
use Rattle.front_turns.specs.Held.{life_in, object_of, Says}
use Rattle.front_turns.proofs.serving.begins_call.Goals as goal

pub returns : goal.returns
returns g c = λ ts held.
    let l = life_in (script_in c.args.checked.now) c.args.class c.args.incarnation in
    let o = object_of c.args.object ts in
    subst (λ (vs : List Value). Says g.T.Task.seen l c.args.says.now.items c.starts.new.says.items c.in_ok-state.state (goes_on l o (fresh (serves c.args.from) c.args.method (map tree_of vs) c.args.depth o)))
    (c.in_ok-values.ensures ∙ c.values.ensures) (c.in_ok-state.ensures ts held)

use Rattle.std.proofs.Common.{◌∙◌, ap, subst, ◌∷◌, []}
use Rattle.std.specs.Prelude.{List, ℕ}
use Rattle.do_value.specs.Tree.{Tree}
use Rattle.do_tree.specs.Checked.{tree_of as script_in}
use Rattle.timeline.specs.Object.{handles}
use Rattle.timeline.specs.Steps.{alarm_info, fresh, goes_on}
use Rattle.front_turns.specs.Held.{life_in, object_of, Says}
use Rattle.front_turns.proofs.serving.begins_alarm.Goals as goal

pub returns : goal.returns
returns g c = λ ts held.
    let l = life_in (script_in c.args.checked.now) c.args.class c.args.incarnation in
    let o = object_of c.args.object ts in
    subst (λ (args : List Tree). Says g.T.Task.seen l c.args.says.now.items c.starts.new.says.items c.in_ok-state.state (goes_on l o (fresh (handles c.args.alarm.1) c.args.method args 0 o)))
    (c.in_ok-values.ensures ∙ ap (λ (n : ℕ). alarm_info n ∷ []) c.retry.ensures.retry) (c.in_ok-state.ensures ts held)

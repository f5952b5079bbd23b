use Rattle.std.proofs.Common.{◌≡◌, false, None, ◌∙◌, arith}
use Rattle.std.proofs.lemmas.Grind.{common_steps}
use Rattle.do_tree.specs.Checked.{tree_of}
use Rattle.do_tree.specs.Seen.{class_of}
use Rattle.do_value.specs.Seen.{trees_in}
use Rattle.script_mean.specs.declared.limits.TheConstants.{MOST_STEPS}
use Rattle.script_steps.proofs.Begun.{if_ok}
use Rattle.script_eval.proofs.Started.{first_state, started_turns}
use Rattle.script_eval.specs.declared.machine.Machine.{Machine}
use Rattle.script_eval.proofs.task.Task.start.Goals as goal

pub returns-clause-meaning : goal.returns-clause-meaning
returns-clause-meaning c =
    let machine : Machine = record {
      state = record { vars = c.in_ok-method_vars.field-0; fields = c.args.fields; closed = c.new.result; pending = c.new-2.result; left = MOST_STEPS; moment = c.moment.result; awaits = 0; calls = 0; transaction = None; block = false };
      frames = c.new-3.result;
      depth = 0;
    } in
    let is_now : c.moment.result ≡ c.args.now = grind (arith, common_steps) in
    if_ok c.run.result
    (λ o turns rs.
    started_turns (tree_of c.args.checked.now) c.args.class c.args.method (trees_in c.args.args.items) (record { fields = c.args.fields; now = c.args.now })
    (class_of c.class_at-seen.result.now) c.method_at-runs.result.now machine c.in_ok-body.body c.is_constructor-starts.result
    c.class_at-seen.ensures c.method_at-runs.ensures c.new-3.ensures c.in_ok-method_vars.ensures c.in_ok-body.ensures c.is_constructor-starts.ensures
    (first_state c.new.result.items c.new-2.result c.moment.result c.args.now c.args.fields c.new.ensures.items c.new-2.ensures is_now) rs
    ∙ turns (tree_of c.args.checked.now) rs c.class_at-seen.ensures)
    c.run.ensures.turns

use Rattle.std.proofs.Common.{ap, ◌∙◌}
use Rattle.do_value.specs.Seen.{tree_of, trees_in}
use Rattle.script_calls.proofs.Ended.{does_as, over_at_once, throws_so}
use Rattle.script_calls.proofs.Objects.{reach_no_text}
use Rattle.script_mean.specs.Calls.{reach}
use Rattle.script_ops.specs.Errors.{wrong_type}
use Rattle.script_calls.proofs.object.call_object.Goals as goal

pub returns-in-Text-clause-same : goal.returns-in-Text-clause-same
returns-in-Text-clause-same c =
    does_as _ _ c.args.state.now c.call_named.new.state c.call_named.result (ap (λ v. reach c.args.class c.args.method (tree_of v) (trees_in c.args.args.items)) c.in-Text.is) c.call_named.ensures.same

pub returns-in_ok-thrown-in_default-clause-same : goal.returns-in_ok-thrown-in_default-clause-same
returns-in_ok-thrown-in_default-clause-same c =
    over_at_once _ c.args.state.now c.in_ok-thrown-in_default.field-0 (reach_no_text c.args.class c.args.method c.args.name (trees_in c.args.args.items) c.in_default.not-Text ∙ throws_so wrong_type c.throw.result c.in_ok-thrown-in_default.field-0 c.throw.ensures c.in_ok-thrown-in_default.ensures)

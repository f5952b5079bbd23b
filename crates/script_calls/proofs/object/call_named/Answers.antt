use Rattle.std.proofs.Common.{ap, sym, ◌∙◌}
use Rattle.do_value.specs.Seen.{trees_in}
use Rattle.script_calls.proofs.Ended.{does_as, over_at_once, throws_so}
use Rattle.script_calls.proofs.Objects.{is_long, not_long, reach_goes, reach_long}
use Rattle.script_mean.specs.Errors.{name_long}
use Rattle.script_mean.specs.Turn.{ask_outside}
use Rattle.storage_map.specs.Limits.{most_name_bytes}
use Rattle.std.proofs.Common.{length}
use Rattle.script_mean.specs.declared.ask.Ask.TheVariants as asked
use Rattle.script_calls.proofs.object.call_named.Goals as goal

pub returns-in-Some-clause-same : goal.returns-in-Some-clause-same
returns-in-Some-clause-same c =
    does_as _ _ c.args.state.now c.ask_outside.new.self c.ask_outside.result
    (reach_goes c.args.class c.args.method c.args.name c.args.args.items (not_long c.new.result c.in-Some.to most_name_bytes (length c.args.name) c.in-Some.is c.new.ensures.long)
    ∙ ap (λ t. ask_outside (asked.Call t c.args.method c.args.args.items)) (sym c.in-Some.ensures.named)
    ∙ ap (λ vs. ask_outside (asked.Call c.in-Some.to c.args.method vs)) (sym c.new-args.ensures))
    c.ask_outside.ensures.same

pub returns-in_ok-thrown-in-None-clause-same : goal.returns-in_ok-thrown-in-None-clause-same
returns-in_ok-thrown-in-None-clause-same c =
    over_at_once _ c.args.state.now c.in_ok-thrown-in-None.field-0 (reach_long c.args.class c.args.method c.args.name (trees_in c.args.args.items) (is_long c.new.result most_name_bytes (length c.args.name) c.in-None.is c.new.ensures.long) ∙ throws_so name_long c.throw.result c.in_ok-thrown-in-None.field-0 c.throw.ensures c.in_ok-thrown-in-None.ensures)

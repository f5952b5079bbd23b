use Rattle.std.proofs.Common.{sym, ap, ◌∙◌}
use Rattle.do_value.specs.Seen.{trees_in}
use Rattle.script_mean.specs.Meaning.{owner_named}
use Rattle.script_eval.proofs.Called.{part_acts}
use Rattle.script_eval.proofs.Doings.{does_so}
use Rattle.script_eval.proofs.calls.part.Goals as goal

pub returns : goal.returns
returns c =
    part_acts c.args.owner c.args.name c.args.got c.args.state.now c.call_owner.new.state c.in_ok-call_owner.field-0
    (does_so _ _ c.args.state.now c.call_owner.new.state c.in_ok-call_owner.field-0
    (ap (λ n. owner_named n c.args.name (trees_in c.args.got.items)) (sym c.as_str.ensures)
    ∙ ap (λ n. owner_named c.as_str.result.now n (trees_in c.args.got.items)) (sym c.as_str-2.ensures))
    c.in_ok-call_owner.ensures.same)
    c.in_ok-call_owner.ensures.ready

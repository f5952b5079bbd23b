use Rattle.std.proofs.Common.{◌-◌, ap, ◌∙◌, arith}
use mir.Syntax.{w64}
use mir.Val.{SFits}
use Rattle.script_ops.proofs.Cut.{place_below, place_above}
use Rattle.script_ops.proofs.lists.cut_place.Goals as goal

pub returns-then-place-lt0-clause-place : goal.returns-then-place-lt0-clause-place
returns-then-place-lt0-clause-place c =
    let fits : SFits w64 c.get-place.result = record { sfits = omega arith } in
    c.saturating_sub.ensures ∙ ap (λ n. c.args.count - n) c.unsigned_abs.ensures.value
    ∙ place_below c.args.count c.get-place.result c.args.place fits c.get-place.ensures.value c.if-place-lt0.true

pub returns-else-place-lt0-clause-place : goal.returns-else-place-lt0-clause-place
returns-else-place-lt0-clause-place c =
    let fits : SFits w64 c.get-place.result = record { sfits = omega arith } in
    c.min.ensures ∙ place_above c.args.count c.get-place.result c.args.place fits c.get-place.ensures.value c.if-place-lt0.false

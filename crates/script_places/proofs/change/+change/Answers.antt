use Rattle.std.proofs.Common.{Err, sym, subst}
use Rattle.std.proofs.lemmas.Result.{err_from_is_err_and}
use Rattle.do_value.specs.Seen.{tree_of}
use Rattle.script_mean.specs.Places.{at_part}
use Rattle.script_places.specs.Steps.{step_of, steps_in, change_of}
use Rattle.script_places.specs.Changes.{Changes}
use Rattle.script_places.proofs.PutBack.{inner_stops}
use Rattle.script_places.proofs.change.+change.Goals as goal

pub returns-in_err-given-in-Some : goal.returns-in_err-given-in-Some
returns-in_err-given-in-Some t c =
    let p = err_from_is_err_and c.from_residual-in_err-given-in-Some.result c.from_residual-in_err-given-in-Some.ensures.1 in
    let stop = c.in_err-given-in-Some.field-0.0 in
    rw (p.1, p.2)
    (subst (λ ss. Changes (at_part (steps_in ss) (change_of c.args.write) (tree_of c.args.value.now)) (tree_of c.take_part.new.value) (Err stop)) (sym c.in-Some.ensures.cases.0)
    (inner_stops (tree_of c.args.value.now) (tree_of c.in_ok-part-in-Some.part) (tree_of c.change.new.value) (tree_of c.take_part.new.value)
    (step_of c.in-Some.step.now) (steps_in c.in-Some.rest.now) (change_of c.args.write) stop c.in_ok-part-in-Some.ensures.part c.in_err-given-in-Some.ensures))

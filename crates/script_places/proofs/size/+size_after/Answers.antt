use Rattle.std.proofs.Common.{Ok, sym, subst}
use Rattle.do_value.specs.Seen.{tree_of}
use Rattle.script_mean.specs.Places.{at_part}
use Rattle.script_places.specs.Reads.{tree_in}
use Rattle.script_places.specs.Steps.{step_of, steps_in, change_of}
use Rattle.script_places.specs.Changes.{Sizes, whole_of}
use Rattle.script_places.proofs.Sized.{sized_at}
use Rattle.script_places.proofs.size.+size_after.Goals as goal

pub returns-in_ok-size-in-Some : goal.returns-in_ok-size-in-Some
returns-in_ok-size-in-Some t c =
    let change = change_of c.args.write.now in
    let rest = steps_in c.in-Some.rest.now in
    let size = c.in_ok-size-in-Some.size in
    subst (λ ss. Sizes (whole_of (at_part (steps_in ss) change (tree_of c.args.value.now))) c.size_with.result) (sym c.in-Some.ensures.cases.0)
    (sized_at (tree_of c.args.value.now) (tree_in c.in_ok-part-in-Some.part) (step_of c.in-Some.step.now) rest change size c.size_with.result
    c.in_ok-part-in-Some.ensures
    (subst (λ part. Sizes (whole_of (at_part rest change part)) (Ok size)) c.value_of.ensures c.in_ok-size-in-Some.ensures) c.size_with.ensures)

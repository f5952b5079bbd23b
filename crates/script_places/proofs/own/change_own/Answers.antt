use Rattle.std.proofs.Common.{◌≡◌, Ok, Err, sym, ◌∙◌, subst}
use Rattle.std.proofs.lemmas.Result.{err_from_is_err_and}
use Rattle.do_value.specs.Seen.{tree_of}
use Rattle.do_value.specs.Tree.{fields}
use Rattle.script_mean.specs.Places.{at_part, with_field}
use Rattle.script_places.specs.Steps.{steps_in, change_of}
use Rattle.script_places.specs.Changes.{OwnChanges}
use Rattle.script_places.proofs.PutBack.{own_inner_stops}
use Rattle.script_places.proofs.Steps.{fields_same, own_put}
use Rattle.script_places.proofs.own.change_own.Goals as goal

pub returns-in_err-given : goal.returns-in_err-given
returns-in_err-given c =
    let p = err_from_is_err_and c.from_residual-in_err-given.result c.from_residual-in_err-given.ensures.1 in
    let stop = c.in_err-given.field-0.0 in
    let inner = at_part (steps_in c.args.steps.now) (change_of c.args.write) in
    rw (p.1, p.2)
    (subst (λ part. OwnChanges (inner part) c.args.name.now c.args.fields.now c.take_field.new.fields (Err stop)) c.in_ok-part.ensures.taken
    (own_inner_stops (inner (tree_of c.in_ok-part.part)) (tree_of c.change.new.value) c.args.name.now c.args.fields.now c.take_field.new.fields stop
    c.in_err-given.ensures))

pub returns : goal.returns
returns c =
    let inner = at_part (steps_in c.args.steps.now) (change_of c.args.write) in
    let part = tree_of c.change.new.value in
    let given = tree_of c.in_ok-given.given in
    let put : fields (with_field c.args.name.now part c.take_field.new.fields) ≡ fields c.put_field.new.fields = cc (c.in_ok-put_field.ensures) in
    own_put _ part given c.args.name.now c.args.fields.now c.put_field.new.fields
    (subst (λ old. inner old ≡ Ok (part, given)) c.in_ok-part.ensures.taken c.in_ok-given.ensures)
    (sym (c.in_ok-part.ensures.rest part) ∙ fields_same _ _ put)

use Rattle.std.proofs.Common.{Ok, ap, refl}
use Rattle.std.proofs.lemmas.Result.{err_from_is_err_and}
use Rattle.do_value.specs.Seen.{tree_of}
use Rattle.do_value.specs.Tree.{fields}
use Rattle.script_mean.specs.Places.{with_field}
use Rattle.script_mean.specs.Task.{Fields}
use Rattle.script_places.proofs.PutBack.{puts_stop, field_put, field_fit}
use Rattle.script_places.proofs.change.put_field.Goals as goal

pub returns-in_err-put : goal.returns-in_err-put
returns-in_err-put c =
    let p = err_from_is_err_and c.from_residual-in_err-put.result c.from_residual-in_err-put.ensures.1 in
    let whole = fields (with_field c.args.name.now (tree_of c.args.part) c.args.fields.now) in
    rw (p.1, p.2)
    (puts_stop (Ok whole) whole (fields c.put.new.self) c.in_err-put.field-0.0 refl
    (field_fit c.args.fields.now c.args.name.now c.in_ok-name.name (tree_of c.args.part) c.in_err-put.field-0.0 c.in_ok-name.ensures c.in_err-put.ensures.exact))

pub returns : goal.returns
returns c =
    ap (λ (ps : Fields). Ok (fields ps))
    (field_put c.args.fields.now c.put.new.self c.args.name.now c.in_ok-name.name (tree_of c.args.part) c.in_ok-name.ensures c.in_ok-put.ensures.fields)

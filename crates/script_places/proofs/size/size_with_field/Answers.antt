use Rattle.std.proofs.Common.{◌≡◌, ap, sym, ◌∙◌, Some, arith}
use Rattle.do_value.specs.Keyed.{value_at}
use Rattle.do_value.specs.Seen.{tree_of}
use Rattle.script_places.proofs.Fields.{size_field}
use Rattle.script_places.proofs.Sized.{sized_over, sized_new}
use Rattle.script_places.proofs.size.size_with_field.Goals as goal

pub overflow_sub-size : goal.overflow_sub-size
overflow_sub-size c =
    let found : value_at c.args.name.now c.args.fields.now ≡ Some (tree_of c.in-Some.old.now) =
    ap (λ k. value_at k c.args.fields.now) (sym c.as_str.ensures) ∙ sym c.in-Some.ensures in
    omega (arith, size_field c.args.name.now (tree_of c.in-Some.old.now) c.args.fields.now found, c.size.ensures.value, c.size-in-Some.ensures.value)

pub returns-in-Some-clause-size : goal.returns-in-Some-clause-size
returns-in-Some-clause-size c =
    sized_over c.args.fields.now c.args.name.now (tree_of c.in-Some.old.now) c.size.result c.size-in-Some.result c.args.size c.saturating_add.result
    c.size.ensures.within (ap (λ k. value_at k c.args.fields.now) (sym c.as_str.ensures) ∙ sym c.in-Some.ensures) c.size.ensures.value c.size-in-Some.ensures.value
    c.saturating_add.ensures

pub returns-in-None-clause-size : goal.returns-in-None-clause-size
returns-in-None-clause-size c =
    sized_new c.args.fields.now c.args.name.now c.size-in-None.result c.len.result c.args.size c.saturating_add-in-None.result
    (ap (λ k. value_at k c.args.fields.now) (sym c.as_str.ensures) ∙ sym c.in-None.ensures) c.size-in-None.ensures.value c.len.ensures.value
    c.saturating_add-in-None.ensures

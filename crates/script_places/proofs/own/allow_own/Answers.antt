use Rattle.std.proofs.Common.{ℕ, List, Ok, sym, ap, ◌∙◌, subst, arith}
use Rattle.std.proofs.lemmas.List.{length-map}
use Rattle.do_value.specs.Keyed.{value_at}
use Rattle.script_mean.specs.Places.{at_part, or_undefined}
use Rattle.script_places.specs.Steps.{step_of, steps_in, change_of}
use Rattle.script_places.specs.Changes.{Allows, Sizes, whole_of}
use Rattle.script_places.specs.Writes.{own_written}
use Rattle.script_places.proofs.Steps.{allows_own}
use Rattle.script_places.proofs.own.allow_own.Goals as goal

pub returns : goal.returns
returns c =
    let name = c.args.name.now in
    let old = c.args.fields.now in
    let steps = steps_in c.args.steps.now in
    let change = change_of c.args.write.now in
    let was = c.value_of.ensures ∙ c.field-part.ensures ∙ ap (λ (k : List ℕ). or_undefined (value_at k old)) c.as_str.ensures in
    subst (λ answer. Allows (own_written name steps change old) answer) (sym c.within_limits.ensures)
    (allows_own c.args.write.now steps name old c.in_ok-size.size c.size_with_field.result c.saturating_add-depth.result
    (subst (λ part. Sizes (whole_of (at_part steps change part)) (Ok c.in_ok-size.size)) was c.in_ok-size.ensures) c.size_with_field.ensures.within.shallow
    c.size_with_field.ensures.size (omega (arith, c.saturating_add-depth.ensures, c.levels.ensures, length-map c.args.steps.now step_of)))

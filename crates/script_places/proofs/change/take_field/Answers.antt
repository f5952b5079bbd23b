use Rattle.std.proofs.Common.{ℕ, List, Option, is_some, if◌then◌else◌, ap, ◌∙◌}
use Rattle.do_value.specs.declared.value.Value.{Value}
use Rattle.do_value.specs.Changed.{put_pair}
use Rattle.do_value.specs.Tree.{undefined}
use Rattle.script_mean.specs.Places.{with_field}
use Rattle.script_places.proofs.Fields.{twice}
use Rattle.script_places.proofs.change.take_field.Goals as goal

pub returns-in-Some-clause-rest : goal.returns-in-Some-clause-rest
returns-in-Some-clause-rest c = λ t.
    let old = c.args.fields.now in
    let put = c.in_ok-taken.ensures.fields ∙ ap (λ (v : Option Value). if is_some v then put_pair (c.as_str.result.now, undefined) old else old) c.in-Some.is in
    ap (with_field c.args.name.now t) (put ∙ ap (λ (k : List ℕ). put_pair (k, undefined) old) c.as_str.ensures)
    ∙ twice c.args.name.now undefined t old

use Rattle.std.proofs.Common.{◌≡◌, ◌+◌, ◌*◌, true, false, codes, sym, ap, ◌∙◌, arith}
use Rattle.std.specs.Str.{bytes_eq}
use Rattle.do_tree.specs.Seen.{expr_of}
use Rattle.do_value.specs.Keyed.{value_at}
use Rattle.script_mean.specs.Meaning.{links, to_push}
use Rattle.script_mean.specs.Paths.{holds, parts, parts_of_own, pushes}
use Rattle.script_mean.specs.Places.{or_undefined, own}
use Rattle.script_mean.specs.Turn.{Run}
use Rattle.script_places.specs.Steps.{steps_in}
use Rattle.script_steps.proofs.Begun.{if_ok}
use Rattle.script_steps.specs.Parts.{links_in}
use Rattle.script_paths.proofs.Onward.{less_more, plain_parts, pushed_field, read_field}
use Rattle.script_steps.specs.Paths.{is_present}
use Rattle.script_paths.proofs.itself.from_own.Goals as goal

pub returns-then-pushes_at-clause-same : goal.returns-then-pushes_at-clause-same
returns-then-pushes_at-clause-same c =
    let ls = links_in (expr_of c.args.node.value) c.args.next in
    let a : bytes_eq (codes "ctx") c.args.name ≡ false = c.requires.not_context in
    let b : bytes_eq (codes "env") c.args.name ≡ false = c.requires.not_environment in
    let h : pushes ls ≡ true = sym c.pushes_at.ensures ∙ c.if-pushes_at.true in
    λ calls env next st here.
    ap (λ (r : Run). r env next st) (pushed_field (is_present c.args.awaited) calls c.args.name ls a b h ∙ ap (λ ss. to_push calls (own c.args.name) (steps_in ss) ls) (sym c.new.ensures.items))

pub returns-then-pushes_at-clause-less : goal.returns-then-pushes_at-clause-less
returns-then-pushes_at-clause-less c =
    let ls = links_in (expr_of c.args.node.value) c.args.next in
    let a : bytes_eq (codes "ctx") c.args.name ≡ false = c.requires.not_context in
    let b : bytes_eq (codes "env") c.args.name ≡ false = c.requires.not_environment in
    let h : pushes ls ≡ true = sym c.pushes_at.ensures ∙ c.if-pushes_at.true in
    let many = plain_parts c.args.name ls a b true h in
    omega arith

pub returns-clause-same : goal.returns-clause-same
returns-clause-same c =
    let ls = links_in (expr_of c.args.node.value) c.args.next in
    let a : bytes_eq (codes "ctx") c.args.name ≡ false = c.requires.not_context in
    let b : bytes_eq (codes "env") c.args.name ≡ false = c.requires.not_environment in
    let h : pushes ls ≡ false = sym c.pushes_at.ensures ∙ c.if-pushes_at.false in
    if_ok c.from_value.result
    (λ m p calls env next st here.
    ap (λ (r : Run). r env next st) (read_field (is_present c.args.awaited) calls c.args.name ls a b h)
    ∙ ap (λ fs. links (is_present c.args.awaited) calls (holds (or_undefined (value_at c.args.name fs))) ls env next st) here
    ∙ ap (λ n. links (is_present c.args.awaited) calls (holds (or_undefined (value_at n c.args.fields.now))) ls env next st) (sym c.as_str.ensures)
    ∙ ap (λ v. links (is_present c.args.awaited) calls (holds v) ls env next st) (sym c.in_ok-value.ensures)
    ∙ ap (λ (r : Run). r env next st) (p calls))
    c.from_value.ensures.same

pub returns-clause-less : goal.returns-clause-less
returns-clause-less c =
    let ls = links_in (expr_of c.args.node.value) c.args.next in
    let a : bytes_eq (codes "ctx") c.args.name ≡ false = c.requires.not_context in
    let b : bytes_eq (codes "env") c.args.name ≡ false = c.requires.not_environment in
    let h : pushes ls ≡ false = sym c.pushes_at.ensures ∙ c.if-pushes_at.false in
    let many = plain_parts c.args.name ls a b false h in
    less_more (10 + 10 * parts ls) (20 + 10 * parts_of_own c.args.name ls) (omega arith) _ c.from_value.ensures.less

use Rattle.std.proofs.Common.{◌≡◌, ◌+◌, ◌*◌, [], ◌∷◌, ◌++◌, true, false, IfOk, subst, sym, ap, ◌∙◌, arith}
use Rattle.std.proofs.lemmas.Grind.{common_steps}
use Rattle.do_tree.specs.Nodes.{with_link}
use Rattle.do_tree.specs.Seen.{expr_of}
use Rattle.do_tree.specs.Tree as tree
use Rattle.do_tree.specs.declared.expr.Link.TheVariants as link
use Rattle.script_mean.specs.Paths.{is_called, parts, parts_behind_call}
use Rattle.script_mean.specs.Places.{named}
use Rattle.script_places.specs.Steps.{steps_in}
use Rattle.script_steps.proofs.Begun.{if_ok}
use Rattle.script_steps.specs.Parts.{links_in}
use Rattle.script_steps.specs.Paths.{root_of}
use Rattle.script_steps.specs.Seen.{move_run}
use Rattle.script_steps.specs.Weight.{LeavesLess}
use Rattle.script_paths.proofs.Framed.{framed_so}
use Rattle.script_steps.specs.declared.path.Await.TheVariants as await
use Rattle.script_steps.specs.declared.focus.Focus.TheVariants as focus
use Rattle.script_paths.proofs.Pushes.{behind, call_goes, call_stops, called_parts, field_goes, field_parts, index_goes, none_stops}
use Rattle.script_paths.proofs.pushed.push.Goals as goal

pub returns-then-begins_with_call-clause-same : goal.returns-then-begins_with_call-clause-same
returns-then-begins_with_call-clause-same c =
    let found : links_in (expr_of c.args.node.value) c.fields.place ≡ with_link c.in-Some-Field.field-0.now (links_in (expr_of c.args.node.value) (c.fields.place + 1)) = grind (arith, common_steps) in
    let is : c.in-Some-Field.field-0.now ≡ link.Field c.in-Some-Field.name = grind (arith, common_steps) in
    let follows : is_called (links_in (expr_of c.args.node.value) (c.fields.place + 1)) ≡ true = grind (arith, common_steps) in
    if_ok c.push_call.result (λ m p calls. c.fields.invariant.same calls
    ∙ call_goes calls (root_of c.args.root) (steps_in c.fields.steps.items) _ c.in-Some-Field.field-0.now c.in-Some-Field.name _ _ found is follows (ap root_of c.fields.invariant.root)
    ∙ p calls) c.push_call.ensures.same

pub returns-then-begins_with_call-clause-less : goal.returns-then-begins_with_call-clause-less
returns-then-begins_with_call-clause-less c =
    let found : links_in (expr_of c.args.node.value) c.fields.place ≡ with_link c.in-Some-Field.field-0.now (links_in (expr_of c.args.node.value) (c.fields.place + 1)) = grind (arith, common_steps) in
    let is : c.in-Some-Field.field-0.now ≡ link.Field c.in-Some-Field.name = grind (arith, common_steps) in
    let follows : is_called (links_in (expr_of c.args.node.value) (c.fields.place + 1)) ≡ true = grind (arith, common_steps) in
    let count : parts (links_in (expr_of c.args.node.value) (c.fields.place + 1 + 1)) ≡ parts_behind_call (links_in (expr_of c.args.node.value) c.args.place) =
    ap parts (behind (expr_of c.args.node.value) (c.fields.place + 1)) ∙ sym (called_parts c.in-Some-Field.field-0.now c.in-Some-Field.name _ _ found is follows) ∙ sym c.fields.invariant.parts in
    subst (λ n. IfOk c.push_call.result (LeavesLess (20 + 10 * n))) count c.push_call.ensures.less

pub fields-preserved : goal.fields-preserved
fields-preserved c =
    let found : links_in (expr_of c.args.node.value) c.fields.place ≡ with_link c.in-Some-Field.field-0.now (links_in (expr_of c.args.node.value) (c.fields.place + 1)) = grind (arith, common_steps) in
    let is : c.in-Some-Field.field-0.now ≡ link.Field c.in-Some-Field.name = grind (arith, common_steps) in
    let stands : is_called (links_in (expr_of c.args.node.value) (c.fields.place + 1)) ≡ false = grind (arith, common_steps) in
    let copied : c.in_ok-copy-in-Some-Field.field-0 ≡ c.in-Some-Field.name.text = grind (arith, common_steps) in
    let more : steps_in c.add_step.new.steps.items ≡ steps_in c.fields.steps.items ++ named c.in-Some-Field.name.text ∷ [] =
    c.in_ok-add_step-in-Some-Field.ensures ∙ ap (λ z. steps_in c.fields.steps.items ++ named z ∷ []) copied in
    record {
      root = c.fields.invariant.root;
      same = λ calls. c.fields.invariant.same calls
          ∙ field_goes calls (root_of c.args.root) (steps_in c.fields.steps.items) c.in-Some-Field.field-0.now c.in-Some-Field.name _ _ _ found is stands more;
      parts = c.fields.invariant.parts ∙ field_parts c.in-Some-Field.field-0.now c.in-Some-Field.name _ _ found is;
    }

pub returns-in-Some-Index-clause-same : goal.returns-in-Some-Index-clause-same
returns-in-Some-Index-clause-same c =
    let found : links_in (expr_of c.args.node.value) c.fields.place ≡ with_link c.in-Some-Index.field-0.now (links_in (expr_of c.args.node.value) (c.fields.place + 1)) = grind (arith, common_steps) in
    let is : c.in-Some-Index.field-0.now ≡ link.Index c.in-Some-Index.field-0-0 c.in-Some-Index.index = grind (arith, common_steps) in
    let same : c.in_ok-index-in-Some-Index.index.value ≡ c.in-Some-Index.index.value = grind (arith, common_steps) in
    λ calls. c.fields.invariant.same calls
    ∙ index_goes calls (root_of c.args.root) (steps_in c.fields.steps.items) _ _ c.in-Some-Index.field-0.now c.in-Some-Index.index c.in_ok-index-in-Some-Index.index _ _
    found is same (ap root_of c.fields.invariant.root)
    ∙ framed_so calls 0 c.in_ok-frame-in-Some-Index.frame _ (focus.Value await.Absent c.in_ok-index-in-Some-Index.index) c.in_ok-frame-in-Some-Index.ensures.frame

pub returns-in-Some-Call-clause-same : goal.returns-in-Some-Call-clause-same
returns-in-Some-Call-clause-same c =
    let found : links_in (expr_of c.args.node.value) c.fields.place ≡ with_link c.in-Some-Call.field-0.now (links_in (expr_of c.args.node.value) (c.fields.place + 1)) = grind (arith, common_steps) in
    let is : c.in-Some-Call.field-0.now ≡ link.Call c.in-Some-Call.field-0-0 c.in-Some-Call.field-0-1 = grind (arith, common_steps) in
    λ calls. c.fields.invariant.same calls
    ∙ call_stops calls (root_of c.args.root) (steps_in c.fields.steps.items) c.in-Some-Call.field-0-0 c.in-Some-Call.field-0.now c.in-Some-Call.field-0-1 _ _ found is
    ∙ ap (move_run calls) (sym c.nowhere.ensures)

pub returns-in-None-clause-same : goal.returns-in-None-clause-same
returns-in-None-clause-same c =
    let found : links_in (expr_of c.args.node.value) c.fields.place ≡ tree.no_links = grind (arith, common_steps) in
    λ calls. c.fields.invariant.same calls
    ∙ none_stops calls (root_of c.args.root) (steps_in c.fields.steps.items) _ found ∙ ap (move_run calls) (sym c.nowhere-in-None.ensures)

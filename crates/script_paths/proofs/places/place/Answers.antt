use Rattle.std.proofs.Common.{◌≡◌, ◌+◌, [], ◌∷◌, ◌++◌, sym, ap, ◌∙◌, arith}
use Rattle.std.proofs.lemmas.Grind.{common_steps}
use Rattle.do_tree.specs.Nodes.{with_link}
use Rattle.do_tree.specs.Seen.{expr_of}
use Rattle.do_tree.specs.Tree as tree
use Rattle.do_tree.specs.declared.expr.Link.TheVariants as link
use Rattle.script_mean.specs.Frames.{written}
use Rattle.script_mean.specs.Places.{named}
use Rattle.script_places.specs.Steps.{steps_in}
use Rattle.script_steps.specs.Parts.{links_in}
use Rattle.script_steps.specs.Paths.{root_of, writing_of}
use Rattle.script_steps.specs.Seen.{move_run}
use Rattle.script_paths.proofs.Framed.{framed_so}
use Rattle.script_steps.specs.declared.path.Await.TheVariants as await
use Rattle.script_steps.specs.declared.focus.Focus.TheVariants as focus
use Rattle.script_paths.proofs.Found.{call_stops, field_goes, index_goes, place_ends}
use Rattle.script_paths.proofs.places.place.Goals as goal

pub fields-preserved : goal.fields-preserved
fields-preserved c =
    let found : links_in (expr_of c.args.node.value) c.fields.place ≡ with_link c.in-Some-Field.field-0.now (links_in (expr_of c.args.node.value) (c.fields.place + 1)) = grind (arith, common_steps) in
    let is : c.in-Some-Field.field-0.now ≡ link.Field c.in-Some-Field.name = grind (arith, common_steps) in
    let copied : c.in_ok-copy-in-Some-Field.field-0 ≡ c.in-Some-Field.name.text = grind (arith, common_steps) in
    let more : steps_in c.add_step.new.steps.items ≡ steps_in c.fields.steps.items ++ named c.in-Some-Field.name.text ∷ [] =
    c.in_ok-add_step-in-Some-Field.ensures ∙ ap (λ z. steps_in c.fields.steps.items ++ named z ∷ []) copied in
    record {
      root = c.fields.invariant.root;
      writing = c.fields.invariant.writing;
      same = λ calls done. c.fields.invariant.same calls done
          ∙ field_goes calls (root_of c.args.root) (steps_in c.fields.steps.items) c.in-Some-Field.field-0.now c.in-Some-Field.name _ _ _ done found is more;
    }

pub returns-in-Some-Index-clause-same : goal.returns-in-Some-Index-clause-same
returns-in-Some-Index-clause-same c =
    let found : links_in (expr_of c.args.node.value) c.fields.place ≡ with_link c.in-Some-Index.field-0.now (links_in (expr_of c.args.node.value) (c.fields.place + 1)) = grind (arith, common_steps) in
    let is : c.in-Some-Index.field-0.now ≡ link.Index c.in-Some-Index.field-0-0 c.in-Some-Index.index = grind (arith, common_steps) in
    let same : c.in_ok-index-in-Some-Index.index.value ≡ c.in-Some-Index.index.value = grind (arith, common_steps) in
    λ calls. c.fields.invariant.same calls (written calls (writing_of c.args.writing) (root_of c.args.root))
    ∙ index_goes calls (root_of c.args.root) (steps_in c.fields.steps.items) (writing_of c.args.writing) _ _ _ c.in-Some-Index.field-0.now c.in-Some-Index.index
    c.in_ok-index-in-Some-Index.index _ _ found is same (ap writing_of c.fields.invariant.writing) (ap root_of c.fields.invariant.root)
    ∙ framed_so calls 0 c.in_ok-frame-in-Some-Index.frame _ (focus.Value await.Absent c.in_ok-index-in-Some-Index.index) c.in_ok-frame-in-Some-Index.ensures.frame

pub returns-in-Some-Call-clause-same : goal.returns-in-Some-Call-clause-same
returns-in-Some-Call-clause-same c =
    let found : links_in (expr_of c.args.node.value) c.fields.place ≡ with_link c.in-Some-Call.field-0.now (links_in (expr_of c.args.node.value) (c.fields.place + 1)) = grind (arith, common_steps) in
    let is : c.in-Some-Call.field-0.now ≡ link.Call c.in-Some-Call.field-0-0 c.in-Some-Call.field-0-1 = grind (arith, common_steps) in
    λ calls. c.fields.invariant.same calls (written calls (writing_of c.args.writing) (root_of c.args.root))
    ∙ call_stops calls (root_of c.args.root) (steps_in c.fields.steps.items) c.in-Some-Call.field-0-0 c.in-Some-Call.field-0.now c.in-Some-Call.field-0-1 _ _ _ found is
    ∙ ap (move_run calls) (sym c.nowhere.ensures)

pub returns-in-None-clause-same : goal.returns-in-None-clause-same
returns-in-None-clause-same c =
    let found : links_in (expr_of c.args.node.value) c.fields.place ≡ tree.no_links = grind (arith, common_steps) in
    λ calls. c.fields.invariant.same calls (written calls (writing_of c.args.writing) (root_of c.args.root))
    ∙ place_ends calls (root_of c.args.root) (steps_in c.fields.steps.items) (writing_of c.args.writing) _ _ _ found (ap writing_of c.fields.invariant.writing) (ap root_of c.fields.invariant.root)

use Rattle.std.proofs.Common.{◌≡◌, ◌+◌, ap, ◌∙◌, arith}
use Rattle.std.proofs.lemmas.Grind.{common_steps}
use Rattle.do_tree.specs.Nodes.{with_arg}
use Rattle.do_tree.specs.Seen.{expr_of}
use Rattle.do_tree.specs.Tree as tree
use Rattle.do_tree.specs.declared.expr.Arg.TheVariants as arg
use Rattle.do_value.specs.Seen.{trees_in}
use Rattle.script_mean.specs.Frames.{called}
use Rattle.script_steps.specs.Parts.{args_in}
use Rattle.script_steps.specs.Paths.{callee_of}
use Rattle.script_steps.specs.Weight.{callee_weight}
use Rattle.script_paths.proofs.Framed.{framed_so}
use Rattle.script_steps.specs.declared.path.Await.TheVariants as await
use Rattle.script_steps.specs.declared.focus.Focus.TheVariants as focus
use Rattle.script_paths.proofs.Args.{callback_goes, none_goes, value_goes}
use Rattle.script_paths.proofs.call_arguments.arguments.Goals as goal

pub returns-in-Some-Value-clause-same : goal.returns-in-Some-Value-clause-same
returns-in-Some-Value-clause-same c =
    let found : args_in (expr_of c.args.node.value) c.args.link c.callbacks.place
    ≡ with_arg c.in-Some-Value.field-0.now (args_in (expr_of c.args.node.value) c.args.link (c.callbacks.place + 1)) = grind (arith, common_steps) in
    let is : c.in-Some-Value.field-0.now ≡ arg.Value c.in-Some-Value.expr = grind (arith, common_steps) in
    λ calls. c.callbacks.invariant.same calls (trees_in c.args.got.items) (called calls (callee_of c.args.callee))
    ∙ value_goes calls (callee_of c.args.callee) _ (trees_in c.args.got.items) c.in-Some-Value.field-0.now c.in-Some-Value.expr c.in_ok-expr-in-Some-Value.expr _ _
    found is c.in_ok-expr-in-Some-Value.ensures (ap callee_of c.callbacks.invariant.callee)
    ∙ framed_so calls 0 c.in_ok-frame-in-Some-Value.frame _ (focus.Value await.Absent c.in_ok-expr-in-Some-Value.expr) c.in_ok-frame-in-Some-Value.ensures.frame

pub returns-in-Some-Value-clause-less : goal.returns-in-Some-Value-clause-less
returns-in-Some-Value-clause-less c =
    let same = ap callee_weight c.callbacks.invariant.callee in
    let weighs = c.in_ok-frame-in-Some-Value.ensures.weight in
    omega (arith, same, weighs)

pub callbacks-preserved : goal.callbacks-preserved
callbacks-preserved c =
    let found : args_in (expr_of c.args.node.value) c.args.link c.callbacks.place
    ≡ with_arg c.in-Some-Callback.field-0.now (args_in (expr_of c.args.node.value) c.args.link (c.callbacks.place + 1)) = grind (arith, common_steps) in
    let is : c.in-Some-Callback.field-0.now ≡ arg.Callback c.in-Some-Callback.field-0-0 = grind (arith, common_steps) in
    record {
      callee = c.callbacks.invariant.callee;
      same = λ calls got call. c.callbacks.invariant.same calls got call
          ∙ callback_goes c.in-Some-Callback.field-0.now c.in-Some-Callback.field-0-0 _ _ found is calls got call;
    }

pub returns-in-None-clause-same : goal.returns-in-None-clause-same
returns-in-None-clause-same c =
    let found : args_in (expr_of c.args.node.value) c.args.link c.callbacks.place ≡ tree.no_args = grind (arith, common_steps) in
    λ calls. c.callbacks.invariant.same calls (trees_in c.args.got.items) (called calls (callee_of c.args.callee))
    ∙ none_goes calls (callee_of c.args.callee) _ (trees_in c.args.got.items) _ found (ap callee_of c.callbacks.invariant.callee)

pub returns-in-None-clause-less : goal.returns-in-None-clause-less
returns-in-None-clause-less c =
    let same = ap callee_weight c.callbacks.invariant.callee in
    omega arith

use Rattle.std.proofs.Common.{◌≡◌, sym, ap, ◌∙◌, arith}
use Rattle.std.proofs.lemmas.Grind.{common_steps}
use Rattle.do_tree.specs.Nodes.{links_in as list_in}
use Rattle.do_tree.specs.Seen.{expr_of}
use Rattle.do_tree.specs.declared.expr.Expr.TheVariants as node
use Rattle.script_mean.specs.Turn.{Run}
use Rattle.script_steps.proofs.Begun.{if_ok}
use Rattle.script_steps.specs.Paths.{is_present}
use Rattle.script_vars.specs.Seen.{env_of}
use Rattle.script_paths.proofs.Starts.{other_value}
use Rattle.script_paths.specs.Onward.{path_value, value_path}
use Rattle.script_paths.proofs.begun.begin_path.Goals as goal

pub returns-in-This-clause-same : goal.returns-in-This-clause-same
returns-in-This-clause-same c =
    let is : c.args.base.now.value ≡ node.This c.in-This.at = grind (arith, common_steps) in
    if_ok c.begin_at.result
    (λ m p calls next st. ap (λ (r : Run). r (env_of c.args.vars.now) next st) (ap (λ e. path_value (is_present c.args.awaited) calls (expr_of e) (list_in c.args.links.now)) is ∙ p calls)) c.begin_at.ensures.same

pub returns-in-Variable-clause-same : goal.returns-in-Variable-clause-same
returns-in-Variable-clause-same c =
    let is : c.args.base.now.value ≡ node.Variable c.in-Variable.name = grind (arith, common_steps) in
    if_ok c.begin_named.result
    (λ m p calls next st. ap (λ (r : Run). r (env_of c.args.vars.now) next st) (ap (λ e. path_value (is_present c.args.awaited) calls (expr_of e) (list_in c.args.links.now)) is) ∙ p calls next st) c.begin_named.ensures.same

pub returns-in_default-clause-same : goal.returns-in_default-clause-same
returns-in_default-clause-same c =
    let same : c.args.base.now.value ≡ c.deref.result.now = grind (arith, common_steps) in
    let ls = list_in c.args.links.now in
    if_ok c.begin_value_path.result
    (λ m p calls next st. ap (λ (r : Run). r (env_of c.args.vars.now) next st)
    (ap (λ e. path_value (is_present c.args.awaited) calls (expr_of e) ls) same
    ∙ other_value (is_present c.args.awaited) calls c.deref.result.now ls c.in_default.not-This c.in_default.not-Variable
    ∙ ap (λ e. value_path (is_present c.args.awaited) calls (expr_of e) ls) (sym same) ∙ p calls)) c.begin_value_path.ensures.same

use Rattle.std.proofs.Common.{◌≡◌, ap, ◌∙◌, arith}
use Rattle.std.proofs.lemmas.Grind.{common_steps}
use Rattle.do_tree.specs.declared.expr.Expr.TheVariants as node
use Rattle.do_tree.specs.Nodes.{links_in as list_in}
use Rattle.do_tree.specs.Seen.{expr_of}
use Rattle.script_paths.specs.Onward.{path_value}
use Rattle.script_steps.proofs.Begun.{if_ok}
use Rattle.script_steps.specs.Paths.{is_present}
use Rattle.script_vars.specs.Seen.{env_of}
use Rattle.script_paths.proofs.Chains.{chain_begins, chain_some}
use Rattle.script_paths.proofs.Starts.{path_begins}
use Rattle.script_paths.proofs.begun.begin_bare.Goals as goal

pub returns-in-Path-clause-same : goal.returns-in-Path-clause-same
returns-in-Path-clause-same c =
    let is : c.args.expr.value ≡ node.Path c.in-Path.at c.in-Path.base c.in-Path.links = grind (arith, common_steps) in
    let same : c.in-Path.links.items ≡ c.deref-in-Path.result.now = grind (arith, common_steps) in
    if_ok c.begin_path.result (λ m p calls next st. path_begins (is_present c.args.awaited) calls _ _ _ _ (env_of c.args.vars.now) next st is
    ∙ ap (λ l. path_value (is_present c.args.awaited) calls (expr_of c.in-Path.base.value) (list_in l) (env_of c.args.vars.now) next st) same ∙ p calls next st) c.begin_path.ensures.same

pub begin_chain-requires-clause-some : goal.begin_chain-requires-clause-some
begin_chain-requires-clause-some c =
    let is : c.args.expr.value ≡ node.Strict c.in-Strict.at c.in-Strict.first c.in-Strict.rest = grind (arith, common_steps) in
    let same : c.in-Strict.rest.items ≡ c.deref-in-Strict.result.now = grind (arith, common_steps) in
    chain_some _ _ c.in-Strict.rest _ _ is same c.requires

pub returns-in-Strict-clause-same : goal.returns-in-Strict-clause-same
returns-in-Strict-clause-same c =
    let is : c.args.expr.value ≡ node.Strict c.in-Strict.at c.in-Strict.first c.in-Strict.rest = grind (arith, common_steps) in
    let same : c.in-Strict.rest.items ≡ c.deref-in-Strict.result.now = grind (arith, common_steps) in
    if_ok c.begin_chain.result (λ m p calls next st.
    chain_begins (is_present c.args.awaited) _ _ c.args.expr c.in-Strict.rest _ is same calls (env_of c.args.vars.now) next st ∙ p calls next st) c.begin_chain.ensures.same

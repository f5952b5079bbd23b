use Rattle.std.proofs.Common.{length, subst, ◌∙◌}
use Rattle.do_tree.specs.Nodes.{operands_in}
use Rattle.do_tree.specs.Seen.{expr_of}
use Rattle.do_value.specs.Seen.{tree_of}
use Rattle.script_mean.specs.Frames.{to_operate}
use Rattle.script_paths.proofs.AtOnce.{at_once}
use Rattle.script_paths.specs.Reading.{GivesIn}
use Rattle.script_steps.proofs.Begun.{if_ok}
use Rattle.script_vars.specs.Seen.{env_of}
use Rattle.script_paths.proofs.leaf.begin_chain.Goals as goal

pub returns-in-Some-clause-same : goal.returns-in-Some-clause-same
returns-in-Some-clause-same c =
    let env = env_of c.args.vars.now in
    let gives : GivesIn env (expr_of c.args.first.now.value) (tree_of c.in-Some.value) =
    subst (λ z. GivesIn env (expr_of z) (tree_of c.in-Some.value)) c.deref.ensures (rw c.in-Some.is at c.in_ok-value.ensures) in
    if_ok c.chain_from.result
    (λ m p calls next st. at_once (length c.args.rest.now) calls (to_operate (operands_in c.args.rest.now)) (expr_of c.args.first.now.value) (tree_of c.in-Some.value) env gives next st ∙ p calls next st)
    c.chain_from.ensures.same

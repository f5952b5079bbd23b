use Rattle.std.proofs.Common.{◌≡◌, ◌+◌, ◌≤◌, Err, suc, get_or, length, subst, refl, sym, ap, ◌∙◌, arith}
use Rattle.std.proofs.lemmas.Grind.{common_steps}
use Rattle.do_tree.specs.Seen.{expr_of}
use Rattle.do_value.specs.Seen.{tree_of}
use Rattle.script_mean.specs.Answers.{threw}
use Rattle.script_mean.specs.Turn.{Run, ends}
use Rattle.script_ops.specs.Binary.{binary}
use Rattle.script_paths.proofs.Chains.{chain_ends, operand_goes, operand_throws, operand_waits}
use Rattle.script_paths.specs.Reading.{GivesIn}
use Rattle.script_steps.specs.Seen.{charged}
use Rattle.script_vars.specs.Seen.{env_of}
use Rattle.script_paths.proofs.leaf.chain_from.Goals as goal

pub loop-place-init : goal.loop-place-init
loop-place-init c = record { cost = omega arith; same = λ calls next st. refl }

pub returns-in_default-clause-same : goal.returns-in_default-clause-same
returns-in_default-clause-same c =
    let is : c.index-rest-place.result ≡ get_or c.args.rest.now c.loop-place.place c.index-rest-place.result = grind (arith, common_steps) in
    let inner : c.in_ok-operand.operand.value ≡ c.index-rest-place.result.value.value = grind (arith, common_steps) in
    let behind : c.loop-place.place + 1 ≡ suc c.loop-place.place = omega arith in
    λ calls next st. c.loop-place.invariant.same calls next st
    ∙ ap (λ (r : Run). r (env_of c.args.vars.now) next st)
    (operand_waits c.args.rest.now c.loop-place.place _ c.index-rest-place.result calls c.loop-place.cost (tree_of c.loop-place.left) c.args.node.now c.in_ok-node.node c.in_ok-operand.operand
    c.loop-place-test.true is behind c.requires c.in_ok-node.ensures inner)

pub returns-in_default-clause-less : goal.returns-in_default-clause-less
returns-in_default-clause-less c = omega arith

pub overflow_add-cost-in-loop-place : goal.overflow_add-cost-in-loop-place
overflow_add-cost-in-loop-place c = omega arith

pub returns-in-Err-Throw-clause-same : goal.returns-in-Err-Throw-clause-same
returns-in-Err-Throw-clause-same c =
    let env = env_of c.args.vars.now in
    let is : c.index-rest-place.result ≡ get_or c.args.rest.now c.loop-place.place c.index-rest-place.result = grind (arith, common_steps) in
    let behind : c.loop-place.place + 1 ≡ suc c.loop-place.place = omega arith in
    let gives : GivesIn env (expr_of c.index-rest-place.result.value.value) (tree_of c.in-Some.right) =
    subst (λ z. GivesIn env (expr_of z) (tree_of c.in-Some.right)) c.deref.ensures (rw c.in-Some.is at c.in_ok-right.ensures) in
    let thrown : binary c.index-rest-place.result.op (tree_of c.loop-place.left) (tree_of c.in-Some.right) ≡ Err (tree_of c.in-Err-Throw.error) =
    rw c.in-Err-Throw.field-0-is at c.in-Err-Throw.ensures in
    λ calls next st. c.loop-place.invariant.same calls next st
    ∙ operand_throws c.args.rest.now c.loop-place.place _ c.index-rest-place.result calls c.loop-place.cost (tree_of c.loop-place.left) (tree_of c.in-Some.right) (tree_of c.in-Err-Throw.error)
    env next st c.loop-place-test.true is behind gives thrown
    ∙ ap (λ e. charged (c.loop-place.cost + 1) (ends (threw (tree_of e))) env next st) (sym c.in-Err-Throw.error-is)

pub loop-place-preserved : goal.loop-place-preserved
loop-place-preserved c =
    let env = env_of c.args.vars.now in
    let is : c.index-rest-place.result ≡ get_or c.args.rest.now c.loop-place.place c.index-rest-place.result = grind (arith, common_steps) in
    let behind : c.loop-place.place + 1 ≡ suc c.loop-place.place = omega arith in
    let gives : GivesIn env (expr_of c.index-rest-place.result.value.value) (tree_of c.in-Some.right) =
    subst (λ z. GivesIn env (expr_of z) (tree_of c.in-Some.right)) c.deref.ensures (rw c.in-Some.is at c.in_ok-right.ensures) in
    record {
      cost = omega arith;
      same = λ calls next st. c.loop-place.invariant.same calls next st
          ∙ operand_goes c.args.rest.now c.loop-place.place _ c.index-rest-place.result calls c.loop-place.cost (tree_of c.loop-place.left) (tree_of c.in-Some.right) (tree_of c.in-Ok.value)
          env next st c.loop-place-test.true is behind gives c.in-Ok.ensures;
    }

pub returns-clause-same : goal.returns-clause-same
returns-clause-same c =
    let all : length c.args.rest.now ≤ c.loop-place.place = omega arith in
    λ calls next st. c.loop-place.invariant.same calls next st
    ∙ ap (λ (r : Run). r (env_of c.args.vars.now) next st) (chain_ends calls c.loop-place.cost c.args.rest.now c.loop-place.place (tree_of c.loop-place.left) all)

pub returns-clause-less : goal.returns-clause-less
returns-clause-less c = omega arith

use Rattle.std.proofs.Common.{◌≡◌, ◌∙◌, refl, arith}
use Rattle.std.proofs.lemmas.Grind.{common_steps}
use Rattle.do_tree.specs.declared.stmt.Stmt.TheVariants as node
use Rattle.script_steps.proofs.Begun.{if_ok}
use Rattle.script_steps.proofs.Run.{block_begins, break_begins, continue_begins, for_begins, for_of_begins, if_begins, return_begins, simple_begins, throw_begins, try_begins, while_begins}
use Rattle.script_steps.proofs.stmt.begin_run.Goals as goal

pub returns-in_ok-again-in-Block-clause-moves : goal.returns-in_ok-again-in-Block-clause-moves
returns-in_ok-again-in-Block-clause-moves c =
    let is : c.args.stmt.now.value ≡ node.Block c.in-Block.block = grind (arith, common_steps) in
    λ calls. block_begins calls c.in-Block.block c.in_ok-again-in-Block.field-0 _ is c.in_ok-again-in-Block.ensures

pub returns-in_ok-other-in-If-clause-moves : goal.returns-in_ok-other-in-If-clause-moves
returns-in_ok-other-in-If-clause-moves c =
    let is : c.args.stmt.now.value ≡ node.If c.in-If.at c.in-If.test c.in-If.yes c.in-If.other = grind (arith, common_steps) in
    λ calls. if_begins calls _ c.in-If.test c.in_ok-test-in-If.test c.in-If.yes c.in_ok-yes-in-If.yes _ _ _ is c.in_ok-test-in-If.ensures c.in_ok-yes-in-If.ensures c.in_ok-other-in-If.ensures

pub returns-in_ok-body-in-While-clause-moves : goal.returns-in_ok-body-in-While-clause-moves
returns-in_ok-body-in-While-clause-moves c =
    let is : c.args.stmt.now.value ≡ node.While c.in-While.at c.in-While.test c.in-While.body = grind (arith, common_steps) in
    λ calls. while_begins calls _ c.in-While.test c.in_ok-test-in-While.test c.in-While.body c.in_ok-body-in-While.body _ is c.in_ok-test-in-While.ensures c.in_ok-body-in-While.ensures

pub returns-in_ok-first-in-For-clause-moves : goal.returns-in_ok-first-in-For-clause-moves
returns-in_ok-first-in-For-clause-moves c =
    let is : c.args.stmt.now.value ≡ node.For c.in-For.at c.in-For.name c.in-For.first c.in-For.test c.in-For.step c.in-For.body = grind (arith, common_steps) in
    λ calls. for_begins calls _ _ c.in-For.first c.in-For.test c.in-For.step c.in-For.body c.in_ok-node-in-For.node c.in_ok-first-in-For.first _ is c.in_ok-node-in-For.ensures c.in_ok-first-in-For.ensures

pub returns-in_ok-list-in-ForOf-clause-moves : goal.returns-in_ok-list-in-ForOf-clause-moves
returns-in_ok-list-in-ForOf-clause-moves c =
    let is : c.args.stmt.now.value ≡ node.ForOf c.in-ForOf.at c.in-ForOf.binding c.in-ForOf.name c.in-ForOf.list c.in-ForOf.body = grind (arith, common_steps) in
    λ calls. for_of_begins calls _ _ _ c.in-ForOf.list c.in-ForOf.body c.in_ok-node-in-ForOf.node c.in_ok-list-in-ForOf.list _ is c.in_ok-node-in-ForOf.ensures c.in_ok-list-in-ForOf.ensures

pub returns-in_ok-body-in-Try-clause-moves : goal.returns-in_ok-body-in-Try-clause-moves
returns-in_ok-body-in-Try-clause-moves c =
    let is : c.args.stmt.now.value ≡ node.Try c.in-Try.at c.in-Try.body c.in-Try.name c.in-Try.handler = grind (arith, common_steps) in
    λ calls. try_begins calls _ c.in-Try.body _ c.in-Try.handler c.in_ok-node-in-Try.node c.in_ok-body-in-Try.body _ is c.in_ok-node-in-Try.ensures c.in_ok-body-in-Try.ensures

pub returns-in_ok-value-in-Throw-clause-moves : goal.returns-in_ok-value-in-Throw-clause-moves
returns-in_ok-value-in-Throw-clause-moves c =
    let is : c.args.stmt.now.value ≡ node.Throw c.in-Throw.at c.in-Throw.value = grind (arith, common_steps) in
    λ calls. throw_begins calls _ c.in-Throw.value c.in_ok-value-in-Throw.value _ is c.in_ok-value-in-Throw.ensures

pub returns-in-Return-clause-moves : goal.returns-in-Return-clause-moves
returns-in-Return-clause-moves c =
    let is : c.args.stmt.now.value ≡ node.Return c.in-Return.at c.in-Return.value = grind (arith, common_steps) in
    if_ok c.begin_return.result (λ m p calls. return_begins calls _ _ _ is ∙ p calls) c.begin_return.ensures.moves

pub returns-in-Break-clause-moves : goal.returns-in-Break-clause-moves
returns-in-Break-clause-moves c =
    let is : c.args.stmt.now.value ≡ node.Break c.in-Break.at = grind (arith, common_steps) in
    λ calls. break_begins calls _ _ is

pub returns-in-Continue-clause-moves : goal.returns-in-Continue-clause-moves
returns-in-Continue-clause-moves c =
    let is : c.args.stmt.now.value ≡ node.Continue c.in-Continue.at = grind (arith, common_steps) in
    λ calls. continue_begins calls _ _ is

pub returns-in-Simple-clause-moves : goal.returns-in-Simple-clause-moves
returns-in-Simple-clause-moves c =
    let is : c.args.stmt.now.value ≡ node.Simple c.in-Simple.inner = grind (arith, common_steps) in
    if_ok c.begin_simple.result (λ m p calls. simple_begins calls c.in-Simple.inner c.in-Simple.inner _ is refl ∙ p calls) c.begin_simple.ensures.moves

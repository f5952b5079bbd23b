use Rattle.std.proofs.Common.{◌≡◌, ◌+◌, ◌*◌, ◌<◌, length, ◌∙◌, arith}
use Rattle.std.proofs.lemmas.Grind.{common_steps}
use Rattle.do_tree.specs.declared.expr.Expr.TheVariants as node
use Rattle.script_steps.proofs.Begun.{choice_begins, error_begins, if_ok, lazy_begins, list_begins, record_begins, strict_begins, this_begins, unary_begins, variable_begins}
use Rattle.script_steps.proofs.Stripped.{lazy_many, strict_many}
use Rattle.script_steps.specs.Paths.{is_present}
use Rattle.script_steps.proofs.value.begin_value.Goals as goal

pub returns-in_ok-no-in-Choice-clause-moves : goal.returns-in_ok-no-in-Choice-clause-moves
returns-in_ok-no-in-Choice-clause-moves c =
    let is : c.args.expr.now.value ≡ node.Choice c.in-Choice.at c.in-Choice.test c.in-Choice.yes c.in-Choice.no = grind (arith, common_steps) in
    λ calls. choice_begins calls (is_present c.args.awaited) _ _ _ _ c.in_ok-test-in-Choice.test c.in_ok-yes-in-Choice.yes c.in_ok-no-in-Choice.no _ is c.in_ok-test-in-Choice.ensures c.in_ok-yes-in-Choice.ensures c.in_ok-no-in-Choice.ensures

pub returns-in_ok-first-in-Lazy-clause-moves : goal.returns-in_ok-first-in-Lazy-clause-moves
returns-in_ok-first-in-Lazy-clause-moves c =
    let is : c.args.expr.now.value ≡ node.Lazy c.in-Lazy.at c.in-Lazy.chain c.in-Lazy.first c.in-Lazy.rest = grind (arith, common_steps) in
    let many : c.len.result ≡ length c.in-Lazy.rest.items = grind (arith, common_steps) in
    λ calls. lazy_begins calls (is_present c.args.awaited) _ _ _ _ c.in_ok-node-in-Lazy.node c.in_ok-first-in-Lazy.first _ _ is c.in_ok-node-in-Lazy.ensures c.in_ok-first-in-Lazy.ensures many

pub returns-in_ok-first-in-Strict-clause-moves : goal.returns-in_ok-first-in-Strict-clause-moves
returns-in_ok-first-in-Strict-clause-moves c =
    let is : c.args.expr.now.value ≡ node.Strict c.in-Strict.at c.in-Strict.first c.in-Strict.rest = grind (arith, common_steps) in
    let many : c.len-in-Strict.result ≡ length c.in-Strict.rest.items = grind (arith, common_steps) in
    λ calls. strict_begins calls (is_present c.args.awaited) _ _ _ c.in_ok-node-in-Strict.node c.in_ok-first-in-Strict.first _ _ is c.in_ok-node-in-Strict.ensures c.in_ok-first-in-Strict.ensures many

pub returns-in_ok-value-in-Unary-clause-moves : goal.returns-in_ok-value-in-Unary-clause-moves
returns-in_ok-value-in-Unary-clause-moves c =
    let is : c.args.expr.now.value ≡ node.Unary c.in-Unary.at c.in-Unary.op c.in-Unary.value = grind (arith, common_steps) in
    λ calls. unary_begins calls (is_present c.args.awaited) _ _ _ c.in_ok-value-in-Unary.value _ is c.in_ok-value-in-Unary.ensures

pub returns-in_ok-again-in-List-clause-moves : goal.returns-in_ok-again-in-List-clause-moves
returns-in_ok-again-in-List-clause-moves c =
    let is : c.args.expr.now.value ≡ node.List c.in-List.at c.in-List.items = grind (arith, common_steps) in
    if_ok c.list_from.result
    (λ m p calls. list_begins calls (is_present c.args.awaited) _ _ c.in_ok-again-in-List.field-0 _ _ is c.in_ok-again-in-List.ensures c.new.ensures.items ∙ p calls) c.list_from.ensures.moves

pub returns-in_ok-again-in-Record-clause-moves : goal.returns-in_ok-again-in-Record-clause-moves
returns-in_ok-again-in-Record-clause-moves c =
    let is : c.args.expr.now.value ≡ node.Record c.in-Record.at c.in-Record.pairs = grind (arith, common_steps) in
    if_ok c.record_from.result
    (λ m p calls. record_begins calls (is_present c.args.awaited) _ _ c.in_ok-again-in-Record.field-0 _ _ is c.in_ok-again-in-Record.ensures c.new-in-Record.ensures.items ∙ p calls) c.record_from.ensures.moves

pub returns-in-NewError-clause-moves : goal.returns-in-NewError-clause-moves
returns-in-NewError-clause-moves c =
    let is : c.args.expr.now.value ≡ node.NewError c.in-NewError.at c.in-NewError.message = grind (arith, common_steps) in
    if_ok c.begin_error.result (λ m p calls. error_begins calls (is_present c.args.awaited) _ _ _ is ∙ p calls) c.begin_error.ensures.moves

pub returns-in_ok-first-in-Lazy-clause-less : goal.returns-in_ok-first-in-Lazy-clause-less
returns-in_ok-first-in-Lazy-clause-less c =
    let is : c.args.expr.now.value ≡ node.Lazy c.in-Lazy.at c.in-Lazy.chain c.in-Lazy.first c.in-Lazy.rest = grind (arith, common_steps) in
    let many : c.len.result ≡ length c.in-Lazy.rest.items = grind (arith, common_steps) in
    let some = lazy_many _ _ _ c.in-Lazy.rest _ is c.requires in
    let less : 3 < 2 + 40 * c.len.result = omega arith in
    less

pub returns-in_ok-first-in-Strict-clause-less : goal.returns-in_ok-first-in-Strict-clause-less
returns-in_ok-first-in-Strict-clause-less c =
    let is : c.args.expr.now.value ≡ node.Strict c.in-Strict.at c.in-Strict.first c.in-Strict.rest = grind (arith, common_steps) in
    let many : c.len-in-Strict.result ≡ length c.in-Strict.rest.items = grind (arith, common_steps) in
    let some = strict_many _ _ c.in-Strict.rest _ is c.requires in
    let less : 3 < 2 + 40 * c.len-in-Strict.result = omega arith in
    less

pub returns-in-This-clause-moves : goal.returns-in-This-clause-moves
returns-in-This-clause-moves c =
    let is : c.args.expr.now.value ≡ node.This c.in-This.at = grind (arith, common_steps) in
    λ calls. this_begins calls (is_present c.args.awaited) _ _ is

pub returns-in_ok-again-in-Variable-clause-moves : goal.returns-in_ok-again-in-Variable-clause-moves
returns-in_ok-again-in-Variable-clause-moves c =
    let is : c.args.expr.now.value ≡ node.Variable c.in-Variable.field-0 = grind (arith, common_steps) in
    λ calls. variable_begins calls (is_present c.args.awaited) _ c.in_ok-again-in-Variable.field-0 _ is c.in_ok-again-in-Variable.ensures

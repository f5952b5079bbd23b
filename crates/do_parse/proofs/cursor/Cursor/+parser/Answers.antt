use Rattle.do_lex.specs.declared.kind.Kind.TheVariants as kind
use Rattle.do_lex.specs.declared.kind.Keyword.TheVariants as key
use Rattle.do_lex.specs.declared.kind.Mark.TheVariants as mark
use Rattle.do_tree.specs.Grammar as g
use Rattle.do_tree.specs.declared.expr.Chain.TheVariants as chain
use Rattle.do_parse.specs.declared.starts.ExprStart.TheVariants as of_start
use Rattle.do_tree.specs.Tree as tree
use Rattle.do_tree.specs.declared.stmt.Binding.TheVariants as bind
use Rattle.do_parse.specs.Pieces as pieces
use Rattle.do_parse.specs.Starts as starts
use Rattle.do_parse.specs.declared.starts.StmtStart.TheVariants as start
use Rattle.do_parse.specs.declared.starts.WriteStart.TheVariants as write
use Rattle.do_parse.proofs.cursor.Cursor.+parser.Goals as goal
use Rattle.std.proofs.Common.{◌≡◌, ◌≢◌, ◌≤◌, ◌<◌, ◌+◌, ◌++◌, ℕ, suc, List, [], ◌∷◌, Option, Some, None, Result, Ok, Err, length, map, refl, sym, ◌∙◌, ap, subst, arith, rules, true, false}
use Rattle.do_tree.specs.Accepts.{most_inside}
use Rattle.do_tree.specs.Grammar.{IsExpr, IsOperandOf, IsUn, IsStmt}
use Rattle.do_tree.specs.Seen.{named_of, option_named_of, expr_of, stmt_of}
use Rattle.do_parse.specs.Chained.{behind_chain, IsChained}
use Rattle.do_parse.specs.Follow.{behind_expr, behind_element, behind_operand, behind_strict, behind_tighter, behind_un, behind_simple}
use Rattle.do_parse.specs.Levels.{level_of, operator_next}
use Rattle.do_parse.specs.Lists.{Starting, IsLink, IsOneArg, IsOnePair, call, BeginsWith, IsItem, Repeat}
use Rattle.do_parse.specs.Parsed.{Anything, ends_by, Parses}
use Rattle.do_parse.specs.Trees.{expr_at, exprs_at, operand_at, operands_at, link_of, links_at, arg_of, args_at, pair_of, pairs_at, head_of, option_expr_at, block_at, item_of, items_at, option_stmt_at, stmt_at, simple_at, written_of, bound_of}
use Rattle.do_parse.proofs.Sequence.{seq, stop, read_as, read_here, handed_on, made_on, narrow, seq_else, stop_else}
use Rattle.do_parse.proofs.Exits.{handed, no_memory, second, grows_on, grows_none, starts_with, no_value_here, element_behind, argument_behind, option_behind, behind_open, behind_list, behind_opened, behind_message, behind_error_open, behind_error_word, behind_new, behind_head, behind_close, behind_parameter, behind_head_open, behind_async, behind_value_colon, behind_key, behind_name}
use Rattle.do_parse.proofs.Exprs.{expr_choice, expr_short, expr_stop, sides_same, behind_colon, behind_side, behind_question, short_coalesce, short_either, short_stop, either_ors, either_stop}
use Rattle.do_parse.specs.Then.{with_tree}
use Rattle.do_parse.proofs.Chains.{chain_tree, next_same, behind_next, chained_same, chain_tree_some, behind_chained, more_chained, end_chained, or_operand, or_stop}
use Rattle.do_parse.proofs.Operators.{operand_same, behind_operator, operator_here}
use Rattle.do_parse.proofs.Strict.{strict_here, strict_tree, strict_tree_some, behind_operand_list, more_operands, end_operands, tighter_eq, tighter_rel, tighter_add, tighter_mul}
use Rattle.do_parse.proofs.Steps.{is_value, negative_same, opposite_same, await_same, behind_prefix, un_post, post_here, behind_value, path_tree, path_tree_some}
use Rattle.do_parse.proofs.Links.{field_same, index_same, call_same, link_field, more_links, end_links, behind_link, behind_word}
use Rattle.do_parse.proofs.Pairs.{callback_same, head_same, named_same, name_missing, pair_value_same, some_value_same, value_missing, some_expr_same, expr_missing, text_pair_same, name_pair_same, key_pair_same, other_pair, value_same as expr_value_same}
use Rattle.do_parse.proofs.Prims.{null_same, undefined_same, this_same, boolean_same, variable_same, text_same, number_one, group_same, list_same, record_same, new_same}
use Rattle.do_parse.proofs.Standing.{behind_then}
use Rattle.do_parse.proofs.Lists.{started, repeat_more, repeat_stop, repeat_end, comma_more, comma_stop, comma_comma_stop, comma_last, comma_end, not_behind, grows_first}
use Rattle.do_parse.proofs.Falls.{falls, falls_or_same}
use Rattle.do_parse.proofs.TooDeep.{expr_deep, un_deep}
use Rattle.do_parse.proofs.Rows.{hidden_args, vec_exprs, vec_operands, vec_links, vec_args, vec_pairs}
use Rattle.do_parse.proofs.Turns.{next_yes, next_no, other_next, comma_no_close, no_token, no_next, no_link, no_expr, no_arg, no_pair, end_exprs, end_args, end_pairs, behind_item, behind_comma_item, list_on, not_value, some_starts, operand_alone, operand_stop}
use Rattle.do_parse.proofs.Empty.{empty_list, some_list}
use Rattle.do_parse.specs.Starts.{kind_next, begins_link, is_some_start}
use Rattle.do_parse.proofs.Behinds.{mark_last, mark_closes, stmt_last, items_behind, item_behind, else_can, then_behind, test_behind, wrong_else, while_behind, handler_behind, caught_behind, catch_behind, body_behind, thrown_behind, returned_last, returned_behind, simple_last, written_behind, in_parens_behind, initial_behind, declared_behind, given_behind, semicolon_to_expr, tail_behind, rest_same, step_close_behind, step_behind, tested_behind, first_behind, of_same, listed_behind}
use Rattle.do_parse.proofs.Dependent.{dep_stop, dep_seq}
use Rattle.do_parse.proofs.ForRules.{IsForTail, for_same, steps_same, listed_same}
use Rattle.do_parse.proofs.ItemRules.{in_parens_same, expr_then_same, block_braced, no_item, statement_same, binding_next, declaration_same, initial_same, nothing_initial, item_some}
use Rattle.do_parse.proofs.NodeTrees.{try_seen, if_seen, return_seen, declare_seen, made_seen, ok_as, key_as, plain, with_last}
use Rattle.do_parse.proofs.SimpleRules.{simple_stmt_here, simple_stmt_same, simple_here, value_same, sum_same, difference_same, one_more_same, one_less_same, no_write, simple_to_expr, behind_write, mark_expr_same, else_same, no_else_there, stmt_kind, stmt_deep}
use Rattle.do_parse.proofs.Statements.{block_same, if_same, while_same, try_same, throw_same, return_same}
use Rattle.std.proofs.lemmas.Bool.{false≢true}
use Rattle.do_parse.proofs.cursor.Cursor.+parser.Goals.{for_stmt-else-eq-via-then-eq+else-next_is, for_stmt-else-eq-via-else-eq, initial-else-eq-via-then-eq+else-not-next_is, initial-else-eq-via-else-eq}
use Rattle.do_parse.proofs.Bindings.{is_let, no_let}

pub expr-returns-then-depth-gt-MOST_INSIDE : goal.expr-returns-then-depth-gt-MOST_INSIDE
expr-returns-then-depth-gt-MOST_INSIDE t c = let m : most_inside < c.args.depth = omega arith in subst (λ s. Parses (IsExpr c.args.depth) (ends_by behind_expr) c.args.self.now c.args.self.now (Err s)) (sym c.too_deep.ensures) (expr_deep c.args.depth m c.args.self.now)

pub expr-returns-in_err-test : goal.expr-returns-in_err-test
expr-returns-in_err-test t c = handed_on expr_at c.from_residual.result c.from_residual.ensures.1 (expr_stop c.in_err-test.ensures)

pub expr-returns-then-next_is : goal.expr-returns-then-next_is
expr-returns-then-next_is t c = expr_choice (next_yes c.next_is.result c.next_is.ensures c.if-next_is.true) c.in_ok-test.ensures (rw c.place-at.ensures at c.choice.ensures)

pub expr-returns-else-next_is : goal.expr-returns-else-next_is
expr-returns-else-next_is t c = expr_short (next_no c.next_is.result c.next_is.ensures c.if-next_is.false) c.in_ok-test.ensures

pub choice-returns-in_err-mark : goal.choice-returns-in_err-mark
choice-returns-in_err-mark t c = handed_on expr_at c.from_residual.result c.from_residual.ensures.1 (read_as (sides_same c.args.depth c.args.at (expr_at c.args.test) c.args.self.now) (stop (behind_question c.args.depth) c.in_err-mark.ensures))

pub choice-returns-in_err-yes : goal.choice-returns-in_err-yes
choice-returns-in_err-yes t c = handed_on expr_at c.from_residual-in_err-yes.result c.from_residual-in_err-yes.ensures.1 (read_as (sides_same c.args.depth c.args.at (expr_at c.args.test) c.args.self.now) (seq (behind_question c.args.depth) c.in_ok-mark.ensures (stop (behind_side c.args.depth) c.in_err-yes.ensures)))

pub choice-returns-in_err-mark-2 : goal.choice-returns-in_err-mark-2
choice-returns-in_err-mark-2 t c = handed_on expr_at c.from_residual-in_err-mark-2.result c.from_residual-in_err-mark-2.ensures.1 (read_as (sides_same c.args.depth c.args.at (expr_at c.args.test) c.args.self.now) (seq (behind_question c.args.depth) c.in_ok-mark.ensures (seq (behind_side c.args.depth) c.in_ok-yes.ensures (stop (behind_colon c.args.depth) c.in_err-mark-2.ensures))))

pub choice-returns-in_err-no : goal.choice-returns-in_err-no
choice-returns-in_err-no t c = handed_on expr_at c.from_residual-in_err-no.result c.from_residual-in_err-no.ensures.1 (read_as (sides_same c.args.depth c.args.at (expr_at c.args.test) c.args.self.now) (seq (behind_question c.args.depth) c.in_ok-mark.ensures (seq (behind_side c.args.depth) c.in_ok-yes.ensures (seq (behind_colon c.args.depth) c.in_ok-mark-2.ensures c.in_err-no.ensures))))

pub choice-returns : goal.choice-returns
choice-returns t c = made_on expr_at c.choice.result c.choice.ensures (read_as (sides_same c.args.depth c.args.at (expr_at c.args.test) c.args.self.now) (seq (behind_question c.args.depth) c.in_ok-mark.ensures (seq (behind_side c.args.depth) c.in_ok-yes.ensures (seq (behind_colon c.args.depth) c.in_ok-mark-2.ensures c.in_ok-no.ensures))))

pub short-returns-in_err-first : goal.short-returns-in_err-first
short-returns-in_err-first t c = handed_on expr_at c.from_residual.result c.from_residual.ensures.1 (short_stop c.in_err-first.ensures)

pub short-returns-then-next_is : goal.short-returns-then-next_is
short-returns-then-next_is t c = short_coalesce (next_yes c.next_is.result c.next_is.ensures c.if-next_is.true) c.in_ok-first.ensures (rw c.place-at.ensures at c.chain.ensures)

pub short-returns-else-next_is : goal.short-returns-else-next_is
short-returns-else-next_is t c = short_either (next_no c.next_is.result c.next_is.ensures c.if-next_is.false) c.in_ok-first.ensures (rw c.place-at.ensures at c.either.ensures)

pub either-returns-in_err-first : goal.either-returns-in_err-first
either-returns-in_err-first t c = handed_on expr_at c.from_residual.result c.from_residual.ensures.1 (either_stop c.in_err-first.ensures)

pub either-returns : goal.either-returns
either-returns t c = either_ors c.in_ok-first.ensures c.chain-2.ensures

pub chain-returns-in_err-rest : goal.chain-returns-in_err-rest
chain-returns-in_err-rest t c = handed_on expr_at c.from_residual.result c.from_residual.ensures.1 (read_as (chained_same c.args.chain c.args.depth c.args.at (expr_at c.args.first) (ends_by (behind_chain c.args.chain)) c.args.self.now) c.in_err-rest.ensures)

pub chain-returns-then-is_empty : goal.chain-returns-then-is_empty
chain-returns-then-is_empty t c = subst (λ xs. Parses (IsChained c.args.chain c.args.depth c.args.at (expr_at c.args.first)) (ends_by (behind_chain c.args.chain)) c.args.self.now c.chain_rest.new.self (Ok (chain_tree c.args.chain c.args.at (expr_at c.args.first) (exprs_at xs)))) (empty_list c.as_slice.result.now c.in_ok-rest.rest.items c.is_empty.result c.is_empty.ensures c.as_slice.ensures.value c.if-is_empty.true) (read_as (chained_same c.args.chain c.args.depth c.args.at (expr_at c.args.first) (ends_by (behind_chain c.args.chain)) c.args.self.now) c.in_ok-rest.ensures)

pub chain-returns : goal.chain-returns
chain-returns t c = made_on expr_at c.lazy.result c.lazy.ensures (subst (λ x. Parses (IsChained c.args.chain c.args.depth c.args.at (expr_at c.args.first)) (ends_by (behind_chain c.args.chain)) c.args.self.now c.chain_rest.new.self (Ok x)) (chain_tree_some c.args.chain c.args.at (expr_at c.args.first) (exprs_at c.in_ok-rest.rest.items) (some_list expr_at c.as_slice.result.now c.in_ok-rest.rest.items c.is_empty.result c.is_empty.ensures c.as_slice.ensures.value c.if-is_empty.false)) (read_as (chained_same c.args.chain c.args.depth c.args.at (expr_at c.args.first) (ends_by (behind_chain c.args.chain)) c.args.self.now) c.in_ok-rest.ensures))

pub chain_rest-loop-chain-init : goal.chain_rest-loop-chain-init
chain_rest-loop-chain-init t c = grows_none c.args.self.now expr_at c.new-rest.result.items c.new-rest.ensures.items

pub chain_rest-returns-in_err-value : goal.chain_rest-returns-in_err-value
chain_rest-returns-in_err-value t c = handed_on vec_exprs c.from_residual.result c.from_residual.ensures.1 (repeat_stop (behind_chained c.args.chain c.args.depth) (more_chained c.args.chain c.loop-chain.self (rw c.chain_mark.ensures at (next_yes c.next_is.result c.next_is.ensures c.loop-chain-test.true))) c.loop-chain.invariant c.in_err-value.ensures)

pub chain_rest-returns-in_err-push : goal.chain_rest-returns-in_err-push
chain_rest-returns-in_err-push t c = no_memory vec_exprs c.from_residual-in_err-push.result c.from_residual-in_err-push.ensures.1

pub chain_rest-loop-chain-preserved : goal.chain_rest-loop-chain-preserved
chain_rest-loop-chain-preserved t c = grows_on expr_at c.loop-chain.rest.items c.push.new.self.items _ c.in_ok-push.ensures.items (repeat_more (behind_chained c.args.chain c.args.depth) (more_chained c.args.chain c.loop-chain.self (rw c.chain_mark.ensures at (next_yes c.next_is.result c.next_is.ensures c.loop-chain-test.true))) c.loop-chain.invariant c.in_ok-value.ensures)

pub chain_rest-loop-chain-smaller : goal.chain_rest-loop-chain-smaller
chain_rest-loop-chain-smaller t c = falls tt no_next c.in_ok-value.ensures

pub chain_rest-returns : goal.chain_rest-returns
chain_rest-returns t c = repeat_end (end_chained c.args.chain c.args.depth c.loop-chain.self (rw c.chain_mark.ensures at (next_no c.next_is.result c.next_is.ensures c.loop-chain-test.false))) c.loop-chain.invariant

pub next_operand-returns-in_err-mark : goal.next_operand-returns-in_err-mark
next_operand-returns-in_err-mark t c = handed_on expr_at c.from_residual.result c.from_residual.ensures.1 (read_as (next_same c.args.chain c.args.depth (ends_by (behind_operand c.args.chain)) c.args.self.now) (stop (behind_next c.args.chain c.args.depth) (rw c.chain_mark.ensures at c.in_err-mark.ensures)))

pub next_operand-returns : goal.next_operand-returns
next_operand-returns t c = second _ (read_as (next_same c.args.chain c.args.depth (ends_by (behind_operand c.args.chain)) c.args.self.now) (seq (behind_next c.args.chain c.args.depth) (rw c.chain_mark.ensures at c.in_ok-mark.ensures) c.operand.ensures))

pub operand-returns-in_err-first : goal.operand-returns-in_err-first
operand-returns-in_err-first t c = handed_on expr_at c.from_residual.result c.from_residual.ensures.1 (operand_stop c.args.chain c.in_err-first.ensures)

pub operand-returns-in-Or : goal.operand-returns-in-Or
operand-returns-in-Or t c = subst (λ ch. Parses (IsOperandOf ch c.args.depth) (ends_by (behind_operand ch)) c.args.self.now c.chain.new.self (with_tree expr_at c.chain.result)) (sym c.in-Or.is) (or_operand c.in_ok-first.ensures (rw c.place-at.ensures at c.chain.ensures))

pub operand-returns-in-And : goal.operand-returns-in-And
operand-returns-in-And t c = operand_alone c.args.chain c.in-And.is c.in_ok-first.ensures

pub strict-returns-in_err-first : goal.strict-returns-in_err-first
strict-returns-in_err-first t c = handed_on expr_at c.from_residual.result c.from_residual.ensures.1 (read_here (strict_here (level_of c.args.level) c.args.depth c.args.self.now) (stop (behind_operand_list (level_of c.args.level) c.args.depth) c.in_err-first.ensures))

pub strict-returns-in_err-rest : goal.strict-returns-in_err-rest
strict-returns-in_err-rest t c = handed_on expr_at c.from_residual-in_err-rest.result c.from_residual-in_err-rest.ensures.1 (read_here (strict_here (level_of c.args.level) c.args.depth c.args.self.now) (seq (behind_operand_list (level_of c.args.level) c.args.depth) c.in_ok-first.ensures c.in_err-rest.ensures))

pub strict-returns-then-is_empty : goal.strict-returns-then-is_empty
strict-returns-then-is_empty t c = subst (λ xs. Parses (g.IsStrict (level_of c.args.level) c.args.depth) (ends_by (behind_strict (level_of c.args.level))) c.args.self.now c.operands.new.self (Ok (strict_tree c.place-at.result (expr_at c.in_ok-first.first, operands_at xs)))) (empty_list c.as_slice.result.now c.in_ok-rest.rest.items c.is_empty.result c.is_empty.ensures c.as_slice.ensures.value c.if-is_empty.true) (subst (λ at. Parses (g.IsStrict (level_of c.args.level) c.args.depth) (ends_by (behind_strict (level_of c.args.level))) c.args.self.now c.operands.new.self (Ok (strict_tree at (expr_at c.in_ok-first.first, operands_at c.in_ok-rest.rest.items)))) (sym c.place-at.ensures) (read_here (strict_here (level_of c.args.level) c.args.depth c.args.self.now) (seq (behind_operand_list (level_of c.args.level) c.args.depth) c.in_ok-first.ensures c.in_ok-rest.ensures)))

pub strict-returns : goal.strict-returns
strict-returns t c = made_on expr_at c.strict.result c.strict.ensures (subst (λ x. Parses (g.IsStrict (level_of c.args.level) c.args.depth) (ends_by (behind_strict (level_of c.args.level))) c.args.self.now c.operands.new.self (Ok x)) (strict_tree_some c.place-at.result (expr_at c.in_ok-first.first) (operands_at c.in_ok-rest.rest.items) (some_list operand_at c.as_slice.result.now c.in_ok-rest.rest.items c.is_empty.result c.is_empty.ensures c.as_slice.ensures.value c.if-is_empty.false)) (subst (λ at. Parses (g.IsStrict (level_of c.args.level) c.args.depth) (ends_by (behind_strict (level_of c.args.level))) c.args.self.now c.operands.new.self (Ok (strict_tree at (expr_at c.in_ok-first.first, operands_at c.in_ok-rest.rest.items)))) (sym c.place-at.ensures) (read_here (strict_here (level_of c.args.level) c.args.depth c.args.self.now) (seq (behind_operand_list (level_of c.args.level) c.args.depth) c.in_ok-first.ensures c.in_ok-rest.ensures))))

pub operands-loop-op-init : goal.operands-loop-op-init
operands-loop-op-init t c = grows_none c.args.self.now operand_at c.new-rest.result.items c.new-rest.ensures.items

pub operands-returns-in_err-mark : goal.operands-returns-in_err-mark
operands-returns-in_err-mark t c = handed_on vec_operands c.from_residual.result c.from_residual.ensures.1 (repeat_stop (behind_operand_list (level_of c.args.level) c.args.depth) (more_operands c.args.level c.in-Some.op c.loop-op.self (sym (c.operator_next.ensures ∙ ap (λ k. operator_next c.args.level k) c.kind.ensures) ∙ c.in-Some.is)) c.loop-op.invariant (read_as (operand_same c.args.level c.in-Some.op c.args.depth c.loop-op.self (sym (c.operator_next.ensures ∙ ap (λ k. operator_next c.args.level k) c.kind.ensures) ∙ c.in-Some.is)) (stop (behind_operator (level_of c.args.level) c.args.depth) (rw c.operator_mark.ensures at c.in_err-mark.ensures))))

pub operands-returns-in_err-value : goal.operands-returns-in_err-value
operands-returns-in_err-value t c = handed_on vec_operands c.from_residual-in_err-value.result c.from_residual-in_err-value.ensures.1 (repeat_stop (behind_operand_list (level_of c.args.level) c.args.depth) (more_operands c.args.level c.in-Some.op c.loop-op.self (sym (c.operator_next.ensures ∙ ap (λ k. operator_next c.args.level k) c.kind.ensures) ∙ c.in-Some.is)) c.loop-op.invariant (read_as (operand_same c.args.level c.in-Some.op c.args.depth c.loop-op.self (sym (c.operator_next.ensures ∙ ap (λ k. operator_next c.args.level k) c.kind.ensures) ∙ c.in-Some.is)) (seq (behind_operator (level_of c.args.level) c.args.depth) (rw c.operator_mark.ensures at c.in_ok-mark.ensures) c.in_err-value.ensures)))

pub operands-returns-in_err-push : goal.operands-returns-in_err-push
operands-returns-in_err-push t c = no_memory vec_operands c.from_residual-in_err-push.result c.from_residual-in_err-push.ensures.1

pub operands-loop-op-preserved : goal.operands-loop-op-preserved
operands-loop-op-preserved t c = grows_on operand_at c.loop-op.rest.items c.push.new.self.items _ c.in_ok-push.ensures.items (repeat_more (behind_operand_list (level_of c.args.level) c.args.depth) (more_operands c.args.level c.in-Some.op c.loop-op.self (sym (c.operator_next.ensures ∙ ap (λ k. operator_next c.args.level k) c.kind.ensures) ∙ c.in-Some.is)) c.loop-op.invariant (read_as (operand_same c.args.level c.in-Some.op c.args.depth c.loop-op.self (sym (c.operator_next.ensures ∙ ap (λ k. operator_next c.args.level k) c.kind.ensures) ∙ c.in-Some.is)) (seq (behind_operator (level_of c.args.level) c.args.depth) (rw c.operator_mark.ensures at c.in_ok-mark.ensures) c.in_ok-value.ensures)))

pub operands-loop-op-smaller : goal.operands-loop-op-smaller
operands-loop-op-smaller t c = let a : length c.mark.new.self < length c.loop-op.self = falls tt no_token c.in_ok-mark.ensures in let b : length c.tighter.new.self ≤ length c.mark.new.self = falls_or_same c.in_ok-value.ensures in omega (arith, a, b)

pub operands-returns : goal.operands-returns
operands-returns t c = repeat_end (end_operands c.args.level c.args.depth c.loop-op.self (sym (c.operator_next.ensures ∙ ap (λ k. operator_next c.args.level k) c.kind.ensures) ∙ c.in_default.is)) c.loop-op.invariant

pub tighter-returns-in-Equal : goal.tighter-returns-in-Equal
tighter-returns-in-Equal t c = subst (λ l. Parses (g.IsTighter (level_of l) c.args.depth) (ends_by (behind_tighter (level_of l))) c.args.self.now c.strict.new.self (with_tree expr_at c.strict.result)) (sym c.in-Equal.is) (tighter_eq c.strict.ensures)

pub tighter-returns-in-Order : goal.tighter-returns-in-Order
tighter-returns-in-Order t c = subst (λ l. Parses (g.IsTighter (level_of l) c.args.depth) (ends_by (behind_tighter (level_of l))) c.args.self.now c.strict-in-Order.new.self (with_tree expr_at c.strict-in-Order.result)) (sym c.in-Order.is) (tighter_rel c.strict-in-Order.ensures)

pub tighter-returns-in-Sum : goal.tighter-returns-in-Sum
tighter-returns-in-Sum t c = subst (λ l. Parses (g.IsTighter (level_of l) c.args.depth) (ends_by (behind_tighter (level_of l))) c.args.self.now c.strict-in-Sum.new.self (with_tree expr_at c.strict-in-Sum.result)) (sym c.in-Sum.is) (tighter_add c.strict-in-Sum.ensures)

pub tighter-returns-in-Product : goal.tighter-returns-in-Product
tighter-returns-in-Product t c = subst (λ l. Parses (g.IsTighter (level_of l) c.args.depth) (ends_by (behind_tighter (level_of l))) c.args.self.now c.un.new.self (with_tree expr_at c.un.result)) (sym c.in-Product.is) (tighter_mul c.un.ensures)

pub un-returns-then-depth-gt-MOST_INSIDE : goal.un-returns-then-depth-gt-MOST_INSIDE
un-returns-then-depth-gt-MOST_INSIDE t c = let m : most_inside < c.args.depth = omega arith in subst (λ s. Parses (IsUn c.args.depth) (ends_by behind_un) c.args.self.now c.args.self.now (Err s)) (sym c.too_deep.ensures) (un_deep c.args.depth m c.args.self.now)

pub un-returns-in-Minus : goal.un-returns-in-Minus
un-returns-in-Minus t c = started (starts_with (kind_next c.args.self.now) of_start.Minus (sym c.expr_start.ensures ∙ c.in-Minus.is) refl) c.negative.ensures

pub un-returns-in-Not : goal.un-returns-in-Not
un-returns-in-Not t c = started (starts_with (kind_next c.args.self.now) of_start.Not (sym c.expr_start.ensures ∙ c.in-Not.is) refl) c.opposite.ensures

pub un-returns-in-Await : goal.un-returns-in-Await
un-returns-in-Await t c = started (starts_with (kind_next c.args.self.now) of_start.Await (sym c.expr_start.ensures ∙ c.in-Await.is) refl) c.awaiting.ensures

pub un-returns-in_default : goal.un-returns-in_default
un-returns-in_default t c = un_post (record { minus = λ h. c.in_default.not-Minus (c.expr_start.ensures ∙ h); not_is = λ h. c.in_default.not-Not (c.expr_start.ensures ∙ h); await_is = λ h. c.in_default.not-Await (c.expr_start.ensures ∙ h) }) c.post.ensures

pub negative-returns-in_err-at : goal.negative-returns-in_err-at
negative-returns-in_err-at t c = handed_on expr_at c.from_residual.result c.from_residual.ensures.1 (read_as (negative_same c.args.depth c.args.self.now) (stop (behind_prefix c.args.depth) c.in_err-at.ensures))

pub negative-returns-in_err-value : goal.negative-returns-in_err-value
negative-returns-in_err-value t c = handed_on expr_at c.from_residual-in_err-value.result c.from_residual-in_err-value.ensures.1 (read_as (negative_same c.args.depth c.args.self.now) (seq (behind_prefix c.args.depth) c.in_ok-at.ensures c.in_err-value.ensures))

pub negative-returns : goal.negative-returns
negative-returns t c = made_on expr_at c.unary.result c.unary.ensures (read_as (negative_same c.args.depth c.args.self.now) (seq (behind_prefix c.args.depth) c.in_ok-at.ensures c.in_ok-value.ensures))

pub opposite-returns-in_err-at : goal.opposite-returns-in_err-at
opposite-returns-in_err-at t c = handed_on expr_at c.from_residual.result c.from_residual.ensures.1 (read_as (opposite_same c.args.depth c.args.self.now) (stop (behind_prefix c.args.depth) c.in_err-at.ensures))

pub opposite-returns-in_err-value : goal.opposite-returns-in_err-value
opposite-returns-in_err-value t c = handed_on expr_at c.from_residual-in_err-value.result c.from_residual-in_err-value.ensures.1 (read_as (opposite_same c.args.depth c.args.self.now) (seq (behind_prefix c.args.depth) c.in_ok-at.ensures c.in_err-value.ensures))

pub opposite-returns : goal.opposite-returns
opposite-returns t c = made_on expr_at c.unary.result c.unary.ensures (read_as (opposite_same c.args.depth c.args.self.now) (seq (behind_prefix c.args.depth) c.in_ok-at.ensures c.in_ok-value.ensures))

pub awaiting-returns-in_err-at : goal.awaiting-returns-in_err-at
awaiting-returns-in_err-at t c = handed_on expr_at c.from_residual.result c.from_residual.ensures.1 (read_as (await_same c.args.depth c.args.self.now) (stop (behind_prefix c.args.depth) c.in_err-at.ensures))

pub awaiting-returns-in_err-value : goal.awaiting-returns-in_err-value
awaiting-returns-in_err-value t c = handed_on expr_at c.from_residual-in_err-value.result c.from_residual-in_err-value.ensures.1 (read_as (await_same c.args.depth c.args.self.now) (seq (behind_prefix c.args.depth) c.in_ok-at.ensures c.in_err-value.ensures))

pub awaiting-returns : goal.awaiting-returns
awaiting-returns t c = made_on expr_at c.awaited.result c.awaited.ensures (read_as (await_same c.args.depth c.args.self.now) (seq (behind_prefix c.args.depth) c.in_ok-at.ensures c.in_ok-value.ensures))

pub post-returns-in_err-base : goal.post-returns-in_err-base
post-returns-in_err-base t c = handed_on expr_at c.from_residual.result c.from_residual.ensures.1 (read_here (post_here c.args.depth c.args.self.now) (stop (behind_value c.args.depth) c.in_err-base.ensures))

pub post-returns-in_err-steps : goal.post-returns-in_err-steps
post-returns-in_err-steps t c = handed_on expr_at c.from_residual-in_err-steps.result c.from_residual-in_err-steps.ensures.1 (read_here (post_here c.args.depth c.args.self.now) (seq (behind_value c.args.depth) c.in_ok-base.ensures c.in_err-steps.ensures))

pub post-returns-then-is_empty : goal.post-returns-then-is_empty
post-returns-then-is_empty t c = subst (λ xs. Parses (g.IsPost c.args.depth) (ends_by behind_un) c.args.self.now c.links.new.self (Ok (path_tree c.place-at.result (expr_at c.in_ok-base.base, links_at xs)))) (empty_list c.as_slice.result.now c.in_ok-steps.steps.items c.is_empty.result c.is_empty.ensures c.as_slice.ensures.value c.if-is_empty.true) (subst (λ at. Parses (g.IsPost c.args.depth) (ends_by behind_un) c.args.self.now c.links.new.self (Ok (path_tree at (expr_at c.in_ok-base.base, links_at c.in_ok-steps.steps.items)))) (sym c.place-at.ensures) (read_here (post_here c.args.depth c.args.self.now) (seq (behind_value c.args.depth) c.in_ok-base.ensures c.in_ok-steps.ensures)))

pub post-returns : goal.post-returns
post-returns t c = made_on expr_at c.path.result c.path.ensures (subst (λ x. Parses (g.IsPost c.args.depth) (ends_by behind_un) c.args.self.now c.links.new.self (Ok x)) (path_tree_some c.place-at.result (expr_at c.in_ok-base.base) (links_at c.in_ok-steps.steps.items) (some_list link_of c.as_slice.result.now c.in_ok-steps.steps.items c.is_empty.result c.is_empty.ensures c.as_slice.ensures.value c.if-is_empty.false)) (subst (λ at. Parses (g.IsPost c.args.depth) (ends_by behind_un) c.args.self.now c.links.new.self (Ok (path_tree at (expr_at c.in_ok-base.base, links_at c.in_ok-steps.steps.items)))) (sym c.place-at.ensures) (read_here (post_here c.args.depth c.args.self.now) (seq (behind_value c.args.depth) c.in_ok-base.ensures c.in_ok-steps.ensures))))

pub links-loop-self-init : goal.links-loop-self-init
links-loop-self-init t c = grows_none c.args.self.now link_of c.new-links.result.items c.new-links.ensures.items

pub links-returns-in_err-link : goal.links-returns-in_err-link
links-returns-in_err-link t c = handed_on vec_links c.from_residual.result c.from_residual.ensures.1 (repeat_stop (behind_link c.args.depth) (more_links c.loop-self.self (sym (c.begins_link.ensures ∙ ap begins_link c.kind.ensures) ∙ c.loop-self-test.true)) c.loop-self.invariant c.in_err-link.ensures)

pub links-returns-in_err-push : goal.links-returns-in_err-push
links-returns-in_err-push t c = no_memory vec_links c.from_residual-in_err-push.result c.from_residual-in_err-push.ensures.1

pub links-loop-self-preserved : goal.links-loop-self-preserved
links-loop-self-preserved t c = grows_on link_of c.loop-self.links.items c.push.new.self.items _ c.in_ok-push.ensures.items (repeat_more (behind_link c.args.depth) (more_links c.loop-self.self (sym (c.begins_link.ensures ∙ ap begins_link c.kind.ensures) ∙ c.loop-self-test.true)) c.loop-self.invariant c.in_ok-link.ensures)

pub links-loop-self-smaller : goal.links-loop-self-smaller
links-loop-self-smaller t c = falls tt (no_link _) c.in_ok-link.ensures

pub links-returns : goal.links-returns
links-returns t c = repeat_end (end_links c.args.depth c.loop-self.self (sym (c.begins_link.ensures ∙ ap begins_link c.kind.ensures) ∙ c.loop-self-test.false)) c.loop-self.invariant

pub link-returns-then-next_is : goal.link-returns-then-next_is
link-returns-then-next_is t c = started (next_yes c.next_is.result c.next_is.ensures c.if-next_is.true) c.index.ensures

pub link-returns-then-next_is-2 : goal.link-returns-then-next_is-2
link-returns-then-next_is-2 t c = started (next_yes c.next_is-2.result c.next_is-2.ensures c.if-next_is-2.true) c.call.ensures

pub link-returns : goal.link-returns
link-returns t c = link_field (next_no c.next_is.result c.next_is.ensures c.if-next_is.false) (next_no c.next_is-2.result c.next_is-2.ensures c.if-next_is-2.false) c.field.ensures

pub index-returns-in_err-at : goal.index-returns-in_err-at
index-returns-in_err-at t c = handed_on link_of c.from_residual.result c.from_residual.ensures.1 (read_as (index_same c.args.depth c.args.self.now) (stop (behind_open mark.CloseBracket c.args.depth refl) c.in_err-at.ensures))

pub index-returns-in_err-index : goal.index-returns-in_err-index
index-returns-in_err-index t c = handed_on link_of c.from_residual-in_err-index.result c.from_residual-in_err-index.ensures.1 (read_as (index_same c.args.depth c.args.self.now) (seq (behind_open mark.CloseBracket c.args.depth refl) c.in_ok-at.ensures (stop (behind_then mark.CloseBracket c.args.depth refl) c.in_err-index.ensures)))

pub index-returns-in_err-mark : goal.index-returns-in_err-mark
index-returns-in_err-mark t c = handed_on link_of c.from_residual-in_err-mark.result c.from_residual-in_err-mark.ensures.1 (read_as (index_same c.args.depth c.args.self.now) (seq (behind_open mark.CloseBracket c.args.depth refl) c.in_ok-at.ensures (seq (behind_then mark.CloseBracket c.args.depth refl) c.in_ok-index.ensures c.in_err-mark.ensures)))

pub index-returns : goal.index-returns
index-returns t c = (read_as (index_same c.args.depth c.args.self.now) (seq (behind_open mark.CloseBracket c.args.depth refl) c.in_ok-at.ensures (seq (behind_then mark.CloseBracket c.args.depth refl) c.in_ok-index.ensures c.in_ok-mark.ensures)))

pub call-returns-in_err-at : goal.call-returns-in_err-at
call-returns-in_err-at t c = handed_on link_of c.from_residual.result c.from_residual.ensures.1 (read_as (call_same c.args.depth c.args.self.now) (stop (behind_opened (IsOneArg c.args.depth) mark.CloseParen c.args.depth) c.in_err-at.ensures))

pub call-returns-in_err-args : goal.call-returns-in_err-args
call-returns-in_err-args t c = handed_on link_of c.from_residual-in_err-args.result c.from_residual-in_err-args.ensures.1 (read_as (call_same c.args.depth c.args.self.now) (seq (behind_opened (IsOneArg c.args.depth) mark.CloseParen c.args.depth) c.in_ok-at.ensures (stop (behind_list mark.CloseParen c.args.depth) c.in_err-args.ensures)))

pub call-returns-in_err-mark : goal.call-returns-in_err-mark
call-returns-in_err-mark t c = handed_on link_of c.from_residual-in_err-mark.result c.from_residual-in_err-mark.ensures.1 (read_as (call_same c.args.depth c.args.self.now) (seq (behind_opened (IsOneArg c.args.depth) mark.CloseParen c.args.depth) c.in_ok-at.ensures (seq (behind_list mark.CloseParen c.args.depth) c.in_ok-args.ensures c.in_err-mark.ensures)))

pub call-returns : goal.call-returns
call-returns t c = subst (λ x. Parses (Starting (kind.Mark mark.OpenParen) (IsLink c.args.depth)) Anything c.args.self.now c.mark-2.new.self (Ok (call c.in_ok-at.at x))) (sym (hidden_args c.in_ok-args.args)) (read_as (call_same c.args.depth c.args.self.now) (seq (behind_opened (IsOneArg c.args.depth) mark.CloseParen c.args.depth) c.in_ok-at.ensures (seq (behind_list mark.CloseParen c.args.depth) c.in_ok-args.ensures c.in_ok-mark.ensures)))

pub args-loop-self-init : goal.args-loop-self-init
args-loop-self-init t c = grows_none c.args.self.now arg_of c.new-args.result.items c.new-args.ensures.items

pub args-returns-in_err-arg : goal.args-returns-in_err-arg
args-returns-in_err-arg t c = handed_on vec_args c.from_residual.result c.from_residual.ensures.1 (comma_stop (behind_item (IsOneArg c.args.depth) c.args.depth mark.CloseParen (behind_element mark.CloseParen) refl refl) (not_behind c.loop-self.self (kind.Mark mark.CloseParen) (next_no c.next_is.result c.next_is.ensures c.loop-self-test.true)) c.loop-self.invariant c.in_err-arg.ensures)

pub args-returns-in_err-push : goal.args-returns-in_err-push
args-returns-in_err-push t c = no_memory vec_args c.from_residual-in_err-push.result c.from_residual-in_err-push.ensures.1

pub args-returns-then-not-next_is : goal.args-returns-then-not-next_is
args-returns-then-not-next_is t c = list_on arg_of c.loop-self.args.items c.push.new.self.items _ c.in_ok-push.ensures.items (comma_last (behind_item (IsOneArg c.args.depth) c.args.depth mark.CloseParen (behind_element mark.CloseParen) refl refl) (not_behind c.loop-self.self (kind.Mark mark.CloseParen) (next_no c.next_is.result c.next_is.ensures c.loop-self-test.true)) (next_no c.next_is-in-loop-self.result c.next_is-in-loop-self.ensures c.if-not-next_is.true) c.loop-self.invariant c.in_ok-arg.ensures)

pub args-loop-self-smaller : goal.args-loop-self-smaller
args-loop-self-smaller t c = let a : length c.arg.new.self < length c.loop-self.self = falls tt (no_arg _) c.in_ok-arg.ensures in let b : length c.mark.new.self ≤ length c.arg.new.self = falls_or_same c.in_ok-mark.ensures in omega (arith, a, b)

pub args-loop-self-preserved : goal.args-loop-self-preserved
args-loop-self-preserved t c = grows_on arg_of c.loop-self.args.items c.push.new.self.items _ c.in_ok-push.ensures.items (comma_more (behind_item (IsOneArg c.args.depth) c.args.depth mark.CloseParen (behind_element mark.CloseParen) refl refl) (behind_comma_item (IsOneArg c.args.depth) c.args.depth mark.CloseParen) (not_behind c.loop-self.self (kind.Mark mark.CloseParen) (next_no c.next_is.result c.next_is.ensures c.loop-self-test.true)) (not_behind c.arg.new.self (kind.Mark mark.CloseParen) (other_next (kind.Mark mark.Comma) (kind.Mark mark.CloseParen) c.arg.new.self (next_yes c.next_is-in-loop-self.result c.next_is-in-loop-self.ensures c.if-not-next_is.false) (comma_no_close mark.CloseParen (λ h. cc)))) c.loop-self.invariant c.in_ok-arg.ensures c.in_ok-mark.ensures)

pub args-returns-in_err-mark : goal.args-returns-in_err-mark
args-returns-in_err-mark t c = handed_on vec_args c.from_residual-in_err-mark.result c.from_residual-in_err-mark.ensures.1 (comma_comma_stop (behind_item (IsOneArg c.args.depth) c.args.depth mark.CloseParen (behind_element mark.CloseParen) refl refl) (behind_comma_item (IsOneArg c.args.depth) c.args.depth mark.CloseParen) (not_behind c.loop-self.self (kind.Mark mark.CloseParen) (next_no c.next_is.result c.next_is.ensures c.loop-self-test.true)) (not_behind c.arg.new.self (kind.Mark mark.CloseParen) (other_next (kind.Mark mark.Comma) (kind.Mark mark.CloseParen) c.arg.new.self (next_yes c.next_is-in-loop-self.result c.next_is-in-loop-self.ensures c.if-not-next_is.false) (comma_no_close mark.CloseParen (λ h. cc)))) c.loop-self.invariant c.in_ok-arg.ensures c.in_err-mark.ensures)

pub args-returns : goal.args-returns
args-returns t c = comma_end (end_args c.args.depth c.loop-self.self (next_yes c.next_is.result c.next_is.ensures c.loop-self-test.false)) c.loop-self.invariant

pub arg-returns-then-next_is : goal.arg-returns-then-next_is
arg-returns-then-next_is t c = narrow (λ us e. tt) (started (next_yes c.next_is.result c.next_is.ensures c.if-next_is.true) c.callback.ensures)

pub arg-returns-in_err-value : goal.arg-returns-in_err-value
arg-returns-in_err-value t c = handed_on arg_of c.from_residual.result c.from_residual.ensures.1 (read_as (expr_value_same c.args.depth c.args.self.now (next_no c.next_is.result c.next_is.ensures c.if-next_is.false)) (narrow argument_behind c.in_err-value.ensures))

pub arg-returns-in_ok-value : goal.arg-returns-in_ok-value
arg-returns-in_ok-value t c = read_as (expr_value_same c.args.depth c.args.self.now (next_no c.next_is.result c.next_is.ensures c.if-next_is.false)) (narrow argument_behind c.in_ok-value.ensures)

pub callback-returns-in_err-head : goal.callback-returns-in_err-head
callback-returns-in_err-head t c = handed_on arg_of c.from_residual.result c.from_residual.ensures.1 (read_as (callback_same c.args.depth c.args.self.now) (stop (behind_head c.args.depth) c.in_err-head.ensures))

pub callback-returns-in_err-body : goal.callback-returns-in_err-body
callback-returns-in_err-body t c = handed_on arg_of c.from_residual-in_err-body.result c.from_residual-in_err-body.ensures.1 (read_as (callback_same c.args.depth c.args.self.now) (seq (behind_head c.args.depth) c.in_ok-head.ensures c.in_err-body.ensures))

pub callback-returns : goal.callback-returns
callback-returns t c = made_on arg_of c.callback_of.result c.callback_of.ensures (read_as (callback_same c.args.depth c.args.self.now) (seq (behind_head c.args.depth) c.in_ok-head.ensures c.in_ok-body.ensures))

pub prim-returns-in-Minus : goal.prim-returns-in-Minus
prim-returns-in-Minus t c = no_value_here c.args.depth c.args.self.now (ap is_value (sym c.expr_start.ensures) ∙ not_value c.expr_start.result c.in-Minus.is)

pub prim-returns-in-Number : goal.prim-returns-in-Number
prim-returns-in-Number t c = started (starts_with (kind_next c.args.self.now) of_start.Number (sym c.expr_start.ensures ∙ c.in-Number.is) refl) c.number.ensures

pub prim-returns-in-Text : goal.prim-returns-in-Text
prim-returns-in-Text t c = started (starts_with (kind_next c.args.self.now) of_start.Text (sym c.expr_start.ensures ∙ c.in-Text.is) refl) c.text_value.ensures

pub prim-returns-in-True : goal.prim-returns-in-True
prim-returns-in-True t c = started (starts_with (kind_next c.args.self.now) of_start.True (sym c.expr_start.ensures ∙ c.in-True.is) refl) c.boolean.ensures

pub prim-returns-in-False : goal.prim-returns-in-False
prim-returns-in-False t c = started (starts_with (kind_next c.args.self.now) of_start.False (sym c.expr_start.ensures ∙ c.in-False.is) refl) c.boolean-in-False.ensures

pub prim-returns-in-Null : goal.prim-returns-in-Null
prim-returns-in-Null t c = started (starts_with (kind_next c.args.self.now) of_start.Null (sym c.expr_start.ensures ∙ c.in-Null.is) refl) c.null.ensures

pub prim-returns-in-Undefined : goal.prim-returns-in-Undefined
prim-returns-in-Undefined t c = started (starts_with (kind_next c.args.self.now) of_start.Undefined (sym c.expr_start.ensures ∙ c.in-Undefined.is) refl) c.undefined.ensures

pub prim-returns-in-This : goal.prim-returns-in-This
prim-returns-in-This t c = started (starts_with (kind_next c.args.self.now) of_start.This (sym c.expr_start.ensures ∙ c.in-This.is) refl) c.this.ensures

pub prim-returns-in-Name : goal.prim-returns-in-Name
prim-returns-in-Name t c = started (starts_with (kind_next c.args.self.now) of_start.Name (sym c.expr_start.ensures ∙ c.in-Name.is) refl) c.variable.ensures

pub prim-returns-in-Group : goal.prim-returns-in-Group
prim-returns-in-Group t c = started (starts_with (kind_next c.args.self.now) of_start.Group (sym c.expr_start.ensures ∙ c.in-Group.is) refl) c.group.ensures

pub prim-returns-in-List : goal.prim-returns-in-List
prim-returns-in-List t c = started (starts_with (kind_next c.args.self.now) of_start.List (sym c.expr_start.ensures ∙ c.in-List.is) refl) c.list.ensures

pub prim-returns-in-Record : goal.prim-returns-in-Record
prim-returns-in-Record t c = started (starts_with (kind_next c.args.self.now) of_start.Record (sym c.expr_start.ensures ∙ c.in-Record.is) refl) c.record.ensures

pub prim-returns-in-New : goal.prim-returns-in-New
prim-returns-in-New t c = started (starts_with (kind_next c.args.self.now) of_start.New (sym c.expr_start.ensures ∙ c.in-New.is) refl) c.new_error.ensures

pub group-returns-in_err-at : goal.group-returns-in_err-at
group-returns-in_err-at t c = handed_on expr_at c.from_residual.result c.from_residual.ensures.1 (read_as (group_same c.args.depth c.args.self.now) (stop (behind_open mark.CloseParen c.args.depth refl) c.in_err-at.ensures))

pub group-returns-in_err-inside : goal.group-returns-in_err-inside
group-returns-in_err-inside t c = handed_on expr_at c.from_residual-in_err-inside.result c.from_residual-in_err-inside.ensures.1 (read_as (group_same c.args.depth c.args.self.now) (seq (behind_open mark.CloseParen c.args.depth refl) c.in_ok-at.ensures (stop (behind_then mark.CloseParen c.args.depth refl) c.in_err-inside.ensures)))

pub group-returns-in_err-mark : goal.group-returns-in_err-mark
group-returns-in_err-mark t c = handed_on expr_at c.from_residual-in_err-mark.result c.from_residual-in_err-mark.ensures.1 (read_as (group_same c.args.depth c.args.self.now) (seq (behind_open mark.CloseParen c.args.depth refl) c.in_ok-at.ensures (seq (behind_then mark.CloseParen c.args.depth refl) c.in_ok-inside.ensures c.in_err-mark.ensures)))

pub group-returns : goal.group-returns
group-returns t c = made_on expr_at c.group.result c.group.ensures (read_as (group_same c.args.depth c.args.self.now) (seq (behind_open mark.CloseParen c.args.depth refl) c.in_ok-at.ensures (seq (behind_then mark.CloseParen c.args.depth refl) c.in_ok-inside.ensures c.in_ok-mark.ensures)))

pub list-returns-in_err-at : goal.list-returns-in_err-at
list-returns-in_err-at t c = handed_on expr_at c.from_residual.result c.from_residual.ensures.1 (read_as (list_same c.args.depth c.args.self.now) (stop (behind_opened (IsExpr (c.args.depth + 1)) mark.CloseBracket c.args.depth) c.in_err-at.ensures))

pub list-returns-in_err-items : goal.list-returns-in_err-items
list-returns-in_err-items t c = handed_on expr_at c.from_residual-in_err-items.result c.from_residual-in_err-items.ensures.1 (read_as (list_same c.args.depth c.args.self.now) (seq (behind_opened (IsExpr (c.args.depth + 1)) mark.CloseBracket c.args.depth) c.in_ok-at.ensures (stop (behind_list mark.CloseBracket c.args.depth) c.in_err-items.ensures)))

pub list-returns-in_err-mark : goal.list-returns-in_err-mark
list-returns-in_err-mark t c = handed_on expr_at c.from_residual-in_err-mark.result c.from_residual-in_err-mark.ensures.1 (read_as (list_same c.args.depth c.args.self.now) (seq (behind_opened (IsExpr (c.args.depth + 1)) mark.CloseBracket c.args.depth) c.in_ok-at.ensures (seq (behind_list mark.CloseBracket c.args.depth) c.in_ok-items.ensures c.in_err-mark.ensures)))

pub list-returns : goal.list-returns
list-returns t c = made_on expr_at c.list.result c.list.ensures (read_as (list_same c.args.depth c.args.self.now) (seq (behind_opened (IsExpr (c.args.depth + 1)) mark.CloseBracket c.args.depth) c.in_ok-at.ensures (seq (behind_list mark.CloseBracket c.args.depth) c.in_ok-items.ensures c.in_ok-mark.ensures)))

pub exprs-loop-self-init : goal.exprs-loop-self-init
exprs-loop-self-init t c = grows_none c.args.self.now expr_at c.new-items.result.items c.new-items.ensures.items

pub exprs-returns-in_err-item : goal.exprs-returns-in_err-item
exprs-returns-in_err-item t c = handed_on vec_exprs c.from_residual.result c.from_residual.ensures.1 (comma_stop (behind_item (IsExpr (c.args.depth + 1)) c.args.depth mark.CloseBracket (behind_expr) refl refl) (not_behind c.loop-self.self (kind.Mark mark.CloseBracket) (next_no c.next_is.result c.next_is.ensures c.loop-self-test.true)) c.loop-self.invariant c.in_err-item.ensures)

pub exprs-returns-in_err-push : goal.exprs-returns-in_err-push
exprs-returns-in_err-push t c = no_memory vec_exprs c.from_residual-in_err-push.result c.from_residual-in_err-push.ensures.1

pub exprs-returns-then-not-next_is : goal.exprs-returns-then-not-next_is
exprs-returns-then-not-next_is t c = list_on expr_at c.loop-self.items.items c.push.new.self.items _ c.in_ok-push.ensures.items (comma_last (behind_item (IsExpr (c.args.depth + 1)) c.args.depth mark.CloseBracket (behind_expr) refl refl) (not_behind c.loop-self.self (kind.Mark mark.CloseBracket) (next_no c.next_is.result c.next_is.ensures c.loop-self-test.true)) (next_no c.next_is-in-loop-self.result c.next_is-in-loop-self.ensures c.if-not-next_is.true) c.loop-self.invariant c.in_ok-item.ensures)

pub exprs-loop-self-smaller : goal.exprs-loop-self-smaller
exprs-loop-self-smaller t c = let a : length c.expr.new.self < length c.loop-self.self = falls tt no_expr c.in_ok-item.ensures in let b : length c.mark.new.self ≤ length c.expr.new.self = falls_or_same c.in_ok-mark.ensures in omega (arith, a, b)

pub exprs-loop-self-preserved : goal.exprs-loop-self-preserved
exprs-loop-self-preserved t c = grows_on expr_at c.loop-self.items.items c.push.new.self.items _ c.in_ok-push.ensures.items (comma_more (behind_item (IsExpr (c.args.depth + 1)) c.args.depth mark.CloseBracket (behind_expr) refl refl) (behind_comma_item (IsExpr (c.args.depth + 1)) c.args.depth mark.CloseBracket) (not_behind c.loop-self.self (kind.Mark mark.CloseBracket) (next_no c.next_is.result c.next_is.ensures c.loop-self-test.true)) (not_behind c.expr.new.self (kind.Mark mark.CloseBracket) (other_next (kind.Mark mark.Comma) (kind.Mark mark.CloseBracket) c.expr.new.self (next_yes c.next_is-in-loop-self.result c.next_is-in-loop-self.ensures c.if-not-next_is.false) (comma_no_close mark.CloseBracket (λ h. cc)))) c.loop-self.invariant c.in_ok-item.ensures c.in_ok-mark.ensures)

pub exprs-returns-in_err-mark : goal.exprs-returns-in_err-mark
exprs-returns-in_err-mark t c = handed_on vec_exprs c.from_residual-in_err-mark.result c.from_residual-in_err-mark.ensures.1 (comma_comma_stop (behind_item (IsExpr (c.args.depth + 1)) c.args.depth mark.CloseBracket (behind_expr) refl refl) (behind_comma_item (IsExpr (c.args.depth + 1)) c.args.depth mark.CloseBracket) (not_behind c.loop-self.self (kind.Mark mark.CloseBracket) (next_no c.next_is.result c.next_is.ensures c.loop-self-test.true)) (not_behind c.expr.new.self (kind.Mark mark.CloseBracket) (other_next (kind.Mark mark.Comma) (kind.Mark mark.CloseBracket) c.expr.new.self (next_yes c.next_is-in-loop-self.result c.next_is-in-loop-self.ensures c.if-not-next_is.false) (comma_no_close mark.CloseBracket (λ h. cc)))) c.loop-self.invariant c.in_ok-item.ensures c.in_err-mark.ensures)

pub exprs-returns : goal.exprs-returns
exprs-returns t c = comma_end (end_exprs (c.args.depth + 1) mark.CloseBracket c.loop-self.self (next_yes c.next_is.result c.next_is.ensures c.loop-self-test.false) refl) c.loop-self.invariant

pub record-returns-in_err-at : goal.record-returns-in_err-at
record-returns-in_err-at t c = handed_on expr_at c.from_residual.result c.from_residual.ensures.1 (read_as (record_same c.args.depth c.args.self.now) (stop (behind_opened (IsOnePair c.args.depth) mark.CloseBrace c.args.depth) c.in_err-at.ensures))

pub record-returns-in_err-pairs : goal.record-returns-in_err-pairs
record-returns-in_err-pairs t c = handed_on expr_at c.from_residual-in_err-pairs.result c.from_residual-in_err-pairs.ensures.1 (read_as (record_same c.args.depth c.args.self.now) (seq (behind_opened (IsOnePair c.args.depth) mark.CloseBrace c.args.depth) c.in_ok-at.ensures (stop (behind_list mark.CloseBrace c.args.depth) c.in_err-pairs.ensures)))

pub record-returns-in_err-mark : goal.record-returns-in_err-mark
record-returns-in_err-mark t c = handed_on expr_at c.from_residual-in_err-mark.result c.from_residual-in_err-mark.ensures.1 (read_as (record_same c.args.depth c.args.self.now) (seq (behind_opened (IsOnePair c.args.depth) mark.CloseBrace c.args.depth) c.in_ok-at.ensures (seq (behind_list mark.CloseBrace c.args.depth) c.in_ok-pairs.ensures c.in_err-mark.ensures)))

pub record-returns : goal.record-returns
record-returns t c = made_on expr_at c.record.result c.record.ensures (read_as (record_same c.args.depth c.args.self.now) (seq (behind_opened (IsOnePair c.args.depth) mark.CloseBrace c.args.depth) c.in_ok-at.ensures (seq (behind_list mark.CloseBrace c.args.depth) c.in_ok-pairs.ensures c.in_ok-mark.ensures)))

pub pairs-loop-self-init : goal.pairs-loop-self-init
pairs-loop-self-init t c = grows_none c.args.self.now pair_of c.new-pairs.result.items c.new-pairs.ensures.items

pub pairs-returns-in_err-pair : goal.pairs-returns-in_err-pair
pairs-returns-in_err-pair t c = handed_on vec_pairs c.from_residual.result c.from_residual.ensures.1 (comma_stop (behind_item (IsOnePair c.args.depth) c.args.depth mark.CloseBrace (behind_element mark.CloseBrace) refl refl) (not_behind c.loop-self.self (kind.Mark mark.CloseBrace) (next_no c.next_is.result c.next_is.ensures c.loop-self-test.true)) c.loop-self.invariant c.in_err-pair.ensures)

pub pairs-returns-in_err-push : goal.pairs-returns-in_err-push
pairs-returns-in_err-push t c = no_memory vec_pairs c.from_residual-in_err-push.result c.from_residual-in_err-push.ensures.1

pub pairs-returns-then-not-next_is : goal.pairs-returns-then-not-next_is
pairs-returns-then-not-next_is t c = list_on pair_of c.loop-self.pairs.items c.push.new.self.items _ c.in_ok-push.ensures.items (comma_last (behind_item (IsOnePair c.args.depth) c.args.depth mark.CloseBrace (behind_element mark.CloseBrace) refl refl) (not_behind c.loop-self.self (kind.Mark mark.CloseBrace) (next_no c.next_is.result c.next_is.ensures c.loop-self-test.true)) (next_no c.next_is-in-loop-self.result c.next_is-in-loop-self.ensures c.if-not-next_is.true) c.loop-self.invariant c.in_ok-pair.ensures)

pub pairs-loop-self-smaller : goal.pairs-loop-self-smaller
pairs-loop-self-smaller t c = let a : length c.pair.new.self < length c.loop-self.self = falls tt no_pair c.in_ok-pair.ensures in let b : length c.mark.new.self ≤ length c.pair.new.self = falls_or_same c.in_ok-mark.ensures in omega (arith, a, b)

pub pairs-loop-self-preserved : goal.pairs-loop-self-preserved
pairs-loop-self-preserved t c = grows_on pair_of c.loop-self.pairs.items c.push.new.self.items _ c.in_ok-push.ensures.items (comma_more (behind_item (IsOnePair c.args.depth) c.args.depth mark.CloseBrace (behind_element mark.CloseBrace) refl refl) (behind_comma_item (IsOnePair c.args.depth) c.args.depth mark.CloseBrace) (not_behind c.loop-self.self (kind.Mark mark.CloseBrace) (next_no c.next_is.result c.next_is.ensures c.loop-self-test.true)) (not_behind c.pair.new.self (kind.Mark mark.CloseBrace) (other_next (kind.Mark mark.Comma) (kind.Mark mark.CloseBrace) c.pair.new.self (next_yes c.next_is-in-loop-self.result c.next_is-in-loop-self.ensures c.if-not-next_is.false) (comma_no_close mark.CloseBrace (λ h. cc)))) c.loop-self.invariant c.in_ok-pair.ensures c.in_ok-mark.ensures)

pub pairs-returns-in_err-mark : goal.pairs-returns-in_err-mark
pairs-returns-in_err-mark t c = handed_on vec_pairs c.from_residual-in_err-mark.result c.from_residual-in_err-mark.ensures.1 (comma_comma_stop (behind_item (IsOnePair c.args.depth) c.args.depth mark.CloseBrace (behind_element mark.CloseBrace) refl refl) (behind_comma_item (IsOnePair c.args.depth) c.args.depth mark.CloseBrace) (not_behind c.loop-self.self (kind.Mark mark.CloseBrace) (next_no c.next_is.result c.next_is.ensures c.loop-self-test.true)) (not_behind c.pair.new.self (kind.Mark mark.CloseBrace) (other_next (kind.Mark mark.Comma) (kind.Mark mark.CloseBrace) c.pair.new.self (next_yes c.next_is-in-loop-self.result c.next_is-in-loop-self.ensures c.if-not-next_is.false) (comma_no_close mark.CloseBrace (λ h. cc)))) c.loop-self.invariant c.in_ok-pair.ensures c.in_err-mark.ensures)

pub pairs-returns : goal.pairs-returns
pairs-returns t c = comma_end (end_pairs c.args.depth c.loop-self.self (next_yes c.next_is.result c.next_is.ensures c.loop-self-test.false)) c.loop-self.invariant

pub pair-returns-then-next_is : goal.pair-returns-then-next_is
pair-returns-then-next_is t c = started (next_yes c.next_is.result c.next_is.ensures c.if-next_is.true) c.text_pair.ensures

pub pair-returns-then-next_is-2 : goal.pair-returns-then-next_is-2
pair-returns-then-next_is-2 t c = started (next_yes c.next_is-2.result c.next_is-2.ensures c.if-next_is-2.true) c.name_pair.ensures

pub pair-returns : goal.pair-returns
pair-returns t c = other_pair (next_no c.next_is.result c.next_is.ensures c.if-next_is.false) (next_no c.next_is-2.result c.next_is-2.ensures c.if-next_is-2.false) c.keyword_pair.ensures

pub text_pair-returns-in_err-key : goal.text_pair-returns-in_err-key
text_pair-returns-in_err-key t c = handed_on pair_of c.from_residual.result c.from_residual.ensures.1 (read_as (text_pair_same c.args.depth c.args.self.now) (stop (behind_key c.args.depth) c.in_err-key.ensures))

pub text_pair-returns-in_err-value : goal.text_pair-returns-in_err-value
text_pair-returns-in_err-value t c = handed_on pair_of c.from_residual-in_err-value.result c.from_residual-in_err-value.ensures.1 (read_as (text_pair_same c.args.depth c.args.self.now) (seq (behind_key c.args.depth) c.in_ok-key.ensures c.in_err-value.ensures))

pub text_pair-returns : goal.text_pair-returns
text_pair-returns t c = (read_as (text_pair_same c.args.depth c.args.self.now) (seq (behind_key c.args.depth) c.in_ok-key.ensures c.in_ok-value.ensures))

pub name_pair-returns-in_err-key : goal.name_pair-returns-in_err-key
name_pair-returns-in_err-key t c = handed_on pair_of c.from_residual.result c.from_residual.ensures.1 (read_as (name_pair_same c.args.depth c.args.self.now) (stop (behind_name c.args.depth) c.in_err-key.ensures))

pub name_pair-returns-in_err-value : goal.name_pair-returns-in_err-value
name_pair-returns-in_err-value t c = handed_on pair_of c.from_residual-in_err-value.result c.from_residual-in_err-value.ensures.1 (read_as (name_pair_same c.args.depth c.args.self.now) (seq (behind_name c.args.depth) c.in_ok-key.ensures c.in_err-value.ensures))

pub name_pair-returns : goal.name_pair-returns
name_pair-returns t c = (read_as (name_pair_same c.args.depth c.args.self.now) (seq (behind_name c.args.depth) c.in_ok-key.ensures c.in_ok-value.ensures))

pub keyword_pair-returns-in_err-key : goal.keyword_pair-returns-in_err-key
keyword_pair-returns-in_err-key t c = handed_on pair_of c.from_residual.result c.from_residual.ensures.1 (read_as (key_pair_same c.args.depth c.args.self.now) (stop (behind_key c.args.depth) c.in_err-key.ensures))

pub keyword_pair-returns-in_err-value : goal.keyword_pair-returns-in_err-value
keyword_pair-returns-in_err-value t c = handed_on pair_of c.from_residual-in_err-value.result c.from_residual-in_err-value.ensures.1 (read_as (key_pair_same c.args.depth c.args.self.now) (seq (behind_key c.args.depth) c.in_ok-key.ensures c.in_err-value.ensures))

pub keyword_pair-returns : goal.keyword_pair-returns
keyword_pair-returns t c = (read_as (key_pair_same c.args.depth c.args.self.now) (seq (behind_key c.args.depth) c.in_ok-key.ensures c.in_ok-value.ensures))

pub option_value-returns-in_err-value : goal.option_value-returns-in_err-value
option_value-returns-in_err-value t c = handed_on option_expr_at c.from_residual.result c.from_residual.ensures.1 (read_as (some_value_same c.args.depth c.args.self.now (next_yes c.next_is.result c.next_is.ensures c.if-next_is.true)) c.in_err-value.ensures)

pub option_value-returns-in_ok-value : goal.option_value-returns-in_ok-value
option_value-returns-in_ok-value t c = read_as (some_value_same c.args.depth c.args.self.now (next_yes c.next_is.result c.next_is.ensures c.if-next_is.true)) c.in_ok-value.ensures

pub option_value-returns-else-next_is : goal.option_value-returns-else-next_is
option_value-returns-else-next_is t c = value_missing c.args.depth c.args.self.now (next_no c.next_is.result c.next_is.ensures c.if-next_is.false)

pub pair_value-returns-in_err-mark : goal.pair_value-returns-in_err-mark
pair_value-returns-in_err-mark t c = handed_on expr_at c.from_residual.result c.from_residual.ensures.1 (read_as (pair_value_same c.args.depth c.args.self.now) (stop (behind_value_colon c.args.depth) c.in_err-mark.ensures))

pub pair_value-returns : goal.pair_value-returns
pair_value-returns t c = second _ (read_as (pair_value_same c.args.depth c.args.self.now) (seq (behind_value_colon c.args.depth) c.in_ok-mark.ensures (narrow element_behind c.expr.ensures)))

pub new_error-returns-in_err-at : goal.new_error-returns-in_err-at
new_error-returns-in_err-at t c = handed_on expr_at c.from_residual.result c.from_residual.ensures.1 (read_as (new_same c.args.depth c.args.self.now) (stop (behind_new c.args.depth) c.in_err-at.ensures))

pub new_error-returns-in_err-word : goal.new_error-returns-in_err-word
new_error-returns-in_err-word t c = handed_on expr_at c.from_residual-in_err-word.result c.from_residual-in_err-word.ensures.1 (read_as (new_same c.args.depth c.args.self.now) (seq (behind_new c.args.depth) c.in_ok-at.ensures (stop (behind_error_word c.args.depth) c.in_err-word.ensures)))

pub new_error-returns-in_err-mark : goal.new_error-returns-in_err-mark
new_error-returns-in_err-mark t c = handed_on expr_at c.from_residual-in_err-mark.result c.from_residual-in_err-mark.ensures.1 (read_as (new_same c.args.depth c.args.self.now) (seq (behind_new c.args.depth) c.in_ok-at.ensures (seq (behind_error_word c.args.depth) c.in_ok-word.ensures (stop (behind_error_open c.args.depth) c.in_err-mark.ensures))))

pub new_error-returns-in_err-message : goal.new_error-returns-in_err-message
new_error-returns-in_err-message t c = handed_on expr_at c.from_residual-in_err-message.result c.from_residual-in_err-message.ensures.1 (read_as (new_same c.args.depth c.args.self.now) (seq (behind_new c.args.depth) c.in_ok-at.ensures (seq (behind_error_word c.args.depth) c.in_ok-word.ensures (seq (behind_error_open c.args.depth) c.in_ok-mark.ensures (stop (behind_message c.args.depth) c.in_err-message.ensures)))))

pub new_error-returns-in_err-mark-2 : goal.new_error-returns-in_err-mark-2
new_error-returns-in_err-mark-2 t c = handed_on expr_at c.from_residual-in_err-mark-2.result c.from_residual-in_err-mark-2.ensures.1 (read_as (new_same c.args.depth c.args.self.now) (seq (behind_new c.args.depth) c.in_ok-at.ensures (seq (behind_error_word c.args.depth) c.in_ok-word.ensures (seq (behind_error_open c.args.depth) c.in_ok-mark.ensures (seq (behind_message c.args.depth) c.in_ok-message.ensures c.in_err-mark-2.ensures)))))

pub new_error-returns : goal.new_error-returns
new_error-returns t c = made_on expr_at c.new_error.result c.new_error.ensures (read_as (new_same c.args.depth c.args.self.now) (seq (behind_new c.args.depth) c.in_ok-at.ensures (seq (behind_error_word c.args.depth) c.in_ok-word.ensures (seq (behind_error_open c.args.depth) c.in_ok-mark.ensures (seq (behind_message c.args.depth) c.in_ok-message.ensures c.in_ok-mark-2.ensures)))))

pub option_expr-returns-in_err-value-in_default : goal.option_expr-returns-in_err-value-in_default
option_expr-returns-in_err-value-in_default t c = handed_on option_expr_at c.from_residual.result c.from_residual.ensures.1 (read_as (some_expr_same c.args.depth c.args.self.now (ap is_some_start (sym c.expr_start.ensures) ∙ some_starts c.expr_start.result c.in_default.not-Nothing)) (narrow option_behind c.in_err-value-in_default.ensures))

pub option_expr-returns-in-Nothing : goal.option_expr-returns-in-Nothing
option_expr-returns-in-Nothing t c = expr_missing c.args.depth c.args.self.now (ap is_some_start (sym c.expr_start.ensures ∙ c.in-Nothing.is))

pub option_expr-returns-in_ok-value-in_default : goal.option_expr-returns-in_ok-value-in_default
option_expr-returns-in_ok-value-in_default t c = read_as (some_expr_same c.args.depth c.args.self.now (ap is_some_start (sym c.expr_start.ensures) ∙ some_starts c.expr_start.result c.in_default.not-Nothing)) (narrow option_behind c.in_ok-value-in_default.ensures)

pub block-returns-in_err-at : goal.block-returns-in_err-at
block-returns-in_err-at t c = handed_on block_at c.from_residual.result c.from_residual.ensures.1 (read_as (block_braced c.args.depth c.args.self.now) (stop (items_behind c.args.depth) c.in_err-at.ensures))

pub block-returns-in_err-items : goal.block-returns-in_err-items
block-returns-in_err-items t c = handed_on block_at c.from_residual-in_err-items.result c.from_residual-in_err-items.ensures.1 (read_as (block_braced c.args.depth c.args.self.now) (seq (items_behind c.args.depth) c.in_ok-at.ensures (stop (mark_closes mark.CloseBrace c.args.depth) c.in_err-items.ensures)))

pub block-returns-in_err-mark : goal.block-returns-in_err-mark
block-returns-in_err-mark t c = handed_on block_at c.from_residual-in_err-mark.result c.from_residual-in_err-mark.ensures.1 (read_as (block_braced c.args.depth c.args.self.now) (seq (items_behind c.args.depth) c.in_ok-at.ensures (seq (mark_closes mark.CloseBrace c.args.depth) c.in_ok-items.ensures c.in_err-mark.ensures)))

pub block-returns : goal.block-returns
block-returns t c = made_on block_at c.share_block.result c.share_block.ensures (read_as (block_braced c.args.depth c.args.self.now) (seq (items_behind c.args.depth) c.in_ok-at.ensures (seq (mark_closes mark.CloseBrace c.args.depth) c.in_ok-items.ensures c.in_ok-mark.ensures)))

pub block_stmt-returns-in_err-block : goal.block_stmt-returns-in_err-block
block_stmt-returns-in_err-block t c = handed_on stmt_at c.from_residual.result c.from_residual.ensures.1 (read_as (block_same c.args.depth c.args.self.now) c.in_err-block.ensures)

pub block_stmt-returns : goal.block_stmt-returns
block_stmt-returns t c = made_on stmt_at c.block_of.result c.block_of.ensures (read_as (block_same c.args.depth c.args.self.now) c.in_ok-block.ensures)

pub declaration-returns-in_err-at : goal.declaration-returns-in_err-at
declaration-returns-in_err-at t c = handed_on item_of c.from_residual.result c.from_residual.ensures.1 (read_as (declaration_same c.args.binding c.args.depth c.args.self.now) (stop (declared_behind c.args.binding c.args.depth) (key_as c.binding_key.ensures c.in_err-at.ensures)))

pub declaration-returns-in_err-name : goal.declaration-returns-in_err-name
declaration-returns-in_err-name t c = handed_on item_of c.from_residual-in_err-name.result c.from_residual-in_err-name.ensures.1 (read_as (declaration_same c.args.binding c.args.depth c.args.self.now) (seq (declared_behind c.args.binding c.args.depth) (key_as c.binding_key.ensures c.in_ok-at.ensures) (stop (initial_behind c.args.binding c.args.depth) c.in_err-name.ensures)))

pub declaration-returns-in_err-value : goal.declaration-returns-in_err-value
declaration-returns-in_err-value t c = handed_on item_of c.from_residual-in_err-value.result c.from_residual-in_err-value.ensures.1 (read_as (declaration_same c.args.binding c.args.depth c.args.self.now) (seq (declared_behind c.args.binding c.args.depth) (key_as c.binding_key.ensures c.in_ok-at.ensures) (seq (initial_behind c.args.binding c.args.depth) c.in_ok-name.ensures (stop (mark_closes mark.Semicolon c.args.depth) c.in_err-value.ensures))))

pub declaration-returns-in_err-mark : goal.declaration-returns-in_err-mark
declaration-returns-in_err-mark t c = handed_on item_of c.from_residual-in_err-mark.result c.from_residual-in_err-mark.ensures.1 (read_as (declaration_same c.args.binding c.args.depth c.args.self.now) (seq (declared_behind c.args.binding c.args.depth) (key_as c.binding_key.ensures c.in_ok-at.ensures) (seq (initial_behind c.args.binding c.args.depth) c.in_ok-name.ensures (seq (mark_closes mark.Semicolon c.args.depth) c.in_ok-value.ensures c.in_err-mark.ensures))))

pub declaration-returns : goal.declaration-returns
declaration-returns t c = ok_as (declare_seen c.in_ok-at.at c.args.binding c.in_ok-name.name c.in_ok-value.value) (read_as (declaration_same c.args.binding c.args.depth c.args.self.now) (seq (declared_behind c.args.binding c.args.depth) (key_as c.binding_key.ensures c.in_ok-at.ensures) (seq (initial_behind c.args.binding c.args.depth) c.in_ok-name.ensures (seq (mark_closes mark.Semicolon c.args.depth) c.in_ok-value.ensures c.in_ok-mark.ensures))))

pub else_part-returns-in_err-key : goal.else_part-returns-in_err-key
else_part-returns-in_err-key t c = handed_on option_stmt_at c.from_residual.result c.from_residual.ensures.1 (read_as (else_same c.args.depth c.args.self.now (c.if-not-next_is.ensures.0 refl)) (stop (stmt_last c.args.depth) c.in_err-key.ensures))

pub else_part-returns-in_err-other : goal.else_part-returns-in_err-other
else_part-returns-in_err-other t c = handed_on option_stmt_at c.from_residual-in_err-other.result c.from_residual-in_err-other.ensures.1 (read_as (else_same c.args.depth c.args.self.now (c.if-not-next_is.ensures.0 refl)) (seq (stmt_last c.args.depth) c.in_ok-key.ensures c.in_err-other.ensures))

pub else_part-returns : goal.else_part-returns
else_part-returns t c = (read_as (else_same c.args.depth c.args.self.now (c.if-not-next_is.ensures.0 refl)) (seq (stmt_last c.args.depth) c.in_ok-key.ensures c.in_ok-other.ensures))

pub else_part-returns-then-not-next_is : goal.else_part-returns-then-not-next_is
else_part-returns-then-not-next_is t c = no_else_there c.args.depth c.args.self.now (λ e. false≢true (c.if-not-next_is.ensures.1 e))

pub expr_then-returns-in_err-expr : goal.expr_then-returns-in_err-expr
expr_then-returns-in_err-expr t c = handed_on expr_at c.from_residual.result c.from_residual.ensures.1 (read_as (expr_then_same c.args.mark c.args.depth c.args.self.now) (stop (behind_then c.args.mark c.args.depth c.requires.mark) c.in_err-expr.ensures))

pub expr_then-returns-in_err-mark : goal.expr_then-returns-in_err-mark
expr_then-returns-in_err-mark t c = handed_on expr_at c.from_residual-in_err-mark.result c.from_residual-in_err-mark.ensures.1 (read_as (expr_then_same c.args.mark c.args.depth c.args.self.now) (seq (behind_then c.args.mark c.args.depth c.requires.mark) c.in_ok-expr.ensures c.in_err-mark.ensures))

pub expr_then-returns : goal.expr_then-returns
expr_then-returns t c = (read_as (expr_then_same c.args.mark c.args.depth c.args.self.now) (seq (behind_then c.args.mark c.args.depth c.requires.mark) c.in_ok-expr.ensures c.in_ok-mark.ensures))

pub for_of_rest-returns-in_err-word : goal.for_of_rest-returns-in_err-word
for_of_rest-returns-in_err-word t c = handed_on stmt_at c.from_residual.result c.from_residual.ensures.1 (read_as (of_same c.args.depth c.args.at c.args.binding (named_of c.args.name) c.args.self.now) (stop (listed_behind c.args.depth) c.in_err-word.ensures))

pub for_of_rest-returns-in_err-list : goal.for_of_rest-returns-in_err-list
for_of_rest-returns-in_err-list t c = handed_on stmt_at c.from_residual-in_err-list.result c.from_residual-in_err-list.ensures.1 (read_as (of_same c.args.depth c.args.at c.args.binding (named_of c.args.name) c.args.self.now) (seq (listed_behind c.args.depth) c.in_ok-word.ensures (stop (stmt_last c.args.depth) c.in_err-list.ensures)))

pub for_of_rest-returns-in_err-body : goal.for_of_rest-returns-in_err-body
for_of_rest-returns-in_err-body t c = handed_on stmt_at c.from_residual-in_err-body.result c.from_residual-in_err-body.ensures.1 (read_as (of_same c.args.depth c.args.at c.args.binding (named_of c.args.name) c.args.self.now) (seq (listed_behind c.args.depth) c.in_ok-word.ensures (seq (stmt_last c.args.depth) c.in_ok-list.ensures c.in_err-body.ensures)))

pub for_of_rest-returns : goal.for_of_rest-returns
for_of_rest-returns t c = made_on stmt_at c.share_stmt.result c.share_stmt.ensures (read_as (of_same c.args.depth c.args.at c.args.binding (named_of c.args.name) c.args.self.now) (seq (listed_behind c.args.depth) c.in_ok-word.ensures (seq (stmt_last c.args.depth) c.in_ok-list.ensures c.in_ok-body.ensures)))

pub for_rest-returns-in_err-mark : goal.for_rest-returns-in_err-mark
for_rest-returns-in_err-mark t c = handed_on stmt_at c.from_residual.result c.from_residual.ensures.1 (read_as (rest_same c.args.depth c.args.at (named_of c.args.name) c.args.self.now) (stop (first_behind c.args.depth) c.in_err-mark.ensures))

pub for_rest-returns-in_err-first : goal.for_rest-returns-in_err-first
for_rest-returns-in_err-first t c = handed_on stmt_at c.from_residual-in_err-first.result c.from_residual-in_err-first.ensures.1 (read_as (rest_same c.args.depth c.args.at (named_of c.args.name) c.args.self.now) (seq (first_behind c.args.depth) c.in_ok-mark.ensures (stop (tested_behind c.args.depth) c.in_err-first.ensures)))

pub for_rest-returns-in_err-test : goal.for_rest-returns-in_err-test
for_rest-returns-in_err-test t c = handed_on stmt_at c.from_residual-in_err-test.result c.from_residual-in_err-test.ensures.1 (read_as (rest_same c.args.depth c.args.at (named_of c.args.name) c.args.self.now) (seq (first_behind c.args.depth) c.in_ok-mark.ensures (seq (tested_behind c.args.depth) c.in_ok-first.ensures (stop (step_behind c.args.depth) c.in_err-test.ensures))))

pub for_rest-returns-in_err-step : goal.for_rest-returns-in_err-step
for_rest-returns-in_err-step t c = handed_on stmt_at c.from_residual-in_err-step.result c.from_residual-in_err-step.ensures.1 (read_as (rest_same c.args.depth c.args.at (named_of c.args.name) c.args.self.now) (seq (first_behind c.args.depth) c.in_ok-mark.ensures (seq (tested_behind c.args.depth) c.in_ok-first.ensures (seq (step_behind c.args.depth) c.in_ok-test.ensures (stop (step_close_behind c.args.depth) c.in_err-step.ensures)))))

pub for_rest-returns-in_err-mark-2 : goal.for_rest-returns-in_err-mark-2
for_rest-returns-in_err-mark-2 t c = handed_on stmt_at c.from_residual-in_err-mark-2.result c.from_residual-in_err-mark-2.ensures.1 (read_as (rest_same c.args.depth c.args.at (named_of c.args.name) c.args.self.now) (seq (first_behind c.args.depth) c.in_ok-mark.ensures (seq (tested_behind c.args.depth) c.in_ok-first.ensures (seq (step_behind c.args.depth) c.in_ok-test.ensures (seq (step_close_behind c.args.depth) c.in_ok-step.ensures (stop (stmt_last c.args.depth) c.in_err-mark-2.ensures))))))

pub for_rest-returns-in_err-body : goal.for_rest-returns-in_err-body
for_rest-returns-in_err-body t c = handed_on stmt_at c.from_residual-in_err-body.result c.from_residual-in_err-body.ensures.1 (read_as (rest_same c.args.depth c.args.at (named_of c.args.name) c.args.self.now) (seq (first_behind c.args.depth) c.in_ok-mark.ensures (seq (tested_behind c.args.depth) c.in_ok-first.ensures (seq (step_behind c.args.depth) c.in_ok-test.ensures (seq (step_close_behind c.args.depth) c.in_ok-step.ensures (seq (stmt_last c.args.depth) c.in_ok-mark-2.ensures c.in_err-body.ensures))))))

pub for_rest-returns : goal.for_rest-returns
for_rest-returns t c = made_on stmt_at c.for_of_steps.result c.for_of_steps.ensures (read_as (rest_same c.args.depth c.args.at (named_of c.args.name) c.args.self.now) (seq (first_behind c.args.depth) c.in_ok-mark.ensures (seq (tested_behind c.args.depth) c.in_ok-first.ensures (seq (step_behind c.args.depth) c.in_ok-test.ensures (seq (step_close_behind c.args.depth) c.in_ok-step.ensures (seq (stmt_last c.args.depth) c.in_ok-mark-2.ensures c.in_ok-body.ensures))))))

pub for_stmt-returns-in_err-head : goal.for_stmt-returns-in_err-head
for_stmt-returns-in_err-head t c = handed_on stmt_at c.from_residual.result c.from_residual.ensures.1 (read_as (for_same c.args.depth c.args.self.now) (dep_stop (IsForTail c.args.depth) (tail_behind c.args.depth) c.in_err-head.ensures))

pub for_stmt-returns-then-next_is : goal.for_stmt-returns-then-next_is
for_stmt-returns-then-next_is t c = plain (read_as (for_same c.args.depth c.args.self.now) (dep_seq (IsForTail c.args.depth) (tail_behind c.args.depth) c.in_ok-head.ensures (plain (read_as (steps_same c.args.depth (bound_of c.in_ok-head.head) c.for_head.new.self (is_let c.in_ok-head.head.binding c.if-eq.ensures) (c.if-next_is.ensures.0 refl)) c.for_rest.ensures))))

pub for_stmt-returns-else-eq : goal.for_stmt-returns-else-eq
for_stmt-returns-else-eq t c = plain (read_as (for_same c.args.depth c.args.self.now) (dep_seq (IsForTail c.args.depth) (tail_behind c.args.depth) c.in_ok-head.ensures (plain (read_as (listed_same c.args.depth (bound_of c.in_ok-head.head) c.for_head.new.self (elim c.else-eq.branch [ for_stmt-else-eq-via-then-eq+else-next_is w ↦ (λ l e. false≢true (w.if-next_is.ensures.1 e)) | for_stmt-else-eq-via-else-eq w ↦ (λ l. absurd (no_let c.in_ok-head.head.binding w.if-eq.ensures l)) ])) c.for_of_rest.ensures))))

pub if_stmt-returns-in_err-at : goal.if_stmt-returns-in_err-at
if_stmt-returns-in_err-at t c = handed_on stmt_at c.from_residual.result c.from_residual.ensures.1 (read_as (if_same c.args.depth c.args.self.now) (stop (test_behind c.args.depth) c.in_err-at.ensures))

pub if_stmt-returns-in_err-test : goal.if_stmt-returns-in_err-test
if_stmt-returns-in_err-test t c = handed_on stmt_at c.from_residual-in_err-test.result c.from_residual-in_err-test.ensures.1 (read_as (if_same c.args.depth c.args.self.now) (seq (test_behind c.args.depth) c.in_ok-at.ensures (stop (then_behind c.args.depth) c.in_err-test.ensures)))

pub if_stmt-returns-in_err-then : goal.if_stmt-returns-in_err-then
if_stmt-returns-in_err-then t c = handed_on stmt_at c.from_residual-in_err-then.result c.from_residual-in_err-then.ensures.1 (read_as (if_same c.args.depth c.args.self.now) (seq (test_behind c.args.depth) c.in_ok-at.ensures (seq (then_behind c.args.depth) c.in_ok-test.ensures (stop_else (else_can c.args.depth) c.in_err-then.ensures))))

pub if_stmt-returns-in_err-other : goal.if_stmt-returns-in_err-other
if_stmt-returns-in_err-other t c = handed_on stmt_at c.from_residual-in_err-other.result c.from_residual-in_err-other.ensures.1 (read_as (if_same c.args.depth c.args.self.now) (seq (test_behind c.args.depth) c.in_ok-at.ensures (seq (then_behind c.args.depth) c.in_ok-test.ensures (seq_else (wrong_else c.args.depth _) c.in_ok-then.ensures c.in_err-other.ensures))))

pub if_stmt-returns : goal.if_stmt-returns
if_stmt-returns t c = made_seen stmt_at c.share_stmt.result c.share_stmt.ensures (if_seen c.in_ok-at.at c.in_ok-test.test c.in_ok-then.then c.in_ok-other.other) (read_as (if_same c.args.depth c.args.self.now) (seq (test_behind c.args.depth) c.in_ok-at.ensures (seq (then_behind c.args.depth) c.in_ok-test.ensures (seq_else (wrong_else c.args.depth _) c.in_ok-then.ensures c.in_ok-other.ensures))))

pub in_parens-returns-in_err-mark : goal.in_parens-returns-in_err-mark
in_parens-returns-in_err-mark t c = handed_on expr_at c.from_residual.result c.from_residual.ensures.1 (read_as (in_parens_same c.args.depth c.args.self.now) (stop (in_parens_behind c.args.depth) c.in_err-mark.ensures))

pub in_parens-returns : goal.in_parens-returns
in_parens-returns t c = with_last expr_at _ c.expr_then.result (read_as (in_parens_same c.args.depth c.args.self.now) (seq (in_parens_behind c.args.depth) c.in_ok-mark.ensures c.expr_then.ensures))

pub initial-returns-then-not-next_is : goal.initial-returns-then-not-next_is
initial-returns-then-not-next_is t c = nothing_initial c.args.binding c.args.depth c.args.self.now (is_let c.args.binding c.if-eq.ensures) (λ e. false≢true (c.if-not-next_is.ensures.1 e))

pub initial-returns-in_err-mark : goal.initial-returns-in_err-mark
initial-returns-in_err-mark t c = handed_on option_expr_at c.from_residual.result c.from_residual.ensures.1 (read_as (initial_same c.args.binding c.args.depth c.args.self.now (elim c.else-eq.branch [ initial-else-eq-via-then-eq+else-not-next_is w ↦ (λ l. w.if-not-next_is.ensures.0 refl) | initial-else-eq-via-else-eq w ↦ (λ l. absurd (no_let c.args.binding w.if-eq.ensures l)) ])) (stop (given_behind c.args.depth) c.in_err-mark.ensures))

pub initial-returns-in_err-value : goal.initial-returns-in_err-value
initial-returns-in_err-value t c = handed_on option_expr_at c.from_residual-in_err-value.result c.from_residual-in_err-value.ensures.1 (read_as (initial_same c.args.binding c.args.depth c.args.self.now (elim c.else-eq.branch [ initial-else-eq-via-then-eq+else-not-next_is w ↦ (λ l. w.if-not-next_is.ensures.0 refl) | initial-else-eq-via-else-eq w ↦ (λ l. absurd (no_let c.args.binding w.if-eq.ensures l)) ])) (seq (given_behind c.args.depth) c.in_ok-mark.ensures (narrow semicolon_to_expr c.in_err-value.ensures)))

pub initial-returns : goal.initial-returns
initial-returns t c = (read_as (initial_same c.args.binding c.args.depth c.args.self.now (elim c.else-eq.branch [ initial-else-eq-via-then-eq+else-not-next_is w ↦ (λ l. w.if-not-next_is.ensures.0 refl) | initial-else-eq-via-else-eq w ↦ (λ l. absurd (no_let c.args.binding w.if-eq.ensures l)) ])) (seq (given_behind c.args.depth) c.in_ok-mark.ensures (narrow semicolon_to_expr c.in_ok-value.ensures)))

pub item-returns-in_err-stmt-in-None : goal.item-returns-in_err-stmt-in-None
item-returns-in_err-stmt-in-None t c = handed_on item_of c.from_residual.result c.from_residual.ensures.1 (read_as (statement_same c.args.depth c.args.self.now (sym (c.in-None.ensures ∙ ap starts.binding_start c.kind.ensures))) c.in_err-stmt-in-None.ensures)

pub item-returns-in-Some : goal.item-returns-in-Some
item-returns-in-Some t c = started (binding_next _ c.in-Some.binding (sym (c.in-Some.ensures ∙ ap starts.binding_start c.kind.ensures))) c.declaration.ensures

pub item-returns-in_ok-stmt-in-None : goal.item-returns-in_ok-stmt-in-None
item-returns-in_ok-stmt-in-None t c = read_as (statement_same c.args.depth c.args.self.now (sym (c.in-None.ensures ∙ ap starts.binding_start c.kind.ensures))) c.in_ok-stmt-in-None.ensures

pub items-loop-self-init : goal.items-loop-self-init
items-loop-self-init t c = grows_none c.args.self.now item_of c.new-items.result.items c.new-items.ensures.items

pub items-returns-in_err-item : goal.items-returns-in_err-item
items-returns-in_err-item t c = handed_on (λ items. items_at items.items) c.from_residual.result c.from_residual.ensures.1 (repeat_stop (item_behind c.args.depth) (not_behind c.loop-self.self (kind.Mark mark.CloseBrace) (λ e. false≢true (c.loop-self-test.ensures.1 e))) c.loop-self.invariant c.in_err-item.ensures)

pub items-loop-self-smaller : goal.items-loop-self-smaller
items-loop-self-smaller t c = falls tt (item_some c.args.depth (item_of c.in_ok-item.item)) c.in_ok-item.ensures

pub items-loop-self-preserved : goal.items-loop-self-preserved
items-loop-self-preserved t c = grows_on item_of c.loop-self.items.items c.push.new.self.items c.in_ok-item.item c.in_ok-push.ensures.items (repeat_more (item_behind c.args.depth) (not_behind c.loop-self.self (kind.Mark mark.CloseBrace) (λ e. false≢true (c.loop-self-test.ensures.1 e))) c.loop-self.invariant c.in_ok-item.ensures)

pub items-returns-in_err-push : goal.items-returns-in_err-push
items-returns-in_err-push t c = no_memory (λ items. items_at items.items) c.from_residual-in_err-push.result c.from_residual-in_err-push.ensures.1

pub items-returns : goal.items-returns
items-returns t c = repeat_end (no_item c.args.depth c.loop-self.self (c.loop-self-test.ensures.0 refl)) c.loop-self.invariant

pub return_stmt-returns-in_err-at : goal.return_stmt-returns-in_err-at
return_stmt-returns-in_err-at t c = handed_on stmt_at c.from_residual.result c.from_residual.ensures.1 (read_as (return_same c.args.depth c.args.self.now) (stop (returned_behind c.args.depth) c.in_err-at.ensures))

pub return_stmt-returns-in_err-value : goal.return_stmt-returns-in_err-value
return_stmt-returns-in_err-value t c = handed_on stmt_at c.from_residual-in_err-value.result c.from_residual-in_err-value.ensures.1 (read_as (return_same c.args.depth c.args.self.now) (seq (returned_behind c.args.depth) c.in_ok-at.ensures (stop (returned_last c.args.depth) c.in_err-value.ensures)))

pub return_stmt-returns-in_err-mark : goal.return_stmt-returns-in_err-mark
return_stmt-returns-in_err-mark t c = handed_on stmt_at c.from_residual-in_err-mark.result c.from_residual-in_err-mark.ensures.1 (read_as (return_same c.args.depth c.args.self.now) (seq (returned_behind c.args.depth) c.in_ok-at.ensures (seq (returned_last c.args.depth) c.in_ok-value.ensures c.in_err-mark.ensures)))

pub return_stmt-returns : goal.return_stmt-returns
return_stmt-returns t c = made_seen stmt_at c.share_stmt.result c.share_stmt.ensures (return_seen c.in_ok-at.at c.in_ok-value.value) (read_as (return_same c.args.depth c.args.self.now) (seq (returned_behind c.args.depth) c.in_ok-at.ensures (seq (returned_last c.args.depth) c.in_ok-value.ensures c.in_ok-mark.ensures)))

pub simple_stmt-returns-in_err-simple : goal.simple_stmt-returns-in_err-simple
simple_stmt-returns-in_err-simple t c = handed_on stmt_at c.from_residual.result c.from_residual.ensures.1 (read_as (simple_stmt_same c.args.depth c.args.self.now) (stop (simple_last c.args.depth) c.in_err-simple.ensures))

pub simple_stmt-returns-in_err-mark : goal.simple_stmt-returns-in_err-mark
simple_stmt-returns-in_err-mark t c = handed_on stmt_at c.from_residual-in_err-mark.result c.from_residual-in_err-mark.ensures.1 (read_as (simple_stmt_same c.args.depth c.args.self.now) (seq (simple_last c.args.depth) c.in_ok-simple.ensures c.in_err-mark.ensures))

pub simple_stmt-returns : goal.simple_stmt-returns
simple_stmt-returns t c = made_on stmt_at c.simple_of.result c.simple_of.ensures (read_as (simple_stmt_same c.args.depth c.args.self.now) (seq (simple_last c.args.depth) c.in_ok-simple.ensures c.in_ok-mark.ensures))

pub simple-returns-in_err-place : goal.simple-returns-in_err-place
simple-returns-in_err-place t c = handed_on simple_at c.from_residual.result c.from_residual.ensures.1 (read_here (simple_here c.args.depth c.args.self.now) (stop (behind_write c.args.depth) c.in_err-place.ensures))

pub simple-returns-in_err-write : goal.simple-returns-in_err-write
simple-returns-in_err-write t c = handed_on simple_at c.from_residual-in_err-write.result c.from_residual-in_err-write.ensures.1 (read_here (simple_here c.args.depth c.args.self.now) (seq (behind_write c.args.depth) c.in_ok-place.ensures c.in_err-write.ensures))

pub simple-returns : goal.simple-returns
simple-returns t c = made_seen simple_at c.share_simple.result c.share_simple.ensures (ap (λ at. pieces.simple_from (written_of c.in_ok-write.write) at (expr_at c.in_ok-place.place)) c.place-at.ensures) (read_here (simple_here c.args.depth c.args.self.now) (seq (behind_write c.args.depth) c.in_ok-place.ensures c.in_ok-write.ensures))

pub stmt-returns-then-depth-gt-MOST_INSIDE : goal.stmt-returns-then-depth-gt-MOST_INSIDE
stmt-returns-then-depth-gt-MOST_INSIDE t c = subst (λ s. Parses (IsStmt c.args.depth) Anything c.args.self.now c.args.self.now (Err s)) (sym c.stmt_too_deep.ensures) (stmt_deep c.args.depth c.if-depth-gt-MOST_INSIDE.true c.args.self.now)

pub stmt-returns-in-Block : goal.stmt-returns-in-Block
stmt-returns-in-Block t c = started (stmt_kind _ start.Block (sym (c.in-Block.ensures ∙ ap starts.stmt_start c.kind.ensures)) refl) c.block_stmt.ensures

pub stmt-returns-in-If : goal.stmt-returns-in-If
stmt-returns-in-If t c = started (stmt_kind _ start.If (sym (c.in-If.ensures ∙ ap starts.stmt_start c.kind.ensures)) refl) c.if_stmt.ensures

pub stmt-returns-in-While : goal.stmt-returns-in-While
stmt-returns-in-While t c = started (stmt_kind _ start.While (sym (c.in-While.ensures ∙ ap starts.stmt_start c.kind.ensures)) refl) c.while_stmt.ensures

pub stmt-returns-in-For : goal.stmt-returns-in-For
stmt-returns-in-For t c = started (stmt_kind _ start.For (sym (c.in-For.ensures ∙ ap starts.stmt_start c.kind.ensures)) refl) c.for_stmt.ensures

pub stmt-returns-in-Try : goal.stmt-returns-in-Try
stmt-returns-in-Try t c = started (stmt_kind _ start.Try (sym (c.in-Try.ensures ∙ ap starts.stmt_start c.kind.ensures)) refl) c.try_stmt.ensures

pub stmt-returns-in-Throw : goal.stmt-returns-in-Throw
stmt-returns-in-Throw t c = started (stmt_kind _ start.Throw (sym (c.in-Throw.ensures ∙ ap starts.stmt_start c.kind.ensures)) refl) c.throw_stmt.ensures

pub stmt-returns-in-Return : goal.stmt-returns-in-Return
stmt-returns-in-Return t c = started (stmt_kind _ start.Return (sym (c.in-Return.ensures ∙ ap starts.stmt_start c.kind.ensures)) refl) c.return_stmt.ensures

pub stmt-returns-in-Break : goal.stmt-returns-in-Break
stmt-returns-in-Break t c = started (stmt_kind _ start.Break (sym (c.in-Break.ensures ∙ ap starts.stmt_start c.kind.ensures)) refl) c.break_stmt.ensures

pub stmt-returns-in-Continue : goal.stmt-returns-in-Continue
stmt-returns-in-Continue t c = started (stmt_kind _ start.Continue (sym (c.in-Continue.ensures ∙ ap starts.stmt_start c.kind.ensures)) refl) c.continue_stmt.ensures

pub stmt-returns-in-Simple : goal.stmt-returns-in-Simple
stmt-returns-in-Simple t c = plain (read_here (simple_stmt_here c.args.depth c.args.self.now (sym (c.in-Simple.ensures ∙ ap starts.stmt_start c.kind.ensures))) c.simple_stmt.ensures)

pub throw_stmt-returns-in_err-at : goal.throw_stmt-returns-in_err-at
throw_stmt-returns-in_err-at t c = handed_on stmt_at c.from_residual.result c.from_residual.ensures.1 (read_as (throw_same c.args.depth c.args.self.now) (stop (thrown_behind c.args.depth) c.in_err-at.ensures))

pub throw_stmt-returns-in_err-value : goal.throw_stmt-returns-in_err-value
throw_stmt-returns-in_err-value t c = handed_on stmt_at c.from_residual-in_err-value.result c.from_residual-in_err-value.ensures.1 (read_as (throw_same c.args.depth c.args.self.now) (seq (thrown_behind c.args.depth) c.in_ok-at.ensures c.in_err-value.ensures))

pub throw_stmt-returns : goal.throw_stmt-returns
throw_stmt-returns t c = made_on stmt_at c.share_stmt.result c.share_stmt.ensures (read_as (throw_same c.args.depth c.args.self.now) (seq (thrown_behind c.args.depth) c.in_ok-at.ensures c.in_ok-value.ensures))

pub try_stmt-returns-in_err-at : goal.try_stmt-returns-in_err-at
try_stmt-returns-in_err-at t c = handed_on stmt_at c.from_residual.result c.from_residual.ensures.1 (read_as (try_same c.args.depth c.args.self.now) (stop (body_behind c.args.depth) c.in_err-at.ensures))

pub try_stmt-returns-in_err-body : goal.try_stmt-returns-in_err-body
try_stmt-returns-in_err-body t c = handed_on stmt_at c.from_residual-in_err-body.result c.from_residual-in_err-body.ensures.1 (read_as (try_same c.args.depth c.args.self.now) (seq (body_behind c.args.depth) c.in_ok-at.ensures (stop (catch_behind c.args.depth) c.in_err-body.ensures)))

pub try_stmt-returns-in_err-key : goal.try_stmt-returns-in_err-key
try_stmt-returns-in_err-key t c = handed_on stmt_at c.from_residual-in_err-key.result c.from_residual-in_err-key.ensures.1 (read_as (try_same c.args.depth c.args.self.now) (seq (body_behind c.args.depth) c.in_ok-at.ensures (seq (catch_behind c.args.depth) c.in_ok-body.ensures (stop (caught_behind c.args.depth) c.in_err-key.ensures))))

pub try_stmt-returns-in_err-name : goal.try_stmt-returns-in_err-name
try_stmt-returns-in_err-name t c = handed_on stmt_at c.from_residual-in_err-name.result c.from_residual-in_err-name.ensures.1 (read_as (try_same c.args.depth c.args.self.now) (seq (body_behind c.args.depth) c.in_ok-at.ensures (seq (catch_behind c.args.depth) c.in_ok-body.ensures (seq (caught_behind c.args.depth) c.in_ok-key.ensures (stop (handler_behind c.args.depth) c.in_err-name.ensures)))))

pub try_stmt-returns-in_err-handler : goal.try_stmt-returns-in_err-handler
try_stmt-returns-in_err-handler t c = handed_on stmt_at c.from_residual-in_err-handler.result c.from_residual-in_err-handler.ensures.1 (read_as (try_same c.args.depth c.args.self.now) (seq (body_behind c.args.depth) c.in_ok-at.ensures (seq (catch_behind c.args.depth) c.in_ok-body.ensures (seq (caught_behind c.args.depth) c.in_ok-key.ensures (seq (handler_behind c.args.depth) c.in_ok-name.ensures c.in_err-handler.ensures)))))

pub try_stmt-returns : goal.try_stmt-returns
try_stmt-returns t c = made_seen stmt_at c.share_stmt.result c.share_stmt.ensures (try_seen c.in_ok-at.at c.in_ok-body.body c.in_ok-name.name c.in_ok-handler.handler) (read_as (try_same c.args.depth c.args.self.now) (seq (body_behind c.args.depth) c.in_ok-at.ensures (seq (catch_behind c.args.depth) c.in_ok-body.ensures (seq (caught_behind c.args.depth) c.in_ok-key.ensures (seq (handler_behind c.args.depth) c.in_ok-name.ensures c.in_ok-handler.ensures)))))

pub while_stmt-returns-in_err-at : goal.while_stmt-returns-in_err-at
while_stmt-returns-in_err-at t c = handed_on stmt_at c.from_residual.result c.from_residual.ensures.1 (read_as (while_same c.args.depth c.args.self.now) (stop (while_behind c.args.depth) c.in_err-at.ensures))

pub while_stmt-returns-in_err-test : goal.while_stmt-returns-in_err-test
while_stmt-returns-in_err-test t c = handed_on stmt_at c.from_residual-in_err-test.result c.from_residual-in_err-test.ensures.1 (read_as (while_same c.args.depth c.args.self.now) (seq (while_behind c.args.depth) c.in_ok-at.ensures (stop (stmt_last c.args.depth) c.in_err-test.ensures)))

pub while_stmt-returns-in_err-body : goal.while_stmt-returns-in_err-body
while_stmt-returns-in_err-body t c = handed_on stmt_at c.from_residual-in_err-body.result c.from_residual-in_err-body.ensures.1 (read_as (while_same c.args.depth c.args.self.now) (seq (while_behind c.args.depth) c.in_ok-at.ensures (seq (stmt_last c.args.depth) c.in_ok-test.ensures c.in_err-body.ensures)))

pub while_stmt-returns : goal.while_stmt-returns
while_stmt-returns t c = made_on stmt_at c.share_stmt.result c.share_stmt.ensures (read_as (while_same c.args.depth c.args.self.now) (seq (while_behind c.args.depth) c.in_ok-at.ensures (seq (stmt_last c.args.depth) c.in_ok-test.ensures c.in_ok-body.ensures)))

pub write-returns-in_err-value-in-Assign : goal.write-returns-in_err-value-in-Assign
write-returns-in_err-value-in-Assign t c = handed_on written_of c.from_residual.result c.from_residual.ensures.1 (read_as (value_same c.args.depth c.args.self.now (sym (c.in-Assign.ensures ∙ ap starts.write_start c.kind.ensures))) c.in_err-value-in-Assign.ensures)

pub write-returns-in_ok-value-in-Assign : goal.write-returns-in_ok-value-in-Assign
write-returns-in_ok-value-in-Assign t c = read_as (value_same c.args.depth c.args.self.now (sym (c.in-Assign.ensures ∙ ap starts.write_start c.kind.ensures))) c.in_ok-value-in-Assign.ensures

pub write-returns-in_err-value-in-AddAssign : goal.write-returns-in_err-value-in-AddAssign
write-returns-in_err-value-in-AddAssign t c = handed_on written_of c.from_residual-in_err-value-in-AddAssign.result c.from_residual-in_err-value-in-AddAssign.ensures.1 (read_as (sum_same c.args.depth c.args.self.now (sym (c.in-AddAssign.ensures ∙ ap starts.write_start c.kind.ensures))) c.in_err-value-in-AddAssign.ensures)

pub write-returns-in_ok-value-in-AddAssign : goal.write-returns-in_ok-value-in-AddAssign
write-returns-in_ok-value-in-AddAssign t c = read_as (sum_same c.args.depth c.args.self.now (sym (c.in-AddAssign.ensures ∙ ap starts.write_start c.kind.ensures))) c.in_ok-value-in-AddAssign.ensures

pub write-returns-in_err-value-in-SubAssign : goal.write-returns-in_err-value-in-SubAssign
write-returns-in_err-value-in-SubAssign t c = handed_on written_of c.from_residual-in_err-value-in-SubAssign.result c.from_residual-in_err-value-in-SubAssign.ensures.1 (read_as (difference_same c.args.depth c.args.self.now (sym (c.in-SubAssign.ensures ∙ ap starts.write_start c.kind.ensures))) c.in_err-value-in-SubAssign.ensures)

pub write-returns-in_ok-value-in-SubAssign : goal.write-returns-in_ok-value-in-SubAssign
write-returns-in_ok-value-in-SubAssign t c = read_as (difference_same c.args.depth c.args.self.now (sym (c.in-SubAssign.ensures ∙ ap starts.write_start c.kind.ensures))) c.in_ok-value-in-SubAssign.ensures

pub write-returns-in_err-mark-in-Increment : goal.write-returns-in_err-mark-in-Increment
write-returns-in_err-mark-in-Increment t c = handed_on written_of c.from_residual-in_err-mark-in-Increment.result c.from_residual-in_err-mark-in-Increment.ensures.1 (read_as (one_more_same c.args.depth c.args.self.now (sym (c.in-Increment.ensures ∙ ap starts.write_start c.kind.ensures))) (narrow (λ us e. tt) c.in_err-mark-in-Increment.ensures))

pub write-returns-in_ok-mark-in-Increment : goal.write-returns-in_ok-mark-in-Increment
write-returns-in_ok-mark-in-Increment t c = read_as (one_more_same c.args.depth c.args.self.now (sym (c.in-Increment.ensures ∙ ap starts.write_start c.kind.ensures))) (narrow (λ us e. tt) c.in_ok-mark-in-Increment.ensures)

pub write-returns-in_err-mark-in-Decrement : goal.write-returns-in_err-mark-in-Decrement
write-returns-in_err-mark-in-Decrement t c = handed_on written_of c.from_residual-in_err-mark-in-Decrement.result c.from_residual-in_err-mark-in-Decrement.ensures.1 (read_as (one_less_same c.args.depth c.args.self.now (sym (c.in-Decrement.ensures ∙ ap starts.write_start c.kind.ensures))) (narrow (λ us e. tt) c.in_err-mark-in-Decrement.ensures))

pub write-returns-in_ok-mark-in-Decrement : goal.write-returns-in_ok-mark-in-Decrement
write-returns-in_ok-mark-in-Decrement t c = read_as (one_less_same c.args.depth c.args.self.now (sym (c.in-Decrement.ensures ∙ ap starts.write_start c.kind.ensures))) (narrow (λ us e. tt) c.in_ok-mark-in-Decrement.ensures)

pub write-returns-in-Nothing : goal.write-returns-in-Nothing
write-returns-in-Nothing t c = no_write c.args.depth c.args.self.now (sym (c.in-Nothing.ensures ∙ ap starts.write_start c.kind.ensures))

pub written-returns-in_err-mark : goal.written-returns-in_err-mark
written-returns-in_err-mark t c = handed_on expr_at c.from_residual.result c.from_residual.ensures.1 (read_as (mark_expr_same c.args.mark c.args.depth (ends_by behind_simple) c.args.self.now) (stop (written_behind c.args.depth) c.in_err-mark.ensures))

pub written-returns : goal.written-returns
written-returns t c = with_last expr_at _ c.expr.result (read_as (mark_expr_same c.args.mark c.args.depth (ends_by behind_simple) c.args.self.now) (seq (written_behind c.args.depth) c.in_ok-mark.ensures (narrow simple_to_expr c.expr.ensures)))

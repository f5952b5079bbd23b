use Rattle.std.proofs.Common.{◌≡◌, ◌≢◌, ◌≤◌, ◌<◌, ◌+◌, ◌++◌, ℕ, suc, List, [], ◌∷◌, Option, Some, None, Result, Ok, Err, length, map, refl, sym, ◌∙◌, ap, subst, arith, rules}
use Rattle.do_lex.specs.declared.kind.Kind.TheVariants as kind
use Rattle.do_lex.specs.declared.kind.Keyword.TheVariants as key
use Rattle.do_lex.specs.declared.kind.Mark.TheVariants as mark
use Rattle.do_tree.specs.Grammar as g
use Rattle.do_tree.specs.Accepts.{most_inside}
use Rattle.do_tree.specs.Grammar.{IsExpr, IsOperandOf, IsUn}
use Rattle.do_tree.specs.Seen.{named_of, option_named_of}
use Rattle.do_tree.specs.declared.expr.Chain.TheVariants as chain
use Rattle.do_parse.specs.Chained.{behind_chain, IsChained}
use Rattle.do_parse.specs.Follow.{behind_expr, behind_element, behind_operand, behind_strict, behind_tighter, behind_un}
use Rattle.do_parse.specs.Levels.{level_of, operator_next}
use Rattle.do_parse.specs.Lists.{Starting, IsLink, IsOneArg, IsOnePair, call}
use Rattle.do_parse.specs.Parsed.{Anything, ends_by, Parses}
use Rattle.do_parse.specs.Trees.{expr_at, exprs_at, operand_at, operands_at, link_of, links_at, arg_of, args_at, pair_of, pairs_at, head_of, option_expr_at}
use Rattle.do_parse.proofs.Sequence.{seq, stop, read_as, read_here, handed_on, made_on, narrow}
use Rattle.do_parse.proofs.Exits.{handed, no_memory, second, grows_on, grows_none, starts_with, no_value_here, element_behind, argument_behind, option_behind, behind_open, behind_list, behind_opened, behind_message, behind_error_open, behind_error_word, behind_new, behind_head, behind_close, behind_parameter, behind_head_open, behind_async, behind_value_colon, behind_key, behind_name}
use Rattle.do_parse.proofs.Exprs.{expr_choice, expr_short, expr_stop, sides_same, behind_colon, behind_side, behind_question, short_coalesce, short_either, short_stop, either_ors, either_stop}
use Rattle.do_parse.specs.Then.{with_tree}
use Rattle.do_parse.proofs.Chains.{chain_tree, next_same, behind_next, chained_same, chain_tree_some, behind_chained, more_chained, end_chained, or_operand, or_stop}
use Rattle.do_parse.proofs.Operators.{operand_same, behind_operator, operator_here}
use Rattle.do_parse.proofs.Strict.{strict_here, strict_tree, strict_tree_some, behind_operand_list, more_operands, end_operands, tighter_eq, tighter_rel, tighter_add, tighter_mul}
use Rattle.do_parse.proofs.Steps.{is_value, negative_same, opposite_same, await_same, behind_prefix, un_post, post_here, behind_value, path_tree, path_tree_some}
use Rattle.do_parse.proofs.Links.{field_same, index_same, call_same, link_field, more_links, end_links, behind_link, behind_word}
use Rattle.do_parse.proofs.Pairs.{value_same, callback_same, head_same, named_same, name_missing, pair_value_same, some_value_same, value_missing, some_expr_same, expr_missing, text_pair_same, name_pair_same, key_pair_same, other_pair}
use Rattle.do_parse.proofs.Prims.{null_same, undefined_same, this_same, boolean_same, variable_same, text_same, number_one, group_same, list_same, record_same, new_same}
use Rattle.do_parse.proofs.Standing.{behind_then}
use Rattle.do_parse.proofs.Lists.{started, repeat_more, repeat_stop, repeat_end, comma_more, comma_stop, comma_comma_stop, comma_last, comma_end, not_behind}
use Rattle.do_parse.proofs.Falls.{falls, falls_or_same}
use Rattle.do_parse.proofs.TooDeep.{expr_deep, un_deep}
use Rattle.do_parse.proofs.Rows.{hidden_args, vec_exprs, vec_operands, vec_links, vec_args, vec_pairs}
use Rattle.do_parse.proofs.Turns.{next_yes, next_no, other_next, comma_no_close, no_token, no_next, no_link, no_expr, no_arg, no_pair, end_exprs, end_args, end_pairs, behind_item, behind_comma_item, list_on, not_value, some_starts, operand_alone, operand_stop}
use Rattle.do_parse.proofs.Empty.{empty_list, some_list}
use Rattle.do_parse.specs.Starts.{kind_next, begins_link, is_some_start}
use Rattle.do_parse.specs.declared.starts.ExprStart.TheVariants as start
use Rattle.do_parse.proofs.cursor.Cursor.callback_head.Goals as goal

pub returns-in_err-at : goal.returns-in_err-at
returns-in_err-at c = handed_on head_of c.from_residual.result c.from_residual.ensures.1 (read_as (head_same c.args.depth c.args.self.now) (stop (behind_async c.args.depth) c.in_err-at.ensures))

pub returns-in_err-mark : goal.returns-in_err-mark
returns-in_err-mark c = handed_on head_of c.from_residual-in_err-mark.result c.from_residual-in_err-mark.ensures.1 (read_as (head_same c.args.depth c.args.self.now) (seq (behind_async c.args.depth) c.in_ok-at.ensures (stop (behind_head_open c.args.depth) c.in_err-mark.ensures)))

pub returns-in_err-parameter : goal.returns-in_err-parameter
returns-in_err-parameter c = handed_on head_of c.from_residual-in_err-parameter.result c.from_residual-in_err-parameter.ensures.1 (read_as (head_same c.args.depth c.args.self.now) (seq (behind_async c.args.depth) c.in_ok-at.ensures (seq (behind_head_open c.args.depth) c.in_ok-mark.ensures (stop (behind_parameter c.args.depth) c.in_err-parameter.ensures))))

pub returns-in_err-mark-2 : goal.returns-in_err-mark-2
returns-in_err-mark-2 c = handed_on head_of c.from_residual-in_err-mark-2.result c.from_residual-in_err-mark-2.ensures.1 (read_as (head_same c.args.depth c.args.self.now) (seq (behind_async c.args.depth) c.in_ok-at.ensures (seq (behind_head_open c.args.depth) c.in_ok-mark.ensures (seq (behind_parameter c.args.depth) c.in_ok-parameter.ensures (stop (behind_close c.args.depth) c.in_err-mark-2.ensures)))))

pub returns-in_err-mark-3 : goal.returns-in_err-mark-3
returns-in_err-mark-3 c = handed_on head_of c.from_residual-in_err-mark-3.result c.from_residual-in_err-mark-3.ensures.1 (read_as (head_same c.args.depth c.args.self.now) (seq (behind_async c.args.depth) c.in_ok-at.ensures (seq (behind_head_open c.args.depth) c.in_ok-mark.ensures (seq (behind_parameter c.args.depth) c.in_ok-parameter.ensures (seq (behind_close c.args.depth) c.in_ok-mark-2.ensures c.in_err-mark-3.ensures)))))

pub returns : goal.returns
returns c = (read_as (head_same c.args.depth c.args.self.now) (seq (behind_async c.args.depth) c.in_ok-at.ensures (seq (behind_head_open c.args.depth) c.in_ok-mark.ensures (seq (behind_parameter c.args.depth) c.in_ok-parameter.ensures (seq (behind_close c.args.depth) c.in_ok-mark-2.ensures c.in_ok-mark-3.ensures)))))

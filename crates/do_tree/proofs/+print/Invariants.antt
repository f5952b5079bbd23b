use Rattle.std.proofs.Common.{◌≡◌, ◌+◌, ◌*◌, max, drop}
use Rattle.do_tree.specs.Nodes.{args_in, exprs_in, links_in, operands_in, pairs_in}
use Rattle.do_tree.specs.Print.{tokens_of_args, tokens_of_chained, tokens_of_elements, tokens_of_items, tokens_of_links, tokens_of_operands, tokens_of_pairs}
use Rattle.do_tree.specs.Seen.{items_in}
use Rattle.do_tree.specs.Written.{write_all, written_of}
use Rattle.do_tree.proofs.Writing.{rest_args, rest_exprs, rest_pairs}
use Rattle.do_tree.specs.declared.expr.Expr.{size-Expr}
use Rattle.do_tree.specs.declared.stmt.Block.{size-Block}
use Rattle.do_tree.specs.declared.stmt.Simple.{size-Simple}
use Rattle.do_tree.specs.declared.stmt.Stmt.{size-Stmt}
use Rattle.do_tree.proofs.+print.Given as goal

-- The printing ends by the depth of what is printed; where a function passes that on, it stands above what it calls.
abbrev pub decreases-print_expr::print_expr : goal.decreases-print_expr::print_expr
decreases-print_expr::print_expr l = 6 * goal.size-print_expr::print_expr l

abbrev pub decreases-print_stmt::print_stmt : goal.decreases-print_stmt::print_stmt
decreases-print_stmt::print_stmt l = 6 * goal.size-print_stmt::print_stmt l

abbrev pub decreases-print_stmt::print_items : goal.decreases-print_stmt::print_items
decreases-print_stmt::print_items l = 6 * goal.size-print_stmt::print_items l + 2

abbrev pub decreases-print_stmt::print_item : goal.decreases-print_stmt::print_item
decreases-print_stmt::print_item l = 6 * goal.size-print_stmt::print_item l + 1

abbrev pub decreases-print_expr::print_option : goal.decreases-print_expr::print_option
decreases-print_expr::print_option l = 6 * goal.size-print_expr::print_option l + 1

abbrev pub decreases-print_expr::print_initial : goal.decreases-print_expr::print_initial
decreases-print_expr::print_initial l = 6 * goal.size-print_expr::print_initial l + 1

abbrev pub decreases-print_expr::print_chained : goal.decreases-print_expr::print_chained
decreases-print_expr::print_chained l = 6 * goal.size-print_expr::print_chained l + 1

abbrev pub decreases-print_expr::print_operands : goal.decreases-print_expr::print_operands
decreases-print_expr::print_operands l = 6 * goal.size-print_expr::print_operands l + 1

abbrev pub decreases-print_expr::print_elements : goal.decreases-print_expr::print_elements
decreases-print_expr::print_elements l = 6 * goal.size-print_expr::print_elements l + 1

abbrev pub decreases-print_expr::print_links : goal.decreases-print_expr::print_links
decreases-print_expr::print_links l = 6 * goal.size-print_expr::print_links l + 4

abbrev pub decreases-print_expr::print_link : goal.decreases-print_expr::print_link
decreases-print_expr::print_link l = 6 * goal.size-print_expr::print_link l + 3

abbrev pub decreases-print_expr::print_args : goal.decreases-print_expr::print_args
decreases-print_expr::print_args l = 6 * goal.size-print_expr::print_args l + 2

abbrev pub decreases-print_expr::print_arg : goal.decreases-print_expr::print_arg
decreases-print_expr::print_arg l = 6 * goal.size-print_expr::print_arg l + 1

abbrev pub decreases-print_expr::print_pairs : goal.decreases-print_expr::print_pairs
decreases-print_expr::print_pairs l = 6 * goal.size-print_expr::print_pairs l + 2

abbrev pub decreases-print_expr::print_pair : goal.decreases-print_expr::print_pair
decreases-print_expr::print_pair l = 6 * goal.size-print_expr::print_pair l + 1

abbrev pub decreases-print_stmt::print_block : goal.decreases-print_stmt::print_block
decreases-print_stmt::print_block l = 6 * goal.size-print_stmt::print_block l + 3

abbrev pub decreases-print_stmt::print_simple : goal.decreases-print_stmt::print_simple
decreases-print_stmt::print_simple l = 6 * goal.size-print_stmt::print_simple l + 1

abbrev pub decreases-print_stmt::print_other : goal.decreases-print_stmt::print_other
decreases-print_stmt::print_other l = 6 * goal.size-print_stmt::print_other l + 1

abbrev pub decreases-print_expr::print_unary : goal.decreases-print_expr::print_unary
decreases-print_expr::print_unary l = 6 * goal.size-print_expr::print_unary l + 1

abbrev pub decreases-print_expr::print_await : goal.decreases-print_expr::print_await
decreases-print_expr::print_await l = 6 * goal.size-print_expr::print_await l + 1

abbrev pub decreases-print_expr::print_group : goal.decreases-print_expr::print_group
decreases-print_expr::print_group l = 6 * goal.size-print_expr::print_group l + 1

abbrev pub decreases-print_expr::print_list : goal.decreases-print_expr::print_list
decreases-print_expr::print_list l = 6 * goal.size-print_expr::print_list l + 2

abbrev pub decreases-print_expr::print_record : goal.decreases-print_expr::print_record
decreases-print_expr::print_record l = 6 * goal.size-print_expr::print_record l + 3

abbrev pub decreases-print_expr::print_new_error : goal.decreases-print_expr::print_new_error
decreases-print_expr::print_new_error l = 6 * goal.size-print_expr::print_new_error l + 2

abbrev pub decreases-print_stmt::print_ended : goal.decreases-print_stmt::print_ended
decreases-print_stmt::print_ended l = 6 * goal.size-print_stmt::print_ended l + 1

abbrev pub decreases-print_stmt::print_throw : goal.decreases-print_stmt::print_throw
decreases-print_stmt::print_throw l = 6 * goal.size-print_stmt::print_throw l + 2

abbrev pub decreases-print_stmt::print_step : goal.decreases-print_stmt::print_step
decreases-print_stmt::print_step l = 6 * goal.size-print_stmt::print_step l + 2

abbrev pub decreases-print_stmt::print_return : goal.decreases-print_stmt::print_return
decreases-print_stmt::print_return l = 6 * goal.size-print_stmt::print_return l + 2

abbrev pub decreases-print_stmt::print_test : goal.decreases-print_stmt::print_test
decreases-print_stmt::print_test l = 6 * goal.size-print_stmt::print_test l + 1

abbrev pub decreases-print_expr::print_choice : goal.decreases-print_expr::print_choice
decreases-print_expr::print_choice l = 6 * max (size-Expr l.test.now) (max (size-Expr l.yes.now) (size-Expr l.no.now)) + 2

abbrev pub decreases-print_stmt::print_tested : goal.decreases-print_stmt::print_tested
decreases-print_stmt::print_tested l = 6 * max (size-Expr l.test.now) (size-Stmt l.body.now) + 2

abbrev pub decreases-print_stmt::print_for : goal.decreases-print_stmt::print_for
decreases-print_stmt::print_for l = 6 * max (size-Expr l.first.now) (max (size-Expr l.test.now) (max (size-Simple l.step.now) (size-Stmt l.body.now))) + 2

abbrev pub decreases-print_stmt::print_for_of : goal.decreases-print_stmt::print_for_of
decreases-print_stmt::print_for_of l = 6 * max (size-Expr l.list.now) (size-Stmt l.body.now) + 2

abbrev pub decreases-print_stmt::print_try : goal.decreases-print_stmt::print_try
decreases-print_stmt::print_try l = 6 * max (size-Block l.body.now) (size-Block l.handler.now) + 4

-- What was printed, and what is left of the list: together all that the list prints.
abbrev pub invariant-print_expr::print_chained-loop-expr : goal.invariant-print_expr::print_chained-loop-expr
invariant-print_expr::print_chained-loop-expr l =
    write_all (written_of l.out) (tokens_of_chained l.chain (exprs_in (drop l.expr-index l.rest)))
    ≡ write_all (written_of l.fn.out) (tokens_of_chained l.chain (exprs_in l.rest))

abbrev pub invariant-print_expr::print_operands-loop-operand : goal.invariant-print_expr::print_operands-loop-operand
invariant-print_expr::print_operands-loop-operand l =
    write_all (written_of l.out) (tokens_of_operands (operands_in (drop l.operand-index l.rest)))
    ≡ write_all (written_of l.fn.out) (tokens_of_operands (operands_in l.rest))

abbrev pub invariant-print_expr::print_elements-loop-expr : goal.invariant-print_expr::print_elements-loop-expr
invariant-print_expr::print_elements-loop-expr l =
    write_all (written_of l.out) (rest_exprs l.begun (drop l.expr-index l.elements))
    ≡ write_all (written_of l.fn.out) (tokens_of_elements (exprs_in l.elements))

abbrev pub invariant-print_expr::print_links-loop-link : goal.invariant-print_expr::print_links-loop-link
invariant-print_expr::print_links-loop-link l =
    write_all (written_of l.out) (tokens_of_links (links_in (drop l.link-index l.links)))
    ≡ write_all (written_of l.fn.out) (tokens_of_links (links_in l.links))

abbrev pub invariant-print_expr::print_args-loop-arg : goal.invariant-print_expr::print_args-loop-arg
invariant-print_expr::print_args-loop-arg l =
    write_all (written_of l.out) (rest_args l.begun (drop l.arg-index l.args)) ≡ write_all (written_of l.fn.out) (tokens_of_args (args_in l.args))

abbrev pub invariant-print_expr::print_pairs-loop-pair : goal.invariant-print_expr::print_pairs-loop-pair
invariant-print_expr::print_pairs-loop-pair l =
    write_all (written_of l.out) (rest_pairs l.begun (drop l.pair-index l.pairs))
    ≡ write_all (written_of l.fn.out) (tokens_of_pairs (pairs_in l.pairs))

abbrev pub invariant-print_stmt::print_items-loop-item : goal.invariant-print_stmt::print_items-loop-item
invariant-print_stmt::print_items-loop-item l =
    write_all (written_of l.out) (tokens_of_items (items_in (drop l.item-index l.items)))
    ≡ write_all (written_of l.fn.out) (tokens_of_items (items_in l.items))

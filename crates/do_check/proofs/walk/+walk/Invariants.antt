use Rattle.std.proofs.Common.{◌≡◌, ◌+◌, ◌*◌, max, drop, take}
use Rattle.do_check.specs.First.{least}
use Rattle.do_check.specs.Parts.{args_faults, exprs_faults, items_faults, links_faults, operands_faults, pairs_faults}
use Rattle.do_check.specs.Sight.{behind, path_in, role_of, scope_in, stage_of}
use Rattle.do_check.specs.Sorts.{AreSorts}
use Rattle.do_tree.specs.Nodes.{args_in, exprs_in, links_in, operands_in, pairs_in}
use Rattle.do_tree.specs.Seen.{items_in}
use Rattle.do_tree.specs.declared.expr.Expr.{size-Expr}
use Rattle.do_tree.specs.declared.stmt.Block.{size-Block}
use Rattle.do_tree.specs.declared.stmt.Simple.{size-Simple}
use Rattle.do_tree.specs.declared.stmt.Stmt.{size-Stmt}
use Rattle.do_check.proofs.walk.+walk.Given as goal

-- The walk ends by the depth of what is walked; where a function passes that on, it stands above what it calls.
abbrev pub decreases-walk_expr : goal.decreases-walk_expr
decreases-walk_expr l = 6 * goal.size-walk_expr l

abbrev pub decreases-walk_stmt : goal.decreases-walk_stmt
decreases-walk_stmt l = 6 * goal.size-walk_stmt l

abbrev pub decreases-walk_exprs : goal.decreases-walk_exprs
decreases-walk_exprs l = 6 * goal.size-walk_exprs l + 1

abbrev pub decreases-walk_operands : goal.decreases-walk_operands
decreases-walk_operands l = 6 * goal.size-walk_operands l + 1

abbrev pub decreases-walk_option : goal.decreases-walk_option
decreases-walk_option l = 6 * goal.size-walk_option l + 1

abbrev pub decreases-walk_base : goal.decreases-walk_base
decreases-walk_base l = 6 * goal.size-walk_base l + 1

abbrev pub decreases-walk_pair : goal.decreases-walk_pair
decreases-walk_pair l = 6 * goal.size-walk_pair l + 1

abbrev pub decreases-walk_pairs : goal.decreases-walk_pairs
decreases-walk_pairs l = 6 * goal.size-walk_pairs l + 2

abbrev pub decreases-walk_callback : goal.decreases-walk_callback
decreases-walk_callback l = 6 * goal.size-walk_callback l + 1

abbrev pub decreases-walk_arg : goal.decreases-walk_arg
decreases-walk_arg l = 6 * goal.size-walk_arg l + 2

abbrev pub decreases-walk_args : goal.decreases-walk_args
decreases-walk_args l = 6 * goal.size-walk_args l + 3

abbrev pub decreases-walk_link : goal.decreases-walk_link
decreases-walk_link l = 6 * goal.size-walk_link l + 4

abbrev pub decreases-walk_links : goal.decreases-walk_links
decreases-walk_links l = 6 * goal.size-walk_links l + 5

abbrev pub decreases-walk_item : goal.decreases-walk_item
decreases-walk_item l = 6 * goal.size-walk_item l + 1

abbrev pub decreases-walk_items : goal.decreases-walk_items
decreases-walk_items l = 6 * goal.size-walk_items l + 2

abbrev pub decreases-walk_handler : goal.decreases-walk_handler
decreases-walk_handler l = 6 * goal.size-walk_handler l + 3

abbrev pub decreases-walk_simple : goal.decreases-walk_simple
decreases-walk_simple l = 6 * goal.size-walk_simple l + 1

abbrev pub decreases-walk_for : goal.decreases-walk_for
decreases-walk_for l = 6 * max (size-Expr l.first.now) (max (size-Expr l.test.now) (max (size-Simple l.step.now) (size-Stmt l.body.now))) + 2

abbrev pub decreases-walk_for_of : goal.decreases-walk_for_of
decreases-walk_for_of l = 6 * max (size-Expr l.list.now) (size-Stmt l.body.now) + 2

abbrev pub decreases-walk_try : goal.decreases-walk_try
decreases-walk_try l = 6 * max (size-Block l.body.now) (size-Block l.handler.now) + 4

abbrev pub invariant-walk_exprs-loop-expr : goal.invariant-walk_exprs-loop-expr
invariant-walk_exprs-loop-expr l =
    least l.found (exprs_faults (scope_in l.scope) (exprs_in (drop l.expr-index l.exprs))) ≡ least l.fn.found (exprs_faults (scope_in l.scope) (exprs_in l.exprs))

abbrev pub invariant-walk_operands-loop-operand : goal.invariant-walk_operands-loop-operand
invariant-walk_operands-loop-operand l =
    least l.found (operands_faults (scope_in l.scope) (operands_in (drop l.operand-index l.operands))) ≡ least l.fn.found (operands_faults (scope_in l.scope) (operands_in l.operands))

abbrev pub invariant-walk_pairs-loop-pair : goal.invariant-walk_pairs-loop-pair
invariant-walk_pairs-loop-pair l =
    least l.found (pairs_faults (scope_in l.scope) (pairs_in (drop l.pair-index l.pairs))) ≡ least l.fn.found (pairs_faults (scope_in l.scope) (pairs_in l.pairs))

abbrev pub invariant-walk_args-loop-arg : goal.invariant-walk_args-loop-arg
invariant-walk_args-loop-arg l =
    least l.found (args_faults (scope_in l.scope) (role_of l.role) (args_in (drop l.arg-index l.args)))
    ≡ least l.fn.found (args_faults (scope_in l.scope) (role_of l.fn.role) (args_in l.args))

abbrev pub invariant-walk_links-loop-i : goal.invariant-walk_links-loop-i
invariant-walk_links-loop-i l =
    least l.found (links_faults (scope_in l.scope) (path_in l.path) (stage_of l.stage) (links_in (drop l.i l.links)))
    ≡ least l.fn.found (links_faults (scope_in l.scope) (path_in l.path) (stage_of l.fn.stage) (links_in l.links))

abbrev pub invariant-walk_items-loop-i : goal.invariant-walk_items-loop-i
invariant-walk_items-loop-i l = record {
  found : least l.found (items_faults (record (scope_in l.scope) { names = behind (take l.i l.items) (scope_in l.scope).names }) (items_in (drop l.i l.items)))
      ≡ least l.fn.found (items_faults (scope_in l.scope) (items_in l.items));
  sorts : AreSorts l.sorts (take l.i l.items);
}

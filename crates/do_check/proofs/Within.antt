-- Each part of a script has no fault that the whole script hasn't.
use Rattle.std.proofs.Common.{◌≡◌, ℕ, zero, suc, ◌<◌, Bool, true, false, List, [], ◌∷◌, ◌++◌, length, map, cond, Option, Some, None, refl, sym, subst, true≢false, arith}
use Rattle.std.specs.Prelude.{Contains, slice_index_or}
use Rattle.do_check.proofs.Has.{Has, here, there, in_left, in_right}
use Rattle.do_check.specs.Parts.{args_faults, class_faults, classes_faults, expr_faults, exprs_faults, items_faults, links_faults, method_faults, methods_faults, operands_faults, pairs_faults, script_faults, simple_faults, stage_faults, stmt_faults}
use Rattle.do_check.specs.declared.fault.CheckFault.{CheckFault}
use Rattle.do_tree.specs.Scope as stands
use Rattle.do_tree.specs.Scope.{ArgsIn, ExprIn, ExprsIn, ItemsIn, LinksIn, OperandsIn, PairsIn, Path, PathIn, Scope, SimpleIn, StmtIn, Use, is_root}
use Rattle.do_tree.specs.Forms.{Role, Stage}
use Rattle.do_tree.specs.Tree as tree
use Rattle.do_tree.specs.Tree.{Args, Class, Expr, Exprs, Items, Links, Method, Operands, Pairs, Script, Simple, Stmt}

-- The faults of a class are the script's, and those of a method the class's.
method_at : (class : Class) (f : CheckFault) (ms : List Method) (k : ℕ) (m : Method) → k < length ms → slice_index_or ms k m ≡ m
    → Has (method_faults class m) f → Has (methods_faults class ms) f
method_at class f [] k m lt e h = absurd (omega arith)
method_at class f (n ∷ ms) zero m lt e h = in_left _ (subst (λ x. Has (method_faults class x) f) (sym e) h)
method_at class f (n ∷ ms) (suc k) m lt e h = in_right _ (method_at class f ms k m (omega arith) e h)

class_at : (f : CheckFault) (cs : List Class) (k : ℕ) (c : Class) → k < length cs → slice_index_or cs k c ≡ c
    → Has (class_faults c) f → Has (classes_faults cs) f
class_at f [] k c lt e h = absurd (omega arith)
class_at f (d ∷ cs) zero c lt e h = in_left _ (subst (λ x. Has (class_faults x) f) (sym e) h)
class_at f (d ∷ cs) (suc k) c lt e h = in_right _ (class_at f cs k c (omega arith) e h)

-- What stands where the test is false.
pub at_base : {f : CheckFault} {xs : List CheckFault} (b : Bool) → b ≡ false → Has xs f → Has (cond b [] xs) f
at_base true e h = absurd (true≢false e)
at_base false e h = h

-- What a path's stage has, the path has from there on.
pub at_stage : {f : CheckFault} (c : Scope) (p : Path) (st : Stage) (ls : Links) → Has (stage_faults c p st ls) f → Has (links_faults c p st ls) f
at_stage c p st tree.no_links h = h
at_stage c p st (tree.field n ls) h = in_left _ h
at_stage c p st (tree.index at e ls) h = in_left _ (in_left _ h)
at_stage c p st (tree.call at a ls) h = in_left _ (in_left _ h)

module _ (s : Script) (f : CheckFault) where
  pub class_within : (class : Class) → Contains s.classes class → Has (class_faults class) f → Has (script_faults s) f
  class_within class at h = in_right _ (class_at f s.classes at.0 class at.1 at.2 h)

  pub method_within : (class : Class) (m : Method) → Contains s.classes class → Contains class.methods m
      → Has (method_faults class m) f → Has (script_faults s) f
  method_within class m c at h = class_within class c (in_right _ (method_at class f class.methods at.0 m at.1 at.2 h))

  mutual
    pub items_within : {c : Scope} {is : Items} → ItemsIn s c is → Has (items_faults c is) f → Has (script_faults s) f
    items_within (stands.body {class} {m} c at) h = method_within class m c at (in_right _ h)
    items_within (stands.behind_declaration i) h = items_within i (in_right _ h)
    items_within (stands.behind_statement i) h = items_within i (in_right _ h)
    items_within (stands.block i) h = stmt_within i (in_right _ h)
    items_within (stands.tried i) h = stmt_within i (in_left _ (in_left _ (in_left _ (in_right _ h))))
    items_within (stands.handler i) h = stmt_within i (in_right _ h)
    items_within (stands.callback i) h = args_within i (in_left _ (in_right _ h))

    pub stmt_within : {c : Scope} {st : Stmt} → StmtIn s c st → Has (stmt_faults c st) f → Has (script_faults s) f
    stmt_within (stands.item i) h = items_within i (in_left _ h)
    stmt_within (stands.chosen i) h = stmt_within i (in_left _ (in_right _ h))
    stmt_within (stands.other i) h = stmt_within i (in_right _ h)
    stmt_within (stands.while_body i) h = stmt_within i (in_right _ h)
    stmt_within (stands.for_body i) h = stmt_within i (in_right _ h)
    stmt_within (stands.for_of_body i) h = stmt_within i (in_right _ h)

    pub simple_within : {c : Scope} {p : Simple} → SimpleIn s c p → Has (simple_faults c p) f → Has (script_faults s) f
    simple_within (stands.statement i) h = stmt_within i h
    simple_within (stands.step i) h = stmt_within i (in_left _ (in_right _ h))

    pub expr_within : {c : Scope} {u : Use} {e : Expr} → ExprIn s c u e → Has (expr_faults c u e) f → Has (script_faults s) f
    expr_within (stands.declared i) h = items_within i (in_left _ (in_right _ h))
    expr_within (stands.if_test i) h = stmt_within i (in_left _ (in_left _ h))
    expr_within (stands.while_test i) h = stmt_within i (in_left _ h)
    expr_within (stands.for_first i) h = stmt_within i (in_left _ (in_left _ (in_left _ (in_right _ h))))
    expr_within (stands.for_test i) h = stmt_within i (in_left _ (in_left _ (in_right _ h)))
    expr_within (stands.for_list i) h = stmt_within i (in_left _ (in_right _ h))
    expr_within (stands.thrown i) h = stmt_within i h
    expr_within (stands.returned i) h = stmt_within i h
    expr_within (stands.run i) h = simple_within i h
    expr_within (stands.assign_to i) h = simple_within i (in_left _ h)
    expr_within (stands.assigned i) h = simple_within i (in_right _ h)
    expr_within (stands.add_to i) h = simple_within i (in_left _ h)
    expr_within (stands.added i) h = simple_within i (in_right _ h)
    expr_within (stands.sub_from i) h = simple_within i (in_left _ h)
    expr_within (stands.subtracted i) h = simple_within i (in_right _ h)
    expr_within (stands.incremented i) h = simple_within i h
    expr_within (stands.decremented i) h = simple_within i h
    expr_within (stands.test i) h = expr_within i (in_left _ (in_left _ (in_right _ h)))
    expr_within (stands.yes i) h = expr_within i (in_left _ (in_right _ h))
    expr_within (stands.no i) h = expr_within i (in_right _ h)
    expr_within (stands.element i) h = exprs_within i (in_left _ h)
    expr_within (stands.first_lazy i) h = expr_within i (in_left _ (in_right _ h))
    expr_within (stands.first_strict i) h = expr_within i (in_left _ (in_right _ h))
    expr_within (stands.operand i) h = operands_within i (in_left _ h)
    expr_within (stands.under i) h = expr_within i (in_right _ h)
    expr_within (stands.under_await i) h = expr_within i (in_right _ h)
    expr_within (stands.base {e = e} i nr) h = expr_within i (in_left _ (in_right _ (at_base (is_root e) nr h)))
    expr_within (stands.index i) h = links_within i (in_left _ (in_right _ h))
    expr_within (stands.argument i) h = args_within i (in_left _ h)
    expr_within (stands.grouped i) h = expr_within i (in_right _ h)
    expr_within (stands.paired i) h = pairs_within i (in_left _ h)
    expr_within (stands.message i) h = expr_within i (in_right _ h)

    pub exprs_within : {c : Scope} {es : Exprs} → ExprsIn s c es → Has (exprs_faults c es) f → Has (script_faults s) f
    exprs_within (stands.of_lazy i) h = expr_within i (in_right _ h)
    exprs_within (stands.of_list i) h = expr_within i (in_right _ h)
    exprs_within (stands.rest_of_exprs i) h = exprs_within i (in_right _ h)

    pub operands_within : {c : Scope} {os : Operands} → OperandsIn s c os → Has (operands_faults c os) f → Has (script_faults s) f
    operands_within (stands.of_strict i) h = expr_within i (in_right _ h)
    operands_within (stands.rest_of_operands i) h = operands_within i (in_right _ h)

    pub path_within : {c : Scope} {p : Path} {st : Stage} {ls : Links} → PathIn s c p st ls → Has (links_faults c p st ls) f → Has (script_faults s) f
    path_within (stands.of_path i) h = expr_within i (in_right _ h)
    path_within (stands.of_variable i) h = expr_within i (in_right _ (in_right _ h))
    path_within (stands.of_this i) h = expr_within i (in_right _ h)
    path_within (stands.of_pair i) h = pairs_within i (in_left _ (in_right _ h))

    pub links_within : {c : Scope} {p : Path} {st : Stage} {ls : Links} → LinksIn s c p st ls → Has (links_faults c p st ls) f → Has (script_faults s) f
    links_within (stands.begun i) h = path_within i h
    links_within (stands.behind_field i) h = links_within i (in_right _ h)
    links_within (stands.behind_index i) h = links_within i (in_right _ h)
    links_within (stands.behind_call i) h = links_within i (in_right _ h)

    pub args_within : {c : Scope} {r : Role} {a : Args} → ArgsIn s c r a → Has (args_faults c r a) f → Has (script_faults s) f
    args_within (stands.of_call i) h = links_within i (in_left _ (in_right _ h))
    args_within (stands.behind_value i) h = args_within i (in_right _ h)
    args_within (stands.behind_callback i) h = args_within i (in_right _ h)

    pub pairs_within : {c : Scope} {ps : Pairs} → PairsIn s c ps → Has (pairs_faults c ps) f → Has (script_faults s) f
    pairs_within (stands.of_record i) h = expr_within i (in_right _ h)
    pairs_within (stands.rest_of_pairs {v = tree.no_expr} i) h = pairs_within i (in_right _ h)
    pairs_within (stands.rest_of_pairs {v = tree.some_expr e} i) h = pairs_within i (in_right _ h)

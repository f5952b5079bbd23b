-- The faults of each part of a script in its scope, with those of its own parts: what the walk over the tree finds.
use Rattle.std.specs.Prelude.{ℕ, Bool, true, false, ◌&&◌, ◌||◌, not, if◌then◌else◌, List, [], ◌∷◌, ◌++◌, map, Option, Some, None, is_none, codes}
use Rattle.std.specs.List.{list_any}
use Rattle.std.specs.Str.{bytes_eq}
use Rattle.do_check.specs.declared.fault.CheckFault.{CheckFault}
use Rattle.do_tree.specs.Asking.{has_key, is_awaitable, is_met, is_path, is_whole, is_written, leaves_transaction, lists_from, waits}
use Rattle.do_tree.specs.Forms as form
use Rattle.do_tree.specs.Forms.{Form, Role, Sort, Stage, after_call, after_field, after_index, among, ends, role_of, sort_in, start, takes_callback}
use Rattle.do_tree.specs.Lookup.{is_constructor}
use Rattle.do_tree.specs.Names.{begins_call, declared_in, has_method, is_place, is_sync, name_of, name_of_class, name_of_method, outside_words, place_of, reserved}
use Rattle.do_tree.specs.Scope as scope
use Rattle.do_tree.specs.Scope.{Path, Scope, Use, before, bound_as, first_use, in_callback, in_loop, inside, is_root, root_of, scope_of, with_name, with_option_name}
use Rattle.do_tree.specs.Tree as tree
use Rattle.do_tree.specs.Tree.{Args, Class, Expr, Exprs, Items, Links, Method, Named, Operands, OptionExpr, OptionStmt, Pairs, Script, Simple, Stmt}
use Rattle.do_tree.specs.declared.kind.CheckKind.{CheckKind}
use Rattle.do_tree.specs.declared.kind.CheckKind.TheVariants as kind

-- A fault of this kind at this place, where the test is true.
abbrev pub when : Bool → ℕ → CheckKind → List CheckFault
when true at k = record { place = at; kind = k } ∷ []
when false at k = []

abbrev pub bound_faults : Named → List CheckFault
bound_faults n = when (among reserved n.text) n.at kind.Reserved

abbrev pub option_bound_faults : Option Named → List CheckFault
option_bound_faults None = []
option_bound_faults (Some n) = bound_faults n

abbrev pub all_bound_faults : List Named → List CheckFault
all_bound_faults [] = []
all_bound_faults (n ∷ ns) = bound_faults n ++ all_bound_faults ns

abbrev pub has_text : List ℕ → Named → Bool
has_text text n = bytes_eq n.text text

-- The names that stood before, among themselves or among those before all of them.
abbrev pub doubles : List Named → List Named → List CheckFault
doubles seen [] = []
doubles seen (n ∷ ns) = when (list_any (has_text n.text) seen) n.at kind.Doubled ++ doubles (seen ++ n ∷ []) ns

abbrev pub is_constant : Option Sort → Bool
is_constant (Some form.constant) = true
is_constant _ = false

abbrev pub constant_faults : Scope → Option Named → List CheckFault
constant_faults c None = []
constant_faults c (Some n) = when (is_constant (sort_in c.names n.text)) n.at kind.ConstAssigned

-- What is written to.
abbrev pub written_faults : Scope → Expr → List CheckFault
written_faults c e = if is_place e then constant_faults c (name_of e) else when true (place_of e) kind.BadTarget

-- What an expression is there for.
abbrev pub use_faults : Scope → Use → Expr → List CheckFault
use_faults c scope.written e = written_faults c e
use_faults c (scope.awaited at) e = when (not (is_path e)) at kind.AwaitOfSync
use_faults c _ e = []

-- The name that a path begins with.
abbrev pub root_faults : Scope → Option Named → Links → List CheckFault
root_faults c None ls = []
root_faults c (Some n) ls = when (is_none (sort_in c.names n.text) && not (begins_call n.text ls)) n.at kind.Unbound

abbrev pub member_faults : Class → Form → List CheckFault
member_faults class (form.helps n) = when (not (has_method class n.text)) n.at kind.NoMember
member_faults class _ = []

abbrev pub is_block : Form → Bool
is_block form.blocks = true
is_block _ = false

-- A path that has come to the call of a form.
abbrev pub called_faults : Scope → Path → Stage → Links → List CheckFault
called_faults c p (form.called f) ls =
    member_faults c.class f
    ++ when (waits c.class f && not (is_met c p f ls)) p.at kind.NotAwaited
    ++ when (c.transaction && leaves_transaction p f ls) p.at kind.InTransaction
    ++ when (c.block && is_block f) p.at kind.InBlock
called_faults c p _ ls = []

-- A list with these arguments.
abbrev pub listed_faults : Args → List CheckFault
listed_faults (tree.value_arg (tree.rec at ps) rest) = when (has_key ps (codes "start") && has_key ps (codes "startAfter")) at kind.StartTwice
listed_faults _ = []

-- A path that is about to be called.
abbrev pub calling_faults : Scope → Path → Stage → Args → List CheckFault
calling_faults c p (form.part true w) a = if bytes_eq (codes "push") w then constant_faults c p.root else []
calling_faults c p (form.callee f) a = if lists_from f then listed_faults a else []
calling_faults c p _ a = []

abbrev pub is_itself : Stage → Bool
is_itself form.itself = true
is_itself _ = false

-- A path whose last step is this.
abbrev pub outside_faults : Path → Stage → Named → List CheckFault
outside_faults p st n = when (is_itself st && is_written p.serves && among outside_words n.text) n.at kind.Reserved

abbrev pub idle_faults : Scope → Use → Stage → List CheckFault
idle_faults c (scope.awaited at) st = when (not (is_awaitable c.class st)) at kind.AwaitOfSync
idle_faults c _ st = []

-- A path's end.
abbrev pub end_faults : Scope → Path → Stage → List CheckFault
end_faults c p st = when (not (is_whole p st)) p.at kind.Form ++ idle_faults c p.serves st

-- A path that has come to a stage, with these steps to go: what is told by the first of them.
abbrev pub step_faults : Scope → Path → Stage → Links → List CheckFault
step_faults c p st tree.no_links = end_faults c p st
step_faults c p st (tree.field n ls) = if ends ls then outside_faults p st n else []
step_faults c p st (tree.index at e ls) = []
step_faults c p st (tree.call at a ls) = calling_faults c p st a

abbrev pub stage_faults : Scope → Path → Stage → Links → List CheckFault
stage_faults c p st ls = called_faults c p st ls ++ step_faults c p st ls

-- A variable alone.
abbrev pub path_of_name : Named → Use → Path
path_of_name n u = record { at = n.at; root = Some n; serves = u }

abbrev pub name_faults : Scope → Use → Named → List CheckFault
name_faults c u n =
    root_faults c (Some n) tree.no_links ++ stage_faults c (path_of_name n u) (start c.names (tree.variable n)) tree.no_links

abbrev mutual
  pub expr_faults : Scope → Use → Expr → List CheckFault
  expr_faults c u (tree.choice at e a b) =
      use_faults c u (tree.choice at e a b) ++ expr_faults c scope.value e ++ expr_faults c scope.value a ++ expr_faults c scope.value b
  expr_faults c u (tree.lazy at k e es) = use_faults c u (tree.lazy at k e es) ++ expr_faults c scope.value e ++ exprs_faults c es
  expr_faults c u (tree.strict at e os) = use_faults c u (tree.strict at e os) ++ expr_faults c scope.value e ++ operands_faults c os
  expr_faults c u (tree.unary at o e) = use_faults c u (tree.unary at o e) ++ expr_faults c scope.value e
  expr_faults c u (tree.await at e) =
      use_faults c u (tree.await at e) ++ when (is_sync c.method c.block) at kind.AwaitInSync ++ expr_faults c (scope.awaited at) e
  expr_faults c u (tree.path at e ls) =
      use_faults c u (tree.path at e ls) ++ root_faults c (root_of e) ls
      ++ (if is_root e then [] else expr_faults c scope.value e)
      ++ links_faults c (record { at = at; root = root_of e; serves = u }) (start c.names e) ls
  expr_faults c u (tree.number at n) = use_faults c u (tree.number at n)
  expr_faults c u (tree.text at t) = use_faults c u (tree.text at t)
  expr_faults c u (tree.boolean at b) = use_faults c u (tree.boolean at b)
  expr_faults c u (tree.null at) = use_faults c u (tree.null at)
  expr_faults c u (tree.undefined at) = use_faults c u (tree.undefined at)
  expr_faults c u (tree.this at) =
      use_faults c u (tree.this at) ++ stage_faults c (record { at = at; root = None; serves = u }) form.itself tree.no_links
  expr_faults c u (tree.variable n) = use_faults c u (tree.variable n) ++ name_faults c u n
  expr_faults c u (tree.group at e) = use_faults c u (tree.group at e) ++ expr_faults c scope.value e
  expr_faults c u (tree.list at es) = use_faults c u (tree.list at es) ++ exprs_faults c es
  expr_faults c u (tree.rec at ps) = use_faults c u (tree.rec at ps) ++ pairs_faults c ps
  expr_faults c u (tree.new_error at m) = use_faults c u (tree.new_error at m) ++ option_faults c m

  pub option_faults : Scope → OptionExpr → List CheckFault
  option_faults c tree.no_expr = []
  option_faults c (tree.some_expr e) = expr_faults c scope.value e

  pub exprs_faults : Scope → Exprs → List CheckFault
  exprs_faults c tree.no_exprs = []
  exprs_faults c (tree.expr e es) = expr_faults c scope.value e ++ exprs_faults c es

  pub operands_faults : Scope → Operands → List CheckFault
  operands_faults c tree.no_operands = []
  operands_faults c (tree.operand o e os) = expr_faults c scope.value e ++ operands_faults c os

  pub links_faults : Scope → Path → Stage → Links → List CheckFault
  links_faults c p st tree.no_links = stage_faults c p st tree.no_links
  links_faults c p st (tree.field n ls) = stage_faults c p st (tree.field n ls) ++ links_faults c p (after_field st n) ls
  links_faults c p st (tree.index at e ls) =
      stage_faults c p st (tree.index at e ls) ++ expr_faults c scope.value e ++ links_faults c p (after_index st) ls
  links_faults c p st (tree.call at a ls) =
      stage_faults c p st (tree.call at a ls) ++ args_faults c (role_of st) a ++ links_faults c p (after_call c.names st a) ls

  pub args_faults : Scope → Role → Args → List CheckFault
  args_faults c r tree.no_args = []
  args_faults c r (tree.value_arg e rest) = expr_faults c (first_use r) e ++ args_faults c form.plain rest
  args_faults c r (tree.callback at n is rest) =
      when (not (takes_callback r n)) at kind.Form ++ option_bound_faults n ++ doubles [] (declared_in is)
      ++ items_faults (in_callback r c n) is ++ args_faults c form.plain rest

  pub pairs_faults : Scope → Pairs → List CheckFault
  pairs_faults c tree.no_pairs = []
  pairs_faults c (tree.pair n tree.no_expr ps) = name_faults c scope.value n ++ pairs_faults c ps
  pairs_faults c (tree.pair n (tree.some_expr e) ps) = expr_faults c scope.value e ++ pairs_faults c ps

  pub items_faults : Scope → Items → List CheckFault
  items_faults c tree.no_items = []
  items_faults c (tree.declare at b n v is) = bound_faults n ++ option_faults c v ++ items_faults (with_name c (bound_as b) n) is
  items_faults c (tree.statement s is) = stmt_faults (before is c) s ++ items_faults c is

  pub stmt_faults : Scope → Stmt → List CheckFault
  stmt_faults c (tree.block at is) = doubles [] (declared_in is) ++ items_faults (inside c) is
  stmt_faults c (tree.choose at e s o) = expr_faults c scope.value e ++ stmt_faults (inside c) s ++ other_faults (inside c) o
  stmt_faults c (tree.while at e s) = expr_faults c scope.value e ++ stmt_faults (in_loop c) s
  stmt_faults c (tree.for at n first test step s) =
      bound_faults n ++ expr_faults c scope.value first ++ expr_faults (with_name c form.variable n) scope.value test
      ++ simple_faults (inside (with_name c form.variable n)) step ++ stmt_faults (in_loop (with_name c form.variable n)) s
  stmt_faults c (tree.for_of at b n e s) =
      bound_faults n ++ expr_faults c scope.value e ++ stmt_faults (in_loop (with_name c (bound_as b) n)) s
  stmt_faults c (tree.try at is n handler) =
      doubles [] (declared_in is) ++ items_faults (inside c) is ++ option_bound_faults n
      ++ doubles [] (declared_in handler) ++ items_faults (with_option_name (inside c) form.variable n) handler
  stmt_faults c (tree.throw at e) = expr_faults c scope.value e
  stmt_faults c (tree.return at e) = option_faults c e
  stmt_faults c (tree.break at) = when (not c.loop) at kind.LoopExit
  stmt_faults c (tree.continue at) = when (not c.loop) at kind.LoopExit
  stmt_faults c (tree.simple p) = simple_faults c p

  pub other_faults : Scope → OptionStmt → List CheckFault
  other_faults c tree.no_stmt = []
  other_faults c (tree.some_stmt s) = stmt_faults c s

  pub simple_faults : Scope → Simple → List CheckFault
  simple_faults c (tree.run at e) = expr_faults c scope.alone e
  simple_faults c (tree.assign at p e) = expr_faults c scope.written p ++ expr_faults c scope.value e
  simple_faults c (tree.add_assign at p e) = expr_faults c scope.written p ++ expr_faults c scope.value e
  simple_faults c (tree.sub_assign at p e) = expr_faults c scope.written p ++ expr_faults c scope.value e
  simple_faults c (tree.increment at p) = expr_faults c scope.written p
  simple_faults c (tree.decrement at p) = expr_faults c scope.written p

-- What a path begins with, where it is no name and not `this`.
abbrev pub base_faults : Scope → Expr → List CheckFault
base_faults c e = if is_root e then [] else expr_faults c scope.value e

-- The parts of a path's first step.
abbrev pub link_faults : Scope → Stage → Links → List CheckFault
link_faults c st tree.no_links = []
link_faults c st (tree.field n ls) = []
link_faults c st (tree.index at e ls) = expr_faults c scope.value e
link_faults c st (tree.call at a ls) = args_faults c (role_of st) a

-- A callback.
abbrev pub callback_faults : Scope → Role → ℕ → Option Named → Items → List CheckFault
callback_faults c r at n is =
    when (not (takes_callback r n)) at kind.Form ++ option_bound_faults n ++ doubles [] (declared_in is) ++ items_faults (in_callback r c n) is

-- Loops and `try`.
abbrev pub for_parts : Scope → Named → Expr → Expr → Simple → Stmt → List CheckFault
for_parts c n first test step s =
    bound_faults n ++ expr_faults c scope.value first ++ expr_faults (with_name c form.variable n) scope.value test
    ++ simple_faults (inside (with_name c form.variable n)) step ++ stmt_faults (in_loop (with_name c form.variable n)) s

abbrev pub for_of_parts : Scope → Sort → Named → Expr → Stmt → List CheckFault
for_of_parts c sort n e s = bound_faults n ++ expr_faults c scope.value e ++ stmt_faults (in_loop (with_name c sort n)) s

abbrev pub try_parts : Scope → Items → Option Named → Items → List CheckFault
try_parts c is n handler =
    doubles [] (declared_in is) ++ items_faults (inside c) is ++ option_bound_faults n
    ++ doubles [] (declared_in handler) ++ items_faults (with_option_name (inside c) form.variable n) handler

abbrev pub parameter_faults : Method → List CheckFault
parameter_faults m = if is_constructor m.kind then [] else all_bound_faults m.parameters

abbrev pub method_faults : Class → Method → List CheckFault
method_faults class m = doubles [] (m.parameters ++ declared_in m.body) ++ parameter_faults m ++ items_faults (scope_of class m) m.body

abbrev pub methods_faults : Class → List Method → List CheckFault
methods_faults class [] = []
methods_faults class (m ∷ ms) = method_faults class m ++ methods_faults class ms

abbrev pub class_faults : Class → List CheckFault
class_faults class = bound_faults class.name ++ doubles [] (map name_of_method class.methods) ++ methods_faults class class.methods

abbrev pub classes_faults : List Class → List CheckFault
classes_faults [] = []
classes_faults (c ∷ cs) = class_faults c ++ classes_faults cs

abbrev pub script_faults : Script → List CheckFault
script_faults s = doubles [] (map name_of_class s.classes) ++ classes_faults s.classes

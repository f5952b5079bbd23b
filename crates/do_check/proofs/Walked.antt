-- The faults of a list of nodes, node by node.
use Rattle.std.proofs.Common.{◌≡◌, ℕ, zero, suc, ◌+◌, ◌<◌, Bool, List, [], ◌∷◌, ◌++◌, length, map, get_or, take, drop, Option, Some, None, true, false, cond, refl, sym, ap, ◌∙◌, subst, true≢false, append_assoc, add-one, arith}
use Rattle.std.specs.List.{list_any}
use Rattle.std.specs.Prelude.{option_map, codes, ◌==◌, ◌&&◌, ◌||◌}
use Rattle.std.specs.Str.{bytes_eq}
use Rattle.std.proofs.lemmas.Bool.Decides.{nat_tests}
use Rattle.std.proofs.lemmas.List.{append-nil}
use Rattle.std.proofs.lemmas.List.Folds.{list_any-append}
use Rattle.do_check.specs.Parts.{args_faults, base_faults, bound_faults, callback_faults, doubles, expr_faults, exprs_faults, has_text, items_faults, link_faults, links_faults, listed_faults, name_faults, operands_faults, option_bound_faults, option_faults, pairs_faults, root_faults, simple_faults, stage_faults, stmt_faults, use_faults, when}
use Rattle.do_check.specs.Sight.{behind, behind_item, is_empty, with_behind}
use Rattle.do_check.specs.Sorts.{bound_sort, declared_sort, declares, or_else, sort_of}
use Rattle.do_check.specs.declared.fault.CheckFault.{CheckFault}
use Rattle.do_check.specs.declared.sort.Sort.{Sort}
use Rattle.do_tree.specs.Asking.{has_key, is_alone, is_awaited, is_met, may_stand}
use Rattle.do_tree.specs.Forms as form
use Rattle.do_tree.specs.Forms.{Bound, Form, Role, Stage, sort_in}
use Rattle.do_tree.specs.Names.{are_part_steps, declared_in, is_place, is_place_from}
use Rattle.do_tree.specs.Nodes.{args_in, block_in, exprs_in, links_in, operands_in, option_expr_in, pairs_in, simple_of, with_arg, with_link}
use Rattle.do_tree.specs.Scope as scope
use Rattle.do_tree.specs.Scope.{Path, Scope, Use, after_link, root_of}
use Rattle.do_tree.specs.Seen.{expr_of, items_in, stmt_of, named_of, option_named_of, with_item}
use Rattle.do_tree.proofs.Rows.{hidden_args, hidden_exprs, hidden_items, hidden_links, hidden_operands, hidden_option, hidden_pairs, seen_callback}
use Rattle.std.specs.declared.sync.Arc.{Arc}
use Rattle.std.specs.declared.vec.Vec.{Vec}
use Rattle.std.specs.declared.alloc.Global.{Global}
use Rattle.do_tree.specs.declared.expr.Chain.{Chain}
use Rattle.do_tree.specs.declared.expr.Callback.{Callback, out-Callback}
use Rattle.do_tree.specs.declared.expr.Expr.{Expr}
use Rattle.do_tree.specs.declared.expr.Expr.TheVariants as expr
use Rattle.do_tree.specs.declared.expr.Operand.{Operand}
use Rattle.do_tree.specs.declared.expr.Link.TheVariants as a_link
use Rattle.do_tree.specs.declared.script.Name.{Name}
use Rattle.do_tree.specs.declared.stmt.Binding.{Binding}
use Rattle.do_tree.specs.declared.stmt.Binding.TheVariants as bind
use Rattle.do_tree.specs.declared.stmt.Block.{Block}
use Rattle.do_tree.specs.declared.stmt.Item.TheVariants as an_item
use Rattle.do_tree.specs.declared.stmt.Simple.{Simple}
use Rattle.do_tree.specs.declared.stmt.Stmt.{Stmt}
use Rattle.do_tree.specs.declared.stmt.Stmt.TheVariants as a_stmt
use Rattle.do_tree.specs.Tree as tree
use Rattle.do_tree.specs.Tree.{Args, Items, Links, Named, Pairs}
use Rattle.do_tree.specs.declared.expr.Arg.TheBlock as node
use Rattle.do_tree.specs.declared.expr.Arg.{Arg}
use Rattle.do_tree.specs.declared.expr.Arg.TheVariants as an_arg
use Rattle.do_tree.specs.declared.expr.Link.{Link}
use Rattle.do_tree.specs.declared.expr.Pair.{Pair}
use Rattle.do_tree.specs.declared.kind.CheckKind.TheVariants as kind
use Rattle.do_tree.specs.declared.stmt.Item.{Item}

-- The element at a place, and those from there on.
pub drop_next : {A : Type 0} (xs : List A) (i : ℕ) (x : A) → i < length xs → x ≡ get_or xs i x → drop i xs ≡ x ∷ drop (suc i) xs
drop_next [] i x lt e = absurd (omega arith)
drop_next (y ∷ ys) zero x lt e = ap (λ z. z ∷ ys) (sym e)
drop_next (y ∷ ys) (suc i) x lt e = drop_next ys i x (omega arith) e

pub take_next : {A : Type 0} (xs : List A) (i : ℕ) (x : A) → i < length xs → x ≡ get_or xs i x → take (suc i) xs ≡ take i xs ++ x ∷ []
take_next [] i x lt e = absurd (omega arith)
take_next (y ∷ ys) zero x lt e = ap (λ z. z ∷ []) (sym e)
take_next (y ∷ ys) (suc i) x lt e = ap (λ z. y ∷ z) (take_next ys i x (omega arith) e)

pub map_push : {A B : Type 0} (f : A → B) (xs : List A) (x : A) → map f (xs ++ x ∷ []) ≡ map f xs ++ f x ∷ []
map_push f [] x = refl
map_push f (y ∷ ys) x = ap (λ z. f y ∷ z) (map_push f ys x)

-- Names for the second time, from a place on.
pub doubled_next : {A : Type 0} (f : A → Named) (xs : List A) (i : ℕ) (x : A) → i < length xs → x ≡ get_or xs i x
    → doubles (map f (take i xs)) (map f (drop i xs))
    ≡ when (list_any (has_text (f x).text) (map f (take i xs))) (f x).at kind.Doubled ++ doubles (map f (take (suc i) xs)) (map f (drop (suc i) xs))
doubled_next f xs i x lt e =
    ap (λ z. doubles (map f (take i xs)) (map f z)) (drop_next xs i x lt e)
    ∙ ap (λ z. when (list_any (has_text (f x).text) (map f (take i xs))) (f x).at kind.Doubled ++ doubles z (map f (drop (suc i) xs)))
    (sym (ap (map f) (take_next xs i x lt e) ∙ map_push f (take i xs) x))

pub doubles_append : (seen xs ys : List Named) → doubles seen (xs ++ ys) ≡ doubles seen xs ++ doubles (seen ++ xs) ys
doubles_append seen [] ys = ap (λ z. doubles z ys) (sym (append-nil seen))
doubles_append seen (x ∷ xs) ys =
    let here = when (list_any (has_text x.text) seen) x.at kind.Doubled in
    ap (λ z. here ++ z) (doubles_append (seen ++ x ∷ []) xs ys)
    ∙ ap (λ z. here ++ (doubles (seen ++ x ∷ []) xs ++ doubles z ys)) (append_assoc seen (x ∷ []) xs)
    ∙ sym (append_assoc here (doubles (seen ++ x ∷ []) xs) (doubles (seen ++ x ∷ xs) ys))

-- The names that an item and those behind it declare.
pub declared_more : (item : Item) (rest : Items) → declared_in (with_item item rest) ≡ declared_in (with_item item tree.no_items) ++ declared_in rest
declared_more (node.Declare' at b n v) rest = refl
declared_more (node.Stmt' p s) rest = refl

pub declared_push : (items : List Item) (x : Item) → declared_in (items_in (items ++ x ∷ [])) ≡ declared_in (items_in items) ++ declared_in (with_item x tree.no_items)
declared_push [] x = refl
declared_push (y ∷ ys) x =
    declared_more y (items_in (ys ++ x ∷ [])) ∙ ap (λ z. declared_in (with_item y tree.no_items) ++ z) (declared_push ys x)
    ∙ sym (append_assoc (declared_in (with_item y tree.no_items)) _ _) ∙ ap (λ z. z ++ declared_in (with_item x tree.no_items)) (sym (declared_more y (items_in ys)))

pub declared_next : (front : List Named) (items : List Item) (i : ℕ) (x : Item) → i < length items → x ≡ get_or items i x
    → doubles (front ++ declared_in (items_in (take i items))) (declared_in (items_in (drop i items)))
    ≡ doubles (front ++ declared_in (items_in (take i items))) (declared_in (with_item x tree.no_items))
    ++ doubles (front ++ declared_in (items_in (take (suc i) items))) (declared_in (items_in (drop (suc i) items)))
declared_next front items i x lt e =
    let seen = declared_in (items_in (take i items)) in
    let here = declared_in (with_item x tree.no_items) in
    let rest = declared_in (items_in (drop (suc i) items)) in
    ap (λ z. doubles (front ++ seen) (declared_in (items_in z))) (drop_next items i x lt e)
    ∙ ap (doubles (front ++ seen)) (declared_more x (items_in (drop (suc i) items)))
    ∙ doubles_append (front ++ seen) here rest
    ∙ ap (λ z. doubles (front ++ seen) here ++ doubles z rest)
    (append_assoc front seen here ∙ ap (λ z. front ++ z) (sym (ap (λ z. declared_in (items_in z)) (take_next items i x lt e) ∙ declared_push (take i items) x)))

-- Arguments.
pub args_more : (c : Scope) (r : Role) (a : Arg) (rest : Args)
    → args_faults c r (with_arg a rest) ≡ args_faults c r (with_arg a tree.no_args) ++ args_faults c form.plain rest
args_more c r (node.Arg::Value' p e) rest = ap (λ z. z ++ args_faults c form.plain rest) (sym (append-nil _))
args_more c r (node.Callback' p (node.struct-Callback at n q b s body)) rest = ap (λ z. z ++ args_faults c form.plain rest) (sym (append-nil _))

-- Pairs.
pair_more : (c : Scope) (n : Named) (v : tree.OptionExpr) (ps : Pairs) → pairs_faults c (tree.pair n v ps) ≡ pairs_faults c (tree.pair n v tree.no_pairs) ++ pairs_faults c ps
pair_more c n tree.no_expr ps = ap (λ z. z ++ pairs_faults c ps) (sym (append-nil _))
pair_more c n (tree.some_expr e) ps = ap (λ z. z ++ pairs_faults c ps) (sym (append-nil _))

pub pairs_more : (c : Scope) (p : Pair) (rest : List Pair) → pairs_faults c (pairs_in (p ∷ rest)) ≡ pairs_faults c (pairs_in (p ∷ [])) ++ pairs_faults c (pairs_in rest)
pairs_more c p rest = pair_more c (named_of p.key) (option_expr_in p.value) (pairs_in rest)

-- The steps of a path.
link_more : (c : Scope) (p : Path) (st : Stage) (l : Link) (rest : Links)
    → links_faults c p st (with_link l rest)
    ≡ (stage_faults c p st (with_link l rest) ++ link_faults c st (with_link l tree.no_links)) ++ links_faults c p (after_link c.names st (with_link l tree.no_links)) rest
link_more c p st (node.Field n) rest = ap (λ z. z ++ links_faults c p (form.after_field st (named_of n)) rest) (sym (append-nil _))
link_more c p st (node.Index' at q e) rest = refl
link_more c p st (node.Call' at s args) rest = refl

pub links_next : (c : Scope) (p : Path) (st : Stage) (xs : List Link) (i : ℕ) (x : Link) → i < length xs → x ≡ get_or xs i x
    → links_faults c p st (links_in (drop i xs))
    ≡ (stage_faults c p st (links_in (drop i xs)) ++ link_faults c st (with_link x tree.no_links))
    ++ links_faults c p (after_link c.names st (with_link x tree.no_links)) (links_in (drop (suc i) xs))
links_next c p st xs i x lt e =
    let next = drop_next xs i x lt e in
    ap (λ z. links_faults c p st (links_in z)) next ∙ link_more c p st x (links_in (drop (suc i) xs))
    ∙ ap (λ z. (stage_faults c p st (links_in z) ++ link_faults c st (with_link x tree.no_links))
    ++ links_faults c p (after_link c.names st (with_link x tree.no_links)) (links_in (drop (suc i) xs))) (sym next)

-- The names in sight behind one more item.
behind_push : (items : List Item) (x : Item) (ns : List Bound) → behind (items ++ x ∷ []) ns ≡ behind_item x (behind items ns)
behind_push [] x ns = refl
behind_push (y ∷ ys) x ns = behind_push ys x (behind_item y ns)

pub behind_next : (items : List Item) (i : ℕ) (x : Item) (ns : List Bound) → i < length items → x ≡ get_or items i x
    → behind (take (suc i) items) ns ≡ behind_item x (behind (take i items) ns)
behind_next items i x ns lt e = ap (λ z. behind z ns) (take_next items i x lt e) ∙ behind_push (take i items) x ns

-- A name among those behind some items.
pub or_else_none : {A : Type 0} (o : Option A) → or_else o None ≡ o
or_else_none None = refl
or_else_none (Some x) = refl

pub or_else_assoc : {A : Type 0} (o p q : Option A) → or_else (or_else o p) q ≡ or_else o (or_else p q)
or_else_assoc None p q = refl
or_else_assoc (Some x) p q = refl

sort_step : (later : Option Sort) (b : Bool) (x : Sort) (outer : Option form.Sort)
    → or_else (option_map sort_of later) (cond b (Some (sort_of x)) outer) ≡ or_else (option_map sort_of (or_else later (cond b (Some x) None))) outer
sort_step (Some y) b x outer = refl
sort_step None true x outer = refl
sort_step None false x outer = refl

sort_declared : (items : List Item) (text : List ℕ) (ns : List Bound)
    → sort_in (behind items ns) text ≡ or_else (option_map sort_of (declared_sort items text)) (sort_in ns text)
sort_declared [] text ns = refl
sort_declared (node.Declare' at b n v ∷ rest) text ns =
    sort_declared rest text (record { name = (named_of n).text; sort = sort_of (bound_sort b) } ∷ ns)
    ∙ sort_step (declared_sort rest text) (bytes_eq (named_of n).text text) (bound_sort b) (sort_in ns text)
sort_declared (node.Stmt' p s ∷ rest) text ns =
    sort_declared rest text ns ∙ ap (λ o. or_else (option_map sort_of o) (sort_in ns text)) (sym (or_else_none (declared_sort rest text)))

-- A name that the items declare, and one that they don't.
pub behind_found : (items : List Item) (text : List ℕ) (ns : List Bound) (s : Sort) → declared_sort items text ≡ Some s
    → sort_in (behind items ns) text ≡ Some (sort_of s)
behind_found items text ns s e = sort_declared items text ns ∙ ap (λ o. or_else (option_map sort_of o) (sort_in ns text)) e

pub behind_missing : (items : List Item) (text : List ℕ) (ns : List Bound) → declared_sort items text ≡ None
    → sort_in (behind items ns) text ≡ sort_in ns text
behind_missing items text ns e = sort_declared items text ns ∙ ap (λ o. or_else (option_map sort_of o) (sort_in ns text)) e

-- Expressions whose parts stand in lists.
module _ (c : Scope) (u : Use) where
  pub lazy_faults : (at : ℕ) (k : Chain) (first : Arc Expr Global) (rest : Vec (Arc Expr Global) Global) (x : Expr) → x ≡ expr.Lazy at k first rest
      → expr_faults c u (expr_of x) ≡ (use_faults c u (expr_of x) ++ expr_faults c scope.value (expr_of first.value)) ++ exprs_faults c (exprs_in rest.items)
  lazy_faults at k first rest x e =
      subst (λ y. expr_faults c u (expr_of y) ≡ (use_faults c u (expr_of y) ++ expr_faults c scope.value (expr_of first.value)) ++ exprs_faults c (exprs_in rest.items)) (sym e)
      (ap (λ z. (use_faults c u (expr_of (expr.Lazy at k first rest)) ++ expr_faults c scope.value (expr_of first.value)) ++ exprs_faults c z) (hidden_exprs rest))

  pub strict_faults : (at : ℕ) (first : Arc Expr Global) (rest : Vec Operand Global) (x : Expr) → x ≡ expr.Strict at first rest
      → expr_faults c u (expr_of x) ≡ (use_faults c u (expr_of x) ++ expr_faults c scope.value (expr_of first.value)) ++ operands_faults c (operands_in rest.items)
  strict_faults at first rest x e =
      subst (λ y. expr_faults c u (expr_of y) ≡ (use_faults c u (expr_of y) ++ expr_faults c scope.value (expr_of first.value)) ++ operands_faults c (operands_in rest.items)) (sym e)
      (ap (λ z. (use_faults c u (expr_of (expr.Strict at first rest)) ++ expr_faults c scope.value (expr_of first.value)) ++ operands_faults c z) (hidden_operands rest))

  pub path_faults : (at : ℕ) (b : Arc Expr Global) (links : Vec Link Global) (x : Expr) → x ≡ expr.Path at b links
      → expr_faults c u (expr_of x)
      ≡ ((use_faults c u (expr_of x) ++ root_faults c (root_of (expr_of b.value)) (links_in links.items)) ++ base_faults c (expr_of b.value))
      ++ links_faults c (record { at = at; root = root_of (expr_of b.value); serves = u }) (form.start c.names (expr_of b.value)) (links_in links.items)
  path_faults at b links x e =
      subst (λ y. expr_faults c u (expr_of y)
      ≡ ((use_faults c u (expr_of y) ++ root_faults c (root_of (expr_of b.value)) (links_in links.items)) ++ base_faults c (expr_of b.value))
      ++ links_faults c (record { at = at; root = root_of (expr_of b.value); serves = u }) (form.start c.names (expr_of b.value)) (links_in links.items)) (sym e)
      (ap (λ z. ((use_faults c u (expr_of (expr.Path at b links)) ++ root_faults c (root_of (expr_of b.value)) z) ++ base_faults c (expr_of b.value))
      ++ links_faults c (record { at = at; root = root_of (expr_of b.value); serves = u }) (form.start c.names (expr_of b.value)) z) (hidden_links links))

  pub list_faults : (at : ℕ) (items : Vec (Arc Expr Global) Global) (x : Expr) → x ≡ expr.List at items
      → expr_faults c u (expr_of x) ≡ use_faults c u (expr_of x) ++ exprs_faults c (exprs_in items.items)
  list_faults at items x e =
      subst (λ y. expr_faults c u (expr_of y) ≡ use_faults c u (expr_of y) ++ exprs_faults c (exprs_in items.items)) (sym e)
      (ap (λ z. use_faults c u (expr_of (expr.List at items)) ++ exprs_faults c z) (hidden_exprs items))

  pub record_faults : (at : ℕ) (pairs : Vec Pair Global) (x : Expr) → x ≡ expr.Record at pairs
      → expr_faults c u (expr_of x) ≡ use_faults c u (expr_of x) ++ pairs_faults c (pairs_in pairs.items)
  record_faults at pairs x e =
      subst (λ y. expr_faults c u (expr_of y) ≡ use_faults c u (expr_of y) ++ pairs_faults c (pairs_in pairs.items)) (sym e)
      (ap (λ z. use_faults c u (expr_of (expr.Record at pairs)) ++ pairs_faults c z) (hidden_pairs pairs))

  pub error_faults : (at : ℕ) (m : Option (Arc Expr Global)) (x : Expr) → x ≡ expr.NewError at m
      → expr_faults c u (expr_of x) ≡ use_faults c u (expr_of x) ++ option_faults c (option_expr_in m)
  error_faults at m x e =
      subst (λ y. expr_faults c u (expr_of y) ≡ use_faults c u (expr_of y) ++ option_faults c (option_expr_in m)) (sym e)
      (ap (λ z. use_faults c u (expr_of (expr.NewError at m)) ++ option_faults c z) (hidden_option m))

-- A callback as an argument.
pub callback_arg : (c : Scope) (r : Role) (cb : Callback) (p : _)
    → args_faults c r (with_arg (node.Callback' p cb) tree.no_args)
    ≡ callback_faults c r (out-Callback cb).at (option_named_of (out-Callback cb).parameter) (block_in (out-Callback cb).body.value)
callback_arg c r cb p = ap (args_faults c r) (seen_callback cb p tree.no_args) ∙ append-nil _

-- Statements and items whose parts stand in lists.
pub block_faults : (c : Scope) (b : Arc Block Global) (x : Stmt) → x ≡ a_stmt.Block b
    → stmt_faults c (stmt_of x) ≡ doubles [] (declared_in (block_in b.value)) ++ items_faults (scope.inside c) (block_in b.value)
block_faults c b x e =
    ap (λ y. stmt_faults c (stmt_of y)) e ∙ ap (λ z. doubles [] (declared_in z) ++ items_faults (scope.inside c) z) (hidden_items b.value.items)

pub try_faults : (c : Scope) (at : ℕ) (body : Arc Block Global) (n : Option Name) (handler : Arc Block Global) (x : Stmt) → x ≡ a_stmt.Try at body n handler
    → stmt_faults c (stmt_of x)
    ≡ (((doubles [] (declared_in (block_in body.value)) ++ items_faults (scope.inside c) (block_in body.value)) ++ option_bound_faults (option_named_of n))
    ++ doubles [] (declared_in (block_in handler.value))) ++ items_faults (scope.with_option_name (scope.inside c) form.variable (option_named_of n)) (block_in handler.value)
try_faults c at body n handler x e =
    let p = hidden_items body.value.items in
    let q = hidden_items handler.value.items in
    ap (λ y. stmt_faults c (stmt_of y)) e
    ∙ (λ i. (((doubles [] (declared_in (p i)) ++ items_faults (scope.inside c) (p i)) ++ option_bound_faults (option_named_of n))
    ++ doubles [] (declared_in (q i))) ++ items_faults (scope.with_option_name (scope.inside c) form.variable (option_named_of n)) (q i))

pub return_faults : (c : Scope) (at : ℕ) (v : Option (Arc Expr Global)) (x : Stmt) → x ≡ a_stmt.Return at v
    → stmt_faults c (stmt_of x) ≡ option_faults c (option_expr_in v)
return_faults c at v x e = ap (λ y. stmt_faults c (stmt_of y)) e ∙ ap (option_faults c) (hidden_option v)

pub call_faults : (c : Scope) (st : Stage) (at : ℕ) (args : Vec Arg Global) (x : Link) → x ≡ a_link.Call at args
    → link_faults c st (with_link x tree.no_links) ≡ args_faults c (form.role_of st) (args_in args.items)
call_faults c st at args x e = ap (λ y. link_faults c st (with_link y tree.no_links)) e ∙ ap (args_faults c (form.role_of st)) (hidden_args args)

pub call_stage : (names : List Bound) (st : Stage) (at : ℕ) (args : Vec Arg Global) (x : Link) → x ≡ a_link.Call at args
    → after_link names st (with_link x tree.no_links) ≡ form.after_call names st (args_in args.items)
call_stage names st at args x e = ap (λ y. after_link names st (with_link y tree.no_links)) e ∙ ap (form.after_call names st) (hidden_args args)

same_sort : (c : Scope) (b : Binding) (n : Name) (v : Option (Arc Expr Global)) (rest : Items)
    → (bound_faults (named_of n) ++ option_faults c (option_expr_in v)) ++ items_faults (scope.with_name c (scope.bound_as b) (named_of n)) rest
    ≡ (bound_faults (named_of n) ++ option_faults c (option_expr_in v)) ++ items_faults (scope.with_name c (sort_of (bound_sort b)) (named_of n)) rest
same_sort c bind.Let n v rest = refl
same_sort c bind.Const n v rest = refl

pub declare_faults : (c : Scope) (at : ℕ) (b : Binding) (n : Name) (v : Option (Arc Expr Global)) (x : Item) (rest : Items) → x ≡ an_item.Declare at b n v
    → items_faults c (with_item x rest) ≡ (bound_faults (named_of n) ++ option_faults c (option_expr_in v)) ++ items_faults (with_behind x c) rest
declare_faults c at b n v x rest e =
    subst (λ y. items_faults c (with_item y rest) ≡ (bound_faults (named_of n) ++ option_faults c (option_expr_in v)) ++ items_faults (with_behind y c) rest) (sym e)
    (ap (λ z. (bound_faults (named_of n) ++ option_faults c z) ++ items_faults (scope.with_name c (scope.bound_as b) (named_of n)) rest) (hidden_option v)
    ∙ same_sort c b n v rest)

last_before : (rest : Items) (c : Scope) → true ≡ is_empty rest → scope.before rest c ≡ c
last_before tree.no_items c h = refl
last_before (tree.declare at b n v is) c h = absurd (true≢false h)
last_before (tree.statement s is) c h = absurd (true≢false h)

not_last_before : (rest : Items) (c : Scope) → false ≡ is_empty rest → scope.before rest c ≡ scope.inside c
not_last_before tree.no_items c h = absurd (true≢false (sym h))
not_last_before (tree.declare at b n v is) c h = refl
not_last_before (tree.statement s is) c h = refl

pub last_faults : (c : Scope) (s : Arc Stmt Global) (x : Item) (rest : Items) (b : Bool) → x ≡ an_item.Stmt s → b ≡ is_empty rest → b ≡ true
    → items_faults c (with_item x rest) ≡ stmt_faults c (stmt_of s.value) ++ items_faults (with_behind x c) rest
last_faults c s x rest b e h k =
    subst (λ y. items_faults c (with_item y rest) ≡ stmt_faults c (stmt_of s.value) ++ items_faults (with_behind y c) rest) (sym e)
    (ap (λ d. stmt_faults d (stmt_of s.value) ++ items_faults c rest) (last_before rest c (sym k ∙ h)))

pub inner_faults : (c : Scope) (s : Arc Stmt Global) (x : Item) (rest : Items) (b : Bool) → x ≡ an_item.Stmt s → b ≡ is_empty rest → b ≡ false
    → items_faults c (with_item x rest) ≡ stmt_faults (scope.inside c) (stmt_of s.value) ++ items_faults (with_behind x c) rest
inner_faults c s x rest b e h k =
    subst (λ y. items_faults c (with_item y rest) ≡ stmt_faults (scope.inside c) (stmt_of s.value) ++ items_faults (with_behind y c) rest) (sym e)
    (ap (λ d. stmt_faults d (stmt_of s.value) ++ items_faults c rest) (not_last_before rest c (sym k ∙ h)))

-- A call ends the steps to a part, and no other step does.
pub call_stops : (l : Link) (rest : Links) → form.is_call_first (with_link l rest) ≡ true → are_part_steps (with_link l rest) ≡ false
call_stops (node.Field n) rest h = absurd (true≢false (sym h))
call_stops (node.Index' at p e) rest h = absurd (true≢false (sym h))
call_stops (node.Call' at s args) rest h = refl

pub step_passes : (l : Link) (rest : Links) → form.is_call_first (with_link l rest) ≡ false → are_part_steps (with_link l rest) ≡ are_part_steps rest
step_passes (node.Field n) rest h = refl
step_passes (node.Index' at p e) rest h = refl
step_passes (node.Call' at s args) rest h = absurd (true≢false h)

not_zero : (n : ℕ) → 0 < n → (n == 0) ≡ false
not_zero n h = grind (arith, nat_tests)

-- Steps, by the list that they stand in.
pub ends_empty : (xs : List Link) → form.ends (links_in xs) ≡ (length xs == 0)
ends_empty [] = refl
ends_empty (node.Field n ∷ xs) = sym (not_zero (length (node.Field n ∷ xs)) (omega arith))
ends_empty (node.Index' at p e ∷ xs) = sym (not_zero (length (node.Index' at p e ∷ xs)) (omega arith))
ends_empty (node.Call' at s args ∷ xs) = sym (not_zero (length (node.Call' at s args ∷ xs)) (omega arith))

pub place_path : (at : ℕ) (b : Arc Expr Global) (links : Vec Link Global) (x : Expr) → x ≡ expr.Path at b links
    → is_place (expr_of x) ≡ is_place_from (expr_of b.value) (links_in links.items)
place_path at b links x e = ap (λ y. is_place (expr_of y)) e ∙ ap (is_place_from (expr_of b.value)) (hidden_links links)

pub identified_path : (names : List Bound) (at : ℕ) (b : Arc Expr Global) (links : Vec Link Global) (x : Expr) → x ≡ expr.Path at b links
    → form.identified_class names (expr_of x) ≡ form.identified_from (form.start names (expr_of b.value)) (links_in links.items)
identified_path names at b links x e =
    ap (λ y. form.identified_class names (expr_of y)) e ∙ ap (form.identified_from (form.start names (expr_of b.value))) (hidden_links links)

-- A name among those of an item and those behind it.
pub declared_any : (text : List ℕ) (item : Item) (rest : Items)
    → list_any (has_text text) (declared_in (with_item item rest)) ≡ (list_any (has_text text) (declared_in (with_item item tree.no_items)) || list_any (has_text text) (declared_in rest))
declared_any text item rest = ap (list_any (has_text text)) (declared_more item rest) ∙ list_any-append (has_text text) (declared_in (with_item item tree.no_items)) (declared_in rest)

-- A call that ends its path, and one that steps follow.
pub met_here : (c : Scope) (p : Path) (f : Form) (ls : Links) → form.ends ls ≡ true → is_met c p f ls ≡ (is_awaited p.serves || (is_alone p.serves && may_stand c f))
met_here c p f tree.no_links h = refl
met_here c p f (tree.field n ls) h = absurd (true≢false (sym h))
met_here c p f (tree.index at e ls) h = absurd (true≢false (sym h))
met_here c p f (tree.call at a ls) h = absurd (true≢false (sym h))

pub met_behind : (c : Scope) (p : Path) (f : Form) (ls : Links) → form.ends ls ≡ false → is_met c p f ls ≡ false
met_behind c p f tree.no_links h = absurd (true≢false h)
met_behind c p f (tree.field n ls) h = refl
met_behind c p f (tree.index at e ls) h = refl
met_behind c p f (tree.call at a ls) h = refl

-- Options that are a record literal.
pub options_faults : (at : ℕ) (pairs : Vec Pair Global) (x : Expr) (rest : Args) → x ≡ expr.Record at pairs
    → listed_faults (tree.value_arg (expr_of x) rest)
    ≡ when (has_key (pairs_in pairs.items) (codes "start") && has_key (pairs_in pairs.items) (codes "startAfter")) at kind.StartTwice
options_faults at pairs x rest e =
    ap (λ y. listed_faults (tree.value_arg (expr_of y) rest)) e
    ∙ ap (λ z. when (has_key z (codes "start") && has_key z (codes "startAfter")) at kind.StartTwice) (hidden_pairs pairs)

empty_items : (items : List Item) → is_empty (items_in items) ≡ (length items == 0)
empty_items [] = refl
empty_items (node.Declare' at b n v ∷ rest) = sym (not_zero (length (node.Declare' at b n v ∷ rest)) (omega arith))
empty_items (node.Stmt' p s ∷ rest) = sym (not_zero (length (node.Stmt' p s ∷ rest)) (omega arith))

-- The same with the next place as the code has it.
pub doubled_at : {A : Type 0} (f : A → Named) (xs : List A) (i : ℕ) (x : A) → i < length xs → x ≡ get_or xs i x
    → doubles (map f (take i xs)) (map f (drop i xs))
    ≡ when (list_any (has_text (f x).text) (map f (take i xs))) (f x).at kind.Doubled ++ doubles (map f (take (i + 1) xs)) (map f (drop (i + 1) xs))
doubled_at f xs i x lt e = rw add-one (doubled_next f xs i x lt e)

pub declared_at : (front : List Named) (items : List Item) (i : ℕ) (x : Item) → i < length items → x ≡ get_or items i x
    → doubles (front ++ declared_in (items_in (take i items))) (declared_in (items_in (drop i items)))
    ≡ doubles (front ++ declared_in (items_in (take i items))) (declared_in (with_item x tree.no_items))
    ++ doubles (front ++ declared_in (items_in (take (i + 1) items))) (declared_in (items_in (drop (i + 1) items)))
declared_at front items i x lt e = rw add-one (declared_next front items i x lt e)

pub links_at : (c : Scope) (p : Path) (st : Stage) (xs : List Link) (i : ℕ) (x : Link) → i < length xs → x ≡ get_or xs i x
    → links_faults c p st (links_in (drop i xs))
    ≡ (stage_faults c p st (links_in (drop i xs)) ++ link_faults c st (with_link x tree.no_links))
    ++ links_faults c p (after_link c.names st (with_link x tree.no_links)) (links_in (drop (i + 1) xs))
links_at c p st xs i x lt e = rw add-one (links_next c p st xs i x lt e)

pub behind_at : (items : List Item) (i : ℕ) (x : Item) (ns : List Bound) → i < length items → x ≡ get_or items i x
    → behind (take (i + 1) items) ns ≡ behind_item x (behind (take i items) ns)
behind_at items i x ns lt e = rw add-one (behind_next items i x ns lt e)

pub drop_at : {A : Type 0} (xs : List A) (i : ℕ) (x : A) → i < length xs → x ≡ get_or xs i x → drop i xs ≡ x ∷ drop (i + 1) xs
drop_at xs i x lt e = rw add-one (drop_next xs i x lt e)

-- The last item has nothing behind it.
pub last_empty : (items : List Item) (i : ℕ) → is_empty (items_in (drop (i + 1) items)) ≡ (length (drop (i + 1) items) == 0)
last_empty items i = empty_items (drop (i + 1) items)

pub arg_faults : (c : Scope) (r : Role) (a : Arc Callback Global) (x : Arg) → x ≡ an_arg.Callback a
    → args_faults c r (with_arg x tree.no_args)
    ≡ callback_faults c r (out-Callback a.value).at (option_named_of (out-Callback a.value).parameter) (block_in (out-Callback a.value).body.value)
arg_faults c r a x e = ap (λ y. args_faults c r (with_arg y tree.no_args)) e ∙ callback_arg c r a.value (record { ptr = a.ptr; value = tt })

pub seen_call : (at : ℕ) (args : Vec Arg Global) (x : Link) (rest : Links) → x ≡ a_link.Call at args → with_link x rest ≡ tree.call at (args_in args.items) rest
seen_call at args x rest e = ap (λ y. with_link y rest) e ∙ ap (λ z. tree.call at z rest) (hidden_args args)

pub pair_some : (c : Scope) (p : Pair) (e : Arc Expr Global) → p.value ≡ Some e → pairs_faults c (pairs_in (p ∷ [])) ≡ expr_faults c scope.value (expr_of e.value)
pair_some c p e h = ap (λ v. pairs_faults c (tree.pair (named_of p.key) (option_expr_in v) tree.no_pairs)) h ∙ append-nil (expr_faults c scope.value (expr_of e.value))

pub pair_none : (c : Scope) (p : Pair) → p.value ≡ None → pairs_faults c (pairs_in (p ∷ [])) ≡ name_faults c scope.value (named_of p.key)
pair_none c p h = ap (λ v. pairs_faults c (tree.pair (named_of p.key) (option_expr_in v) tree.no_pairs)) h ∙ append-nil (name_faults c scope.value (named_of p.key))

pub for_of_faults : (c : Scope) (at : ℕ) (b : Binding) (n : Name) (l : Arc Expr Global) (body : Arc Stmt Global) (x : Stmt) → x ≡ a_stmt.ForOf at b n l body
    → stmt_faults c (stmt_of x)
    ≡ (bound_faults (named_of n) ++ expr_faults c scope.value (expr_of l.value)) ++ stmt_faults (scope.in_loop (scope.with_name c (sort_of (bound_sort b)) (named_of n))) (stmt_of body.value)
for_of_faults c at bind.Let n l body x e = ap (λ y. stmt_faults c (stmt_of y)) e
for_of_faults c at bind.Const n l body x e = ap (λ y. stmt_faults c (stmt_of y)) e

pub for_faults : (c : Scope) (at : ℕ) (n : Name) (first test : Arc Expr Global) (step : Arc Simple Global) (body : Arc Stmt Global) (x : Stmt) → x ≡ a_stmt.For at n first test step body
    → stmt_faults c (stmt_of x)
    ≡ (((bound_faults (named_of n) ++ expr_faults c scope.value (expr_of first.value)) ++ expr_faults (scope.with_name c form.variable (named_of n)) scope.value (expr_of test.value))
    ++ simple_faults (scope.inside (scope.with_name c form.variable (named_of n))) (simple_of step.value))
    ++ stmt_faults (scope.in_loop (scope.with_name c form.variable (named_of n))) (stmt_of body.value)
for_faults c at n first test step body x e = ap (λ y. stmt_faults c (stmt_of y)) e

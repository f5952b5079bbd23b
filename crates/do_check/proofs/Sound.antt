-- Each fault that the walk finds is a fault of the script.
use Rattle.std.proofs.Common.{◌≡◌, ℕ, zero, suc, ◌<◌, Bool, true, false, List, [], ◌∷◌, ◌++◌, ◌⊎◌, inl, inr, length, map, cond, Option, Some, None, refl, sym, ap, ◌∙◌, subst, true≢false, append_assoc, arith}
use Rattle.std.specs.Prelude.{Contains, codes, is_none, not, ◌≢◌, ◌&&◌, ◌||◌}
use Rattle.std.specs.List.{list_any}
use Rattle.std.proofs.lemmas.Slice.Eq.{bytes_eq-Decides}
use Rattle.do_check.proofs.Has.{Each, both, more, no_more}
use Rattle.do_check.specs.Parts.{all_bound_faults, args_faults, bound_faults, called_faults, calling_faults, class_faults, classes_faults, constant_faults, doubles, end_faults, expr_faults, exprs_faults, has_text, idle_faults, is_block, is_constant, is_itself, items_faults, links_faults, listed_faults, member_faults, method_faults, methods_faults, name_faults, operands_faults, option_bound_faults, option_faults, other_faults, pairs_faults, parameter_faults, path_of_name, root_faults, script_faults, simple_faults, stage_faults, step_faults, stmt_faults, use_faults, when, written_faults}
use Rattle.do_check.specs.declared.fault.CheckFault.{CheckFault}
use Rattle.do_tree.specs.Asking as asking
use Rattle.do_tree.specs.Asking.{is_awaitable, is_written, lists_from}
use Rattle.do_tree.specs.Faults.{IsFault}
use Rattle.do_tree.specs.Forms as form
use Rattle.do_tree.specs.Forms.{Form, Role, Sort, Stage, ends, sort_in, start}
use Rattle.do_tree.specs.Lookup.{is_constructor}
use Rattle.do_tree.specs.Names as names
use Rattle.do_tree.specs.Names.{AreTogether, IsBound, IsConstAssigned, declared_in, is_place, name_of, name_of_class, name_of_method}
use Rattle.do_tree.specs.Scope as stands
use Rattle.do_tree.specs.Scope.{ArgsIn, ExprIn, ExprsIn, ItemsIn, LinksIn, OperandsIn, PairsIn, Path, PathIn, Scope, SimpleIn, StmtIn, Use, bound_as, is_root, root_of, scope_of, with_name}
use Rattle.do_tree.specs.Tree as tree
use Rattle.do_tree.specs.Tree.{Args, Class, Expr, Exprs, Items, Links, Method, Named, Operands, OptionExpr, OptionStmt, Pairs, Script, Simple, Stmt}
use Rattle.do_tree.specs.declared.kind.CheckKind.{CheckKind}
use Rattle.do_tree.specs.declared.kind.CheckKind.TheVariants as kind
use Rattle.do_tree.specs.declared.script.MethodKind.{MethodKind}
use Rattle.do_tree.specs.declared.script.MethodKind.TheVariants as method

-- A fault of the script.
abbrev pub Real : Script → CheckFault → Type 0
Real s f = IsFault s f.place f.kind

each_when : {P : CheckFault → Type 0} (b : Bool) (at : ℕ) (k : CheckKind) → (b ≡ true → P (record { place = at; kind = k })) → Each P (when b at k)
each_when true at k h = more (h refl) no_more
each_when false at k h = no_more

each_cond : {P : CheckFault → Type 0} (b : Bool) (xs ys : List CheckFault) → (b ≡ true → Each P xs) → (b ≡ false → Each P ys) → Each P (cond b xs ys)
each_cond true xs ys h k = h refl
each_cond false xs ys h k = k refl

not_true : (b : Bool) → not b ≡ true → b ≡ false
not_true true h = sym h
not_true false h = refl

pub and_both : (a b : Bool) → (a && b) ≡ true → (a ≡ true) × (b ≡ true)
and_both true b h = (refl, h)
and_both false b h = absurd (true≢false (sym h))

pub or_cases : (a b : Bool) → (a || b) ≡ true → (a ≡ true) ⊎ (b ≡ true)
or_cases true b h = inl refl
or_cases false b h = inr h

-- Some element passes the test.
any_found : {A : Type 0} (test : A → Bool) (xs : List A) → list_any test xs ≡ true → (x : A) × Contains xs x × (test x ≡ true)
any_found test [] h = absurd (true≢false (sym h))
any_found test (y ∷ ys) h = elim (or_cases (test y) (list_any test ys) h) [
  | inl e ↦ (y, (0, omega arith, refl), e)
  | inr e ↦ let r = any_found test ys e in (r.0, (suc r.1.0, omega (arith, r.1.1), r.1.2), r.2)
]

is_none_is : {A : Type 0} (o : Option A) → is_none o ≡ true → o ≡ None
is_none_is None h = refl
is_none_is (Some x) h = absurd (true≢false (sym h))

constant_is : (o : Option Sort) → is_constant o ≡ true → o ≡ Some form.constant
constant_is (Some form.constant) h = refl
constant_is (Some form.variable) h = absurd (true≢false (sym h))
constant_is (Some form.transacting) h = absurd (true≢false (sym h))
constant_is (Some form.given_ctx) h = absurd (true≢false (sym h))
constant_is (Some form.given_env) h = absurd (true≢false (sym h))
constant_is None h = absurd (true≢false (sym h))

written_is : (u : Use) → is_written u ≡ true → u ≡ stands.written
written_is stands.written h = refl
written_is stands.value h = absurd (true≢false (sym h))
written_is (stands.awaited at) h = absurd (true≢false (sym h))
written_is stands.alone h = absurd (true≢false (sym h))
written_is stands.identifier h = absurd (true≢false (sym h))

itself_is : (st : Stage) → is_itself st ≡ true → st ≡ form.itself
itself_is form.itself h = refl
itself_is _ h = absurd (true≢false (sym h))

block_is : (f : Form) → is_block f ≡ true → f ≡ form.blocks
block_is form.blocks h = refl
block_is _ h = absurd (true≢false (sym h))

ends_is : (ls : Links) → ends ls ≡ true → ls ≡ tree.no_links
ends_is tree.no_links h = refl
ends_is (tree.field n ls) h = absurd (true≢false (sym h))
ends_is (tree.index at e ls) h = absurd (true≢false (sym h))
ends_is (tree.call at a ls) h = absurd (true≢false (sym h))

not_constructor : (k : MethodKind) → is_constructor k ≡ false → k ≡ method.Constructor → ⊥
not_constructor k h e = true≢false (sym (ap is_constructor e) ∙ h)

module _ (s : Script) where
  bound_sound : (n : Named) → IsBound s n → Each (Real s) (bound_faults n)
  bound_sound n b = each_when _ _ _ (λ r. names.binds b r)

  option_bound_sound : (o : Option Named) → ((n : Named) → o ≡ Some n → IsBound s n) → Each (Real s) (option_bound_faults o)
  option_bound_sound None b = no_more
  option_bound_sound (Some n) b = bound_sound n (b n refl)

  doubles_sound : (seen ns : List Named) → AreTogether s (seen ++ ns) → Each (Real s) (doubles seen ns)
  doubles_sound seen [] t = no_more
  doubles_sound seen (n ∷ ns) t = both
      (each_when _ _ _ (λ h.
      let r = any_found (has_text n.text) seen h in
      record { front = seen; second = n; back = ns; together = t; first = r.0; is_earlier = r.1; same = (bytes_eq-Decides r.0.text n.text).0 r.2; at_is = refl }))
      (doubles_sound (seen ++ n ∷ []) ns (subst (AreTogether s) (sym (append_assoc seen (n ∷ []) ns)) t))

  constant_sound : (c : Scope) (o : Option Named) → ((n : Named) → o ≡ Some n → sort_in c.names n.text ≡ Some form.constant → IsConstAssigned s n.at)
      → Each (Real s) (constant_faults c o)
  constant_sound c None make = no_more
  constant_sound c (Some n) make = each_when _ _ _ (λ t. make n refl (constant_is _ t))

  use_sound : (c : Scope) (u : Use) (e : Expr) → ExprIn s c u e → Each (Real s) (use_faults c u e)
  use_sound c stands.written e i = each_cond (is_place e) _ _
      (λ yes. constant_sound c (name_of e) (λ n nm k. names.assigned i yes nm k))
      (λ np. more (record { scope = c; left = e; is_written = i; no_place = np; at_is = refl }) no_more)
  use_sound c (stands.awaited at) e i = each_when _ _ _ (λ t. asking.idle_other i (not_true _ t))
  use_sound c stands.value e i = no_more
  use_sound c stands.alone e i = no_more
  use_sound c stands.identifier e i = no_more

  root_of_path : {c : Scope} {p : Path} {st : Stage} {ls : Links} (o : Option Named) → PathIn s c p st ls → p.root ≡ o → Each (Real s) (root_faults c o ls)
  root_of_path None i e = no_more
  root_of_path {c} {p} {st} {ls} (Some n) i e = each_when _ _ _ (λ t.
      let h = and_both _ _ t in
      record { scope = c; path = p; stage = st; steps = ls; name = n; begins = i; is_name = e; not_in_sight = is_none_is _ h.0; no_word = not_true _ h.1; at_is = refl })

  root_sound : {c : Scope} {p : Path} {st : Stage} {ls : Links} → PathIn s c p st ls → Each (Real s) (root_faults c p.root ls)
  root_sound {p = p} i = root_of_path p.root i refl

  member_sound : {c : Scope} {p : Path} {ls : Links} (f : Form) → LinksIn s c p (form.called f) ls → Each (Real s) (member_faults c.class f)
  member_sound {c} {p} {ls} (form.helps n) i = each_when _ _ _ (λ t.
      record { scope = c; path = p; name = n; steps = ls; is = i; absent = not_true _ t; at_is = refl })
  member_sound _ i = no_more

  called_sound : {c : Scope} {p : Path} {ls : Links} (st : Stage) → LinksIn s c p st ls → Each (Real s) (called_faults c p st ls)
  called_sound {c} {p} {ls} (form.called f) i = both (both (both
      (member_sound f i)
      (each_when _ _ _ (λ t. let h = and_both _ _ t in
      record { scope = c; path = p; call = f; steps = ls; is = i; waits = h.0; not_met = not_true _ h.1; at_is = refl })))
      (each_when _ _ _ (λ t. let h = and_both _ _ t in
      record { scope = c; path = p; call = f; steps = ls; is = i; transaction = h.0; leaves = h.1; at_is = refl })))
      (each_when _ _ _ (λ t. let h = and_both _ _ t in
      record { scope = c; path = p; steps = ls; is = subst (λ g. LinksIn s c p (form.called g) ls) (block_is f h.1) i; block = h.0; at_is = refl }))
  called_sound _ i = no_more

  idle_sound : {c : Scope} {p : Path} {st : Stage} (u : Use) → LinksIn s c p st tree.no_links → p.serves ≡ u → Each (Real s) (idle_faults c u st)
  idle_sound (stands.awaited at) i e = each_when _ _ _ (λ t. asking.idle_path i e (not_true _ t))
  idle_sound stands.value i e = no_more
  idle_sound stands.alone i e = no_more
  idle_sound stands.written i e = no_more
  idle_sound stands.identifier i e = no_more

  end_sound : {c : Scope} {p : Path} {st : Stage} → LinksIn s c p st tree.no_links → Each (Real s) (end_faults c p st)
  end_sound {c} {p} {st} i = both (each_when _ _ _ (λ t. asking.path i (not_true _ t))) (idle_sound p.serves i refl)

  listed_sound : {c : Scope} {p : Path} {f : Form} {at : ℕ} {ls : Links} (a : Args) → LinksIn s c p (form.callee f) (tree.call at a ls) → lists_from f ≡ true
      → Each (Real s) (listed_faults a)
  listed_sound {c} {p} {f} {at} {ls} (tree.value_arg (tree.rec _ ps) rest) i l = each_when _ _ _ (λ t. let h = and_both _ _ t in
      record { scope = c; path = p; call = f; call_at = at; options = ps; rest = rest; steps = ls; is = i; lists = l; start = h.0; start_after = h.1 })
  listed_sound _ i l = no_more

  calling_sound : {c : Scope} {p : Path} {at : ℕ} {a : Args} {ls : Links} (st : Stage) → LinksIn s c p st (tree.call at a ls) → Each (Real s) (calling_faults c p st a)
  calling_sound {c} {p} (form.part true w) i = each_cond _ _ _ (λ t. constant_sound c p.root (λ n e k. names.pushed i t e k)) (λ _. no_more)
  calling_sound {a = a} (form.callee f) i = each_cond _ _ _ (λ t. listed_sound a i t) (λ _. no_more)
  calling_sound _ i = no_more

  step_sound : {c : Scope} {p : Path} (st : Stage) (ls : Links) → LinksIn s c p st ls → Each (Real s) (step_faults c p st ls)
  step_sound st tree.no_links i = end_sound i
  step_sound {c} {p} st (tree.field n ls) i = each_cond (ends ls) _ _
      (λ e. each_when _ _ _ (λ t.
      let h = and_both _ _ t in
      let g = and_both _ _ h.0 in
      names.outside (subst (λ x. LinksIn s c p x (tree.field n tree.no_links)) (itself_is st g.0) (subst (λ x. LinksIn s c p st (tree.field n x)) (ends_is ls e) i)) (written_is p.serves g.1) h.1))
      (λ _. no_more)
  step_sound st (tree.index at e ls) i = no_more
  step_sound st (tree.call at a ls) i = calling_sound st i

  stage_sound : {c : Scope} {p : Path} {st : Stage} {ls : Links} → LinksIn s c p st ls → Each (Real s) (stage_faults c p st ls)
  stage_sound {st = st} {ls = ls} i = both (called_sound st i) (step_sound st ls i)

  name_sound : {c : Scope} {u : Use} {n : Named} → PathIn s c (path_of_name n u) (start c.names (tree.variable n)) tree.no_links → Each (Real s) (name_faults c u n)
  name_sound i = both (root_sound i) (stage_sound (stands.begun i))

  mutual
    pub expr_sound : (c : Scope) (u : Use) (e : Expr) → ExprIn s c u e → Each (Real s) (expr_faults c u e)
    expr_sound c u (tree.choice at e a b) i =
        both (both (both (use_sound c u _ i) (expr_sound c stands.value e (stands.test i))) (expr_sound c stands.value a (stands.yes i))) (expr_sound c stands.value b (stands.no i))
    expr_sound c u (tree.lazy at k e es) i = both (both (use_sound c u _ i) (expr_sound c stands.value e (stands.first_lazy i))) (exprs_sound c es (stands.of_lazy i))
    expr_sound c u (tree.strict at e os) i = both (both (use_sound c u _ i) (expr_sound c stands.value e (stands.first_strict i))) (operands_sound c os (stands.of_strict i))
    expr_sound c u (tree.unary at o e) i = both (use_sound c u _ i) (expr_sound c stands.value e (stands.under i))
    expr_sound c u (tree.await at e) i = both (both (use_sound c u _ i)
        (each_when _ _ _ (λ t. record { scope = c; serves = u; operand = e; is = i; sync = t })))
        (expr_sound c (stands.awaited at) e (stands.under_await i))
    expr_sound c u (tree.path at e ls) i = both (both (both (use_sound c u _ i) (root_sound (stands.of_path i)))
        (each_cond _ _ _ (λ _. no_more) (λ nr. expr_sound c stands.value e (stands.base i nr))))
        (links_sound c _ _ ls (stands.begun (stands.of_path i)))
    expr_sound c u (tree.number at n) i = use_sound c u _ i
    expr_sound c u (tree.text at t) i = use_sound c u _ i
    expr_sound c u (tree.boolean at b) i = use_sound c u _ i
    expr_sound c u (tree.null at) i = use_sound c u _ i
    expr_sound c u (tree.undefined at) i = use_sound c u _ i
    expr_sound c u (tree.this at) i = both (use_sound c u _ i) (stage_sound (stands.begun (stands.of_this i)))
    expr_sound c u (tree.variable n) i = both (use_sound c u _ i) (name_sound (stands.of_variable i))
    expr_sound c u (tree.group at e) i = both (use_sound c u _ i) (expr_sound c stands.value e (stands.grouped i))
    expr_sound c u (tree.list at es) i = both (use_sound c u _ i) (exprs_sound c es (stands.of_list i))
    expr_sound c u (tree.rec at ps) i = both (use_sound c u _ i) (pairs_sound c ps (stands.of_record i))
    expr_sound c u (tree.new_error at tree.no_expr) i = both (use_sound c u _ i) no_more
    expr_sound c u (tree.new_error at (tree.some_expr e)) i = both (use_sound c u _ i) (expr_sound c stands.value e (stands.message i))

    exprs_sound : (c : Scope) (es : Exprs) → ExprsIn s c es → Each (Real s) (exprs_faults c es)
    exprs_sound c tree.no_exprs i = no_more
    exprs_sound c (tree.expr e es) i = both (expr_sound c stands.value e (stands.element i)) (exprs_sound c es (stands.rest_of_exprs i))

    operands_sound : (c : Scope) (os : Operands) → OperandsIn s c os → Each (Real s) (operands_faults c os)
    operands_sound c tree.no_operands i = no_more
    operands_sound c (tree.operand o e os) i = both (expr_sound c stands.value e (stands.operand i)) (operands_sound c os (stands.rest_of_operands i))

    links_sound : (c : Scope) (p : Path) (st : Stage) (ls : Links) → LinksIn s c p st ls → Each (Real s) (links_faults c p st ls)
    links_sound c p st tree.no_links i = stage_sound i
    links_sound c p st (tree.field n ls) i = both (stage_sound i) (links_sound c p _ ls (stands.behind_field i))
    links_sound c p st (tree.index at e ls) i = both (both (stage_sound i) (expr_sound c stands.value e (stands.index i))) (links_sound c p _ ls (stands.behind_index i))
    links_sound c p st (tree.call at a ls) i = both (both (stage_sound i) (args_sound c _ a (stands.of_call i))) (links_sound c p _ ls (stands.behind_call i))

    args_sound : (c : Scope) (r : Role) (a : Args) → ArgsIn s c r a → Each (Real s) (args_faults c r a)
    args_sound c r tree.no_args i = no_more
    args_sound c r (tree.value_arg e rest) i = both (expr_sound c _ e (stands.argument i)) (args_sound c form.plain rest (stands.behind_value i))
    args_sound c r (tree.callback at n is rest) i = both (both (both (both
        (each_when _ _ _ (λ t. asking.arrow i (not_true _ t)))
        (option_bound_sound n (λ m e. names.callback_parameter (subst (λ o. ArgsIn s c r (tree.callback at o is rest)) e i))))
        (doubles_sound [] (declared_in is) (names.callback i)))
        (items_sound _ is (stands.callback i)))
        (args_sound c form.plain rest (stands.behind_callback i))

    pairs_sound : (c : Scope) (ps : Pairs) → PairsIn s c ps → Each (Real s) (pairs_faults c ps)
    pairs_sound c tree.no_pairs i = no_more
    pairs_sound c (tree.pair n tree.no_expr ps) i = both (name_sound (stands.of_pair i)) (pairs_sound c ps (stands.rest_of_pairs i))
    pairs_sound c (tree.pair n (tree.some_expr e) ps) i = both (expr_sound c stands.value e (stands.paired i)) (pairs_sound c ps (stands.rest_of_pairs i))

    pub items_sound : (c : Scope) (is : Items) → ItemsIn s c is → Each (Real s) (items_faults c is)
    items_sound c tree.no_items i = no_more
    items_sound c (tree.declare at b n tree.no_expr is) i = both (both (bound_sound n (names.declared i)) no_more) (items_sound _ is (stands.behind_declaration i))
    items_sound c (tree.declare at b n (tree.some_expr e) is) i =
        both (both (bound_sound n (names.declared i)) (expr_sound c stands.value e (stands.declared i))) (items_sound _ is (stands.behind_declaration i))
    items_sound c (tree.statement st is) i = both (stmt_sound _ st (stands.item i)) (items_sound c is (stands.behind_statement i))

    stmt_sound : (c : Scope) (st : Stmt) → StmtIn s c st → Each (Real s) (stmt_faults c st)
    stmt_sound c (tree.block at is) i = both (doubles_sound [] (declared_in is) (names.block i)) (items_sound _ is (stands.block i))
    stmt_sound c (tree.choose at e st tree.no_stmt) i = both (both (expr_sound c stands.value e (stands.if_test i)) (stmt_sound _ st (stands.chosen i))) no_more
    stmt_sound c (tree.choose at e st (tree.some_stmt o)) i =
        both (both (expr_sound c stands.value e (stands.if_test i)) (stmt_sound _ st (stands.chosen i))) (stmt_sound _ o (stands.other i))
    stmt_sound c (tree.while at e st) i = both (expr_sound c stands.value e (stands.while_test i)) (stmt_sound _ st (stands.while_body i))
    stmt_sound c (tree.for at n first test step st) i = both (both (both (both
        (bound_sound n (names.for_name i))
        (expr_sound c stands.value first (stands.for_first i)))
        (expr_sound _ stands.value test (stands.for_test i)))
        (simple_sound _ step (stands.step i)))
        (stmt_sound _ st (stands.for_body i))
    stmt_sound c (tree.for_of at b n e st) i =
        both (both (bound_sound n (names.for_of_name i)) (expr_sound c stands.value e (stands.for_list i))) (stmt_sound _ st (stands.for_of_body i))
    stmt_sound c (tree.try at is n handler) i = both (both (both (both
        (doubles_sound [] (declared_in is) (names.tried i))
        (items_sound _ is (stands.tried i)))
        (option_bound_sound n (λ m e. names.caught (subst (λ o. StmtIn s c (tree.try at is o handler)) e i))))
        (doubles_sound [] (declared_in handler) (names.handler i)))
        (items_sound _ handler (stands.handler i))
    stmt_sound c (tree.throw at e) i = expr_sound c stands.value e (stands.thrown i)
    stmt_sound c (tree.return at tree.no_expr) i = no_more
    stmt_sound c (tree.return at (tree.some_expr e)) i = expr_sound c stands.value e (stands.returned i)
    stmt_sound c (tree.break at) i = each_when _ _ _ (λ t. record { scope = c; exit = tree.break at; is = i; is_exit = names.broken; no_loop = not_true _ t })
    stmt_sound c (tree.continue at) i = each_when _ _ _ (λ t. record { scope = c; exit = tree.continue at; is = i; is_exit = names.continued; no_loop = not_true _ t })
    stmt_sound c (tree.simple p) i = simple_sound c p (stands.statement i)

    simple_sound : (c : Scope) (p : Simple) → SimpleIn s c p → Each (Real s) (simple_faults c p)
    simple_sound c (tree.run at e) i = expr_sound c stands.alone e (stands.run i)
    simple_sound c (tree.assign at p e) i = both (expr_sound c stands.written p (stands.assign_to i)) (expr_sound c stands.value e (stands.assigned i))
    simple_sound c (tree.add_assign at p e) i = both (expr_sound c stands.written p (stands.add_to i)) (expr_sound c stands.value e (stands.added i))
    simple_sound c (tree.sub_assign at p e) i = both (expr_sound c stands.written p (stands.sub_from i)) (expr_sound c stands.value e (stands.subtracted i))
    simple_sound c (tree.increment at p) i = expr_sound c stands.written p (stands.incremented i)
    simple_sound c (tree.decrement at p) i = expr_sound c stands.written p (stands.decremented i)

  all_bound_sound : (ns : List Named) → ((n : Named) → Contains ns n → IsBound s n) → Each (Real s) (all_bound_faults ns)
  all_bound_sound [] b = no_more
  all_bound_sound (n ∷ ns) b = both (bound_sound n (b n (0, omega arith, refl)))
      (all_bound_sound ns (λ m c. b m (suc c.0, omega (arith, c.1), c.2)))

  method_sound : (class : Class) (m : Method) → Contains s.classes class → Contains class.methods m → Each (Real s) (method_faults class m)
  method_sound class m c at = both (both
      (doubles_sound [] _ (names.outermost c at))
      (each_cond _ _ _ (λ _. no_more) (λ nc. all_bound_sound m.parameters (λ n i. names.parameter c at (not_constructor m.kind nc) i))))
      (items_sound (scope_of class m) m.body (stands.body c at))

  methods_sound : (class : Class) (ms : List Method) → Contains s.classes class → ((m : Method) → Contains ms m → Contains class.methods m)
      → Each (Real s) (methods_faults class ms)
  methods_sound class [] c all = no_more
  methods_sound class (m ∷ ms) c all = both (method_sound class m c (all m (0, omega arith, refl)))
      (methods_sound class ms c (λ n i. all n (suc i.0, omega (arith, i.1), i.2)))

  class_sound : (class : Class) → Contains s.classes class → Each (Real s) (class_faults class)
  class_sound class c = both (both (bound_sound class.name (names.class_bound c)) (doubles_sound [] _ (names.methods c)))
      (methods_sound class class.methods c (λ m i. i))

  classes_sound : (cs : List Class) → ((class : Class) → Contains cs class → Contains s.classes class) → Each (Real s) (classes_faults cs)
  classes_sound [] all = no_more
  classes_sound (c ∷ cs) all = both (class_sound c (all c (0, omega arith, refl)))
      (classes_sound cs (λ d i. all d (suc i.0, omega (arith, i.1), i.2)))

  pub script_sound : Each (Real s) (script_faults s)
  script_sound = both (doubles_sound [] _ names.classes) (classes_sound s.classes (λ c i. i))

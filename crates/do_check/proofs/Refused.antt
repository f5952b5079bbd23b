-- Each fault of a script is among those that the walk finds.
use Rattle.std.proofs.Common.{◌≡◌, ℕ, zero, suc, ◌<◌, Bool, true, false, List, [], ◌∷◌, ◌++◌, length, map, Option, Some, None, refl, sym, ap, ◌∙◌, subst, true≢false, cond, append_assoc, arith}
use Rattle.std.proofs.Math.Bool.{or-true}
use Rattle.std.proofs.lemmas.List.{append-nil}
use Rattle.std.proofs.lemmas.Slice.Eq.{bytes_eq-Decides}
use Rattle.std.specs.Prelude.{Contains, slice_index_or, codes, is_none, not, ◌≢◌, ◌&&◌, ◌||◌}
use Rattle.std.specs.List.{list_any}
use Rattle.std.specs.Str.{bytes_eq}
use Rattle.do_check.proofs.Has.{Has, here, there, in_left, in_right}
use Rattle.do_check.proofs.Within.{args_within, at_base, at_stage, class_within, expr_within, items_within, links_within, method_within, pairs_within, stmt_within}
use Rattle.do_check.specs.Parts.{all_bound_faults, bound_faults, constant_faults, doubles, expr_faults, has_text, idle_faults, is_constant, root_faults, script_faults, stage_faults, use_faults, when, written_faults}
use Rattle.do_check.specs.declared.fault.CheckFault.{CheckFault}
use Rattle.do_tree.specs.Asking as asking
use Rattle.do_tree.specs.Asking.{IsAwaitOfSync, IsInBlock, IsInTransaction, IsNoForm, IsNotAwaited, IsStartTwice, is_awaitable, is_path}
use Rattle.do_tree.specs.Faults.{IsFault}
use Rattle.do_tree.specs.Forms as form
use Rattle.do_tree.specs.Forms.{Stage, among, sort_in}
use Rattle.do_tree.specs.Lookup.{is_constructor}
use Rattle.do_tree.specs.Names as names
use Rattle.do_tree.specs.Names.{IsAwaitInSync, IsBadTarget, IsBound, IsConstAssigned, IsDoubled, IsLoopExit, IsNoMember, IsReserved, IsUnbound, AreTogether, begins_call, is_place, name_of, outside_words, place_of, reserved}
use Rattle.do_tree.specs.Scope as stands
use Rattle.do_tree.specs.Scope.{ExprIn, LinksIn, Path, PathIn, Scope, StmtIn, Use}
use Rattle.do_tree.specs.Tree as tree
use Rattle.do_tree.specs.Tree.{Args, Class, Expr, Links, Method, Named, Pairs, Script, Stmt}
use Rattle.do_tree.specs.declared.kind.CheckKind.{CheckKind}
use Rattle.do_tree.specs.declared.kind.CheckKind.TheVariants as kind
use Rattle.do_tree.specs.declared.script.MethodKind.{MethodKind}
use Rattle.do_tree.specs.declared.script.MethodKind.TheVariants as method

abbrev pub fault : ℕ → CheckKind → CheckFault
fault at k = record { place = at; kind = k }

-- What stands where the test is true.
tested : (b : Bool) (at : ℕ) (k : CheckKind) → b ≡ true → Has (when b at k) (fault at k)
tested true at k h = here
tested false at k h = absurd (true≢false (sym h))

at_then : {f : CheckFault} {xs : List CheckFault} (b : Bool) (ys : List CheckFault) → b ≡ true → Has xs f → Has (cond b xs ys) f
at_then true ys e h = h
at_then false ys e h = absurd (true≢false (sym e))

not_false : (b : Bool) → b ≡ false → not b ≡ true
not_false true h = sym h
not_false false h = refl

and_true : (a b : Bool) → a ≡ true → b ≡ true → (a && b) ≡ true
and_true true b p q = q
and_true false b p q = p

-- An element passes the test.
any_at : {A : Type 0} (test : A → Bool) (xs : List A) (k : ℕ) (x : A) → k < length xs → slice_index_or xs k x ≡ x → test x ≡ true → list_any test xs ≡ true
any_at test [] k x lt e h = absurd (omega arith)
any_at test (y ∷ ys) zero x lt e h = ap (λ b. b || list_any test ys) (ap test e ∙ h)
any_at test (y ∷ ys) (suc k) x lt e h = ap (λ b. test y || b) (any_at test ys k x (omega arith) e h) ∙ or-true (test y)

at_else : {f : CheckFault} {ys : List CheckFault} (b : Bool) (xs : List CheckFault) → b ≡ false → Has ys f → Has (cond b xs ys) f
at_else true xs e h = absurd (true≢false e)
at_else false xs e h = h

no_constructor : (k : MethodKind) → k ≢ method.Constructor → is_constructor k ≡ false
no_constructor method.Constructor h = absurd (h refl)
no_constructor method.Sync h = refl
no_constructor method.Async h = refl

bound_at : {f : CheckFault} (ns : List Named) (k : ℕ) (n : Named) → k < length ns → slice_index_or ns k n ≡ n → Has (bound_faults n) f → Has (all_bound_faults ns) f
bound_at [] k n lt e h = absurd (omega arith)
bound_at {f} (m ∷ ns) zero n lt e h = in_left _ (subst (λ x. Has (bound_faults x) f) (sym e) h)
bound_at (m ∷ ns) (suc k) n lt e h = in_right _ (bound_at ns k n (omega arith) e h)

-- A name that another before it has is found.
doubles_has : (seen front : List Named) (second : Named) (back : List Named) → list_any (has_text second.text) (seen ++ front) ≡ true
    → Has (doubles seen (front ++ second ∷ back)) (fault second.at kind.Doubled)
doubles_has seen [] second back h = in_left _ (tested _ _ _ (ap (list_any (has_text second.text)) (sym (append-nil seen)) ∙ h))
doubles_has seen (n ∷ front) second back h =
    in_right _ (doubles_has (seen ++ n ∷ []) front second back (ap (list_any (has_text second.text)) (append_assoc seen (n ∷ []) front) ∙ h))

module _ (s : Script) where
  stage_within : {c : Scope} {p : Path} {st : Stage} {ls : Links} {f : CheckFault} → LinksIn s c p st ls → Has (stage_faults c p st ls) f → Has (script_faults s) f
  stage_within {c} {p} {st} {ls} {f} i h = links_within s f i (at_stage c p st ls h)

  -- What is there for a use has the faults of the use.
  use_within : {c : Scope} {u : Use} {f : CheckFault} (e : Expr) → ExprIn s c u e → Has (use_faults c u e) f → Has (script_faults s) f
  use_within {f = f} (tree.choice at e a b) i h = expr_within s f i (in_left _ (in_left _ (in_left _ h)))
  use_within {f = f} (tree.lazy at k e es) i h = expr_within s f i (in_left _ (in_left _ h))
  use_within {f = f} (tree.strict at e os) i h = expr_within s f i (in_left _ (in_left _ h))
  use_within {f = f} (tree.unary at o e) i h = expr_within s f i (in_left _ h)
  use_within {f = f} (tree.await at e) i h = expr_within s f i (in_left _ (in_left _ h))
  use_within {f = f} (tree.path at e ls) i h = expr_within s f i (in_left _ (in_left _ (in_left _ h)))
  use_within {f = f} (tree.number at n) i h = expr_within s f i h
  use_within {f = f} (tree.text at t) i h = expr_within s f i h
  use_within {f = f} (tree.boolean at b) i h = expr_within s f i h
  use_within {f = f} (tree.null at) i h = expr_within s f i h
  use_within {f = f} (tree.undefined at) i h = expr_within s f i h
  use_within {f = f} (tree.this at) i h = expr_within s f i (in_left _ h)
  use_within {f = f} (tree.variable n) i h = expr_within s f i (in_left _ h)
  use_within {f = f} (tree.group at e) i h = expr_within s f i (in_left _ h)
  use_within {f = f} (tree.list at es) i h = expr_within s f i (in_left _ h)
  use_within {f = f} (tree.rec at ps) i h = expr_within s f i (in_left _ h)
  use_within {f = f} (tree.new_error at m) i h = expr_within s f i (in_left _ h)

  -- The name that a path begins with.
  root_within : {c : Scope} {p : Path} {st : Stage} {ls : Links} {f : CheckFault} → PathIn s c p st ls → Has (root_faults c p.root ls) f → Has (script_faults s) f
  root_within {f = f} (stands.of_path i) h = expr_within s f i (in_left _ (in_left _ (in_right _ h)))
  root_within {f = f} (stands.of_variable i) h = expr_within s f i (in_right _ (in_left _ h))
  root_within (stands.of_this i) h = elim h [ ]
  root_within {f = f} (stands.of_pair i) h = pairs_within s f i (in_left _ (in_left _ h))

  together_within : {ns : List Named} (f : CheckFault) → AreTogether s ns → Has (doubles [] ns) f → Has (script_faults s) f
  together_within f names.classes h = in_left _ h
  together_within f (names.methods {class} c) h = class_within s f class c (in_left _ (in_right _ h))
  together_within f (names.outermost {class} {m} c at) h = method_within s f class m c at (in_left _ (in_left _ h))
  together_within f (names.block i) h = stmt_within s f i (in_left _ h)
  together_within f (names.tried i) h = stmt_within s f i (in_left _ (in_left _ (in_left _ (in_left _ h))))
  together_within f (names.handler i) h = stmt_within s f i (in_left _ (in_right _ h))
  together_within f (names.callback i) h = args_within s f i (in_left _ (in_left _ (in_right _ h)))

  doubled_within : {at : ℕ} → IsDoubled s at → Has (script_faults s) (fault at kind.Doubled)
  doubled_within d =
      let same : has_text d.second.text d.first ≡ true = (bytes_eq-Decides d.first.text d.second.text).1 d.same in
      let earlier : list_any (has_text d.second.text) d.front ≡ true = any_at (has_text d.second.text) d.front d.is_earlier.0 d.first d.is_earlier.1 d.is_earlier.2 same in
      subst (λ x. Has (script_faults s) (fault x kind.Doubled)) (sym d.at_is) (together_within _ d.together (doubles_has [] d.front d.second d.back earlier))

  bound_within : (n : Named) (f : CheckFault) → IsBound s n → Has (bound_faults n) f → Has (script_faults s) f
  bound_within n f (names.class_bound {class} c) h = class_within s f class c (in_left _ (in_left _ h))
  bound_within n f (names.parameter {class} {m} c at nc i) h =
      method_within s f class m c at (in_left _ (in_right _ (at_base (is_constructor m.kind) (no_constructor m.kind nc) (bound_at m.parameters i.0 n i.1 i.2 h))))
  bound_within n f (names.declared i) h = items_within s f i (in_left _ (in_left _ h))
  bound_within n f (names.for_name i) h = stmt_within s f i (in_left _ (in_left _ (in_left _ (in_left _ h))))
  bound_within n f (names.for_of_name i) h = stmt_within s f i (in_left _ (in_left _ h))
  bound_within n f (names.caught i) h = stmt_within s f i (in_left _ (in_left _ (in_right _ h)))
  bound_within n f (names.callback_parameter i) h = args_within s f i (in_left _ (in_left _ (in_left _ (in_right _ h))))

  reserved_within : {at : ℕ} → IsReserved s at → Has (script_faults s) (fault at kind.Reserved)
  reserved_within (names.binds {n} b r) = bound_within n _ b (tested _ _ _ r)
  reserved_within (names.outside {p = p} {n = n} i w r) =
      stage_within i (tested _ _ _ (and_true (asking.is_written p.serves) (among outside_words n.text) (ap asking.is_written w) r))

  unbound_within : {at : ℕ} → IsUnbound s at → Has (script_faults s) (fault at kind.Unbound)
  unbound_within u =
      let f = fault u.name.at kind.Unbound in
      let test = and_true _ _ (ap is_none u.not_in_sight) (not_false _ u.no_word) in
      let has : Has (root_faults u.scope u.path.root u.steps) f = subst (λ r. Has (root_faults u.scope r u.steps) f) (sym u.is_name) (tested _ _ _ test) in
      subst (λ x. Has (script_faults s) (fault x kind.Unbound)) (sym u.at_is) (root_within u.begins has)

  constant_has : (c : Scope) (n : Named) (o : Option Named) → o ≡ Some n → sort_in c.names n.text ≡ Some form.constant → Has (constant_faults c o) (fault n.at kind.ConstAssigned)
  constant_has c n o e k = subst (λ r. Has (constant_faults c r) (fault n.at kind.ConstAssigned)) (sym e) (tested _ _ _ (ap is_constant k))

  constant_within : {at : ℕ} → IsConstAssigned s at → Has (script_faults s) (fault at kind.ConstAssigned)
  constant_within (names.assigned {c} {e} {n} i pl nm k) = use_within e i (at_then _ _ pl (constant_has c n (name_of e) nm k))
  constant_within (names.pushed {c} {p} {n} i pw rt k) = stage_within i (at_then _ _ pw (constant_has c n p.root rt k))

  target_within : {at : ℕ} → IsBadTarget s at → Has (script_faults s) (fault at kind.BadTarget)
  target_within b =
      let f = fault (place_of b.left) kind.BadTarget in
      let has : Has (written_faults b.scope b.left) f = at_else _ _ b.no_place here in
      subst (λ x. Has (script_faults s) (fault x kind.BadTarget)) (sym b.at_is) (use_within b.left b.is_written has)

  form_within : {at : ℕ} → IsNoForm s at → Has (script_faults s) (fault at kind.Form)
  form_within (asking.path i w) = stage_within i (in_right _ (in_left _ (tested _ _ _ (not_false _ w))))
  form_within (asking.arrow i t) = args_within s _ i (in_left _ (in_left _ (in_left _ (in_left _ (tested _ _ _ (not_false _ t))))))

  member_within : {at : ℕ} → IsNoMember s at → Has (script_faults s) (fault at kind.NoMember)
  member_within m =
      subst (λ x. Has (script_faults s) (fault x kind.NoMember)) (sym m.at_is)
      (stage_within m.is (in_left _ (in_left _ (in_left _ (in_left _ (tested _ _ _ (not_false _ m.absent)))))))

  sync_within : {at : ℕ} → IsAwaitInSync s at → Has (script_faults s) (fault at kind.AwaitInSync)
  sync_within a = expr_within s _ a.is (in_left _ (in_right _ (tested _ _ _ a.sync)))

  awaited_within : {at : ℕ} → IsNotAwaited s at → Has (script_faults s) (fault at kind.NotAwaited)
  awaited_within a =
      subst (λ x. Has (script_faults s) (fault x kind.NotAwaited)) (sym a.at_is)
      (stage_within a.is (in_left _ (in_left _ (in_left _ (in_right _ (tested _ _ _ (and_true _ _ a.waits (not_false _ a.not_met))))))))

  idle_within : {at : ℕ} → IsAwaitOfSync s at → Has (script_faults s) (fault at kind.AwaitOfSync)
  idle_within (asking.idle_path {c} {p} {st} {at} i sv aw) =
      let f = fault at kind.AwaitOfSync in
      let has : Has (idle_faults c p.serves st) f = subst (λ u. Has (idle_faults c u st) f) (sym sv) (tested _ _ _ (not_false _ aw)) in
      stage_within i (in_right _ (in_right _ has))
  idle_within (asking.idle_other {c} {e} i np) = use_within e i (tested _ _ _ (not_false _ np))

  transaction_within : {at : ℕ} → IsInTransaction s at → Has (script_faults s) (fault at kind.InTransaction)
  transaction_within t =
      subst (λ x. Has (script_faults s) (fault x kind.InTransaction)) (sym t.at_is)
      (stage_within t.is (in_left _ (in_left _ (in_right _ (tested _ _ _ (and_true _ _ t.transaction t.leaves))))))

  block_within : {at : ℕ} → IsInBlock s at → Has (script_faults s) (fault at kind.InBlock)
  block_within b =
      subst (λ x. Has (script_faults s) (fault x kind.InBlock)) (sym b.at_is)
      (stage_within b.is (in_left _ (in_right _ (tested _ _ _ (and_true _ _ b.block refl)))))

  exit_within : {at : ℕ} {c : Scope} {st : Stmt} → StmtIn s c st → names.IsExit at st → c.loop ≡ false → Has (script_faults s) (fault at kind.LoopExit)
  exit_within i names.broken nl = stmt_within s _ i (tested _ _ _ (not_false _ nl))
  exit_within i names.continued nl = stmt_within s _ i (tested _ _ _ (not_false _ nl))

  start_within : {at : ℕ} → IsStartTwice s at → Has (script_faults s) (fault at kind.StartTwice)
  start_within t = stage_within t.is (at_then _ _ t.lists (tested _ _ _ (and_true _ _ t.start t.start_after)))

  pub fault_within : (at : ℕ) (k : CheckKind) → IsFault s at k → Has (script_faults s) (fault at k)
  fault_within at kind.Doubled h = doubled_within h
  fault_within at kind.Reserved h = reserved_within h
  fault_within at kind.Unbound h = unbound_within h
  fault_within at kind.ConstAssigned h = constant_within h
  fault_within at kind.BadTarget h = target_within h
  fault_within at kind.Form h = form_within h
  fault_within at kind.NoMember h = member_within h
  fault_within at kind.AwaitInSync h = sync_within h
  fault_within at kind.NotAwaited h = awaited_within h
  fault_within at kind.AwaitOfSync h = idle_within h
  fault_within at kind.InTransaction h = transaction_within h
  fault_within at kind.InBlock h = block_within h
  fault_within at kind.LoopExit h = exit_within h.is h.is_exit h.no_loop
  fault_within at kind.StartTwice h = start_within h
  fault_within at kind.NoMemory h = absurd h

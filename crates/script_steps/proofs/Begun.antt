-- How expressions begin.
use Rattle.std.proofs.Common.{◌≡◌, ℕ, zero, suc, ◌-◌, nat_le, Bool, true, false, List, [], ◌∷◌, length, Option, Some, None, Result, Ok, Err, IfOk, subst, refl, sym, ap, ◌∙◌, arith}
use Rattle.std.proofs.Math.Dec.{leb-zero}
use Rattle.std.specs.declared.sync.Arc.{Arc}
use Rattle.std.specs.declared.vec.Vec.{Vec}
use Rattle.std.specs.declared.alloc.Global.{Global}
use Rattle.do_value.specs.Keyed.{gathered}
use Rattle.do_value.specs.Tree.{Tree, fields, items}
use Rattle.do_value.specs.Tree as value_tree
use Rattle.do_value.specs.declared.operator.BinOp.{BinOp}
use Rattle.do_value.specs.declared.operator.UnOp.{UnOp}
use Rattle.do_value.specs.declared.operator.Builtin.TheVariants.{MakeError}
use Rattle.script_ops.specs.Binary.{binary}
use Rattle.script_ops.specs.Calls.{builtin}
use Rattle.script_ops.specs.Errors.{within_limits}
use Rattle.do_tree.proofs.Rows.{hidden_exprs, hidden_operands, hidden_option}
use Rattle.do_tree.specs.Nodes.{exprs_in, operands_in, option_expr_in}
use Rattle.do_value.specs.Seen.{pairs_in, trees_in}
use Rattle.do_value.specs.declared.value.Value.{Value}
use Rattle.do_tree.specs.Seen.{expr_of}
use Rattle.do_tree.specs.Tree as tree
use Rattle.do_tree.specs.declared.expr.Chain.{Chain}
use Rattle.do_tree.specs.declared.expr.Expr.{Expr}
use Rattle.do_tree.specs.declared.expr.Expr.TheVariants as node
use Rattle.do_tree.specs.declared.expr.Operand.{Operand}
use Rattle.do_tree.specs.declared.expr.Pair.{Pair}
use Rattle.do_tree.specs.declared.script.Name.{Name}
use Rattle.script_mean.specs.Answers.{Outcome, gave, threw, outcome_of}
use Rattle.script_mean.specs.Calls.{Calls}
use Rattle.script_mean.specs.Frames.{to_choose, to_chain, to_operate, to_apply, to_prefix, to_list, to_record, to_error}
use Rattle.script_mean.specs.Meaning.{goes_on, lazy, strict, value, message, exprs, pairs, pair_value}
use Rattle.script_mean.specs.Paths.{operators, lazy_operators}
use Rattle.script_mean.specs.Turn.{Run, Next, State, ends, of, pass, exceed, either, on_value, steps, ◌>>=◌, ◌>>◌}
use Rattle.script_mean.specs.Task.{Env}
use Rattle.script_steps.specs.Parts.{exprs_from, exprs_of, chain_of, operands_from, operands_of, pairs_from, pairs_of, name_of}
use Rattle.script_steps.specs.Seen.{applied, charged, framed, variable_of}

-- What holds of an answer that is there.
pub if_ok : {A E : Type 0} {P Q : A → Type 0} (r : Result A E) → ((a : A) → P a → Q a) → IfOk r P → IfOk r Q
if_ok (Ok a) f p = f a p
if_ok (Err e) f p = p

-- What holds of the answer that there is.
pub ok_is : {A E : Type 0} (P : A → Type 0) (r : Result A E) (a : A) → r ≡ Ok a → P a → IfOk r P
ok_is P r a e p = subst (λ x. IfOk x P) (sym e) p

-- No steps change nothing.
none_taken : (part : Run) (env : Env) (next : Next) (st : State) → (steps 0 >> part) env next st ≡ part env next st
none_taken part env next st =
    let enough : nat_le 0 st.left ≡ true = leb-zero st.left in
    let same : st.left - 0 ≡ st.left = omega arith in
    ap (λ b. either b pass exceed env (on_value (λ _. part) next) (record st { left = st.left - 0 })) enough
    ∙ ap (λ n. part env next (record st { left = n })) same

-- Steps that are charged, where there are some.
pub charged_steps : (n : ℕ) (part : Run) → steps n >> part ≡ charged n part
charged_steps zero part = λ i env next st. none_taken part env next st i
charged_steps (suc n) part = refl

-- A chain has as many operators as it has operands behind the first.
lazy_count : (xs : List (Arc Expr Global)) → lazy_operators (exprs_in xs) ≡ length xs
lazy_count [] = refl
lazy_count (x ∷ xs) = let e = lazy_count xs in omega arith

-- A chain of operators has as many as it has operands behind the first.
count : (xs : List Operand) → operators (operands_in xs) ≡ length xs
count [] = refl
count (x ∷ xs) = let e = count xs in omega arith

-- What an operator comes to is given or thrown.
pub of_ends : (r : Result Tree Tree) → of r ≡ ends (outcome_of r)
of_ends (Ok v) = refl
of_ends (Err v) = refl

-- A list without further items is made.
pub list_none : (n : ℕ) (calls : Calls) (es : tree.Exprs) (got : List Tree) (o : Outcome) → es ≡ tree.no_exprs → outcome_of (within_limits (items got)) ≡ o
    → charged n (exprs calls es got) ≡ charged n (ends o)
list_none n calls es got o e p =
    ap (λ x. charged n (exprs calls x got)) e ∙ ap (charged n) (of_ends (within_limits (items got))) ∙ ap (λ z. charged n (ends z)) p

-- A list goes on with its next item.
pub list_some : (n : ℕ) (calls : Calls) (es : tree.Exprs) (got : List Tree) (x : tree.Expr) (rest : tree.Exprs) → es ≡ tree.expr x rest
    → charged n (exprs calls es got) ≡ charged n (framed calls (to_list got rest) (value false calls x))
list_some n calls es got x rest e = ap (λ y. charged n (exprs calls y got)) e

-- A record without further pairs is made.
pub record_none : (n : ℕ) (calls : Calls) (ps : tree.Pairs) (got : List (List ℕ × Tree)) (o : Outcome) → ps ≡ tree.no_pairs
    → outcome_of (within_limits (fields (gathered got))) ≡ o → charged n (pairs calls ps got) ≡ charged n (ends o)
record_none n calls ps got o e p =
    ap (λ x. charged n (pairs calls x got)) e ∙ ap (charged n) (of_ends (within_limits (fields (gathered got)))) ∙ ap (λ z. charged n (ends z)) p

-- A record goes on with its next pair.
pub record_some : (n : ℕ) (calls : Calls) (ps : tree.Pairs) (got : List (List ℕ × Tree)) (name : tree.Named) (o : tree.OptionExpr) (rest : tree.Pairs) (part : Run)
    → ps ≡ tree.pair name o rest → pair_value calls name.text o ≡ part
    → charged n (pairs calls ps got) ≡ charged n (framed calls (to_record got name.text rest) part)
record_some n calls ps got name o rest part e p = ap (λ y. charged n (pairs calls y got)) e ∙ ap (λ r. charged n (framed calls (to_record got name.text rest) r)) p

module _ (calls : Calls) where
  -- A chain after a value.
  pub chain_goes : (k : Chain) (v : Tree) (es : tree.Exprs) (x : tree.Expr) (rest : tree.Exprs) → es ≡ tree.expr x rest → goes_on k v ≡ true
      → lazy calls k v es ≡ framed calls (to_chain k rest) (value false calls x)
  chain_goes k v es x rest e g =
      ap (lazy calls k v) e ∙ ap (λ b. either b (value false calls x >>= (λ u. lazy calls k u rest)) (ends (gave v))) g

  -- A chain of operators goes on with its next operand.
  pub operate_some : (v : Tree) (os : tree.Operands) (o : BinOp) (x : tree.Expr) (rest : tree.Operands) → os ≡ tree.operand o x rest
      → strict calls v os ≡ framed calls (to_apply v o rest) (value false calls x)
  operate_some v os o x rest e = ap (strict calls v) e

  -- An operator that gives a value hands it to the rest of its chain.
  pub applied_ok : (o : BinOp) (v u w : Tree) (os : tree.Operands) → binary o v u ≡ Ok w → applied calls o v u os ≡ strict calls w os
  applied_ok o v u w os e = ap (λ r. of r >>= (λ t. strict calls t os)) e

  -- An operator that throws ends its chain.
  pub applied_err : (o : BinOp) (v u w : Tree) (os : tree.Operands) → binary o v u ≡ Err w → applied calls o v u os ≡ ends (threw w)
  applied_err o v u w os e = ap (λ r. of r >>= (λ t. strict calls t os)) e

  -- The message of an error.
  pub error_some : (m : Option (Arc Expr Global)) (inner t : Arc Expr Global) → m ≡ Some inner → t.value ≡ inner.value
      → charged 1 (message calls (option_expr_in m)) ≡ charged 1 (framed calls to_error (value false calls (expr_of t.value)))
  error_some m inner t e et =
      ap (λ z. charged 1 (message calls (option_expr_in z))) e ∙ ap (λ z. charged 1 (framed calls to_error (value false calls (expr_of z)))) (sym et)

  -- An error without a message.
  pub error_none : (m : Option (Arc Expr Global)) (o : Outcome) → m ≡ None → outcome_of (builtin MakeError []) ≡ o
      → charged 1 (message calls (option_expr_in m)) ≡ charged 1 (ends o)
  error_none m o e p =
      ap (λ z. charged 1 (message calls (option_expr_in z))) e ∙ ap (charged 1) (of_ends (builtin MakeError [])) ∙ ap (λ z. charged 1 (ends z)) p

module _ (calls : Calls) (awaited : Bool) where
  -- A choice begins with its test.
  pub choice_begins : (at : ℕ) (test left right t y n : Arc Expr Global) (x : Expr) → x ≡ node.Choice at test left right → t.value ≡ test.value → y.value ≡ left.value → n.value ≡ right.value
      → value awaited calls (expr_of x) ≡ charged 1 (framed calls (to_choose (expr_of y.value) (expr_of n.value)) (value false calls (expr_of t.value)))
  choice_begins at test left right t y n x e et ey en =
      ap (λ z. value awaited calls (expr_of z)) e
      ∙ ap (λ z. charged 1 (framed calls (to_choose (expr_of left.value) (expr_of right.value)) (value false calls (expr_of z)))) (sym et)
      ∙ ap (λ z. charged 1 (framed calls (to_choose (expr_of z) (expr_of right.value)) (value false calls (expr_of t.value)))) (sym ey)
      ∙ ap (λ z. charged 1 (framed calls (to_choose (expr_of y.value) (expr_of z)) (value false calls (expr_of t.value)))) (sym en)

  -- A chain of `&&`, `||` or `??` begins with its first operand.
  pub lazy_begins : (at : ℕ) (k : Chain) (first : Arc Expr Global) (rest : Vec (Arc Expr Global) Global) (nd t : Arc Expr Global) (x : Expr) (n : ℕ)
      → x ≡ node.Lazy at k first rest → nd.value ≡ x → t.value ≡ first.value → n ≡ length rest.items
      → value awaited calls (expr_of x)
      ≡ charged n (framed calls (to_chain (chain_of (expr_of nd.value)) (exprs_from 0 (exprs_of (expr_of nd.value)))) (value false calls (expr_of t.value)))
  lazy_begins at k first rest nd t x n e en et el =
      let part : Expr → Expr → Run = λ z y. framed calls (to_chain (chain_of (expr_of z)) (exprs_from 0 (exprs_of (expr_of z)))) (value false calls (expr_of y)) in
      ap (λ z. value awaited calls (expr_of z)) e
      ∙ ap (λ n. steps n >> part (node.Lazy at k first rest) first.value) (ap lazy_operators (hidden_exprs rest) ∙ lazy_count rest.items)
      ∙ charged_steps (length rest.items) (part (node.Lazy at k first rest) first.value)
      ∙ ap (λ z. charged (length rest.items) (part z first.value)) (sym (en ∙ e))
      ∙ ap (λ z. charged (length rest.items) (part nd.value z)) (sym et)
      ∙ ap (λ m. charged m (part nd.value t.value)) (sym el)

  -- A chain of operators begins with its first operand.
  pub strict_begins : (at : ℕ) (first : Arc Expr Global) (rest : Vec Operand Global) (nd t : Arc Expr Global) (x : Expr) (n : ℕ)
      → x ≡ node.Strict at first rest → nd.value ≡ x → t.value ≡ first.value → n ≡ length rest.items
      → value awaited calls (expr_of x)
      ≡ charged n (framed calls (to_operate (operands_from 0 (operands_of (expr_of nd.value)))) (value false calls (expr_of t.value)))
  strict_begins at first rest nd t x n e en et el =
      let part : Expr → Expr → Run = λ z y. framed calls (to_operate (operands_from 0 (operands_of (expr_of z)))) (value false calls (expr_of y)) in
      ap (λ z. value awaited calls (expr_of z)) e
      ∙ ap (λ n. steps n >> part (node.Strict at first rest) first.value) (ap operators (hidden_operands rest) ∙ count rest.items)
      ∙ charged_steps (length rest.items) (part (node.Strict at first rest) first.value)
      ∙ ap (λ z. charged (length rest.items) (part z first.value)) (sym (en ∙ e))
      ∙ ap (λ z. charged (length rest.items) (part nd.value z)) (sym et)
      ∙ ap (λ m. charged m (part nd.value t.value)) (sym el)

  -- An operator before a value begins with it.
  pub unary_begins : (at : ℕ) (o : UnOp) (inner t : Arc Expr Global) (x : Expr) → x ≡ node.Unary at o inner → t.value ≡ inner.value
      → value awaited calls (expr_of x) ≡ charged 1 (framed calls (to_prefix o) (value false calls (expr_of t.value)))
  unary_begins at o inner t x e et =
      ap (λ z. value awaited calls (expr_of z)) e ∙ ap (λ z. charged 1 (framed calls (to_prefix o) (value false calls (expr_of z)))) (sym et)

  -- An await begins with its operand.
  pub await_begins : (at : ℕ) (inner t : Arc Expr Global) (x : Expr) → x ≡ node.Await at inner → t.value ≡ inner.value
      → value awaited calls (expr_of x) ≡ charged 1 (value true calls (expr_of t.value))
  await_begins at inner t x e et = ap (λ z. value awaited calls (expr_of z)) e ∙ ap (λ z. charged 1 (value true calls (expr_of z))) (sym et)

  -- A list begins with its items.
  pub list_begins : (at : ℕ) (es : Vec (Arc Expr Global) Global) (nd : Arc Expr Global) (x : Expr) (got : List Value) → x ≡ node.List at es → nd.value ≡ x → got ≡ []
      → value awaited calls (expr_of x) ≡ charged 1 (exprs calls (exprs_from 0 (exprs_of (expr_of nd.value))) (trees_in got))
  list_begins at es nd x got e en none =
      ap (λ z. value awaited calls (expr_of z)) e ∙ ap (λ z. charged 1 (exprs calls (exprs_from 0 (exprs_of (expr_of z))) [])) (sym (en ∙ e))
      ∙ ap (λ vs. charged 1 (exprs calls (exprs_from 0 (exprs_of (expr_of nd.value))) (trees_in vs))) (sym none)

  -- A record begins with its pairs.
  pub record_begins : (at : ℕ) (ps : Vec Pair Global) (nd : Arc Expr Global) (x : Expr) (got : List (List ℕ × Value)) → x ≡ node.Record at ps → nd.value ≡ x → got ≡ []
      → value awaited calls (expr_of x) ≡ charged 1 (pairs calls (pairs_from 0 (pairs_of (expr_of nd.value))) (pairs_in got))
  record_begins at ps nd x got e en none =
      ap (λ z. value awaited calls (expr_of z)) e ∙ ap (λ z. charged 1 (pairs calls (pairs_from 0 (pairs_of (expr_of z))) [])) (sym (en ∙ e))
      ∙ ap (λ vs. charged 1 (pairs calls (pairs_from 0 (pairs_of (expr_of nd.value))) (pairs_in vs))) (sym none)

  -- An error begins with its message.
  pub error_begins : (at : ℕ) (m : Option (Arc Expr Global)) (x : Expr) → x ≡ node.NewError at m
      → value awaited calls (expr_of x) ≡ charged 1 (message calls (option_expr_in m))
  error_begins at m x e = ap (λ z. value awaited calls (expr_of z)) e ∙ ap (λ z. charged 1 (message calls z)) (hidden_option m)

  -- `this` alone is nothing that a script has.
  pub this_begins : (at : ℕ) (x : Expr) → x ≡ node.This at → value awaited calls (expr_of x) ≡ charged 1 (ends (threw value_tree.undefined))
  this_begins at x e = ap (λ z. value awaited calls (expr_of z)) e

  -- A variable is read.
  pub variable_begins : (n : Name) (nd : Arc Expr Global) (x : Expr) → x ≡ node.Variable n → nd.value ≡ x
      → value awaited calls (expr_of x) ≡ charged 1 (variable_of (name_of (expr_of nd.value)))
  variable_begins n nd x e en = ap (λ z. value awaited calls (expr_of z)) e ∙ ap (λ z. charged 1 (variable_of (name_of (expr_of z)))) (sym (en ∙ e))

-- Expressions that have nothing of their own besides the one in them.
use Rattle.std.proofs.Common.{◌≡◌, ℕ, ◌<◌, Bool, false, List, [], ◌∷◌, length, subst, refl, sym, ap, ◌∙◌, arith}
use Rattle.std.proofs.lemmas.List.{nil_from_length}
use Rattle.std.specs.declared.sync.Arc.{Arc}
use Rattle.std.specs.declared.vec.Vec.{Vec}
use Rattle.std.specs.declared.alloc.Global.{Global}
use Rattle.do_tree.proofs.Rows.{hidden_exprs, hidden_operands}
use Rattle.do_tree.specs.Nodes.{exprs_in, operands_in}
use Rattle.do_tree.specs.Seen.{expr_of}
use Rattle.do_tree.specs.Tree as tree
use Rattle.do_tree.specs.declared.expr.Chain.{Chain}
use Rattle.do_tree.specs.declared.expr.Expr.{Expr}
use Rattle.do_tree.specs.declared.expr.Expr.TheVariants as node
use Rattle.do_tree.specs.declared.expr.Operand.{Operand}
use Rattle.script_mean.specs.Answers.{Outcome, gave, threw, returned, broke, continued}
use Rattle.script_mean.specs.Calls.{Calls}
use Rattle.script_mean.specs.Meaning.{value}
use Rattle.script_mean.specs.Task.{Env}
use Rattle.script_mean.specs.Turn.{Run, Next, State, give, on_value, ◌>>=◌}
use Rattle.script_steps.proofs.Begun.{charged_steps}
use Rattle.script_steps.specs.Parts.{IsBare, IsPlain}

-- What gives a value on changes nothing.
given_on : (next : Next) (o : Outcome) (env : Env) (st : State) → on_value (λ v. give v) next o env st ≡ next o env st
given_on next (gave v) env st = refl
given_on next (threw v) env st = refl
given_on next (returned v) env st = refl
given_on next broke env st = refl
given_on next continued env st = refl

bind_gives : (part : Run) → part >>= (λ v. give v) ≡ part
bind_gives part = λ i env next st. part env (λ o then_env then_st. given_on next o then_env then_st i) st

module _ (awaited : Bool) (calls : Calls) where
  -- A chain of one operand is the operand.
  lazy_alone : (at : ℕ) (k : Chain) (e : tree.Expr) → value awaited calls (tree.lazy at k e tree.no_exprs) ≡ value false calls e
  lazy_alone at k e = charged_steps 0 (value false calls e >>= (λ v. give v)) ∙ bind_gives (value false calls e)

  strict_alone : (at : ℕ) (e : tree.Expr) → value awaited calls (tree.strict at e tree.no_operands) ≡ value false calls e
  strict_alone at e = charged_steps 0 (value false calls e >>= (λ v. give v)) ∙ bind_gives (value false calls e)

  -- Brackets.
  pub group_is : (at : ℕ) (inner : Arc Expr Global) (x : Expr) → x ≡ node.Group at inner → value awaited calls (expr_of x) ≡ value false calls (expr_of inner.value)
  group_is at inner x e = ap (λ z. value awaited calls (expr_of z)) e

  -- The same of the node that keeps it.
  pub lazy_is : (at : ℕ) (k : Chain) (first : Arc Expr Global) (rest : Vec (Arc Expr Global) Global) (x : Expr) → x ≡ node.Lazy at k first rest → length rest.items ≡ 0
      → value awaited calls (expr_of x) ≡ value false calls (expr_of first.value)
  lazy_is at k first rest x e none =
      ap (λ z. value awaited calls (expr_of z)) e
      ∙ ap (λ es. value awaited calls (tree.lazy at k (expr_of first.value) es)) (hidden_exprs rest ∙ ap exprs_in (nil_from_length rest.items none))
      ∙ lazy_alone at k (expr_of first.value)

  -- The same of a chain of operators.
  pub strict_is : (at : ℕ) (first : Arc Expr Global) (rest : Vec Operand Global) (x : Expr) → x ≡ node.Strict at first rest → length rest.items ≡ 0
      → value awaited calls (expr_of x) ≡ value false calls (expr_of first.value)
  strict_is at first rest x e none =
      ap (λ z. value awaited calls (expr_of z)) e
      ∙ ap (λ os. value awaited calls (tree.strict at (expr_of first.value) os)) (hidden_operands rest ∙ ap operands_in (nil_from_length rest.items none))
      ∙ strict_alone at (expr_of first.value)

-- A chain of more operands than one has operators of its own.
some_exprs : (at : ℕ) (k : Chain) (e : tree.Expr) (xs : List (Arc Expr Global)) → 0 < length xs → IsBare (tree.lazy at k e (exprs_in xs))
some_exprs at k e [] some = absurd (omega arith)
some_exprs at k e (x ∷ xs) some = tt

some_operands : (at : ℕ) (e : tree.Expr) (xs : List Operand) → 0 < length xs → IsBare (tree.strict at e (operands_in xs))
some_operands at e [] some = absurd (omega arith)
some_operands at e (x ∷ xs) some = tt

-- The same of the node that keeps it.
pub lazy_bare : (at : ℕ) (k : Chain) (first : Arc Expr Global) (rest : Vec (Arc Expr Global) Global) (x : Expr) → x ≡ node.Lazy at k first rest → 0 < length rest.items → IsBare (expr_of x)
lazy_bare at k first rest x e some =
    subst (λ z. IsBare (expr_of z)) (sym e)
    (subst (λ es. IsBare (tree.lazy at k (expr_of first.value) es)) (sym (hidden_exprs rest)) (some_exprs at k (expr_of first.value) rest.items some))

-- The same of a chain of operators.
pub strict_bare : (at : ℕ) (first : Arc Expr Global) (rest : Vec Operand Global) (x : Expr) → x ≡ node.Strict at first rest → 0 < length rest.items → IsBare (expr_of x)
strict_bare at first rest x e some =
    subst (λ z. IsBare (expr_of z)) (sym e)
    (subst (λ os. IsBare (tree.strict at (expr_of first.value) os)) (sym (hidden_operands rest)) (some_operands at (expr_of first.value) rest.items some))

-- A chain that is plain has more operands than one.
many_exprs : (at : ℕ) (k : Chain) (e : tree.Expr) (xs : List (Arc Expr Global)) → IsPlain (tree.lazy at k e (exprs_in xs)) → 0 < length xs
many_exprs at k e [] plain = absurd plain
many_exprs at k e (x ∷ xs) plain = omega arith

many_operands : (at : ℕ) (e : tree.Expr) (xs : List Operand) → IsPlain (tree.strict at e (operands_in xs)) → 0 < length xs
many_operands at e [] plain = absurd plain
many_operands at e (x ∷ xs) plain = omega arith

-- The same of the node that keeps it.
pub lazy_many : (at : ℕ) (k : Chain) (first : Arc Expr Global) (rest : Vec (Arc Expr Global) Global) (x : Expr) → x ≡ node.Lazy at k first rest → IsPlain (expr_of x) → 0 < length rest.items
lazy_many at k first rest x e plain =
    many_exprs at k (expr_of first.value) rest.items
    (subst (λ es. IsPlain (tree.lazy at k (expr_of first.value) es)) (hidden_exprs rest) (subst (λ z. IsPlain (expr_of z)) e plain))

-- The same of a chain of operators.
pub strict_many : (at : ℕ) (first : Arc Expr Global) (rest : Vec Operand Global) (x : Expr) → x ≡ node.Strict at first rest → IsPlain (expr_of x) → 0 < length rest.items
strict_many at first rest x e plain =
    many_operands at (expr_of first.value) rest.items
    (subst (λ os. IsPlain (tree.strict at (expr_of first.value) os)) (hidden_operands rest) (subst (λ z. IsPlain (expr_of z)) e plain))

-- Chains of operators, an operand after another.
use Rattle.std.proofs.Common.{◌≡◌, ℕ, suc, ◌+◌, ◌<◌, ◌≤◌, Bool, false, List, length, get_or, Ok, Err, subst, refl, sym, ap, ◌∙◌}
use Rattle.std.specs.declared.sync.Arc.{Arc}
use Rattle.std.specs.declared.vec.Vec.{Vec}
use Rattle.std.specs.declared.alloc.Global.{Global}
use Rattle.do_value.specs.Tree.{Tree}
use Rattle.do_tree.specs.Nodes.{operands_in}
use Rattle.do_tree.specs.Seen.{expr_of}
use Rattle.do_tree.specs.declared.expr.Expr.{Expr}
use Rattle.do_tree.specs.declared.expr.Expr.TheVariants as node
use Rattle.do_tree.specs.declared.expr.Operand.{Operand}
use Rattle.script_mean.specs.Answers.{gave, threw}
use Rattle.script_mean.specs.Calls.{Calls}
use Rattle.script_mean.specs.Frames.{to_apply, to_operate}
use Rattle.script_mean.specs.Meaning.{strict, value}
use Rattle.script_mean.specs.Task.{Env}
use Rattle.script_mean.specs.Turn.{Next, Run, State, ends}
use Rattle.script_ops.specs.Binary.{binary}
use Rattle.script_paths.proofs.AtOnce.{at_once}
use Rattle.script_paths.proofs.Starts.{plain_is}
use Rattle.script_paths.specs.Onward.{is_path}
use Rattle.script_paths.specs.Reading.{GivesIn}
use Rattle.script_steps.proofs.Begun.{applied_err, applied_ok, strict_begins}
use Rattle.script_steps.proofs.Parts.{operands_at, operands_past, strict_operands}
use Rattle.script_steps.proofs.Stripped.{strict_many}
use Rattle.script_steps.specs.Parts.{IsBare, IsPlain, operands_from, operands_of}
use Rattle.script_steps.specs.Seen.{applied, charged, framed}

-- A chain begins with its first operand.
pub chain_begins : (awaited : Bool) (at : ℕ) (first nd : Arc Expr Global) (rest : Vec Operand Global) (xs : List Operand) → nd.value ≡ node.Strict at first rest → rest.items ≡ xs
    → (calls : Calls) (env : Env) (next : Next) (st : State) → value awaited calls (expr_of nd.value) env next st
    ≡ charged (length xs) (framed calls (to_operate (operands_in xs)) (value false calls (expr_of first.value))) env next st
chain_begins awaited at first nd rest xs e items calls env next st =
    ap (λ (r : Run). r env next st)
    (strict_begins calls awaited at first rest nd first nd.value (length rest.items) e refl refl refl
    ∙ ap (λ os. charged (length rest.items) (framed calls (to_operate os) (value false calls (expr_of first.value)))) (strict_operands at first rest nd.value e)
    ∙ ap (λ ys. charged (length ys) (framed calls (to_operate (operands_in ys)) (value false calls (expr_of first.value)))) items)

-- One that has something of its own has a further operand.
pub chain_some : (at : ℕ) (first : Arc Expr Global) (rest : Vec Operand Global) (xs : List Operand) (x : Expr) → x ≡ node.Strict at first rest → rest.items ≡ xs
    → IsBare (expr_of x) → 0 < length xs
chain_some at first rest xs x e items bare =
    let plain : IsPlain (expr_of x) = plain_is (expr_of x) bare (ap (λ y. is_path (expr_of y)) e) in
    subst (λ ys. 0 < length ys) items (strict_many at first rest x e plain)

module _ (xs : List Operand) (n m : ℕ) (x : Operand) where
  -- It waits for the operand at a place.
  pub operand_waits : (calls : Calls) (cost : ℕ) (v : Tree) (nd nd_again inner : Arc Expr Global) → n < length xs → x ≡ get_or xs n x → m ≡ suc n
      → operands_of (expr_of nd.value) ≡ operands_in xs → nd_again.value ≡ nd.value → inner.value ≡ x.value.value
      → charged cost (strict calls v (operands_from n (operands_in xs)))
      ≡ charged cost (framed calls (to_apply v x.op (operands_from m (operands_of (expr_of nd_again.value)))) (value false calls (expr_of inner.value)))
  operand_waits calls cost v nd nd_again inner less is behind these same same_inner =
      ap (λ os. charged cost (strict calls v os)) (operands_at xs n x less is)
      ∙ ap (λ k. charged cost (framed calls (to_apply v x.op (operands_from k (operands_in xs))) (value false calls (expr_of x.value.value)))) (sym behind)
      ∙ ap (λ os. charged cost (framed calls (to_apply v x.op (operands_from m os)) (value false calls (expr_of x.value.value)))) (sym these)
      ∙ ap (λ z. charged cost (framed calls (to_apply v x.op (operands_from m (operands_of (expr_of z)))) (value false calls (expr_of x.value.value)))) (sym same)
      ∙ ap (λ z. charged cost (framed calls (to_apply v x.op (operands_from m (operands_of (expr_of nd_again.value)))) (value false calls (expr_of z)))) (sym same_inner)

  -- Its operator is applied where the value of the operand is had at once.
  operand_applied : (calls : Calls) (cost : ℕ) (v u : Tree) (env : Env) (next : Next) (st : State) → n < length xs → x ≡ get_or xs n x → m ≡ suc n
      → GivesIn env (expr_of x.value.value) u → charged cost (strict calls v (operands_from n (operands_in xs))) env next st
      ≡ charged (cost + 1) (applied calls x.op v u (operands_from m (operands_in xs))) env next st
  operand_applied calls cost v u env next st less is behind gives =
      ap (λ os. charged cost (strict calls v os) env next st) (operands_at xs n x less is)
      ∙ at_once cost calls (to_apply v x.op (operands_from (suc n) (operands_in xs))) (expr_of x.value.value) u env gives next st
      ∙ ap (λ k. charged (cost + 1) (applied calls x.op v u (operands_from k (operands_in xs))) env next st) (sym behind)

  -- It goes on with what the operator gives.
  pub operand_goes : (calls : Calls) (cost : ℕ) (v u w : Tree) (env : Env) (next : Next) (st : State) → n < length xs → x ≡ get_or xs n x → m ≡ suc n
      → GivesIn env (expr_of x.value.value) u → binary x.op v u ≡ Ok w → charged cost (strict calls v (operands_from n (operands_in xs))) env next st
      ≡ charged (cost + 1) (strict calls w (operands_from m (operands_in xs))) env next st
  operand_goes calls cost v u w env next st less is behind gives e =
      operand_applied calls cost v u env next st less is behind gives
      ∙ ap (λ r. charged (cost + 1) r env next st) (applied_ok calls x.op v u w (operands_from m (operands_in xs)) e)

  -- It ends where the operator throws.
  pub operand_throws : (calls : Calls) (cost : ℕ) (v u w : Tree) (env : Env) (next : Next) (st : State) → n < length xs → x ≡ get_or xs n x → m ≡ suc n
      → GivesIn env (expr_of x.value.value) u → binary x.op v u ≡ Err w → charged cost (strict calls v (operands_from n (operands_in xs))) env next st
      ≡ charged (cost + 1) (ends (threw w)) env next st
  operand_throws calls cost v u w env next st less is behind gives e =
      operand_applied calls cost v u env next st less is behind gives
      ∙ ap (λ r. charged (cost + 1) r env next st) (applied_err calls x.op v u w (operands_from m (operands_in xs)) e)

-- Behind the last operand it gives its value.
pub chain_ends : (calls : Calls) (cost : ℕ) (xs : List Operand) (n : ℕ) (v : Tree) → length xs ≤ n
    → charged cost (strict calls v (operands_from n (operands_in xs))) ≡ charged cost (ends (gave v))
chain_ends calls cost xs n v h = ap (λ os. charged cost (strict calls v os)) (operands_past xs n h)

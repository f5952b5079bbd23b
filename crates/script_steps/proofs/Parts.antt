-- The parts of nodes from a place on.
use Rattle.std.proofs.Common.{◌≡◌, ℕ, zero, suc, ◌<◌, ◌≤◌, List, [], ◌∷◌, drop, length, get_or, refl, sym, ap, ◌∙◌, arith}
use Rattle.std.specs.declared.sync.Arc.{Arc}
use Rattle.std.specs.declared.vec.Vec.{Vec}
use Rattle.std.specs.declared.alloc.Global.{Global}
use Rattle.do_tree.proofs.Rows.{hidden_exprs, hidden_operands, hidden_pairs}
use Rattle.do_tree.specs.Nodes.{exprs_in, operands_in, option_expr_in, pairs_in}
use Rattle.do_tree.specs.Seen.{expr_of, items_in, named_of, with_item}
use Rattle.do_value.specs.Seen.{tree_of, trees_in}
use Rattle.do_value.specs.Tree.{Tree}
use Rattle.do_value.specs.declared.value.Value.{Value}
use Rattle.do_tree.specs.declared.expr.Arg.TheBlock as block
use Rattle.do_tree.specs.declared.stmt.Item.{Item}
use Rattle.do_tree.specs.Tree as tree
use Rattle.do_tree.specs.declared.expr.Chain.{Chain}
use Rattle.do_tree.specs.declared.expr.Expr.{Expr}
use Rattle.do_tree.specs.declared.expr.Expr.TheVariants as node
use Rattle.do_tree.specs.declared.expr.Operand.{Operand}
use Rattle.do_tree.specs.declared.expr.Pair.{Pair}
use Rattle.script_steps.specs.Parts.{exprs_from, exprs_of, items_from, operands_from, operands_of, pairs_from, pairs_of}

-- The lists of nodes, as trees.
pub lazy_exprs : (at : ℕ) (k : Chain) (first : Arc Expr Global) (rest : Vec (Arc Expr Global) Global) (x : Expr) → x ≡ node.Lazy at k first rest
    → exprs_of (expr_of x) ≡ exprs_in rest.items
lazy_exprs at k first rest x e = ap (λ y. exprs_of (expr_of y)) e ∙ hidden_exprs rest

-- The items of a list.
pub list_exprs : (at : ℕ) (rest : Vec (Arc Expr Global) Global) (x : Expr) → x ≡ node.List at rest
    → exprs_of (expr_of x) ≡ exprs_in rest.items
list_exprs at rest x e = ap (λ y. exprs_of (expr_of y)) e ∙ hidden_exprs rest

-- The operands of a chain of operators.
pub strict_operands : (at : ℕ) (first : Arc Expr Global) (rest : Vec Operand Global) (x : Expr) → x ≡ node.Strict at first rest
    → operands_of (expr_of x) ≡ operands_in rest.items
strict_operands at first rest x e = ap (λ y. operands_of (expr_of y)) e ∙ hidden_operands rest

-- None of none, and none past the last.
pub exprs_from_none : (n : ℕ) → exprs_from n tree.no_exprs ≡ tree.no_exprs
exprs_from_none zero = refl
exprs_from_none (suc n) = refl

-- None of none.
pub operands_from_none : (n : ℕ) → operands_from n tree.no_operands ≡ tree.no_operands
operands_from_none zero = refl
operands_from_none (suc n) = refl

-- None past the last.
pub exprs_past : (xs : List (Arc Expr Global)) (n : ℕ) → length xs ≤ n → exprs_from n (exprs_in xs) ≡ tree.no_exprs
exprs_past [] n h = exprs_from_none n
exprs_past (x ∷ xs) zero h = absurd (omega arith)
exprs_past (x ∷ xs) (suc n) h = exprs_past xs n (omega arith)

-- None past the last.
pub operands_past : (xs : List Operand) (n : ℕ) → length xs ≤ n → operands_from n (operands_in xs) ≡ tree.no_operands
operands_past [] n h = operands_from_none n
operands_past (x ∷ xs) zero h = absurd (omega arith)
operands_past (x ∷ xs) (suc n) h = operands_past xs n (omega arith)

-- The one at a place, and those behind it.
pub exprs_at : (xs : List (Arc Expr Global)) (n : ℕ) (x : Arc Expr Global) → n < length xs → x ≡ get_or xs n x
    → exprs_from n (exprs_in xs) ≡ tree.expr (expr_of x.value) (exprs_from (suc n) (exprs_in xs))
exprs_at [] n x h e = absurd (omega arith)
exprs_at (y ∷ xs) zero x h e = ap (λ (z : Arc Expr Global). tree.expr (expr_of z.value) (exprs_in xs)) (sym e)
exprs_at (y ∷ xs) (suc n) x h e = exprs_at xs n x (omega arith) e

-- The operand at a place, and those behind it.
pub operands_at : (xs : List Operand) (n : ℕ) (x : Operand) → n < length xs → x ≡ get_or xs n x
    → operands_from n (operands_in xs) ≡ tree.operand x.op (expr_of x.value.value) (operands_from (suc n) (operands_in xs))
operands_at [] n x h e = absurd (omega arith)
operands_at (y ∷ xs) zero x h e = ap (λ (z : Operand). tree.operand z.op (expr_of z.value.value) (operands_in xs)) (sym e)
operands_at (y ∷ xs) (suc n) x h e = operands_at xs n x (omega arith) e

-- Pairs.
pub record_pairs : (at : ℕ) (ps : Vec Pair Global) (x : Expr) → x ≡ node.Record at ps → pairs_of (expr_of x) ≡ pairs_in ps.items
record_pairs at ps x e = ap (λ y. pairs_of (expr_of y)) e ∙ hidden_pairs ps

-- None of none.
pub pairs_from_none : (n : ℕ) → pairs_from n tree.no_pairs ≡ tree.no_pairs
pairs_from_none zero = refl
pairs_from_none (suc n) = refl

-- None past the last.
pub pairs_past : (xs : List Pair) (n : ℕ) → length xs ≤ n → pairs_from n (pairs_in xs) ≡ tree.no_pairs
pairs_past [] n h = pairs_from_none n
pairs_past (x ∷ xs) zero h = absurd (omega arith)
pairs_past (x ∷ xs) (suc n) h = pairs_past xs n (omega arith)

-- The pair at a place, and those behind it.
pub pairs_at : (xs : List Pair) (n : ℕ) (x : Pair) → n < length xs → x ≡ get_or xs n x
    → pairs_from n (pairs_in xs) ≡ tree.pair (named_of x.key) (option_expr_in x.value) (pairs_from (suc n) (pairs_in xs))
pairs_at [] n x h e = absurd (omega arith)
pairs_at (y ∷ xs) zero x h e = ap (λ (z : Pair). tree.pair (named_of z.key) (option_expr_in z.value) (pairs_in xs)) (sym e)
pairs_at (y ∷ xs) (suc n) x h e = pairs_at xs n x (omega arith) e

-- The items of a list's value.
mapped_past : (xs : List Value) (n : ℕ) → length xs ≤ n → drop n (trees_in xs) ≡ []
mapped_past [] zero h = refl
mapped_past [] (suc n) h = refl
mapped_past (x ∷ xs) zero h = absurd (omega arith)
mapped_past (x ∷ xs) (suc n) h = mapped_past xs n (omega arith)

-- The tree of the value at a place, and those behind it.
mapped_at : (xs : List Value) (n : ℕ) (x : Value) → n < length xs → x ≡ get_or xs n x → drop n (trees_in xs) ≡ tree_of x ∷ drop (suc n) (trees_in xs)
mapped_at [] n x h e = absurd (omega arith)
mapped_at (y ∷ xs) zero x h e = ap (λ z. tree_of z ∷ trees_in xs) (sym e)
mapped_at (y ∷ xs) (suc n) x h e = mapped_at xs n x (omega arith) e

-- No value past the last.
pub values_past : (ts : List Tree) (xs : List Value) (n : ℕ) → trees_in xs ≡ ts → length xs ≤ n → drop n ts ≡ []
values_past ts xs n e h = ap (drop n) (sym e) ∙ mapped_past xs n h

-- The value at a place, and those behind it.
pub values_at : (ts : List Tree) (xs : List Value) (n : ℕ) (x : Value) → trees_in xs ≡ ts → n < length xs → x ≡ get_or xs n x
    → drop n ts ≡ tree_of x ∷ drop (suc n) ts
values_at ts xs n x e h g = ap (drop n) (sym e) ∙ mapped_at xs n x h g ∙ ap (λ us. tree_of x ∷ drop (suc n) us) e

-- The items of a block from a place on.
pub items_past : (xs : List Item) (n : ℕ) → length xs ≤ n → items_from n (items_in xs) ≡ tree.no_items
items_past [] zero h = refl
items_past [] (suc n) h = refl
items_past (x ∷ xs) zero h = absurd (omega arith)
items_past (block.Declare' at b name v ∷ xs) (suc n) h = items_past xs n (omega arith)
items_past (block.Stmt' p s ∷ xs) (suc n) h = items_past xs n (omega arith)

-- The item at a place, and those behind it.
pub items_at : (xs : List Item) (n : ℕ) (x : Item) → n < length xs → x ≡ get_or xs n x
    → items_from n (items_in xs) ≡ with_item x (items_from (suc n) (items_in xs))
items_at [] n x h e = absurd (omega arith)
items_at (block.Declare' at b name v ∷ xs) zero x h e = ap (λ z. with_item z (items_in xs)) (sym e)
items_at (block.Stmt' p s ∷ xs) zero x h e = ap (λ z. with_item z (items_in xs)) (sym e)
items_at (block.Declare' at b name v ∷ xs) (suc n) x h e = items_at xs n x (omega arith) e
items_at (block.Stmt' p s ∷ xs) (suc n) x h e = items_at xs n x (omega arith) e

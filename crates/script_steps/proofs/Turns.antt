-- How blocks, loops and simple statements go on.
use Rattle.std.proofs.Common.{◌≡◌, ℕ, suc, ◌+◌, true, false, List, [], ◌∷◌, Option, Some, None, refl, sym, ap, ◌∙◌, arith}
use Rattle.std.specs.declared.sync.Arc.{Arc}
use Rattle.std.specs.declared.alloc.Global.{Global}
use Rattle.do_value.specs.Tree.{Tree, trees_of}
use Rattle.do_value.specs.Seen.{tree_of}
use Rattle.do_value.specs.Tree as value_tree
use Rattle.do_value.specs.declared.value.Value.{Value}
use Rattle.do_value.specs.declared.value.Value.TheVariants as a_value
use Rattle.do_tree.proofs.Rows.{hidden_option}
use Rattle.do_tree.specs.Nodes.{block_in, option_expr_in, option_stmt_in, simple_of}
use Rattle.do_tree.specs.Seen.{expr_of, named_of, stmt_of, with_item, write_of}
use Rattle.do_tree.specs.Tree as tree
use Rattle.do_tree.specs.declared.expr.Arg.TheBlock as kept
use Rattle.do_tree.specs.declared.expr.Expr.{Expr}
use Rattle.do_tree.specs.declared.script.Name.{Name}
use Rattle.do_tree.specs.declared.stmt.Binding.{Binding}
use Rattle.do_tree.specs.declared.stmt.Block.{Block}
use Rattle.do_tree.specs.declared.stmt.Item.{Item}
use Rattle.do_tree.specs.declared.stmt.Item.TheVariants as item
use Rattle.do_tree.specs.declared.stmt.Simple.{Simple}
use Rattle.do_tree.specs.declared.stmt.Stmt.{Stmt}
use Rattle.do_tree.specs.declared.stmt.Write.{Write}
use Rattle.do_tree.specs.declared.stmt.Write.TheVariants as write
use Rattle.script_mean.specs.Answers.{gave, returned}
use Rattle.script_mean.specs.Calls.{Calls}
use Rattle.script_mean.specs.Frames.{Between, again, at_once, between, stepped, to_declare, to_go_on, to_loop, to_next, to_pass, to_return, to_test, to_turn}
use Rattle.script_mean.specs.Law.{unfolded}
use Rattle.script_mean.specs.Meaning.{value, value_or_undefined, body, body_then, each, each_of, run, run_or_pass, simple}
use Rattle.script_mean.specs.Turn.{Run, declare, either, ends, pass}
use Rattle.script_ops.proofs.Parts.{items_back}
use Rattle.script_ops.specs.Truth.{is_true}
use Rattle.script_steps.specs.declared.frame.Between.{Between as Standing}
use Rattle.script_steps.specs.declared.frame.Between.TheVariants as standing
use Rattle.script_steps.specs.Parts.{body_in, declared_in, items_from, name_in}
use Rattle.script_steps.specs.Seen.{between_of, charged, framed, handed, over, returning, visiting, writing}

-- The number behind another, in its two spellings.
pub suc_is : (n : ℕ) → suc n ≡ n + 1
suc_is n = omega arith

module _ (calls : Calls) where
  -- The items of a block.
  pub body_past : (is : tree.Items) → is ≡ tree.no_items → body calls is ≡ ends (gave value_tree.undefined)
  body_past is e = ap (body calls) e

  -- A declaration begins with its value.
  pub declare_goes : (is : tree.Items) (x : Item) (at : ℕ) (b : Binding) (n : Name) (o : Option (Arc Expr Global)) (rest : tree.Items) (part : Run)
      → is ≡ with_item x rest → x ≡ item.Declare at b n o → value_or_undefined calls (option_expr_in o) ≡ part
      → body calls is ≡ charged 1 (framed calls (to_declare (declared_in is) rest) part)
  declare_goes is x at b n o rest part e ex p =
      let q : is ≡ tree.declare at b (named_of n) (option_expr_in o) rest =
      e ∙ ap (λ z. with_item z rest) ex ∙ ap (λ z. tree.declare at b (named_of n) z rest) (hidden_option o) in
      ap (body calls) q ∙ ap (λ r. charged 1 (framed calls (to_declare (named_of n).text rest) r)) p
      ∙ ap (λ z. charged 1 (framed calls (to_declare (declared_in z) rest) part)) (sym q)

  -- A value that is there.
  pub option_some : (o : Option (Arc Expr Global)) (v t : Arc Expr Global) → o ≡ Some v → t.value ≡ v.value
      → value_or_undefined calls (option_expr_in o) ≡ value false calls (expr_of t.value)
  option_some o v t e et = ap (λ z. value_or_undefined calls (option_expr_in z)) e ∙ ap (λ z. value false calls (expr_of z)) (sym et)

  -- A value that is missing is `undefined`.
  pub option_none : (o : Option (Arc Expr Global)) → o ≡ None → value_or_undefined calls (option_expr_in o) ≡ ends (gave value_tree.undefined)
  option_none o e = ap (λ z. value_or_undefined calls (option_expr_in z)) e

  -- A statement is run, and then the rest of its block.
  pub statement_goes : (is : tree.Items) (x : Item) (s t : Arc Stmt Global) (rest : tree.Items)
      → is ≡ with_item x rest → x ≡ item.Stmt s → t.value ≡ s.value
      → body calls is ≡ framed calls (to_go_on rest) (run calls (stmt_of t.value))
  statement_goes is x s t rest e ex et =
      ap (body calls) (e ∙ ap (λ z. with_item z rest) ex) ∙ ap (λ z. framed calls (to_go_on rest) (run calls (stmt_of z))) (sym et)

  -- A declared name is bound, and then the rest of its block is run.
  pub declares : (name : List ℕ) (v : Tree) (b c : Arc Block Global) (next : ℕ) → c.value ≡ b.value
      → handed calls (to_declare name (items_from next (block_in b.value))) (gave v) ≡ framed calls (to_go_on (items_from next (block_in c.value))) (declare name v)
  declares name v b c next e = ap (λ z. framed calls (to_go_on (items_from next (block_in z))) (declare name v)) (sym e)

  -- Loops.
  pub test_true : (test : tree.Expr) (s t : Arc Stmt Global) (b : Between) (v : Tree) → is_true v ≡ true → t.value ≡ s.value
      → handed calls (to_test test (stmt_of s.value) b) (gave v) ≡ framed calls (to_turn test (stmt_of s.value) b) (run calls (stmt_of t.value))
  test_true test s t b v g e =
      ap (λ x. either x (body_then (run calls (stmt_of s.value)) (over calls test (stmt_of s.value) b)) pass) g
      ∙ ap (λ z. framed calls (to_turn test (stmt_of s.value) b) (run calls (stmt_of z))) (sym e)

  -- A loop whose test is false is over.
  pub test_false : (test : tree.Expr) (s : tree.Stmt) (b : Between) (v : Tree) → is_true v ≡ false
      → handed calls (to_test test s b) (gave v) ≡ ends (gave value_tree.undefined)
  test_false test s b v g = ap (λ x. either x (body_then (run calls s) (over calls test s b)) pass) g

  -- A loop begins with its test.
  pub loop_begins : (test t : Arc Expr Global) (s : tree.Stmt) (b : Between) → t.value ≡ test.value
      → unfolded (value false calls (expr_of test.value)) (run calls s) (between calls b)
      ≡ framed calls (to_test (expr_of test.value) s b) (value false calls (expr_of t.value))
  loop_begins test t s b e = ap (λ z. framed calls (to_test (expr_of test.value) s b) (value false calls (expr_of z))) (sym e)

  -- A loop with nothing between two turns goes on at once.
  pub once_turns : (test : tree.Expr) (s : tree.Stmt) (w : Standing) → w ≡ standing.AtOnce → over calls test s (between_of w) ≡ again calls test s at_once
  once_turns test s w e = ap (λ z. over calls test s (between_of z)) e

  -- A loop with a step between two turns goes on with it.
  pub step_turns : (test : tree.Expr) (s : tree.Stmt) (w : Standing) (p t : Arc Simple Global) → w ≡ standing.Stepped p → t.value ≡ p.value
      → over calls test s (between_of w) ≡ framed calls (to_loop test s (stepped (simple_of p.value))) (simple calls (simple_of t.value))
  step_turns test s w p t e et =
      ap (λ z. over calls test s (between_of z)) e ∙ ap (λ z. framed calls (to_loop test s (stepped (simple_of p.value))) (simple calls (simple_of z))) (sym et)

  -- The branches of an `if` whose test is false.
  pub other_some : (v : Tree) (part : Run) (o : Option (Arc Stmt Global)) (s : Arc Stmt Global) → is_true v ≡ false → o ≡ Some s
      → either (is_true v) part (run_or_pass calls (option_stmt_in o)) ≡ run calls (stmt_of s.value)
  other_some v part o s g e = ap (λ b. either b part (run_or_pass calls (option_stmt_in o))) g ∙ ap (λ z. run_or_pass calls (option_stmt_in z)) e

  -- Nothing is run where the other branch is missing.
  pub other_none : (v : Tree) (part : Run) (o : Option (Arc Stmt Global)) → is_true v ≡ false → o ≡ None
      → either (is_true v) part (run_or_pass calls (option_stmt_in o)) ≡ ends (gave value_tree.undefined)
  other_none v part o g e = ap (λ b. either b part (run_or_pass calls (option_stmt_in o))) g ∙ ap (λ z. run_or_pass calls (option_stmt_in z)) e

  -- A loop over a list goes over its items.
  pub visits : (name : List ℕ) (part : Run) (v : Value) (ts : List Tree) → v ≡ a_value.List ts → each_of name part (tree_of v) ≡ each name part ts
  visits name part v ts e = ap (λ z. each_of name part (tree_of z)) e ∙ ap (each name part) (items_back ts)

  -- A loop over no further items is over.
  pub visit_none : (name : List ℕ) (part : Run) (ts : List Tree) → ts ≡ [] → each name part ts ≡ ends (gave value_tree.undefined)
  visit_none name part ts e = ap (each name part) e

  -- A loop over a list goes on with its next item.
  pub visit_some : (s t : Arc Stmt Global) (ts : List Tree) (v : Tree) (rest : List Tree) → ts ≡ v ∷ rest → t.value ≡ s.value
      → each (name_in (stmt_of s.value)) (run calls (body_in (stmt_of s.value))) ts
      ≡ framed calls (to_next (name_in (stmt_of s.value)) (body_in (stmt_of s.value)) rest) (visiting calls (stmt_of t.value) v)
  visit_some s t ts v rest e et =
      ap (each (name_in (stmt_of s.value)) (run calls (body_in (stmt_of s.value)))) e
      ∙ ap (λ z. framed calls (to_next (name_in (stmt_of s.value)) (body_in (stmt_of s.value)) rest) (visiting calls (stmt_of z) v)) (sym et)

  -- Returns, and simple statements.
  pub return_some : (o : Option (Arc Expr Global)) (v t : Arc Expr Global) → o ≡ Some v → t.value ≡ v.value
      → charged 1 (returning calls (option_expr_in o)) ≡ charged 1 (framed calls to_return (value false calls (expr_of t.value)))
  return_some o v t e et =
      ap (λ z. charged 1 (returning calls (option_expr_in z))) e ∙ ap (λ z. charged 1 (framed calls to_return (value false calls (expr_of z)))) (sym et)

  -- A return without a value.
  pub return_none : (o : Option (Arc Expr Global)) → o ≡ None → charged 1 (returning calls (option_expr_in o)) ≡ charged 1 (ends (returned value_tree.undefined))
  return_none o e = ap (λ z. charged 1 (returning calls (option_expr_in z))) e

  -- An expression that is run for itself begins.
  pub expression_begins : (p : Simple) (t : Arc Expr Global) → p.write ≡ write.Nothing → t.value ≡ p.place.value
      → simple calls (simple_of p) ≡ charged 1 (framed calls to_pass (value false calls (expr_of t.value)))
  expression_begins p t e et =
      ap (λ w. simple calls (write_of w p.at (expr_of p.place.value))) e ∙ ap (λ z. charged 1 (framed calls to_pass (value false calls (expr_of z)))) (sym et)

  -- A write charges a step, and then its place is found.
  writes : (w : Write) (at : ℕ) (p : tree.Expr) → (w ≡ write.Nothing → ⊥) → simple calls (write_of w at p) ≡ charged 1 (writing calls (write_of w at p))
  writes kept.Nothing at p some = absurd (some refl)
  writes (kept.Write::Value' q e) at p some = refl
  writes (kept.Sum' q e) at p some = refl
  writes (kept.Difference' q e) at p some = refl
  writes kept.OneMore at p some = refl
  writes kept.OneLess at p some = refl

  -- The same of the node that is kept.
  pub write_begins : (p q : Simple) (t : Arc Simple Global) → (q.write ≡ write.Nothing → ⊥) → q ≡ p → t.value ≡ p
      → simple calls (simple_of p) ≡ charged 1 (writing calls (simple_of t.value))
  write_begins p q t some same e =
      ap (λ z. simple calls (simple_of z)) (sym same) ∙ writes q.write q.at (expr_of q.place.value) some
      ∙ ap (λ z. charged 1 (writing calls (simple_of z))) (same ∙ sym e)

-- How statements begin.
use Rattle.std.proofs.Common.{◌≡◌, ℕ, false, [], Option, Some, None, refl, sym, ap, ◌∙◌}
use Rattle.std.specs.declared.sync.Arc.{Arc}
use Rattle.std.specs.declared.alloc.Global.{Global}
use Rattle.do_tree.proofs.Rows.{hidden_items, hidden_option}
use Rattle.do_tree.specs.Nodes.{block_in, option_expr_in, option_stmt_in, simple_of}
use Rattle.do_tree.specs.Seen.{expr_of, option_stmt_of, stmt_of}
use Rattle.do_tree.specs.Tree as tree
use Rattle.do_tree.specs.declared.expr.Arg.TheBlock as kept
use Rattle.do_tree.specs.declared.expr.Expr.{Expr}
use Rattle.do_tree.specs.declared.script.Name.{Name}
use Rattle.do_tree.specs.declared.stmt.Binding.{Binding}
use Rattle.do_tree.specs.declared.stmt.Block.{Block}
use Rattle.do_tree.specs.declared.stmt.Simple.{Simple}
use Rattle.do_tree.specs.declared.stmt.Stmt.{Stmt}
use Rattle.do_tree.specs.declared.stmt.Stmt.TheVariants as node
use Rattle.script_mean.specs.Answers.{broke, continued}
use Rattle.script_mean.specs.Calls.{Calls}
use Rattle.script_mean.specs.Frames.{to_branch, to_count, to_visit, to_catch, to_throw, at_once, again}
use Rattle.script_mean.specs.Meaning.{value, run, body, simple}
use Rattle.script_mean.specs.Turn.{Run, ends, within}
use Rattle.script_steps.specs.Parts.{name_in, test_in, body_in, step_in, caught_in, handler_in}
use Rattle.script_steps.specs.Seen.{charged, framed, returning}

-- A branch that may be missing, by the node that keeps it.
held_stmt : (o : Option (Arc Stmt Global)) → option_stmt_of (kept.back-Stmt-If-3 o) ≡ option_stmt_in o
held_stmt None = refl
held_stmt (Some s) = refl

module _ (calls : Calls) where
  -- A block begins with names of its own.
  pub block_begins : (b t : Arc Block Global) (x : Stmt) → x ≡ node.Block b → t.value ≡ b.value
      → run calls (stmt_of x) ≡ charged 1 (within [] (body calls (block_in t.value)))
  block_begins b t x e et =
      ap (λ y. run calls (stmt_of y)) e ∙ ap (λ is. charged 1 (within [] (body calls is))) (hidden_items b.value.items)
      ∙ ap (λ z. charged 1 (within [] (body calls (block_in z)))) (sym et)

  -- `if` begins with its test.
  pub if_begins : (at : ℕ) (test t : Arc Expr Global) (s r : Arc Stmt Global) (o p : Option (Arc Stmt Global)) (x : Stmt)
      → x ≡ node.If at test s o → t.value ≡ test.value → r.value ≡ s.value → option_stmt_in p ≡ option_stmt_in o
      → run calls (stmt_of x) ≡ charged 1 (framed calls (to_branch (stmt_of r.value) (option_stmt_in p)) (value false calls (expr_of t.value)))
  if_begins at test t s r o p x e et er ep =
      ap (λ y. run calls (stmt_of y)) e
      ∙ ap (λ q. charged 1 (framed calls (to_branch (stmt_of s.value) q) (value false calls (expr_of test.value)))) (held_stmt o ∙ sym ep)
      ∙ ap (λ z. charged 1 (framed calls (to_branch (stmt_of z) (option_stmt_in p)) (value false calls (expr_of test.value)))) (sym er)
      ∙ ap (λ z. charged 1 (framed calls (to_branch (stmt_of r.value) (option_stmt_in p)) (value false calls (expr_of z)))) (sym et)

  -- `while` is a loop with nothing between two turns.
  pub while_begins : (at : ℕ) (test t : Arc Expr Global) (s r : Arc Stmt Global) (x : Stmt)
      → x ≡ node.While at test s → t.value ≡ test.value → r.value ≡ s.value
      → run calls (stmt_of x) ≡ charged 1 (again calls (expr_of t.value) (stmt_of r.value) at_once)
  while_begins at test t s r x e et er =
      ap (λ y. run calls (stmt_of y)) e
      ∙ ap (λ z. charged 1 (again calls (expr_of z) (stmt_of s.value) at_once)) (sym et)
      ∙ ap (λ z. charged 1 (again calls (expr_of t.value) (stmt_of z) at_once)) (sym er)

  -- A counting loop begins with its first value.
  pub for_begins : (at : ℕ) (n : Name) (first test : Arc Expr Global) (p : Arc Simple Global) (s : Arc Stmt Global) (nd : Arc Stmt Global) (t : Arc Expr Global) (x : Stmt)
      → x ≡ node.For at n first test p s → nd.value ≡ x → t.value ≡ first.value
      → run calls (stmt_of x)
      ≡ charged 1 (framed calls (to_count (name_in (stmt_of nd.value)) (test_in (stmt_of nd.value)) (body_in (stmt_of nd.value)) (step_in (stmt_of nd.value))) (value false calls (expr_of t.value)))
  for_begins at n first test p s nd t x e en et =
      let part : Stmt → Expr → Run = λ z y. charged 1 (framed calls (to_count (name_in (stmt_of z)) (test_in (stmt_of z)) (body_in (stmt_of z)) (step_in (stmt_of z))) (value false calls (expr_of y))) in
      ap (λ y. run calls (stmt_of y)) e ∙ ap (λ z. part z first.value) (sym (en ∙ e)) ∙ ap (part nd.value) (sym et)

  -- A loop over a list begins with the list.
  pub for_of_begins : (at : ℕ) (b : Binding) (n : Name) (given : Arc Expr Global) (s nd : Arc Stmt Global) (t : Arc Expr Global) (x : Stmt)
      → x ≡ node.ForOf at b n given s → nd.value ≡ x → t.value ≡ given.value
      → run calls (stmt_of x) ≡ charged 1 (framed calls (to_visit (name_in (stmt_of nd.value)) (body_in (stmt_of nd.value))) (value false calls (expr_of t.value)))
  for_of_begins at b n given s nd t x e en et =
      let part : Stmt → Expr → Run = λ z y. charged 1 (framed calls (to_visit (name_in (stmt_of z)) (body_in (stmt_of z))) (value false calls (expr_of y))) in
      ap (λ y. run calls (stmt_of y)) e ∙ ap (λ z. part z given.value) (sym (en ∙ e)) ∙ ap (part nd.value) (sym et)

  -- `try` begins with its block.
  pub try_begins : (at : ℕ) (b : Arc Block Global) (n : Option Name) (h : Arc Block Global) (nd : Arc Stmt Global) (t : Arc Block Global) (x : Stmt)
      → x ≡ node.Try at b n h → nd.value ≡ x → t.value ≡ b.value
      → run calls (stmt_of x) ≡ charged 1 (framed calls (to_catch (caught_in (stmt_of nd.value)) (handler_in (stmt_of nd.value))) (within [] (body calls (block_in t.value))))
  try_begins at b n h nd t x e en et =
      let part : Stmt → tree.Items → Run = λ z is. charged 1 (framed calls (to_catch (caught_in (stmt_of z)) (handler_in (stmt_of z))) (within [] (body calls is))) in
      ap (λ y. run calls (stmt_of y)) e ∙ ap (part (node.Try at b n h)) (hidden_items b.value.items)
      ∙ ap (λ z. part z (block_in b.value)) (sym (en ∙ e)) ∙ ap (λ z. part nd.value (block_in z)) (sym et)

  -- `throw` begins with its value.
  pub throw_begins : (at : ℕ) (inner t : Arc Expr Global) (x : Stmt) → x ≡ node.Throw at inner → t.value ≡ inner.value
      → run calls (stmt_of x) ≡ charged 1 (framed calls to_throw (value false calls (expr_of t.value)))
  throw_begins at inner t x e et = ap (λ y. run calls (stmt_of y)) e ∙ ap (λ z. charged 1 (framed calls to_throw (value false calls (expr_of z)))) (sym et)

  -- `return` begins with its value.
  pub return_begins : (at : ℕ) (o : Option (Arc Expr Global)) (x : Stmt) → x ≡ node.Return at o
      → run calls (stmt_of x) ≡ charged 1 (returning calls (option_expr_in o))
  return_begins at o x e = ap (λ y. run calls (stmt_of y)) e ∙ ap (λ z. charged 1 (returning calls z)) (hidden_option o)

  -- `break` ends at once.
  pub break_begins : (at : ℕ) (x : Stmt) → x ≡ node.Break at → run calls (stmt_of x) ≡ charged 1 (ends broke)
  break_begins at x e = ap (λ y. run calls (stmt_of y)) e

  -- `continue` ends at once.
  pub continue_begins : (at : ℕ) (x : Stmt) → x ≡ node.Continue at → run calls (stmt_of x) ≡ charged 1 (ends continued)
  continue_begins at x e = ap (λ y. run calls (stmt_of y)) e

  -- A simple statement is one.
  pub simple_begins : (p t : Arc Simple Global) (x : Stmt) → x ≡ node.Simple p → t.value ≡ p.value → run calls (stmt_of x) ≡ simple calls (simple_of t.value)
  simple_begins p t x e et = ap (λ y. run calls (stmt_of y)) e ∙ ap (λ z. simple calls (simple_of z)) (sym et)

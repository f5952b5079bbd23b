-- Blocks are entered and left.
use Rattle.std.proofs.Common.{◌≡◌, ℕ, ◌+◌, ◌<◌, List, [], ◌∷◌, refl, sym, ap, ◌∙◌, arith}
use Rattle.std.specs.declared.sync.Arc.{Arc}
use Rattle.std.specs.declared.alloc.Global.{Global}
use Rattle.do_tree.specs.Nodes.{block_in, simple_of}
use Rattle.do_tree.specs.Seen.{expr_of, stmt_of}
use Rattle.do_tree.specs.declared.expr.Expr.{Expr}
use Rattle.do_tree.specs.declared.stmt.Block.{Block}
use Rattle.do_tree.specs.declared.stmt.Simple.{Simple}
use Rattle.do_tree.specs.declared.stmt.Stmt.{Stmt}
use Rattle.do_value.specs.Seen.{tree_of}
use Rattle.do_value.specs.declared.value.Value.{Value}
use Rattle.script_mean.specs.Calls.{Calls}
use Rattle.script_mean.specs.Frames.{again, stepped}
use Rattle.script_mean.specs.Meaning.{body, caught_as, run}
use Rattle.script_mean.specs.Task as task
use Rattle.script_mean.specs.Task.{Scope}
use Rattle.script_mean.specs.Turn.{outer, within, leaving}
use Rattle.script_state.specs.Seen.{state_of}
use Rattle.script_state.specs.declared.done.Done.TheVariants as done
use Rattle.script_state.specs.declared.state.State.{State}
use Rattle.script_steps.specs.Parts.{body_in, caught_in, handler_in, name_in, step_in, test_in}
use Rattle.script_steps.specs.Seen.{focus_run, outcome_of}
use Rattle.script_steps.specs.Weight.{focus_weight}
use Rattle.script_steps.specs.declared.focus.Focus.{Focus}
use Rattle.script_steps.specs.declared.focus.Focus.TheVariants as focus
use Rattle.script_steps.specs.declared.focus.Move.TheVariants as move
use Rattle.script_steps.specs.declared.focus.Outcome.{Outcome}
use Rattle.script_steps.specs.declared.frame.Between.TheVariants as standing
use Rattle.script_steps.specs.declared.frame.Frame.TheVariants as frame
use Rattle.script_vars.specs.Seen.{env_of}
use Rattle.script_vars.specs.declared.bound.Bound.{Bound}
use Rattle.script_eval.specs.Acts.{Changes}
use Rattle.script_eval.specs.declared.act.Act.TheVariants as act

-- A part with names of its own is entered.
pub enter_acts : (f g : Focus) (scope : Scope) (old new : State) (vars : List (List (List ℕ × Bound))) → new ≡ record old { vars = vars }
    → env_of vars ≡ scope ∷ env_of old.vars → ((calls : Calls) → focus_run calls f ≡ within scope (focus_run calls g)) → 2 + focus_weight g < focus_weight f
    → Changes f old new (act.Moves (move.Inside 0 frame.Leave g))
enter_acts f g scope old new vars is entered begins less = λ has_handler. record {
  same = λ calls are next rs.
      ap (λ r. r (env_of old.vars) next (state_of old rs)) (begins calls)
      ∙ ap (λ e. focus_run calls g e (leaving next) (state_of old rs)) (sym entered)
      ∙ ap (λ (s : State). focus_run calls g (env_of s.vars) (leaving next) (state_of s rs)) (sym is);
  less = let fewer : new.left ≡ old.left = ap (λ (s : State). s.left) is in omega (arith, less, fewer);
  ready = tt;
}

-- A block has no name at first.
pub block_acts : (b : Arc Block Global) (old new : State) (vars : List (List (List ℕ × Bound))) → new ≡ record old { vars = vars }
    → env_of vars ≡ [] ∷ env_of old.vars → Changes (focus.Block b) old new (act.Moves (move.Inside 0 frame.Leave (focus.Body b 0)))
block_acts b old new vars is entered = enter_acts (focus.Block b) (focus.Body b 0) [] old new vars is entered (λ calls. refl) (omega arith)

-- A counting loop has its own.
pub count_acts : (s : Arc Stmt Global) (v : Value) (old new : State) (vars : List (List (List ℕ × Bound)))
    (e : Arc Expr Global) (b : Arc Stmt Global) (p : Arc Simple Global) → new ≡ record old { vars = vars }
    → env_of vars ≡ ((name_in (stmt_of s.value), task.value (tree_of v)) ∷ []) ∷ env_of old.vars
    → expr_of e.value ≡ test_in (stmt_of s.value) → stmt_of b.value ≡ body_in (stmt_of s.value) → simple_of p.value ≡ step_in (stmt_of s.value)
    → Changes (focus.Count s v) old new (act.Moves (move.Inside 0 frame.Leave (focus.Loop e b (standing.Stepped p))))
count_acts s v old new vars e b p is entered et bt pt =
    let scope : Scope = (name_in (stmt_of s.value), task.value (tree_of v)) ∷ [] in
    enter_acts (focus.Count s v) (focus.Loop e b (standing.Stepped p)) scope old new vars is entered
    (λ calls.
    ap (λ x. within scope (again calls x (body_in (stmt_of s.value)) (stepped (step_in (stmt_of s.value))))) (sym et)
    ∙ ap (λ x. within scope (again calls (expr_of e.value) x (stepped (step_in (stmt_of s.value))))) (sym bt)
    ∙ ap (λ x. within scope (again calls (expr_of e.value) (stmt_of b.value) (stepped x))) (sym pt))
    (omega arith)

-- So has the body of a loop over a list,
pub visit_acts : (s : Arc Stmt Global) (v : Value) (old new : State) (vars : List (List (List ℕ × Bound))) (b : Arc Stmt Global)
    → new ≡ record old { vars = vars } → env_of vars ≡ ((name_in (stmt_of s.value), task.value (tree_of v)) ∷ []) ∷ env_of old.vars
    → stmt_of b.value ≡ body_in (stmt_of s.value) → Changes (focus.Visit s v) old new (act.Moves (move.Inside 0 frame.Leave (focus.Run b)))
visit_acts s v old new vars b is entered bt =
    let scope : Scope = (name_in (stmt_of s.value), task.value (tree_of v)) ∷ [] in
    enter_acts (focus.Visit s v) (focus.Run b) scope old new vars is entered (λ calls. ap (λ x. within scope (run calls x)) (sym bt)) (omega arith)

-- and a handler what it caught, if it has a name for that.
pub handle_acts : (s : Arc Stmt Global) (v : Value) (old new : State) (vars : List (List (List ℕ × Bound))) (b : Arc Block Global)
    → new ≡ record old { vars = vars } → env_of vars ≡ caught_as (caught_in (stmt_of s.value)) (tree_of v) ∷ env_of old.vars
    → block_in b.value ≡ handler_in (stmt_of s.value) → Changes (focus.Handle s v) old new (act.Moves (move.Inside 0 frame.Leave (focus.Body b 0)))
handle_acts s v old new vars b is entered bt =
    let scope = caught_as (caught_in (stmt_of s.value)) (tree_of v) in
    enter_acts (focus.Handle s v) (focus.Body b 0) scope old new vars is entered (λ calls. ap (λ x. within scope (body calls x)) (sym bt)) (omega arith)

-- A block is left.
pub leave_acts : (o : Outcome) (old new : State) (vars : List (List (List ℕ × Bound))) → new ≡ record old { vars = vars } → env_of vars ≡ outer (env_of old.vars)
    → Changes (focus.Leave o) old new (act.Does (done.Ended o))
leave_acts o old new vars is left = λ has_handler. record {
  same = λ calls are next rs.
      ap (λ e. next (outcome_of o) e (state_of old rs)) (sym left) ∙ ap (λ (s : State). next (outcome_of o) (env_of s.vars) (state_of s rs)) (sym is);
  less = let fewer : new.left ≡ old.left = ap (λ (s : State). s.left) is in omega (arith, fewer);
  ready = tt;
}

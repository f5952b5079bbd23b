-- Parts that unfold.
use Rattle.std.proofs.Common.{◌≡◌, Bool, false, refl, sym, ap, ◌∙◌, subst, arith}
use Rattle.std.specs.declared.sync.Arc.{Arc}
use Rattle.std.specs.declared.alloc.Global.{Global}
use Rattle.do_tree.specs.Seen.{expr_of, stmt_of}
use Rattle.do_tree.specs.Tree as tree
use Rattle.do_tree.specs.declared.expr.Expr.{Expr}
use Rattle.do_tree.specs.declared.stmt.Stmt.{Stmt}
use Rattle.script_mean.specs.Calls.{Calls}
use Rattle.script_mean.specs.Frames.{Between, again, at_once, between, stepped}
use Rattle.script_mean.specs.Law.{LoopsUnfold, unfolded}
use Rattle.script_mean.specs.Meaning.{run, value}
use Rattle.script_mean.specs.Task.{Env}
use Rattle.script_mean.specs.Turn as turn
use Rattle.script_mean.specs.Turn.{Next}
use Rattle.script_paths.specs.Reading.{UnfoldsIn, UnfoldsOn, UnfoldsWith}
use Rattle.script_state.specs.Seen.{state_of}
use Rattle.script_state.specs.declared.state.State.{State}
use Rattle.script_steps.specs.Seen.{between_of, focus_run, move_run}
use Rattle.script_steps.specs.Weight.{LeavesLess, focus_weight}
use Rattle.script_steps.specs.declared.focus.Focus.{Focus}
use Rattle.script_steps.specs.declared.focus.Focus.TheVariants as focus
use Rattle.script_steps.specs.declared.focus.Move.{Move}
use Rattle.script_steps.specs.declared.frame.Between.{Between as Standing}
use Rattle.script_vars.specs.Seen.{env_of}
use Rattle.script_eval.specs.Acts.{AreCalls, Unfolds}
use Rattle.script_eval.specs.declared.act.Act.TheVariants as act

-- A part that unfolds whatever the task has.
pub move_acts : (f : Focus) (s : State) (m : Move) → ((calls : Calls) → focus_run calls f ≡ move_run calls m) → LeavesLess (focus_weight f) m
    → Unfolds f s (act.Moves m)
move_acts f s m same less = λ has_handler. record {
  same = λ calls are next rs. ap (λ r. r (env_of s.vars) next (state_of s rs)) (same calls);
  less = omega (arith, less);
  ready = tt;
}

-- A part that unfolds with what the task has.
pub with_acts : (f : Focus) (s : State) (m : Move) → UnfoldsWith (env_of s.vars) s.fields (λ calls. focus_run calls f) m → LeavesLess (focus_weight f) m
    → Unfolds f s (act.Moves m)
with_acts f s m same less = λ has_handler. record {
  same = λ calls are next rs. same calls next (state_of s rs) refl;
  less = omega (arith, less);
  ready = tt;
}

-- A part that unfolds with the fields of the object alone.
pub on_acts : (f : Focus) (s : State) (m : Move) → UnfoldsOn s.fields (λ calls. focus_run calls f) m → LeavesLess (focus_weight f) m
    → Unfolds f s (act.Moves m)
on_acts f s m same less = with_acts f s m (λ calls next st here. same calls (env_of s.vars) next st here) less

-- A part that unfolds with the variables alone.
pub in_acts : (f : Focus) (s : State) (m : Move) → UnfoldsIn (env_of s.vars) (λ calls. focus_run calls f) m → LeavesLess (focus_weight f) m
    → Unfolds f s (act.Moves m)
in_acts f s m same less = with_acts f s m (λ calls next st here. same calls next st) less

-- A loop is its test, and its body and itself again.
again_unfolds : LoopsUnfold → (has_handler : Bool) (calls : Calls) → AreCalls has_handler calls
    → (test : tree.Expr) (s : tree.Stmt) (b : Between) (env : Env) (next : Next) (st : turn.State)
    → again calls test s b env next st ≡ unfolded (value false calls test) (run calls s) (between calls b) env next st
again_unfolds law has_handler calls are test s at_once env next st =
    subst (λ c. again c test s at_once env next st ≡ unfolded (value false c test) (run c s) (between c at_once) env next st) (sym are.2)
    (law.while_loop are.0 are.1 test s env next st)
again_unfolds law has_handler calls are test s (stepped p) env next st =
    subst (λ c. again c test s (stepped p) env next st ≡ unfolded (value false c test) (run c s) (between c (stepped p)) env next st) (sym are.2)
    (law.for_loop are.0 are.1 test s p env next st)

pub loop_acts : LoopsUnfold → (e : Arc Expr Global) (s : Arc Stmt Global) (b : Standing) (st : State) (m : Move)
    → ((calls : Calls) → unfolded (value false calls (expr_of e.value)) (run calls (stmt_of s.value)) (between calls (between_of b)) ≡ move_run calls m)
    → LeavesLess 4 m → Unfolds (focus.Loop e s b) st (act.Moves m)
loop_acts law e s b st m same less = λ has_handler. record {
  same = λ calls are next rs.
      again_unfolds law has_handler calls are (expr_of e.value) (stmt_of s.value) (between_of b) (env_of st.vars) next (state_of st rs)
      ∙ ap (λ r. r (env_of st.vars) next (state_of st rs)) (same calls);
  less = omega (arith, less);
  ready = tt;
}

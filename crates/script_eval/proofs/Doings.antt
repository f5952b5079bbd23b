-- Parts that are done at once.
use Rattle.std.proofs.Common.{◌≡◌, ℕ, ◌-◌, ◌<◌, ◌≤◌, List, [], ◌∷◌, refl, sym, ap, ◌∙◌, arith}
use Rattle.std.specs.declared.sync.Arc.{Arc}
use Rattle.std.specs.declared.alloc.Global.{Global}
use Rattle.std.specs.declared.vec.Vec.{Vec}
use Rattle.do_tree.specs.Nodes.{block_in}
use Rattle.do_tree.specs.Seen.{expr_of}
use Rattle.do_tree.specs.declared.expr.Expr.{Expr}
use Rattle.do_tree.specs.declared.stmt.Block.{Block}
use Rattle.do_value.specs.Seen.{tree_of}
use Rattle.do_value.specs.declared.value.Value.{Value}
use Rattle.script_mean.proofs.Calls.{on_transaction_keeps, on_block_keeps}
use Rattle.script_mean.proofs.Keeps.{PartKeeps, declare_keeps, nowhere_keeps}
use Rattle.script_mean.proofs.Loops.{same_turns}
use Rattle.script_mean.proofs.Methods.{to_caller_keeps}
use Rattle.script_mean.proofs.Places.{variable_value_keeps, write_keeps}
use Rattle.script_mean.specs.Calls.{Calls}
use Rattle.script_mean.specs.Places.{put, variable_value, write}
use Rattle.script_mean.specs.Task as task
use Rattle.script_mean.specs.Turn as turn
use Rattle.script_mean.specs.Turn.{Run}
use Rattle.script_places.specs.Steps.{steps_in}
use Rattle.script_places.specs.declared.step.Step.{Step}
use Rattle.script_state.specs.Ends.{Does, Goes, IsReady}
use Rattle.script_state.specs.Seen.{state_of}
use Rattle.script_state.specs.declared.done.Done.{Done}
use Rattle.script_state.specs.declared.done.Done.TheVariants as done
use Rattle.script_state.specs.declared.state.State.{State}
use Rattle.script_steps.specs.Parts.{declared_in, items_from, name_of}
use Rattle.script_steps.specs.Paths.{is_present, root_of}
use Rattle.script_steps.specs.Seen.{committing, focus_run, outcome_of, returned_to, unblocking, variable_of}
use Rattle.script_steps.specs.Weight.{focus_weight}
use Rattle.script_steps.specs.declared.focus.Focus.{Focus}
use Rattle.script_steps.specs.declared.focus.Focus.TheVariants as focus
use Rattle.script_steps.specs.declared.focus.Outcome.{Outcome}
use Rattle.script_steps.specs.declared.path.Await.{Await}
use Rattle.script_steps.specs.declared.path.Root.{Root}
use Rattle.script_vars.specs.Seen.{env_of}
use Rattle.script_vars.specs.declared.bound.Bound.{Bound}
use Rattle.script_eval.proofs.Charged.{left_kept}
use Rattle.script_paths.proofs.Charged.{charged_exceeds, charged_takes}
use Rattle.script_eval.specs.Acts.{Changes, IsLess, Unfolds}
use Rattle.script_eval.specs.Machines.{Reads}
use Rattle.script_eval.specs.declared.act.Act.TheVariants as act
use Rattle.std.specs.Prelude.{Option, Some, None}

-- What was done at once leaves less than what weighs more than an end.
pub done_less : (part : Run) (before : ℕ) (old new : State) (d : Done) → PartKeeps same_turns part → Does part old new d → 8 < before
    → IsLess before old new (act.Does d)
done_less part before old new (done.Ended o) keeps does more = let fewer = left_kept part old new o keeps does in omega (arith, fewer, more)
done_less part before old new (done.Asks a w) keeps does more = tt
done_less part before old new done.Exceeded keeps does more = tt
done_less part before old new (done.Reset v) keeps does more = tt

-- What a part did, another did that is the same.
pub does_so : (part other : Run) (old new : State) (d : Done) → part ≡ other → Does other old new d → Does part old new d
does_so part other old new d is does = λ next rs. ap (λ (r : Run). r (env_of old.vars) next (state_of old rs)) is ∙ does next rs

-- A part that is done at once.
pub done_acts : (part : Run) (f : Focus) (old new : State) (d : Done) → PartKeeps same_turns part → ((calls : Calls) → focus_run calls f ≡ part)
    → 8 < focus_weight f → Does part old new d → IsReady new d → Changes f old new (act.Does d)
done_acts part f old new d keeps is more does ready = λ has_handler. record {
  same = λ calls are next rs. ap (λ r. r (env_of old.vars) next (state_of old rs)) (is calls) ∙ does next rs;
  less = done_less part (focus_weight f) old new d keeps does more;
  ready = ready;
}

-- The variable of a name, if there is one.
variable_keeps : (name : Option (List ℕ)) → PartKeeps same_turns (variable_of name)
variable_keeps None = nowhere_keeps
variable_keeps (Some name) = variable_value_keeps name

pub variable_acts : (e : Arc Expr Global) (s : State) (o : Outcome) → Goes (variable_of (name_of (expr_of e.value))) s s o
    → Unfolds (focus.Variable e) s (act.Does (done.Ended o))
variable_acts e s o goes =
    done_acts (variable_of (name_of (expr_of e.value))) (focus.Variable e) s s (done.Ended o) (variable_keeps (name_of (expr_of e.value))) (λ calls. refl) (omega arith) goes tt

-- A variable by its name, once its step is charged,
pub reads_acts : (f : Focus) (name : List ℕ) (old new : State) (o : Outcome) → Reads f name → 1 ≤ old.left → new ≡ record old { left = old.left - 1 }
    → Goes (variable_value name) new new o → Changes f old new (act.Does (done.Ended o))
reads_acts f name old new o reads some is goes = λ has_handler. record {
  same = λ calls are next rs.
      ap (λ r. r (env_of old.vars) next (state_of old rs)) (reads.0 calls)
      ∙ charged_takes 1 (variable_value name) (env_of old.vars) next (state_of old rs) some
      ∙ ap (λ (s : State). variable_value name (env_of s.vars) next (state_of s rs)) (sym is) ∙ goes next rs;
  less =
      let fewer : new.left ≡ old.left - 1 = ap (λ (s : State). s.left) is in
      let weighs : 1 ≤ focus_weight f = reads.1 in
      omega (arith, fewer, some, weighs);
  ready = tt;
}

-- or where none is left.
pub reads_exceeds : (f : Focus) (name : List ℕ) (old new : State) → Reads f name → old.left < 1 → new ≡ old → Changes f old new (act.Does done.Exceeded)
reads_exceeds f name old new reads none is = λ has_handler. record {
  same = λ calls are next rs.
      ap (λ r. r (env_of old.vars) next (state_of old rs)) (reads.0 calls)
      ∙ charged_exceeds 1 (variable_value name) (env_of old.vars) next (state_of old rs) none
      ∙ ap (λ (s : State). task.exceeded s.closed.items ∷ []) (sym is);
  less = tt;
  ready = tt;
}

-- A declaration.
pub declare_acts : (b : Arc Block Global) (n : ℕ) (v : Value) (old new : State) (o : Outcome)
    → Goes (turn.declare (declared_in (items_from n (block_in b.value))) (tree_of v)) old new o → Changes (focus.Declare b n v) old new (act.Does (done.Ended o))
declare_acts b n v old new o goes =
    done_acts (turn.declare (declared_in (items_from n (block_in b.value))) (tree_of v)) (focus.Declare b n v) old new (done.Ended o) (declare_keeps (declared_in (items_from n (block_in b.value))) (tree_of v)) (λ calls. refl) (omega arith) goes tt

-- A write to a place.
pub assign_acts : (r : Root) (ss : Vec Step Global) (v : Value) (old new : State) (o : Outcome)
    → Goes (write (root_of r) (steps_in ss.items) (put (tree_of v))) old new o → Changes (focus.Assign r ss v) old new (act.Does (done.Ended o))
assign_acts r ss v old new o goes =
    done_acts (write (root_of r) (steps_in ss.items) (put (tree_of v))) (focus.Assign r ss v) old new (done.Ended o) (write_keeps (root_of r) (steps_in ss.items) (put (tree_of v))) (λ calls. refl) (omega arith) goes tt

-- The end of a helper,
pub back_acts : (awaited : Await) (caller : List (List (List ℕ × Bound))) (e : Outcome) (old new : State) (o : Outcome)
    → Goes (returned_to (is_present awaited) (env_of caller) (outcome_of e)) old new o → Changes (focus.Return awaited caller e) old new (act.Does (done.Ended o))
back_acts awaited caller e old new o goes =
    done_acts (returned_to (is_present awaited) (env_of caller) (outcome_of e)) (focus.Return awaited caller e) old new (done.Ended o)
    (record { by = λ limit env next next' st less kept. (to_caller_keeps (is_present awaited) (env_of caller) kept).by (outcome_of e) env st less }) (λ calls. refl) (omega arith) goes tt

-- of a transaction,
pub commit_acts : (e : Outcome) (old new : State) (d : Done) → Does (committing (outcome_of e)) old new d → IsReady new d
    → Changes (focus.Commit e) old new (act.Does d)
commit_acts e old new d does ready =
    done_acts (committing (outcome_of e)) (focus.Commit e) old new d
    (record { by = λ limit env next next' st less kept. (on_transaction_keeps kept).by (outcome_of e) env st less }) (λ calls. refl) (omega arith) does ready

-- and of a block.
pub unblock_acts : (awaited : Await) (e : Outcome) (old new : State) (d : Done) → Does (unblocking (is_present awaited) (outcome_of e)) old new d → IsReady new d
    → Changes (focus.Unblock awaited e) old new (act.Does d)
unblock_acts awaited e old new d does ready =
    done_acts (unblocking (is_present awaited) (outcome_of e)) (focus.Unblock awaited e) old new d
    (record { by = λ limit env next next' st less kept. (on_block_keeps (is_present awaited) kept).by (outcome_of e) env st less }) (λ calls. refl) (omega arith) does ready

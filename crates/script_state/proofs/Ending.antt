-- How joins, helpers, transactions and blocks end.
use Rattle.std.proofs.Common.{◌≡◌, ℕ, ◌<◌, ◌≤◌, Bool, true, List, [], ◌∷◌, ◌++◌, length, Option, Some, Result, Ok, Err, IfOk, sym, ap, subst, ◌∙◌}
use Rattle.std.proofs.lemmas.Bool.{le-leb, lt-leb}
use Rattle.do_value.specs.Seen.{tree_of}
use Rattle.do_value.specs.Tree.{undefined}
use Rattle.do_value.specs.declared.value.Value.{Value}
use Rattle.do_value.specs.declared.value.Value.TheVariants.{Undefined}
use Rattle.storage_map.specs.Limits.{most_batch_bytes}
use Rattle.storage_map.specs.Ops.{batch_bytes}
use Rattle.storage_map.specs.declared.op.Op.{Op}
use Rattle.write_batcher.specs.Marked.{Open, more}
use Rattle.script_mean.specs.Answers.{gave, returned, threw}
use Rattle.script_mean.specs.Calls.{transacting}
use Rattle.script_mean.specs.Errors.{batch_full}
use Rattle.script_mean.specs.Task as task
use Rattle.script_mean.specs.Turn as turn
use Rattle.script_mean.specs.Turn.{cut, cut_after, join, join_where}
use Rattle.script_steps.proofs.Begun.{if_ok}
use Rattle.script_steps.specs.Paths.{is_present}
use Rattle.script_steps.specs.Seen.{outcome_of, returned_to, unblocking}
use Rattle.script_steps.specs.declared.path.Await.{Await}
use Rattle.script_steps.specs.declared.path.Await.TheVariants as await
use Rattle.script_steps.specs.declared.focus.Outcome.{Outcome}
use Rattle.script_steps.specs.declared.focus.Outcome.TheVariants as ending
use Rattle.script_vars.specs.Seen.{env_of}
use Rattle.script_vars.specs.declared.bound.Bound.{Bound}
use Rattle.script_state.specs.Ends.{Becomes, Does, Goes}
use Rattle.script_state.specs.Seen.{held_of, state_of}
use Rattle.script_state.specs.declared.done.Done.TheVariants as done
use Rattle.script_state.specs.declared.state.State.{State}

-- Operations that fit join the open batch.
pub joined : (ops : List Op) (confirmed : Bool) (pending : Open) (old : State) → length (batch_bytes (old.pending.ops ++ ops)) ≤ most_batch_bytes
    → pending ≡ more old.pending confirmed ops → Goes (join confirmed ops) old (record old { pending = pending }) (ending.Gave Undefined)
joined ops confirmed pending old small is_more = λ next rs.
    ap (λ t. join_where t confirmed ops (env_of old.vars) next (state_of old rs)) (le-leb (length (batch_bytes (old.pending.ops ++ ops))) most_batch_bytes small)
    ∙ ap (λ ps. next (gave undefined) (env_of old.vars) (state_of (record old { pending = ps }) rs)) (sym is_more)

-- Operations that don't fit throw.
pub full : {E : Type 0} (ops : List Op) (confirmed : Bool) (pending : Open) (old : State) (r : Result Outcome E)
    → most_batch_bytes < length (batch_bytes (old.pending.ops ++ ops)) → pending ≡ old.pending
    → IfOk r (λ o. outcome_of o ≡ threw batch_full) → IfOk r (Goes (join confirmed ops) old (record old { pending = pending }))
full ops confirmed pending old r large same end = if_ok r
    (λ o throws. λ next rs.
    ap (λ t. join_where t confirmed ops (env_of old.vars) next (state_of old rs)) (lt-leb (length (batch_bytes (old.pending.ops ++ ops))) most_batch_bytes large)
    ∙ ap (λ x. next x (env_of old.vars) (state_of old rs)) (sym throws)
    ∙ ap (λ ps. next (outcome_of o) (env_of old.vars) (state_of (record old { pending = ps }) rs)) (sym same))
    end

-- A helper that gives no value returns `undefined`.
pub helper_gave : {E : Type 0} (awaited : Bool) (caller : List (List (List ℕ × Bound))) (x : Outcome) (w : Value) (old new : State) (r : Result Outcome E)
    → x ≡ ending.Gave w → IfOk r (Goes (returned_to awaited (env_of caller) (returned undefined)) (record old { vars = caller }) new)
    → IfOk r (Goes (returned_to awaited (env_of caller) (outcome_of x)) old new)
helper_gave awaited caller x w old new (Ok o) same goes = λ next rs.
    ap (λ y. returned_to awaited (env_of caller) (outcome_of y) (env_of old.vars) next (state_of old rs)) same ∙ goes next rs
helper_gave awaited caller x w old new (Err e) same goes = goes

-- A helper returns its value.
pub helper_returned : {E : Type 0} (awaited : Bool) (caller : List (List (List ℕ × Bound))) (x : Outcome) (w : Value) (old new : State) (r : Result Outcome E)
    → x ≡ ending.Returned w → IfOk r (Goes (returned_to awaited (env_of caller) (returned (tree_of w))) (record old { vars = caller }) new)
    → IfOk r (Goes (returned_to awaited (env_of caller) (outcome_of x)) old new)
helper_returned awaited caller x w old new (Ok o) same goes = λ next rs.
    ap (λ y. returned_to awaited (env_of caller) (outcome_of y) (env_of old.vars) next (state_of old rs)) same ∙ goes next rs
helper_returned awaited caller x w old new (Err e) same goes = goes

-- A transaction begins behind the open batch.
pub transaction_begun : (old mid : State) (made : Option (List Op)) → made ≡ Some [] → Becomes cut old mid → Becomes transacting old (record mid { transaction = Some made })
transaction_begun old mid made none closed = record {
  state = λ rs.
      ap (λ (st : turn.State). record st { held = record st.held { transaction = Some made } }) (closed.state rs)
      ∙ ap (λ (m : Option (List Op)). record (cut (state_of old rs)) { held = record (held_of old) { transaction = Some m } }) none;
  vars = closed.vars;
}

-- A block that threw ends the task.
pub block_threw : (awaited : Bool) (x : Outcome) (v : Value) (old new : State) → x ≡ ending.Threw v → Becomes cut old new
    → Does (unblocking awaited (outcome_of x)) old new (done.Reset v)
block_threw awaited x v old new same made next rs =
    ap (λ y. unblocking awaited (outcome_of y) (env_of old.vars) next (state_of old rs)) same
    ∙ ap (λ (st : turn.State). task.threw st.closed st.fields (tree_of v) true ∷ []) (sym (made.state rs))

-- The open batch is closed after a call that is awaited.
pub awaited_cut : (awaited : Await) (old new : State) → awaited ≡ await.Present → Becomes cut old new → Becomes (cut_after (is_present awaited)) old new
awaited_cut awaited old new same closed = subst (λ a. Becomes (cut_after (is_present a)) old new) (sym same) closed

-- How turns end with asks.
use Rattle.std.proofs.Common.{◌≡◌, ℕ, true, ◌+◌, ◌<◌, List, [], ◌∷◌, length, refl, sym, ap, subst, ◌∙◌, lt-ltb}
use Rattle.do_value.specs.Seen.{tree_of}
use Rattle.do_value.specs.declared.value.Value.{Value}
use Rattle.storage_map.specs.declared.op.Op.{Op}
use Rattle.write_batcher.specs.declared.batcher.Made.{Made}
use Rattle.script_mean.specs.Calls.{commit, committed}
use Rattle.script_mean.specs.Task as task
use Rattle.script_mean.specs.Task.{Env, Resume, Segment}
use Rattle.script_mean.specs.Turn as turn
use Rattle.script_mean.specs.Turn.{Next, ask, ask_outside, ask_storage, cut, either, exceed, resumed}
use Rattle.script_mean.specs.declared.ask.Ask.{Ask}
use Rattle.script_mean.specs.declared.ask.Ask.TheVariants as asked
use Rattle.script_mean.specs.declared.limits.TheConstants.{MOST_STORAGE_AWAITS, MOST_OUTSIDE_CALLS}
use Rattle.script_vars.specs.Seen.{env_of}
use Rattle.script_state.proofs.Batches.{closing}
use Rattle.script_state.specs.Ends.{Becomes, Does, IsOpenFor, turns_after}
use Rattle.script_state.specs.Seen.{state_of, wait_of}
use Rattle.script_state.specs.declared.done.Done.TheVariants as done
use Rattle.script_state.specs.declared.waiting.Gives.TheVariants as gives
use Rattle.script_state.specs.declared.state.State.{State}
use Rattle.script_state.specs.declared.waiting.Waiting.{Waiting}
use Rattle.script_state.specs.declared.waiting.Waiting.TheVariants as waiting

-- The turns from an ask on, whose batches are closed.
abbrev asking : Ask → Waiting → turn.State → Env → Next → List Segment
asking a w st env next = task.asked st.closed st.fields a st.held.block ∷ resumed (wait_of w st.held.transaction) st.held st.resumes env next

-- The state with one more await, or one more call.
abbrev pub awaiting : State → State
awaiting s = record s { awaits = s.awaits + 1 }

abbrev pub calling : State → State
calling s = record s { calls = s.calls + 1 }

-- An ask closes the open batch.
pub asks : (a : Ask) (w : Waiting) (old new : State) → Becomes cut old new → (next : Next) (rs : List Resume)
    → ask a (wait_of w old.transaction) (env_of old.vars) next (state_of old rs) ≡ turns_after (done.Asks a w) new next rs
asks a w old new closed next rs =
    ap (λ vs. asking a w (cut (state_of old rs)) (env_of vs) next) (sym closed.vars)
    ∙ ap (λ st. asking a w st (env_of new.vars) next) (sym (closed.state rs))

module _ (a : Ask) (w : Waiting) (old new : State) where
  -- An await within the limit is made.
  pub storage_asked : old.awaits < MOST_STORAGE_AWAITS → Becomes cut (awaiting old) new
      → Does (ask_storage a (wait_of w old.transaction)) old new (done.Asks a w)
  storage_asked few closed next rs =
      ap (λ t. either t (ask a (wait_of w old.transaction)) exceed (env_of old.vars) next (state_of (awaiting old) rs)) (lt-ltb old.awaits MOST_STORAGE_AWAITS few)
      ∙ asks a w (awaiting old) new closed next rs

  -- A call within the limit is made.
  pub outside_asked : old.calls < MOST_OUTSIDE_CALLS → Becomes cut (calling old) new → Does (ask_outside a) old new (done.Asks a waiting.Outside)
  outside_asked few closed next rs =
      ap (λ t. either t (ask a task.outside) exceed (env_of old.vars) next (state_of (calling old) rs)) (lt-ltb old.calls MOST_OUTSIDE_CALLS few)
      ∙ asks a waiting.Outside (calling old) new closed next rs

-- The transaction is the same once the open batch is closed.
pub transaction_stays : (old new : State) → Becomes cut old new → new.transaction ≡ old.transaction
transaction_stays old new closed = ap (λ (st : turn.State). st.held.transaction) (closed.state [])

-- So is what is waited for.
pub still_open : (w : Waiting) (old new : State) → Becomes cut old new → IsOpenFor (wait_of w old.transaction) old.transaction
    → IsOpenFor (wait_of w new.transaction) new.transaction
still_open w old new closed is = subst (λ m. IsOpenFor (wait_of w m) m) (sym (transaction_stays old new closed)) is

-- The batch of a transaction's operations.
abbrev pub confirmed_batch : List Op → Made
confirmed_batch ops = record { batch = ops; confirmed = true }

-- A transaction's operations are one batch, behind the open one.
committed_asks : (ops : List Op) (v : Value) (old mid new : State) → (ops ≡ [] → ⊥) → old.awaits < MOST_STORAGE_AWAITS
    → Becomes cut (awaiting old) mid → Becomes (closing (confirmed_batch ops)) mid new
    → Does (commit ops (tree_of v)) old new (done.Asks (asked.Written (length ops)) (waiting.Completes (length ops) (gives.This v)))
committed_asks [] v old mid new some few cuts closes next rs = absurd (some refl)
committed_asks (op ∷ ops) v old mid new some few cuts closes next rs =
    let a : Ask = asked.Written (length (op ∷ ops)) in
    let w : Waiting = waiting.Completes (length (op ∷ ops)) (gives.This v) in
    ap (λ t. either t (committed (op ∷ ops) (tree_of v)) exceed (env_of old.vars) next (state_of old rs)) (lt-ltb old.awaits MOST_STORAGE_AWAITS few)
    ∙ ap (λ vs. asking a w (closing (confirmed_batch (op ∷ ops)) (cut (state_of (awaiting old) rs))) (env_of vs) next) (sym (closes.vars ∙ cuts.vars))
    ∙ ap (λ st. asking a w st (env_of new.vars) next) (sym (closes.state rs ∙ ap (closing (confirmed_batch (op ∷ ops))) (cuts.state rs)))

-- The same with the count of its operations.
pub commit_asked : (ops : List Op) (count : ℕ) (v : Value) (old mid new : State) → count ≡ length ops → (ops ≡ [] → ⊥) → old.awaits < MOST_STORAGE_AWAITS
    → Becomes cut (awaiting old) mid → Becomes (closing (confirmed_batch ops)) mid new
    → Does (commit ops (tree_of v)) old new (done.Asks (asked.Written count) (waiting.Completes count (gives.This v)))
commit_asked ops count v old mid new counted some few cuts closes =
    subst (λ n. Does (commit ops (tree_of v)) old new (done.Asks (asked.Written n) (waiting.Completes n (gives.This v)))) (sym counted)
    (committed_asks ops v old mid new some few cuts closes)

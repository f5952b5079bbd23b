-- How calls of a transaction's handle go.
use Rattle.std.proofs.Common.{◌≡◌, ◌≢◌, ◌↔◌, ℕ, Bool, true, false, List, ◌++◌, length, Option, Some, None, Result, Ok, Err, IfOk, IsTrue, refl, sym, ap, ◌∙◌, subst}
use Rattle.std.proofs.lemmas.Bool.{lt-leb}
use Rattle.do_value.specs.Tree.{Tree}
use Rattle.do_value.specs.declared.value.Value.{Value}
use Rattle.storage_map.specs.declared.op.Op.{Op}
use Rattle.storage_map.specs.Limits.{most_batch_bytes}
use Rattle.storage_map.specs.Ops.{batch_bytes}
use Rattle.storage_txn.specs.Faults.{IsExtendFault}
use Rattle.storage_txn.specs.declared.fault.TxnFault.TheVariants.{BatchFull}
use Rattle.script_asks.specs.Requests.{Asks, completed_of}
use Rattle.script_asks.specs.declared.work.Completed.{Completed as Gives}
use Rattle.script_asks.specs.declared.work.Completed.TheVariants as asks
use Rattle.script_calls.proofs.Ended.{Alike, and_not, does_alike, refused}
use Rattle.script_calls.specs.Faults.{IsThrown}
use Rattle.script_ops.specs.declared.fault.OpFault.{OpFault}
use Rattle.script_calls.proofs.Requests.{none_wanted}
use Rattle.script_mean.specs.Calls.{extend, extend_where, handle_call, handle_request, handle_wants, handle_write, in_transaction, is_rolled_back, keys_ask, keys_of, of_transaction, try_handle, writes_of}
use Rattle.script_mean.specs.Errors.{batch_full, rolled_back}
use Rattle.script_mean.specs.Storing.{Request}
use Rattle.script_mean.specs.Task as task
use Rattle.script_mean.specs.Task.{Completed, Env}
use Rattle.script_mean.specs.Turn.{Next, Run, ask_storage, ends, throws, ◌>>◌}
use Rattle.script_mean.specs.declared.ask.Ask.TheVariants as asked
use Rattle.script_mean.specs.declared.call.HandleCall.{HandleCall}
use Rattle.script_mean.specs.declared.call.HandleCall.TheVariants as handle
use Rattle.script_state.specs.Ends.{Does, Goes, IsMade}
use Rattle.script_state.specs.Seen.{state_of}
use Rattle.script_state.specs.declared.state.State.{State}
use Rattle.script_state.specs.declared.done.Done.{Done}
use Rattle.script_steps.specs.Seen.{outcome_of}
use Rattle.script_steps.specs.declared.focus.Outcome.{Outcome as Ending}
use Rattle.script_steps.specs.declared.focus.Outcome.TheVariants as ending
use Rattle.script_vars.specs.Seen.{env_of}

-- Whether a transaction was rolled back, as the code tests it.
rolled_is : (made : Option (List Op)) (rolled : Bool) → (IsTrue rolled ↔ made ≡ None) → is_rolled_back made ≡ rolled
rolled_is None true h = refl
rolled_is None false h = absurd (let set = h.1 refl in cc)
rolled_is (Some ops) true h = absurd (let none = h.0 refl in cc)
rolled_is (Some ops) false h = refl

-- A call that isn't a rollback does what its request says.
other_tries : (awaited : Bool) (c : HandleCall) (args : List Tree) (made : Option (List Op)) → c ≢ handle.Rollback
    → in_transaction awaited c args made ≡ try_handle awaited (writes_of (Some made)) (handle_wants (is_rolled_back made) c args)
other_tries awaited handle.Get args made other = refl
other_tries awaited handle.List args made other = refl
other_tries awaited handle.Put args made other = refl
other_tries awaited handle.Delete args made other = refl
other_tries awaited handle.Rollback args made other = absurd (other refl)

-- What a call in a transaction does.
goes_in : (awaited : Bool) (c : HandleCall) (args : List Tree) (s : State) (made : Option (List Op)) (rolled : Bool) → c ≢ handle.Rollback → s.transaction ≡ Some made → (IsTrue rolled ↔ made ≡ None)
    → Alike (handle_call awaited c args) (try_handle awaited (writes_of s.transaction) (handle_wants rolled c args)) s
goes_in awaited c args s made rolled other there is = λ next rs.
    ap (λ t. of_transaction awaited c args t (env_of s.vars) next (state_of s rs)) there
    ∙ ap (λ (p : Run). p (env_of s.vars) next (state_of s rs)) (other_tries awaited c args made other)
    ∙ ap (λ b. try_handle awaited (writes_of (Some made)) (handle_wants b c args) (env_of s.vars) next (state_of s rs)) (rolled_is made rolled is)
    ∙ ap (λ t. try_handle awaited (writes_of t) (handle_wants rolled c args) (env_of s.vars) next (state_of s rs)) (sym there)

-- A call whose request is found does what it says.
pub call_goes : {E : Type 0} (awaited : Bool) (c : HandleCall) (args : List Tree) (made : Option (List Op)) (rolled : Bool) (q : Request) (old new : State) (r : Result Done E) → c ≢ handle.Rollback
    → old.transaction ≡ Some made → (IsTrue rolled ↔ made ≡ None) → handle_wants rolled c args ≡ Ok q
    → IfOk r (Does (handle_request awaited (writes_of old.transaction) q) old new) → IfOk r (Does (handle_call awaited c args) old new)
call_goes awaited c args made rolled q old new r other there is wants h =
    does_alike (handle_call awaited c args) (handle_request awaited (writes_of old.transaction) q) old new r (λ next rs.
    goes_in awaited c args old made rolled other there is next rs
    ∙ ap (λ w. try_handle awaited (writes_of old.transaction) w (env_of old.vars) next (state_of old rs)) wants) h

-- A call that is refused throws.
pub call_throws : (awaited : Bool) (c : HandleCall) (args : List Tree) (made : Option (List Op)) (rolled : Bool) (fault : OpFault) (s : State) (o : Ending) → c ≢ handle.Rollback
    → s.transaction ≡ Some made → (IsTrue rolled ↔ made ≡ None) → Asks (handle_wants rolled c args) (Err fault) → IsThrown fault o → Goes (handle_call awaited c args) s s o
call_throws awaited c args made rolled fault s o other there is wants thrown = λ next rs.
    goes_in awaited c args s made rolled other there is next rs
    ∙ ap (λ (p : Run). p (env_of s.vars) next (state_of s rs)) (refused (try_handle awaited (writes_of s.transaction)) (λ e. refl) (handle_wants rolled c args) fault o wants thrown)

-- Where a request is found there was no rollback.
made_where : (made : Option (List Op)) (rolled : Bool) (c : HandleCall) (args : List Tree) (q : Request) → c ≢ handle.Rollback → (IsTrue rolled ↔ made ≡ None) → handle_wants rolled c args ≡ Ok q → IsMade (Some made)
made_where (Some ops) rolled c args q other is wants = tt
made_where None true c args q other is wants = absurd (subst (λ w. IfOk w (λ r. ⊥)) wants (none_wanted (λ r. ⊥) c args other))
made_where None false c args q other is wants = absurd (let set = is.1 refl in cc)

pub is_made : (t : Option (Option (List Op))) (made : Option (List Op)) (rolled : Bool) (c : HandleCall) (args : List Tree) (q : Request) → t ≡ Some made → c ≢ handle.Rollback → (IsTrue rolled ↔ made ≡ None)
    → handle_wants rolled c args ≡ Ok q → IsMade t
is_made t made rolled c args q there other is wants = subst IsMade (sym there) (made_where made rolled c args q other is wants)

-- After a rollback another one throws.
pub dropped_twice : (awaited : Bool) (args : List Tree) (made now : Option (List Op)) (s : State) (o : Ending) → s.transaction ≡ Some made → made ≡ None → now ≡ None → throws rolled_back ≡ ends (outcome_of o)
    → Goes (handle_call awaited handle.Rollback args) s (record s { transaction = Some now }) o
dropped_twice awaited args made now s o there none gone thrown = λ next rs.
    ap (λ t. of_transaction awaited handle.Rollback args t (env_of s.vars) next (state_of s rs)) (there ∙ ap Some none)
    ∙ ap (λ (p : Run). p (env_of s.vars) next (state_of s rs)) thrown
    ∙ ap (λ t. next (outcome_of o) (env_of s.vars) (state_of (record s { transaction = t }) rs)) (there ∙ ap Some (none ∙ sym gone))

-- Those that don't fit are refused.
full_of : (made now : Option (List Op)) (ops : List Op) (s : State) (size limit : ℕ) (o : Ending) → IsMade (Some made) → IsExtendFault made ops (BatchFull size limit) → now ≡ made → throws batch_full ≡ ends (outcome_of o)
    → (next : Next) (rs : List task.Resume)
    → extend (writes_of (Some made)) ops (env_of s.vars) next (state_of (record s { transaction = Some made }) rs) ≡ next (outcome_of o) (env_of s.vars) (state_of (record s { transaction = Some now }) rs)
full_of None now ops s size limit o is fault same thrown next rs = absurd is
full_of (Some old) now ops s size limit o is fault same thrown next rs =
    ap (λ b. extend_where b (old ++ ops) (env_of s.vars) next (state_of (record s { transaction = Some (Some old) }) rs)) (lt-leb (length (batch_bytes (old ++ ops))) most_batch_bytes fault.0)
    ∙ ap (λ (p : Run). p (env_of s.vars) next (state_of (record s { transaction = Some (Some old) }) rs)) thrown
    ∙ ap (λ n. next (outcome_of o) (env_of s.vars) (state_of (record s { transaction = Some n }) rs)) (sym same)

pub full : (made now : Option (List Op)) (ops : List Op) (s : State) (size limit : ℕ) (o : Ending) → s.transaction ≡ Some made → IsMade s.transaction → IsExtendFault made ops (BatchFull size limit) → now ≡ made
    → throws batch_full ≡ ends (outcome_of o) → Goes (extend (writes_of s.transaction) ops) s (record s { transaction = Some now }) o
full made now ops s size limit o there is fault same thrown = λ next rs.
    ap (λ t. extend (writes_of t) ops (env_of s.vars) next (state_of (record s { transaction = t }) rs)) there ∙ full_of made now ops s size limit o (subst IsMade there is) fault same thrown next rs

-- An awaited delete, and another write.
pub write_unawaited : (old ops : List Op) (c : Completed) → handle_write false old ops c ≡ extend old ops
write_unawaited old ops task.nothing = refl
write_unawaited old ops task.whether = refl
write_unawaited old ops task.how_many = refl
write_unawaited old ops (task.this v) = refl

delete_is : (old ops : List Op) (gives : Gives) → gives ≢ asks.Nothing → handle_write true old ops (completed_of gives)
    ≡ (extend old ops >> ask_storage (asked.Store (keys_ask (completed_of gives) (keys_of ops))) (task.finds old (keys_ask (completed_of gives) (keys_of ops))))
delete_is old ops asks.Nothing counts = absurd (counts refl)
delete_is old ops asks.Whether counts = refl
delete_is old ops asks.HowMany counts = refl

-- One whose operations weren't added asks nothing.
pub deleted_not : (ops : List Op) (gives : Gives) (old mid : State) (o : Ending) → gives ≢ asks.Nothing → Goes (extend (writes_of old.transaction) ops) old mid o → ((v : Value) → o ≡ ending.Gave v → ⊥)
    → Goes (handle_write true (writes_of old.transaction) ops (completed_of gives)) old mid o
deleted_not ops gives old mid o counts goes other = λ next rs.
    ap (λ (p : Run). p (env_of old.vars) next (state_of old rs)) (delete_is (writes_of old.transaction) ops gives counts)
    ∙ and_not (extend (writes_of old.transaction) ops) (ask_storage (asked.Store (keys_ask (completed_of gives) (keys_of ops))) (task.finds (writes_of old.transaction) (keys_ask (completed_of gives) (keys_of ops)))) old mid o goes other next rs

-- Calls.
use Rattle.std.proofs.Common.{◌≡◌, ℕ, ◌≤◌, Bool, false, List, [], ◌∷◌, refl, sym, ap, ◌∙◌, arith}
use Rattle.std.specs.Prelude.{Some, None}
use Rattle.std.specs.declared.sync.Arc.{Arc}
use Rattle.std.specs.declared.alloc.Global.{Global}
use Rattle.std.specs.declared.vec.Vec.{Vec}
use Rattle.do_tree.proofs.Rows.{hidden_items}
use Rattle.do_tree.specs.Nodes.{block_in}
use Rattle.do_tree.specs.declared.expr.Callback.{Callback, is-Callback', out-Callback}
use Rattle.do_tree.specs.declared.stmt.Block.{Block}
use Rattle.do_value.specs.Seen.{tree_of, trees_in}
use Rattle.do_value.specs.declared.value.Value.{Value}
use Rattle.script_mean.proofs.Calls.{block_keeps, push_to_keeps, reach_keeps}
use Rattle.script_mean.proofs.Keeps.{ends_keeps}
use Rattle.script_mean.proofs.Parts.{handle_named_keeps, owner_named_keeps, storage_named_keeps, value_named_keeps, word_named_keeps}
use Rattle.script_mean.specs.Answers.{broke}
use Rattle.script_mean.specs.Calls.{Calls, block, on_block, on_transaction, push_to, reach, transacting}
use Rattle.script_mean.specs.Meaning.{body, handle_named, handle_scope, owner_named, storage_named, value_named, word_named}
use Rattle.script_mean.specs.Turn as turn
use Rattle.script_mean.specs.Turn.{Run, ends, leaving, nowhere, within}
use Rattle.script_places.specs.Steps.{steps_in}
use Rattle.script_places.specs.declared.step.Step.{Step}
use Rattle.script_state.specs.Ends.{Becomes, Does, Goes, IsReady, Opens}
use Rattle.script_state.specs.Seen.{state_of}
use Rattle.script_state.specs.declared.done.Done.{Done}
use Rattle.script_state.specs.declared.done.Done.TheVariants as done
use Rattle.script_state.specs.declared.state.State.{State}
use Rattle.script_steps.specs.Paths.{body_of, is_present, parameter_of, root_of}
use Rattle.script_steps.specs.Seen.{outcome_of}
use Rattle.script_steps.specs.declared.focus.Focus.TheVariants as focus
use Rattle.script_steps.specs.declared.focus.Outcome.{Outcome}
use Rattle.script_steps.specs.declared.focus.Outcome.TheVariants as ending
use Rattle.script_steps.specs.declared.frame.Frame.TheVariants as frame
use Rattle.script_steps.specs.declared.path.Await.{Await}
use Rattle.script_steps.specs.declared.path.Callee.TheVariants as callee
use Rattle.script_steps.specs.declared.path.Root.{Root}
use Rattle.script_vars.specs.Seen.{env_of}
use Rattle.script_vars.specs.declared.bound.Bound.{Bound}
use Rattle.script_eval.proofs.Charged.{left_kept}
use Rattle.script_eval.proofs.Doings.{done_acts, done_less}
use Rattle.script_eval.specs.Acts.{Acts, Changes, Unfolds}
use Rattle.script_eval.specs.declared.act.Act.TheVariants as act

-- A call of the storage.
pub storage_acts : (has_handler : Bool) (awaited : Await) (name : List ℕ) (got : Vec Value Global) (old new : State) (d : Done)
    → ((calls : Calls) → calls.has_handler ≡ has_handler → Does (storage_named calls (is_present awaited) name (trees_in got.items)) old new d) → IsReady new d
    → Acts has_handler (focus.Call (callee.Storage awaited name) got) old new (act.Does d)
storage_acts has_handler awaited name got old new d does ready =
    let some : Calls = record { helper = λ a n vs. nowhere; has_handler = has_handler } in
    record {
      same = λ calls are next rs. does calls are.3 next rs;
      less = done_less (storage_named some (is_present awaited) name (trees_in got.items)) 14 old new d (storage_named_keeps some (is_present awaited) name (trees_in got.items)) (does some refl) (omega arith);
      ready = ready;
    }

-- A call of a transaction's handle.
pub handle_acts : (awaited : Await) (name : List ℕ) (got : Vec Value Global) (old new : State) (d : Done)
    → Does (handle_named (is_present awaited) name (trees_in got.items)) old new d → IsReady new d → Changes (focus.Call (callee.Handle awaited name) got) old new (act.Does d)
handle_acts awaited name got old new d does ready =
    done_acts (handle_named (is_present awaited) name (trees_in got.items)) (focus.Call (callee.Handle awaited name) got) old new d (handle_named_keeps (is_present awaited) name (trees_in got.items)) (λ calls. refl) (omega arith) does ready

-- A call of a value.
pub value_acts : (name : List ℕ) (got : Vec Value Global) (s : State) (o : Outcome)
    → value_named name (trees_in got.items) ≡ ends (outcome_of o) → Unfolds (focus.Call (callee.Value name) got) s (act.Does (done.Ended o))
value_acts name got s o is =
    done_acts (value_named name (trees_in got.items)) (focus.Call (callee.Value name) got) s s (done.Ended o) (value_named_keeps name (trees_in got.items)) (λ calls. refl) (omega arith)
    (λ next rs. ap (λ r. r (env_of s.vars) next (state_of s rs)) is) tt

-- A call of a word,
pub word_acts : (name : List ℕ) (got : Vec Value Global) (old new : State) (d : Done)
    → Does (word_named name (trees_in got.items)) old new d → IsReady new d → Changes (focus.Call (callee.Word name) got) old new (act.Does d)
word_acts name got old new d does ready =
    done_acts (word_named name (trees_in got.items)) (focus.Call (callee.Word name) got) old new d (word_named_keeps name (trees_in got.items)) (λ calls. refl) (omega arith) does ready

-- and of a part of one.
pub part_acts : (owner name : List ℕ) (got : Vec Value Global) (old new : State) (d : Done)
    → Does (owner_named owner name (trees_in got.items)) old new d → IsReady new d → Changes (focus.Call (callee.Owner owner name) got) old new (act.Does d)
part_acts owner name got old new d does ready =
    done_acts (owner_named owner name (trees_in got.items)) (focus.Call (callee.Owner owner name) got) old new d (owner_named_keeps owner name (trees_in got.items)) (λ calls. refl) (omega arith) does ready

-- A push to a place.
pub push_acts : (r : Root) (ss : Vec Step Global) (got : Vec Value Global) (old new : State) (o : Outcome)
    → Goes (push_to (root_of r) (steps_in ss.items) (trees_in got.items)) old new o → Changes (focus.Call (callee.Place r ss) got) old new (act.Does (done.Ended o))
push_acts r ss got old new o goes =
    done_acts (push_to (root_of r) (steps_in ss.items) (trees_in got.items)) (focus.Call (callee.Place r ss) got) old new (done.Ended o) (push_to_keeps (root_of r) (steps_in ss.items) (trees_in got.items)) (λ calls. refl) (omega arith) goes tt

-- A call of another object.
pub method_acts : (class method : List ℕ) (name : Value) (got : Vec Value Global) (old new : State) (d : Done)
    → Does (reach class method (tree_of name) (trees_in got.items)) old new d → IsReady new d → Changes (focus.Call (callee.Method class method name) got) old new (act.Does d)
method_acts class method name got old new d does ready =
    done_acts (reach class method (tree_of name) (trees_in got.items)) (focus.Call (callee.Method class method name) got) old new d (reach_keeps class method (tree_of name) (trees_in got.items)) (λ calls. refl) (omega arith) does ready

-- The body of a callback, as paths have it.
pub body_seen : (c : Callback) → block_in (out-Callback c).body.value ≡ body_of c
body_seen c = sym (ap body_of (is-Callback' c) ∙ hidden_items (out-Callback c).body.value.items)

-- A transaction's body is run.
pub transaction_acts : (c : Arc Callback Global) (got : Vec Value Global) (old begun new : State) (vars : List (List (List ℕ × Bound))) (b : Arc Block Global)
    → Becomes transacting old begun → new ≡ record begun { vars = vars } → env_of vars ≡ handle_scope (parameter_of c.value) ∷ env_of begun.vars
    → b.value ≡ (out-Callback c.value).body.value
    → Changes (focus.Call (callee.Transaction c) got) old new (act.Enters frame.Commit (focus.Body b 0))
transaction_acts c got old begun new vars b becomes is entered bt = λ has_handler. record {
  same = λ calls are next rs.
      let scope = handle_scope (parameter_of c.value) in
      ap (λ e. body calls (body_of c.value) (scope ∷ env_of e) (leaving (on_transaction next)) (transacting (state_of old rs))) (sym becomes.vars)
      ∙ ap (λ e. body calls (body_of c.value) e (leaving (on_transaction next)) (transacting (state_of old rs))) (sym entered)
      ∙ ap (λ st. body calls (body_of c.value) (env_of vars) (leaving (on_transaction next)) st) (sym (becomes.state rs))
      ∙ ap (λ (s : State). body calls (body_of c.value) (env_of s.vars) (leaving (on_transaction next)) (state_of s rs)) (sym is)
      ∙ ap (λ x. body calls x (env_of new.vars) (leaving (on_transaction next)) (state_of new rs)) (sym (ap block_in bt ∙ body_seen c.value));
  less =
      let fewer : new.left ≡ begun.left = ap (λ (s : State). s.left) is in
      let same : begun.left ≡ old.left = ap (λ (st : turn.State). st.left) (becomes.state []) in
      omega (arith, fewer, same);
  ready = tt;
}

-- A block that opens takes back no step.
opened_left : (old new : State) → Opens old new None → new.left ≤ old.left
opened_left old new opens =
    left_kept (block false (ends broke)) old (record new { block = false }) ending.Broke (block_keeps false (ends_keeps broke)) (λ next rs. opens false (ends broke) next rs)

-- A block's body is run,
pub block_acts : (awaited : Await) (c : Arc Callback Global) (got : Vec Value Global) (old begun new : State) (vars : List (List (List ℕ × Bound))) (b : Arc Block Global)
    → Opens old begun None → new ≡ record begun { vars = vars } → env_of vars ≡ [] ∷ env_of begun.vars → b.value ≡ (out-Callback c.value).body.value
    → Changes (focus.Call (callee.Block awaited c) got) old new (act.Enters (frame.Unblock awaited) (focus.Body b 0))
block_acts awaited c got old begun new vars b opens is entered bt = λ has_handler. record {
  same = λ calls are next rs.
      opens (is_present awaited) (within [] (body calls (body_of c.value))) next rs
      ∙ ap (λ e. body calls (body_of c.value) e (leaving (on_block (is_present awaited) next)) (state_of begun rs)) (sym entered)
      ∙ ap (λ (s : State). body calls (body_of c.value) (env_of s.vars) (leaving (on_block (is_present awaited) next)) (state_of s rs)) (sym is)
      ∙ ap (λ x. body calls x (env_of new.vars) (leaving (on_block (is_present awaited) next)) (state_of new rs)) (sym (ap block_in bt ∙ body_seen c.value));
  less =
      let fewer : new.left ≡ begun.left = ap (λ (s : State). s.left) is in
      let same = opened_left old begun opens in
      omega (arith, fewer, same);
  ready = tt;
}

-- or refused.
pub refused_acts : (awaited : Await) (c : Arc Callback Global) (got : Vec Value Global) (old new : State) (o : Outcome) → Opens old new (Some o)
    → Changes (focus.Call (callee.Block awaited c) got) old new (act.Does (done.Ended o))
refused_acts awaited c got old new o opens = λ has_handler. record {
  same = λ calls are next rs. opens (is_present awaited) (within [] (body calls (body_of c.value))) next rs;
  less = done_less (block (is_present awaited) (ends broke)) 14 old new (done.Ended o) (block_keeps (is_present awaited) (ends_keeps broke)) (λ next rs. opens (is_present awaited) (ends broke) next rs) (omega arith);
  ready = tt;
}

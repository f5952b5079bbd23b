-- How writes end, and their completions.
use Rattle.std.proofs.Common.{◌≡◌, ℕ, true, false, not, List, length, Result, IfOk, sym, ap, ◌∙◌, subst}
use Rattle.do_value.specs.Seen.{tree_of}
use Rattle.do_value.specs.declared.value.Value.{Value}
use Rattle.storage_map.specs.declared.op.Op.{Op}
use Rattle.script_calls.proofs.Ended.{and_then, and_not}
use Rattle.script_mean.specs.Answers.{completed, gave}
use Rattle.script_mean.specs.Calls.{complete, do_request, is_idle}
use Rattle.script_mean.specs.Storing.{writes}
use Rattle.script_mean.specs.Task as task
use Rattle.script_mean.specs.Task.{Completed}
use Rattle.script_mean.specs.Turn.{either, give, join, ask_storage}
use Rattle.script_mean.specs.declared.ask.Ask.TheVariants as asked
use Rattle.script_mean.specs.declared.call.Allowed.{Allowed}
use Rattle.script_state.specs.Ends.{Does, Goes}
use Rattle.script_state.specs.Seen.{state_of}
use Rattle.script_state.specs.declared.state.State.{State}
use Rattle.script_state.specs.declared.done.Done.{Done}
use Rattle.script_steps.proofs.Begun.{if_ok}
use Rattle.script_steps.specs.declared.focus.Outcome.{Outcome as Ending}
use Rattle.script_steps.specs.declared.focus.Outcome.TheVariants as ending
use Rattle.script_vars.specs.Seen.{env_of}

-- An awaited write whose operations joined waits for its completion.
pub joined_goes : {E : Type 0} (may : Allowed) (ops : List Op) (tail : ℕ) (c : Completed) (old mid new : State) (o : Ending) (v : Value) (r : Result Done E)
    → tail ≡ length ops → Goes (join (not may.unconfirmed) ops) old mid o → o ≡ ending.Gave v → IfOk r (Does (complete tail c) mid new)
    → IfOk r (Does (do_request may true (writes ops c)) old new)
joined_goes may ops tail c old mid new o v r count goes given h =
    and_then (join (not may.unconfirmed) ops) (complete (length ops) c) old mid new o v r goes given (subst (λ n. IfOk r (Does (complete n c) mid new)) count h)

-- One whose operations didn't join waits for nothing.
pub joined_not : (may : Allowed) (ops : List Op) (c : Completed) (old mid : State) (o : Ending) → Goes (join (not may.unconfirmed) ops) old mid o
    → ((v : Value) → o ≡ ending.Gave v → ⊥) → Goes (do_request may true (writes ops c)) old mid o
joined_not may ops c old mid o goes other = and_not (join (not may.unconfirmed) ops) (complete (length ops) c) old mid o goes other

-- A completion that there is nothing to wait for is there at once.
pub idle_gives : (tail : ℕ) (c : Completed) (s : State) (v : Value) → is_idle tail s.pending.ops ≡ true → tree_of v ≡ completed c 0 → Goes (complete tail c) s s (ending.Gave v)
idle_gives tail c s v idle value = λ next rs.
    ap (λ b. either b (give (completed c 0)) (ask_storage (asked.Written tail) (task.completes tail c)) (env_of s.vars) next (state_of s rs)) idle
    ∙ ap (λ t. next (gave t) (env_of s.vars) (state_of s rs)) (sym value)

-- Another one is asked for.
pub busy_asks : {E : Type 0} (tail : ℕ) (c : Completed) (old new : State) (r : Result Done E) → is_idle tail old.pending.ops ≡ false
    → IfOk r (Does (ask_storage (asked.Written tail) (task.completes tail c)) old new) → IfOk r (Does (complete tail c) old new)
busy_asks tail c old new r busy h = if_ok r (λ d x next rs.
    ap (λ b. either b (give (completed c 0)) (ask_storage (asked.Written tail) (task.completes tail c)) (env_of old.vars) next (state_of old rs)) busy ∙ x next rs) h

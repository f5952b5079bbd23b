-- What a turn gave that stopped.
use Rattle.std.proofs.Common.{◌≡◌, ℕ, Bool, true, List, [], ◌∷◌, slice_get, refl, sym, ap, ◌∙◌, subst}
use Rattle.do_value.specs.Seen.{tree_of}
use Rattle.do_value.specs.declared.value.Value.{Value}
use Rattle.do_value.specs.declared.value.Value.TheVariants.{Undefined}
use Rattle.script_mean.specs.Task as task
use Rattle.script_mean.specs.Task.{Held, Segment}
use Rattle.script_mean.specs.Turn as turn
use Rattle.script_mean.specs.declared.ask.Ask.{Ask}
use Rattle.script_state.specs.Ends.{Becomes}
use Rattle.script_state.specs.Seen.{held_of, wait_of}
use Rattle.script_state.specs.declared.state.State.{State}
use Rattle.script_state.specs.declared.waiting.Waiting.{Waiting}
use Rattle.script_steps.specs.declared.focus.Outcome.{Outcome}
use Rattle.script_steps.specs.declared.focus.Outcome.TheVariants as ending
use Rattle.script_vars.specs.Seen.{env_of}
use Rattle.script_eval.specs.Machines.{next_in}
use Rattle.script_eval.specs.Tasks.{Gives, rest_with, suspended_of}
use Rattle.script_eval.specs.declared.machine.Machine.{Machine}
use Rattle.script_eval.specs.declared.machine.Stop.TheVariants as stop
use Rattle.script_eval.specs.declared.outcome.Outcome.TheVariants as outcome
use Rattle.script_eval.specs.declared.task.Task.{Task}

-- A task that waits has what the machine had.
pub paused_gives : (class : ℕ) (starts : Bool) (a : Ask) (w : Waiting) (m : Machine) (t : Task) → t.class ≡ class → t.starts ≡ starts → t.frames ≡ m.frames
    → t.vars ≡ m.state.vars → t.awaits ≡ m.state.awaits → t.calls ≡ m.state.calls → t.transaction ≡ m.state.transaction → t.block ≡ m.state.block → t.wait ≡ w
    → Gives class starts (stop.Asks a w) m (outcome.Paused t m.state.closed a m.state.fields)
paused_gives class starts a w m t ec es ef ev ea el et eb ew = record {
  turns = λ script c rs get.
      let asks : Bool → List Segment → List Segment = λ block ts. task.asked m.state.closed.items m.state.fields a block ∷ ts in
      let asked : List Segment → List Segment = asks m.state.block in
      let waits : List Segment → List Segment = asks t.block in
      let held : Held = held_of m.state in
      ap (λ x. asked (turn.resumed (wait_of x m.state.transaction) held rs (env_of m.state.vars) (next_in c starts m.frames))) (sym ew)
      ∙ ap (λ x. asked (turn.resumed (wait_of t.wait x) (record held { transaction = x }) rs (env_of m.state.vars) (next_in c starts m.frames))) (sym et)
      ∙ ap (λ x. asked (turn.resumed (wait_of t.wait t.transaction) (record { awaits = x; calls = m.state.calls; transaction = t.transaction; block = m.state.block }) rs (env_of m.state.vars) (next_in c starts m.frames))) (sym ea)
      ∙ ap (λ x. asked (turn.resumed (wait_of t.wait t.transaction) (record { awaits = t.awaits; calls = x; transaction = t.transaction; block = m.state.block }) rs (env_of m.state.vars) (next_in c starts m.frames))) (sym el)
      ∙ ap (λ x. asks x (turn.resumed (wait_of t.wait t.transaction) (record { awaits = t.awaits; calls = t.calls; transaction = t.transaction; block = x }) rs (env_of m.state.vars) (next_in c starts m.frames))) (sym eb)
      ∙ ap (λ x. waits (turn.resumed (wait_of t.wait t.transaction) (suspended_of c t).held rs (env_of x) (next_in c starts m.frames))) (sym ev)
      ∙ ap (λ x. waits (turn.resumed (wait_of t.wait t.transaction) (suspended_of c t).held rs (env_of t.vars) (next_in c starts x))) (sym ef)
      ∙ ap (λ x. waits (turn.resumed (wait_of t.wait t.transaction) (suspended_of c t).held rs (env_of t.vars) (next_in c x t.frames))) (sym es)
      ∙ ap (λ x. waits (rest_with x t rs)) (sym (ap (λ n. slice_get script.classes n) ec ∙ get));
  kept = ec;
}

-- The method returned a value,
over_returned : (class : ℕ) (starts : Bool) (v : Value) (m : Machine) (new : State) → Becomes turn.cut m.state new
    → Gives class starts (stop.Over (ending.Returned v)) m (outcome.Done new.closed v new.fields)
over_returned class starts v m new b =
    record { turns = λ script c rs get. ap (λ (st : turn.State). task.done st.closed st.fields (tree_of v) ∷ []) (sym (b.state rs)); kept = tt }

-- threw one,
over_threw : (class : ℕ) (starts : Bool) (v : Value) (m : Machine) (new : State) → Becomes turn.cut m.state new
    → Gives class starts (stop.Over (ending.Threw v)) m (outcome.Threw new.closed v new.fields starts)
over_threw class starts v m new b =
    record { turns = λ script c rs get. ap (λ (st : turn.State). task.threw st.closed st.fields (tree_of v) starts ∷ []) (sym (b.state rs)); kept = tt }

-- or ended without one.
over_gave : (class : ℕ) (starts : Bool) (v : Value) (m : Machine) (new : State) → Becomes turn.cut m.state new
    → Gives class starts (stop.Over (ending.Gave v)) m (outcome.Done new.closed Undefined new.fields)
over_gave class starts v m new b =
    record { turns = λ script c rs get. ap (λ (st : turn.State). task.done st.closed st.fields (tree_of Undefined) ∷ []) (sym (b.state rs)); kept = tt }

-- So where an exit ended it.
over_broke : (class : ℕ) (starts : Bool) (m : Machine) (new : State) → Becomes turn.cut m.state new
    → Gives class starts (stop.Over ending.Broke) m (outcome.Done new.closed Undefined new.fields)
over_broke class starts m new b =
    record { turns = λ script c rs get. ap (λ (st : turn.State). task.done st.closed st.fields (tree_of Undefined) ∷ []) (sym (b.state rs)); kept = tt }

over_continued : (class : ℕ) (starts : Bool) (m : Machine) (new : State) → Becomes turn.cut m.state new
    → Gives class starts (stop.Over ending.Continued) m (outcome.Done new.closed Undefined new.fields)
over_continued class starts m new b =
    record { turns = λ script c rs get. ap (λ (st : turn.State). task.done st.closed st.fields (tree_of Undefined) ∷ []) (sym (b.state rs)); kept = tt }

-- A limit stopped the turn.
pub exceeded_gives : (class : ℕ) (starts : Bool) (m : Machine) → Gives class starts stop.Exceeded m (outcome.Exceeded m.state.closed)
exceeded_gives class starts m = record { turns = λ script c rs get. refl; kept = tt }

-- A block threw.
pub reset_gives : (class : ℕ) (starts : Bool) (v : Value) (m : Machine) → Gives class starts (stop.Reset v) m (outcome.Threw m.state.closed v m.state.fields true)
reset_gives class starts v m = record { turns = λ script c rs get. refl; kept = tt }

-- The same where it is known how the method ended.
pub returned_over : (class : ℕ) (starts : Bool) (e : Outcome) (v : Value) (m : Machine) (new : State) → e ≡ ending.Returned v → Becomes turn.cut m.state new
    → Gives class starts (stop.Over e) m (outcome.Done new.closed v new.fields)
returned_over class starts e v m new is b = subst (λ x. Gives class starts (stop.Over x) m (outcome.Done new.closed v new.fields)) (sym is) (over_returned class starts v m new b)

-- The same where it is known how the method ended.
pub threw_over : (class : ℕ) (starts : Bool) (e : Outcome) (v : Value) (m : Machine) (new : State) → e ≡ ending.Threw v → Becomes turn.cut m.state new
    → Gives class starts (stop.Over e) m (outcome.Threw new.closed v new.fields starts)
threw_over class starts e v m new is b = subst (λ x. Gives class starts (stop.Over x) m (outcome.Threw new.closed v new.fields starts)) (sym is) (over_threw class starts v m new b)

-- The same where it is known how the method ended.
pub gave_over : (class : ℕ) (starts : Bool) (e : Outcome) (v : Value) (m : Machine) (new : State) → e ≡ ending.Gave v → Becomes turn.cut m.state new
    → Gives class starts (stop.Over e) m (outcome.Done new.closed Undefined new.fields)
gave_over class starts e v m new is b = subst (λ x. Gives class starts (stop.Over x) m (outcome.Done new.closed Undefined new.fields)) (sym is) (over_gave class starts v m new b)

-- The same where it is known how the method ended.
pub broke_over : (class : ℕ) (starts : Bool) (e : Outcome) (m : Machine) (new : State) → e ≡ ending.Broke → Becomes turn.cut m.state new
    → Gives class starts (stop.Over e) m (outcome.Done new.closed Undefined new.fields)
broke_over class starts e m new is b = subst (λ x. Gives class starts (stop.Over x) m (outcome.Done new.closed Undefined new.fields)) (sym is) (over_broke class starts m new b)

-- The same where it is known how the method ended.
pub continued_over : (class : ℕ) (starts : Bool) (e : Outcome) (m : Machine) (new : State) → e ≡ ending.Continued → Becomes turn.cut m.state new
    → Gives class starts (stop.Over e) m (outcome.Done new.closed Undefined new.fields)
continued_over class starts e m new is b = subst (λ x. Gives class starts (stop.Over x) m (outcome.Done new.closed Undefined new.fields)) (sym is) (over_continued class starts m new b)

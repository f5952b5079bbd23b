-- How tasks start and go on.
use Rattle.std.proofs.Common.{◌≡◌, ℕ, ◌-◌, ℤ, Bool, List, [], ◌∷◌, Some, sym, ap, ◌∙◌, arith}
use Rattle.std.specs.declared.sync.Arc.{Arc}
use Rattle.std.specs.declared.alloc.Global.{Global}
use Rattle.std.specs.Prelude.{slice_get}
use Rattle.do_tree.specs.Lookup.{is_constructor}
use Rattle.do_tree.specs.Nodes.{block_in}
use Rattle.do_tree.specs.Seen.{method_of}
use Rattle.do_tree.specs.Tree.{Class, Script}
use Rattle.do_tree.specs.declared.script.Method.{Method}
use Rattle.do_tree.specs.declared.stmt.Block.{Block}
use Rattle.do_value.specs.Tree.{Tree}
use Rattle.script_mean.specs.Limits.{most_helpers}
use Rattle.script_mean.specs.Answers as answers
use Rattle.script_mean.specs.Meaning.{First, body, calls_of, class_task, finish, meaning, method_scope, started, task_of}
use Rattle.script_mean.specs.Task.{Fields, Resume, untouched}
use Rattle.script_mean.specs.Turn.{State, begun}
use Rattle.script_mean.specs.declared.limits.TheConstants.{MOST_STEPS}
use Rattle.write_batcher.specs.Marked.{Open, nothing_open}
use Rattle.write_batcher.specs.declared.batcher.Made.{Made}
use Rattle.script_state.specs.Seen.{state_of, wait_of}
use Rattle.script_steps.specs.Seen.{outcome_of}
use Rattle.script_steps.specs.declared.focus.Focus.TheVariants as focus
use Rattle.script_steps.specs.declared.focus.Outcome.{Outcome}
use Rattle.script_vars.specs.Seen.{env_of}
use Rattle.script_eval.specs.Machines.{next_in, turns_of}
use Rattle.script_eval.specs.Tasks.{rest_in, rest_with, suspended_of}
use Rattle.script_eval.specs.declared.machine.Machine.{Machine}
use Rattle.script_eval.specs.declared.task.Task.{Task}

-- Outside all calls as many are left as there may be.
all_left : most_helpers ≡ most_helpers - 0
unfolding most_helpers
all_left = omega arith

-- A task begins with its method's body.
pub started_turns : (script : Script) (class method : ℕ) (args : List Tree) (first : First) (c : Class) (f : Method) (m : Machine) (b : Arc Block Global) (starts : Bool)
    → slice_get script.classes class ≡ Some c → slice_get c.methods method ≡ Some (method_of f) → m.frames ≡ []
    → env_of m.state.vars ≡ method_scope (method_of f) args ∷ [] → b.value ≡ f.body.value → starts ≡ is_constructor f.kind
    → ((rs : List Resume) → state_of m.state rs ≡ started first rs)
    → (rs : List Resume) → meaning script class method args first rs ≡ turns_of c starts (focus.Body b 0) m rs
started_turns script class method args first c f m b starts is_class is_method frames vars bt st state rs =
    let scope = method_scope (method_of f) args ∷ [] in
    ap (λ o. class_task o method args first rs) is_class
    ∙ ap (λ o. task_of c o args first rs) is_method
    ∙ ap (λ n. body (calls_of c n) (block_in f.body.value) scope (finish (is_constructor f.kind)) (started first rs)) all_left
    ∙ ap (λ x. body (calls_of c (most_helpers - 0)) (block_in x) scope (finish (is_constructor f.kind)) (started first rs)) (sym bt)
    ∙ ap (λ x. body (calls_of c (most_helpers - 0)) (block_in b.value) x (finish (is_constructor f.kind)) (started first rs)) (sym vars)
    ∙ ap (λ x. body (calls_of c (most_helpers - 0)) (block_in b.value) (env_of m.state.vars) (finish x) (started first rs)) (sym st)
    ∙ ap (λ x. body (calls_of c (most_helpers - 0)) (block_in b.value) (env_of m.state.vars) (finish starts) x) (sym (state rs))
    ∙ ap (λ fs. turns_of c starts (focus.Body b 0) (record m { frames = fs }) rs) (sym frames)

-- A task goes on with what the answer gives.
pub resumed_turns : (script : Script) (t : Task) (r : Resume) (c : Class) (m : Machine) (o : Outcome) → slice_get script.classes t.class ≡ Some c
    → answers.answered (wait_of t.wait t.transaction) r.answer ≡ outcome_of o → m.frames ≡ t.frames → m.state.vars ≡ t.vars
    → ((rs : List Resume) → state_of m.state rs ≡ begun (record { awaits = t.awaits; calls = t.calls; transaction = t.transaction; block = t.block }) r rs)
    → (rs : List Resume) → rest_in script t (r ∷ rs) ≡ turns_of c t.starts (focus.Ended o) m rs
resumed_turns script t r c m o is_class answer frames vars state rs =
    ap (λ x. rest_with x t (r ∷ rs)) is_class
    ∙ ap (λ x. next_in c t.starts t.frames x (env_of t.vars) (begun (suspended_of c t).held r rs)) answer
    ∙ ap (λ x. next_in c t.starts t.frames (outcome_of o) (env_of t.vars) x) (sym (state rs))
    ∙ ap (λ x. next_in c t.starts t.frames (outcome_of o) (env_of x) (state_of m.state rs)) (sym vars)
    ∙ ap (λ x. next_in c t.starts x (outcome_of o) (env_of m.state.vars) (state_of m.state rs)) (sym frames)

-- A state in which no step was taken.
abbrev rested : Fields → List Resume → List Made → Open → ℤ → State
rested fields rs closed pending now = record { left = MOST_STEPS; closed = closed; pending = pending; held = untouched; fields = fields; now = now; resumes = rs }

-- Such is the state at a task's start.
pub first_state : (closed : List Made) (pending : Open) (moment now : ℤ) (fields : Fields) → closed ≡ [] → pending ≡ nothing_open → moment ≡ now
    → (rs : List Resume)
    → rested fields rs closed pending moment ≡ started (record { fields = fields; now = now }) rs
first_state closed pending moment now fields is_closed is_pending is_now rs =
    ap (λ bs. rested fields rs bs pending moment) is_closed ∙ ap (λ ops. rested fields rs [] ops moment) is_pending
    ∙ ap (rested fields rs [] nothing_open) is_now

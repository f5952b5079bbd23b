-- A machine that runs a turn, as the definition of the meaning has it.
use Rattle.std.specs.Prelude.{◌≡◌, ◌<◌, ◌≤◌, ℕ, ◌+◌, ◌-◌, ◌*◌, Bool, List, [], ◌∷◌, map}
use Rattle.std.specs.declared.alloc.Global.{Global}
use Rattle.std.specs.declared.sync.Arc.{Arc}
use Rattle.std.specs.declared.vec.Vec.{Vec}
use Rattle.do_value.specs.Seen.{trees_in}
use Rattle.do_value.specs.declared.value.Value.{Value}
use Rattle.do_tree.specs.Seen.{method_of}
use Rattle.do_tree.specs.Tree.{Class}
use Rattle.do_tree.specs.declared.script.Method.{Method}
use Rattle.do_tree.specs.declared.stmt.Block.{Block}
use Rattle.script_mean.specs.Limits.{most_helpers}
use Rattle.script_mean.specs.Calls as calls
use Rattle.script_mean.specs.Frames.{Frame, after, callers, to_caller_of}
use Rattle.script_mean.specs.Meaning.{calls_of, finish, method_scope}
use Rattle.script_mean.specs.Task.{Resume, Segment}
use Rattle.script_mean.specs.Turn.{Next}
use Rattle.script_state.specs.Ends.{IsOpenFor, turns_after}
use Rattle.script_state.specs.Seen.{state_of, wait_of}
use Rattle.script_state.specs.declared.done.Done.TheVariants as done
use Rattle.script_steps.specs.Paths.{is_present}
use Rattle.script_steps.specs.Seen.{focus_run, frame_of, outcome_of}
use Rattle.script_steps.specs.Weight.{step_pays, focus_weight, frame_weight}
use Rattle.script_steps.specs.declared.focus.Focus.{Focus}
use Rattle.script_steps.specs.declared.focus.Focus.TheVariants as focus
use Rattle.script_steps.specs.declared.focus.Outcome.{Outcome}
use Rattle.script_steps.specs.declared.path.Await.{Await}
use Rattle.script_vars.specs.Seen.{env_of}
use Rattle.script_vars.specs.declared.bound.Bound.{Bound}
use Rattle.script_eval.specs.Acts.{IsReadyAct, act_cost, act_turns, act_weight}
use Rattle.script_eval.specs.declared.act.Act.{Act}
use Rattle.script_eval.specs.declared.act.Act.TheVariants as act
use Rattle.script_eval.specs.declared.frames.Layer.{Layer}
use Rattle.script_eval.specs.declared.frames.Layer.TheVariants as layer
use Rattle.script_eval.specs.declared.machine.Machine.{Machine}
use Rattle.script_eval.specs.declared.machine.Stop.{Stop}
use Rattle.script_eval.specs.declared.machine.Stop.TheVariants as stop
use Rattle.script_eval.specs.declared.machine.Progress.{Progress}
use Rattle.script_eval.specs.declared.machine.Progress.TheVariants as progress
use Rattle.script_eval.specs.Leads as leads
use Rattle.script_eval.specs.Leads.{Leads}

-- What is around the part that runs, as the definition has it,
abbrev pub layer_of : Layer → Frame
layer_of (layer.Inner w) = frame_of w
layer_of (layer.Caller awaited vars) = to_caller_of (is_present awaited) (env_of vars)

-- innermost first.
abbrev pub frames_of : List Layer → List Frame
frames_of ls = map layer_of ls

-- How much it leaves to do.
abbrev pub layer_weight : Layer → ℕ
layer_weight (layer.Inner w) = frame_weight w
layer_weight (layer.Caller awaited vars) = 2

abbrev pub frames_weight : List Layer → ℕ
frames_weight [] = 0
frames_weight (l ∷ ls) = layer_weight l + frames_weight ls

-- What the class gives to a part inside these frames.
abbrev pub calls_in : Class → List Layer → calls.Calls
calls_in class fs = calls_of class (most_helpers - callers (frames_of fs))

-- What comes after a part inside these frames.
abbrev pub next_in : Class → Bool → List Layer → Next
next_in class starts fs = after class starts (frames_of fs)

-- The turns from what is to be done next on.
abbrev pub turns_of : Class → Bool → Focus → Machine → List Resume → List Segment
turns_of class starts f m rs = focus_run (calls_in class m.frames) f (env_of m.state.vars) (next_in class starts m.frames) (state_of m.state rs)

-- The turns where this one ends so: with an ask, at a limit, by a throw out of a block, or with the task's end.
abbrev pub stop_turns : Class → Bool → Stop → Machine → List Resume → List Segment
stop_turns class starts (stop.Asks a w) m rs = turns_after (done.Asks a w) m.state (next_in class starts m.frames) rs
stop_turns class starts stop.Exceeded m rs = turns_after done.Exceeded m.state (next_in class starts m.frames) rs
stop_turns class starts (stop.Reset v) m rs = turns_after (done.Reset v) m.state (next_in class starts m.frames) rs
stop_turns class starts (stop.Over o) m rs = finish starts (outcome_of o) (env_of m.state.vars) (state_of m.state rs)

abbrev pub leads_turns : Class → Bool → Leads → Machine → List Resume → List Segment
leads_turns class starts (leads.On f) m rs = turns_of class starts f m rs
leads_turns class starts (leads.To s) m rs = stop_turns class starts s m rs

-- How many helper calls the machine is inside of is counted.
abbrev pub IsDeep : Machine → Type 0
IsDeep m = m.depth ≡ callers (frames_of m.frames)

-- How much is left to do.
abbrev pub to_go : Focus → Machine → ℕ
to_go f m = step_pays * m.state.left + frames_weight m.frames + focus_weight f

-- Less is left than this, where the turn goes on.
abbrev pub GoesOnBelow : ℕ → Machine → Leads → Type 0
GoesOnBelow before m (leads.On f) = to_go f m < before
GoesOnBelow before m (leads.To s) = Unit {0}

-- A read through a transaction that the turn ends with finds one.
abbrev pub IsReadyStop : Machine → Stop → Type 0
IsReadyStop m (stop.Asks a w) = IsOpenFor (wait_of w m.state.transaction) m.state.transaction
IsReadyStop m s = Unit {0}

abbrev pub IsReadyLead : Machine → Leads → Type 0
IsReadyLead m (leads.On f) = Unit {0}
IsReadyLead m (leads.To s) = IsReadyStop m s

-- The turns from here on are those that are led to; the count of calls is kept; less is left; what is asked can be answered.
pub record LeadsTo (class : Class) (turns : Bool → List Resume → List Segment) (before : ℕ) (m : Machine) (n : Leads) : Type 0 where
  pub same : (starts : Bool) (rs : List Resume) → turns starts rs ≡ leads_turns class starts n m rs
  pub deep : IsDeep m
  pub less : GoesOnBelow before m n
  pub ready : IsReadyLead m n

-- Less is left than this, but for the steps that are still to be charged, where the turn goes on.
abbrev pub IsBelow : ℕ → Machine → Act → Type 0
IsBelow before m (act.Does (done.Asks a w)) = Unit {0}
IsBelow before m (act.Does done.Exceeded) = Unit {0}
IsBelow before m (act.Does (done.Reset v)) = Unit {0}
IsBelow before m a = act_weight a + step_pays * m.state.left + frames_weight m.frames < before + step_pays * act_cost a

-- What a step leads to, where it puts this as the turn's focus.
abbrev pub leads_of : Progress → Focus → Leads
leads_of progress.GoesOn f = leads.On f
leads_of (progress.Stops s) f = leads.To s.value

-- What was done inside the machine's frames leads there.
abbrev pub Applies : Class → Act → Machine → Machine → Leads → Type 0
Applies class a old new n = (before : ℕ) → IsBelow before old a → IsReadyAct old.state a
    → LeadsTo class (λ starts rs. act_turns (calls_in class old.frames) a old.state (next_in class starts old.frames) rs) before new n

-- What is done next leads there, with less left to do.
abbrev pub Steps : Class → Focus → Machine → Machine → Leads → Type 0
Steps class f old new n = LeadsTo class (λ starts rs. turns_of class starts f old rs) (to_go f old) new n

-- The same whatever the class.
abbrev pub StepsFrom : Focus → Machine → Machine → Leads → Type 0
StepsFrom f old new n = (class : Class) → Steps class f old new n

-- A part that reads the variable of this name, once its step is charged, and does nothing else.
abbrev pub Reads : Focus → List ℕ → Type 0
Reads f name = ((calls : calls.Calls) → focus_run calls f ≡ focus_run calls (focus.Named name)) × (1 ≤ focus_weight f)

-- A part inside the machine's frames that ended so leads there.
abbrev pub Finishes : Class → Outcome → Machine → Machine → Leads → Type 0
Finishes class o old new n = (before : ℕ) → 7 + step_pays * old.state.left + frames_weight old.frames < before
    → LeadsTo class (λ starts rs. next_in class starts old.frames (outcome_of o) (env_of old.state.vars) (state_of old.state rs)) before new n

-- One turn ends so.
pub record Runs (class : Class) (f : Focus) (old new : Machine) (s : Stop) : Type 0 where
  pub same : (starts : Bool) (rs : List Resume) → turns_of class starts f old rs ≡ stop_turns class starts s new rs
  pub deep : IsDeep new
  pub ready : IsReadyStop new s

-- The body of this method is next, with variables of its own; its caller waits with those that it had.
abbrev pub Calls : Method → Await → Vec Value Global → Machine → Machine → Leads → Type 0
Calls method awaited args old new n = (vars : List (List (List ℕ × Bound))) × (b : Arc Block Global)
    × (n ≡ leads.On (focus.Body b 0)) × (b.value ≡ method.body.value) × (env_of vars ≡ method_scope (method_of method) (trees_in args.items) ∷ [])
    × (new ≡ record old { state = record old.state { vars = vars }; frames = layer.Caller awaited old.state.vars ∷ old.frames; depth = old.depth + 1 })

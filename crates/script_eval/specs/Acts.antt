-- What a running task does with one part of a script, before its frames are touched: it unfolds, enters a block, is done at once
-- or calls a helper.
use Rattle.std.specs.Prelude.{◌≡◌, ◌<◌, ℕ, ◌+◌, ◌*◌, Bool, List}
use Rattle.do_value.specs.Seen.{trees_in}
use Rattle.do_tree.specs.Tree.{Class}
use Rattle.script_mean.specs.Calls.{Calls}
use Rattle.script_mean.specs.Frames.{to_leave}
use Rattle.script_mean.specs.Meaning.{calls_of}
use Rattle.script_mean.specs.Task.{Resume, Segment}
use Rattle.script_mean.specs.Turn.{Next}
use Rattle.script_state.specs.Ends.{IsReady, turns_after}
use Rattle.script_state.specs.Seen.{state_of}
use Rattle.script_state.specs.declared.done.Done.TheVariants as done
use Rattle.script_state.specs.declared.state.State.{State}
use Rattle.script_steps.specs.Paths.{is_present}
use Rattle.script_steps.specs.Seen.{focus_run, frame_of, framed, move_run}
use Rattle.script_steps.specs.Weight.{step_pays, ended_weight, focus_weight, frame_weight, move_cost, move_weight}
use Rattle.script_steps.specs.declared.focus.Focus.{Focus}
use Rattle.script_vars.specs.Seen.{env_of}
use Rattle.script_eval.specs.declared.act.Act.{Act}
use Rattle.script_eval.specs.declared.act.Act.TheVariants as act

-- The helpers of some class, with this many calls left, in a class with an alarm handler or without.
abbrev pub AreCalls : Bool → Calls → Type 0
AreCalls has_handler calls = (class : Class) × (n : ℕ) × (calls ≡ calls_of class n) × (calls.has_handler ≡ has_handler)

-- The turns from what was done on.
abbrev pub act_turns : Calls → Act → State → Next → List Resume → List Segment
act_turns calls (act.Moves m) s next rs = move_run calls m (env_of s.vars) next (state_of s rs)
act_turns calls (act.Enters w f) s next rs = framed calls (frame_of w) (framed calls to_leave (focus_run calls f)) (env_of s.vars) next (state_of s rs)
act_turns calls (act.Does d) s next rs = turns_after d s next rs
act_turns calls (act.Helps awaited name args) s next rs = calls.helper (is_present awaited) name (trees_in args.items) (env_of s.vars) next (state_of s rs)

-- How much is left to do.
abbrev pub act_weight : Act → ℕ
act_weight (act.Moves m) = move_weight m
act_weight (act.Enters w f) = 2 + frame_weight w + focus_weight f
act_weight (act.Does d) = ended_weight
act_weight (act.Helps awaited name args) = 13

-- The steps that are still to be charged.
abbrev pub act_cost : Act → ℕ
act_cost (act.Moves m) = move_cost m
act_cost a = 0

-- Less is left than before, but for the steps that were charged or are still to be, where the turn goes on.
abbrev pub IsLess : ℕ → State → State → Act → Type 0
IsLess before old new (act.Does (done.Asks a w)) = Unit {0}
IsLess before old new (act.Does done.Exceeded) = Unit {0}
IsLess before old new (act.Does (done.Reset v)) = Unit {0}
IsLess before old new a = act_weight a + step_pays * new.left < before + step_pays * (act_cost a + old.left)

-- A read through a transaction that the turn ends with finds one.
abbrev pub IsReadyAct : State → Act → Type 0
IsReadyAct s (act.Does d) = IsReady s d
IsReadyAct s a = Unit {0}

-- The part, done with what the task had, is what was done, with what the task has now.
pub record Acts (has_handler : Bool) (f : Focus) (old new : State) (a : Act) : Type 0 where
  pub same : (calls : Calls) → AreCalls has_handler calls → (next : Next) (rs : List Resume)
      → focus_run calls f (env_of old.vars) next (state_of old rs) ≡ act_turns calls a new next rs
  pub less : IsLess (focus_weight f) old new a
  pub ready : IsReadyAct new a

-- The same of a part that leaves what the task has as it is, whatever the class.
abbrev pub Unfolds : Focus → State → Act → Type 0
Unfolds f s a = (has_handler : Bool) → Acts has_handler f s s a

-- The same of a part that doesn't ask whether the class has an alarm handler.
abbrev pub Changes : Focus → State → State → Act → Type 0
Changes f old new a = (has_handler : Bool) → Acts has_handler f old new a

-- How parts that a running task does at once end, as the definition of the meaning has it.
use Rattle.std.specs.Prelude.{◌≡◌, Bool, true, List, [], ◌∷◌, Option, Some, None}
use Rattle.storage_map.specs.declared.op.Op as op
use Rattle.do_value.specs.Seen.{tree_of}
use Rattle.script_mean.specs.Calls.{block, on_block}
use Rattle.script_mean.specs.Task as task
use Rattle.script_mean.specs.Task.{Resume, Segment, Wait}
use Rattle.script_mean.specs.Turn as turn
use Rattle.script_mean.specs.Turn.{Next, Run, resumed}
use Rattle.script_steps.specs.Seen.{outcome_of}
use Rattle.script_steps.specs.declared.focus.Outcome.{Outcome}
use Rattle.script_vars.specs.Seen.{env_of}
use Rattle.script_state.specs.Seen.{held_of, state_of, wait_of}
use Rattle.script_state.specs.declared.state.State.{State}
use Rattle.script_state.specs.declared.done.Done.{Done}
use Rattle.script_state.specs.declared.done.Done.TheVariants as done

-- The turns from here on where a part ended so: it is over; or the turn ends, by an ask, a limit, or a throw out of a block.
abbrev pub turns_after : Done → State → Next → List Resume → List Segment
turns_after (done.Ended o) s next rs = next (outcome_of o) (env_of s.vars) (state_of s rs)
turns_after (done.Asks a w) s next rs = task.asked s.closed.items s.fields a s.block ∷ resumed (wait_of w s.transaction) (held_of s) rs (env_of s.vars) next
turns_after done.Exceeded s next rs = task.exceeded s.closed.items ∷ []
turns_after (done.Reset v) s next rs = task.threw s.closed.items s.fields (tree_of v) true ∷ []

-- The part, done with what the task had, ended so, with what the task has now.
abbrev pub Does : Run → State → State → Done → Type 0
Does part old new d = (next : Next) (rs : List Resume) → part (env_of old.vars) next (state_of old rs) ≡ turns_after d new next rs

-- The same where it is over.
abbrev pub Goes : Run → State → State → Outcome → Type 0
Goes part old new o = Does part old new (done.Ended o)

-- A change that the definition makes of the state alone.
abbrev pub Becomes : (turn.State → turn.State) → State → State → Type 0
Becomes change old new = record {
  state : (rs : List Resume) → state_of new rs ≡ change (state_of old rs);
  vars : new.vars ≡ old.vars;
}

-- A block is refused, or it is open now and its body is run.
abbrev pub Opens : State → State → Option Outcome → Type 0
Opens old new None = (awaited : Bool) (body : Run) (next : Next) (rs : List Resume)
    → block awaited body (env_of old.vars) next (state_of old rs) ≡ body (env_of new.vars) (on_block awaited next) (state_of new rs)
Opens old new (Some o) = (awaited : Bool) (body : Run) (next : Next) (rs : List Resume)
    → block awaited body (env_of old.vars) next (state_of old rs) ≡ turns_after (done.Ended o) new next rs

-- There is a transaction that wasn't rolled back.
abbrev pub IsMade : Option (Option (List op.Op)) → Type 0
IsMade (Some (Some ops)) = Unit {0}
IsMade _ = ⊥

-- A read through a transaction finds one that wasn't rolled back.
abbrev pub IsOpenFor : Wait → Option (Option (List op.Op)) → Type 0
IsOpenFor (task.views ops a) made = IsMade made
IsOpenFor (task.finds ops a) made = IsMade made
IsOpenFor w made = Unit {0}

-- Where the turn ends with a read through a transaction, there is one that wasn't rolled back.
abbrev pub IsReady : State → Done → Type 0
IsReady s (done.Asks a w) = IsOpenFor (wait_of w s.transaction) s.transaction
IsReady s d = Unit {0}

-- What a running task has, and what it waits for, as the definition of the meaning has them.
use Rattle.std.specs.Prelude.{List, take, Option}
use Rattle.storage_map.specs.declared.op.Op.{Op}
use Rattle.script_asks.specs.Requests.{completed_of}
use Rattle.script_mean.specs.Calls.{writes_of}
use Rattle.script_mean.specs.Task as task
use Rattle.script_mean.specs.Task.{Held, Resume, Wait, Completed}
use Rattle.script_mean.specs.Turn as turn
use Rattle.do_value.specs.Seen.{tree_of}
use Rattle.script_state.specs.declared.state.State.{State}
use Rattle.script_state.specs.declared.waiting.Gives.{Gives}
use Rattle.script_state.specs.declared.waiting.Gives.TheVariants as gives
use Rattle.script_state.specs.declared.waiting.Waiting.{Waiting}
use Rattle.script_state.specs.declared.waiting.Waiting.TheVariants as waiting

-- What it holds from turn to turn.
abbrev pub held_of : State → Held
held_of s = record { awaits = s.awaits; calls = s.calls; transaction = s.transaction; block = s.block }

-- The state of the turn, with the answers that are still to come.
abbrev pub state_of : State → List Resume → turn.State
state_of s rs = record { left = s.left; closed = s.closed.items; pending = s.pending; held = held_of s; fields = s.fields; now = s.moment; resumes = rs }

-- What the completion of a write gives.
abbrev pub gives_of : Gives → Completed
gives_of (gives.Call c) = completed_of c
gives_of (gives.This v) = task.this (tree_of v)

-- What it waits for, with the operations of its transaction.
abbrev pub wait_of : Waiting → Option (Option (List Op)) → Wait
wait_of waiting.Reads made = task.reads
wait_of (waiting.Views ask) made = task.views (writes_of made) ask
wait_of (waiting.Finds ask count) made = task.finds (take count (writes_of made)) ask
wait_of (waiting.Completes tail c) made = task.completes tail (gives_of c)
wait_of waiting.Syncs made = task.syncs
wait_of waiting.Outside made = task.outside

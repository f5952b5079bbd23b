-- What an object has between its events: in memory alone, as its storage stands beside it. After the Durable Objects
-- documentation and the article on input and output gates.
use Rattle.std.specs.Prelude.{ℕ, ℤ, pos, Bool, true, false, ◌==◌, if◌then◌else◌, List, [], ◌∷◌, Option, Some, None}
use Rattle.std.specs.List.{find, list_any}
use Rattle.do_value.specs.Tree.{Tree}
use Rattle.do_tree.specs.Tree.{Script}
use Rattle.script_mean.specs.Meaning.{First}
use Rattle.script_mean.specs.Task.{Fields, Resume}
use Rattle.timeline.specs.declared.caller.Caller.{Caller}
use Rattle.timeline.specs.declared.caller.Cause.{Cause}
use Rattle.timeline.specs.declared.entry.Body.{Body}
use Rattle.timeline.specs.declared.event.Event.{Event}

-- Whose life it is: the script, the number of the object's class, and the number of the incarnation.
pub record Life : Type 0 where
  pub script : Script
  pub class : ℕ
  pub incarnation : ℕ

-- Why a task runs: it is the constructor, the handler of an alarm with this retry number, or a method for this caller.
pub data Purpose : Type 0 where
  starts : Purpose
  handles : ℕ → Purpose
  serves : Caller → Purpose

-- A task that hasn't ended: its method with what it found at its start and was answered so far. It waits under the number of
-- the latest call or fetch that it made, 0 before the first; so many were let through. Its block is open or not.
pub record OpenTask : Type 0 where
  pub purpose : Purpose
  pub method : ℕ
  pub args : List Tree
  pub depth : ℕ
  pub first : First
  pub resumes : List Resume
  pub made : ℕ
  pub number : ℕ
  pub block : Bool

-- The fields; whether the constructor has run; the tasks that wait for a call or a fetch, in the order of their numbers; the
-- event that waits for the constructor; the clock; the alarm; the retry number of the handler that runs; whether the alarm was
-- touched since that handler's tick; and how many calls and fetches the incarnation has made.
pub record Object : Type 0 where
  pub fields : Fields
  pub started : Bool
  pub tasks : List OpenTask
  pub parked : Option Event
  pub clock : ℤ
  pub alarm : Option (ℤ × ℕ)
  pub handler : Option ℕ
  pub touched : Bool
  pub made : ℕ

-- An incarnation begins with its alarm and nothing else.
abbrev pub begun : Option (ℤ × ℕ) → Object
begun alarm = record {
  fields = [];
  started = false;
  tasks = [];
  parked = None;
  clock = pos 0;
  alarm = alarm;
  handler = None;
  touched = false;
  made = 0;
}

-- The task that waits under a number.
abbrev pub task_under : ℕ → List OpenTask → Option OpenTask
task_under number tasks = find (λ task. task.number == number) tasks

-- The other tasks: the one that goes on waits no more.
abbrev pub tasks_but : ℕ → List OpenTask → List OpenTask
tasks_but number [] = []
tasks_but number (t ∷ ts) = if t.number == number then ts else t ∷ tasks_but number ts

-- Whether a block is open.
abbrev pub is_blocked : Object → Bool
is_blocked o = list_any (λ task. task.block) o.tasks

abbrev pub is_open : Option OpenTask → Bool
is_open None = false
is_open (Some task) = true

-- Between its inputs an object is idle; or a task of it waits for the storage, for the answer to this entry; or the
-- incarnation has ended by this cause.
pub data State : Type 0 where
  idle : Object → State
  waiting : Object → OpenTask → Body → State
  ended : Cause → State

-- What one input makes an object say, and where it leaves it. An entry that is then waited for stands in the state alone.
pub record Step : Type 0 where
  pub says : List Body
  pub state : State

-- Which events may be delivered. Source: the article on input and output gates, and the documentation of
-- `blockConcurrencyWhile`; that only an idle object is evicted is this project's profile.
use Rattle.std.specs.Prelude.{ℕ, ℤ, pos, nat_lt, Bool, true, false, not, ◌&&◌, ◌||◌, ◌==◌, List, [], ◌∷◌, slice_get, codes, Option, Some, None, is_some}
use Rattle.std.specs.Int.Signed.{le_z}
use Rattle.do_tree.specs.Lookup.{class_named, methods_of, is_constructor, is_named}
use Rattle.do_tree.specs.Tree.{Method, Script}
use Rattle.storage_map.specs.Limits.{most_time}
use Rattle.timeline.specs.Object.{Object, OpenTask, task_under, is_blocked, is_open}
use Rattle.timeline.specs.Steps.{moment_of}
use Rattle.timeline.specs.declared.event.Event.{Event}
use Rattle.timeline.specs.declared.event.Event.TheVariants.{Bind, Call, Answer, Evict}

-- The task whose block is open waits under this number.
abbrev pub has_block : Option OpenTask → Bool
has_block None = false
has_block (Some task) = task.block

abbrev pub has_no_task : List OpenTask → Bool
has_no_task [] = true
has_no_task (task ∷ tasks) = false

-- While a block is open, only an answer that resumes the task whose block it is; else every event, but an eviction only where
-- the object is at rest: no task is open.
abbrev pub is_eligible_while : (blocked : Bool) (resumes : Bool) (rests : Bool) → Event → Bool
is_eligible_while blocked resumes rests (Bind identity) = true
is_eligible_while true resumes rests (Answer incarnation number result at) = resumes
is_eligible_while true resumes rests event = false
is_eligible_while false resumes rests (Evict at) = rests
is_eligible_while false resumes rests event = true

-- The event is an answer to the task whose block is open.
abbrev pub resumes_block : Object → Event → Bool
resumes_block o (Answer incarnation number result at) = has_block (task_under number o.tasks)
resumes_block o event = false

abbrev pub is_eligible : Object → Event → Bool
is_eligible o event = is_eligible_while (is_blocked o) (resumes_block o event) (has_no_task o.tasks) event

-- An answer for which no task of this incarnation waits isn't delivered. It is early where it names an incarnation or a number
-- that wasn't given out yet, and leaves a front stuck; else it is dropped.
abbrev pub is_stale : ℕ → Object → Event → Bool
is_stale now o (Answer incarnation number result at) = not (incarnation == now && is_open (task_under number o.tasks))
is_stale now o event = false

abbrev pub is_early : (now : ℕ) (made : ℕ) → Event → Bool
is_early now made (Answer incarnation number result at) = nat_lt now incarnation || (incarnation == now && (number == 0 || nat_lt made number))
is_early now made event = false

-- What the front of a class, or of none yet, can't take, and drops: a second `Bind`, or one of a class that the script hasn't; before
-- the `Bind` everything else; a call of what is no method to callers; a moment out of range.
abbrev pub is_for_callers : Option Method → Bool
is_for_callers None = false
is_for_callers (Some m) = not (is_constructor m.kind) && not (is_named (codes "alarm") m)

abbrev pub is_moment : ℤ → Bool
is_moment at = le_z (pos 0) at && le_z at (pos most_time)

abbrev pub has_method : Script → ℕ → Event → Bool
has_method script class (Call from method args depth at) = is_for_callers (slice_get (methods_of script class) method)
has_method script class event = true

abbrev pub is_fit : Script → Option ℕ → Event → Bool
is_fit script None (Bind identity) = is_some (class_named script identity.0)
is_fit script (Some class) (Bind identity) = false
is_fit script None event = false
is_fit script (Some class) event = is_moment (moment_of event) && has_method script class event

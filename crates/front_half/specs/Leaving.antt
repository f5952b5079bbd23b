-- What the callers of an object wait for, as its front finds it: from the tasks that it holds and the answers that are deferred.
use Rattle.std.specs.Prelude.{ℕ, if◌then◌else◌, List, [], ◌∷◌, Option, Some, None, unwrap_or}
use Rattle.std.specs.Ordering.{nat_cmp}
use Rattle.std.specs.BTreeSet.{BTreeSet, contains}
use Rattle.timeline.specs.Left.{is_for}
use Rattle.timeline.specs.declared.caller.Caller.{Caller}
use Rattle.timeline.specs.declared.notice.Waits.{Waits}
use Rattle.timeline.specs.declared.notice.Waits.TheVariants as waits
use Rattle.front_turns.specs.Held.{purpose_of, waits_of}
use Rattle.front_turns.specs.declared.object.Awaited.{Awaited}
use Rattle.front_turns.specs.declared.object.Held.{Held}
use Rattle.front_half.specs.declared.by_caller.ByCaller.{ByCaller}
use Rattle.front_half.specs.ByCallers.{kept_for}

-- A task waits for the end of a block where its answer is deferred.
abbrev pub held_wait : BTreeSet ℕ → ℕ → ℕ → Awaited → Waits
held_wait answers incarnation number awaited =
    if contains nat_cmp answers number then waits.Block else waits_of incarnation number awaited

-- What the caller waits for, where this task serves it.
abbrev pub wait_in : {T : Type 0} → BTreeSet ℕ → ℕ → Caller → ℕ × Held T → Option Waits
wait_in answers incarnation from h =
    if is_for from (purpose_of h.1.running.purpose) then Some (held_wait answers incarnation h.0 h.1.awaited) else None

-- The first of several tasks that serves the caller is the one that counts.
abbrev pub first_wait : {T : Type 0} → BTreeSet ℕ → ℕ → List (ℕ × Held T) → Caller → Option Waits
first_wait answers incarnation [] from = None
first_wait answers incarnation (h ∷ hs) from =
    if is_for from (purpose_of h.1.running.purpose) then Some (held_wait answers incarnation h.0 h.1.awaited) else first_wait answers incarnation hs from

-- A caller whom no task serves waits for the end of a block.
abbrev pub wait_by : ByCaller Waits → Caller → Waits
wait_by served from = unwrap_or (kept_for from served) waits.Block

abbrev pub with_wait : ByCaller Waits → Caller → Caller × Waits
with_wait served from = (from, wait_by served from)

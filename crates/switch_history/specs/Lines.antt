-- The lines of requests that are left at the end: a law, proved by a function of `laws`. This project's profile.
use Rattle.std.specs.Prelude.{◌≡◌, ◌+◌, ℕ, ℤ, Bool, true, List, [], ◌++◌, Option, is_some}
use Rattle.std.specs.List.{All, find}
use Rattle.do_tree.specs.Tree.{Script}
use Rattle.timeline.specs.Finish.{finishes, is_fetch_of}
use Rattle.timeline.specs.Lines.{Identity, Line, OutLine}
use Rattle.timeline.specs.Switch.{IsSwitchRun, Switch, SwitchLog, opened}
use Rattle.timeline.specs.declared.caller.Caller.{Caller}
use Rattle.timeline.specs.declared.caller.Caller.TheVariants as from
use Rattle.timeline.specs.declared.notice.Waits.{Waits}
use Rattle.timeline.specs.declared.notice.Waits.TheVariants as waits
use Rattle.switch_history.specs.Answering.{AreAnsweredOrLeft, answers_in, calls_in, many, requests_left, waits_in}

-- A request that is left and waits for a fetch waits for one that is open.
abbrev pub HasItsFetch : Switch → ℕ × Caller × Waits → Type 0
HasItsFetch s (slot, from.Request line number, waits.Fetch incarnation own) = is_some (find (is_fetch_of slot incarnation own) s.unanswered) ≡ true
HasItsFetch s item = Unit {0}

-- So do all that are left.
abbrev pub HaveTheirFetches : Switch → List (ℕ × Caller × Waits) → Type 0
HaveTheirFetches s left = All (HasItsFetch s) left

-- Each accepted call has exactly one line among replies, errors and `waiting` lines, whichever numbers count.
abbrev pub AreToldOnce : List Line → List OutLine → Type 0
AreToldOnce accepted lines = (counts : ℤ → Bool) → many counts (answers_in lines) + many counts (waits_in lines) ≡ many counts (calls_in accepted)

-- The lines of the end answer nothing, and say of each request that is left once that it waits. A run says of none that it waits. So where
-- each accepted call has its answer or is left, it has exactly one line in the end.
pub record LeftHasItsLine : Type 0 where
  pub waits : (s : Switch) (left : List (ℕ × Caller × Waits)) → HaveTheirFetches s left → (counts : ℤ → Bool)
      → many counts (waits_in (finishes s left)) ≡ many counts (requests_left left)
  pub answers : (s : Switch) (left : List (ℕ × Caller × Waits)) → answers_in (finishes s left) ≡ []
  pub run : (script : Script) (named : List (Option Identity)) (log : SwitchLog) (s : Switch) → IsSwitchRun script (opened named) log s
      → waits_in log.lines ≡ []
  pub whole : (accepted : List Line) (lines : List OutLine) (s : Switch) (left : List (ℕ × Caller × Waits)) → waits_in lines ≡ []
      → HaveTheirFetches s left → AreAnsweredOrLeft accepted lines left → AreToldOnce accepted (lines ++ finishes s left)

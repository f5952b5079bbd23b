-- Which fetches are open at the switch: a law, proved by a function of `laws`. This project's profile.
use Rattle.std.specs.Prelude.{◌≡◌, ℕ, true, List, Option, is_some}
use Rattle.std.specs.List.{Contains, find}
use Rattle.do_tree.specs.Tree.{Script}
use Rattle.mailbox.specs.Posting.{of_slot}
use Rattle.object_messages.specs.Naming.{answered_in, fetched_in, times_of}
use Rattle.timeline.specs.Finish.{is_fetch_of}
use Rattle.timeline.specs.Lines.{Identity}
use Rattle.timeline.specs.Switch.{Switch, SwitchLog, opened}
use Rattle.switch_history.specs.Fit.{IsFitRun}

-- After a run whose messages are fit a fetch that was routed from a slot, and to which no answer was posted, is open.
abbrev pub FetchesAreOpen : Type 0
FetchesAreOpen = (script : Script) (named : List (Option Identity)) (log : SwitchLog) (s : Switch) → IsFitRun script (opened named) log s
    → (slot : ℕ) (asked : ℕ × ℕ) → Contains (fetched_in (of_slot slot log.routed)) asked
    → times_of asked (answered_in (of_slot slot log.posts)) ≡ 0
    → is_some (find (is_fetch_of slot asked.0 asked.1) s.unanswered) ≡ true

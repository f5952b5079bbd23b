-- The moments of what a run of the switch posts.
use Rattle.std.specs.Prelude.{◌≡◌, ℕ, true, List, Option, Result, Ok}
use Rattle.std.specs.List.{AllByRecursion}
use Rattle.do_tree.specs.Tree.{Script}
use Rattle.mailbox.specs.Posting.{of_slot}
use Rattle.timeline.specs.Eligible.{is_moment}
use Rattle.timeline.specs.Lines.{Identity, Line, Request}
use Rattle.timeline.specs.Lines as line
use Rattle.timeline.specs.Steps.{moment_of}
use Rattle.timeline.specs.Switch.{IsSwitchRun, Switch, SwitchLog, opened}
use Rattle.timeline.specs.declared.event.Event.{Event}

-- The ticks of these lines are at moments from 0 to 2^53 - 1.
abbrev pub IsTickInRange : Result Request ℕ → Type 0
IsTickInRange (Ok (line.ticks moment)) = is_moment moment ≡ true
IsTickInRange body = Unit {0}

abbrev pub AreTicksInRange : List Line → Type 0
AreTicksInRange lines = AllByRecursion (λ l. IsTickInRange l.body) lines

-- Then so are the moments of all events that are posted.
abbrev pub IsInRange : Event → Type 0
IsInRange e = is_moment (moment_of e) ≡ true

abbrev pub MomentsAreInRange : Type 0
MomentsAreInRange = (script : Script) (named : List (Option Identity)) (log : SwitchLog) (s : Switch) → IsSwitchRun script (opened named) log s
    → AreTicksInRange log.accepted → (slot : ℕ) → AllByRecursion IsInRange (of_slot slot log.posts)

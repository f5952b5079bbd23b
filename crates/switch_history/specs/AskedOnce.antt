-- That nobody is answered more often than he asked: a law, proved by a function of `laws`. This project's profile.
use Rattle.std.specs.Prelude.{◌≤◌, ℕ, List, Option}
use Rattle.do_tree.specs.Tree.{Script}
use Rattle.mailbox.specs.Posting.{of_slot}
use Rattle.object_messages.specs.Naming.{answered_in, asked_in, called_in, replied_in, times, times_of}
use Rattle.timeline.specs.Lines.{Identity}
use Rattle.timeline.specs.Switch.{IsSwitchRun, Switch, SwitchLog, opened}
use Rattle.timeline.specs.declared.caller.Caller.{Caller}

-- The messages of each slot reply to nobody more often than he called it.
abbrev pub AreRepliesNoMore : SwitchLog → Type 0
AreRepliesNoMore log = (slot : ℕ) (caller : Caller)
    → times caller (replied_in (of_slot slot log.routed)) ≤ times caller (called_in (of_slot slot log.posts))

-- Then no call or fetch of a slot's object is posted more answers than it was routed times.
abbrev pub AnswersAreNoMoreThanAsks : Type 0
AnswersAreNoMoreThanAsks = (script : Script) (named : List (Option Identity)) (log : SwitchLog) (s : Switch) → IsSwitchRun script (opened named) log s
    → AreRepliesNoMore log → (slot : ℕ) (asked : ℕ × ℕ)
    → times_of asked (answered_in (of_slot slot log.posts)) ≤ times_of asked (asked_in (of_slot slot log.routed))

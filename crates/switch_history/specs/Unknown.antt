-- What is posted to an object of a class that the script hasn't: a law, proved by a function of `laws`. This project's profile.
use Rattle.std.specs.Prelude.{◌≡◌, ℕ, false, List, Option, Some}
use Rattle.do_tree.specs.Tree.{Script}
use Rattle.mailbox.specs.Posting.{of_slot}
use Rattle.object_messages.specs.Unmoved.{AreAnswers}
use Rattle.timeline.specs.Lines.{Identity}
use Rattle.timeline.specs.Switch.{IsSwitchRun, Switch, SwitchLog, is_known, object_at, opened}

-- A slot whose object, there from the opening, is of no class of the script is posted answers alone.
abbrev pub UnknownIsOnlyAnswered : Type 0
UnknownIsOnlyAnswered = (script : Script) (named : List (Option Identity)) (log : SwitchLog) (s : Switch) → IsSwitchRun script (opened named) log s
    → (slot : ℕ) (object : Identity) → object_at (opened named) slot ≡ Some object → is_known script object ≡ false
    → AreAnswers (of_slot slot log.posts)

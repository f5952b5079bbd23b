-- What a run does with its script: it asks the depot for the text, and tells of it. This project's profile. A fact of what a text or an output
-- holds speaks of those that are told.
use Rattle.std.specs.Prelude.{◌≡◌, ◌≢◌, ◌++◌, ℕ, List, [], ◌∷◌, Option}
use Rattle.do_disk.specs.Asks.{for_text}
use Rattle.do_disk.specs.Disk.{IfTold, Rose}
use Rattle.host_core.specs.Opening.{Asks}
use Rattle.do_host.specs.Outside.{Given, Left, LeavesInputAndReport, Outside}
use Rattle.do_host.specs.ScriptLines.{IsCheckLine, IsRefusalLine, IsScriptLine}
use Rattle.do_host.specs.Status.{IsCheckStatus, IsEarlyStatus}
use Rattle.do_host.specs.Written.{WritesAll, WritesFirstOf}

-- a line of this kind that the text has was written, all of it, or its first bytes
abbrev pub TellsAll : Option (List ℕ) → (List ℕ → List ℕ → Type 0) → Option (List ℕ) → Option (List ℕ) → Type 0
TellsAll text IsLineOf before after = IfTold text (λ bytes. (line : List ℕ) × IsLineOf bytes line × WritesAll before after line)

abbrev pub TellsFirst : Option (List ℕ) → (List ℕ → List ℕ → Type 0) → Option (List ℕ) → Option (List ℕ) → Type 0
TellsFirst text IsLineOf before after = IfTold text (λ bytes. (line : List ℕ) × IsLineOf bytes line × WritesFirstOf before after line)

-- The depot is asked for the script alone, and was unless it failed or memory was wanting. A refusal is told whole, and where the sink failed the
-- first bytes of a line of this kind. Each fault has its cause: a count that rose.
pub record TellsOfScript {S R W : Type 0} (outside : Outside S R W) (script : List ℕ) (IsLineOf : List ℕ → List ℕ → Type 0)
    (given : Given S R W) (left : Left S R W) : Type 0 where
  pub asked : Asks given.depot.asked left.depot.asked (for_text script ∷ [])
  pub asked_whole : left.status ≢ 3 → left.status ≢ 4 → left.depot.asked ≡ given.depot.asked ++ for_text script ∷ []
  pub refused : left.status ≡ 2 → TellsAll (given.depot.texts script) IsRefusalLine (outside.sink.taken given.out) (outside.sink.taken left.out)
  pub in_part : left.status ≡ 6 → TellsFirst (given.depot.texts script) IsLineOf (outside.sink.taken given.out) (outside.sink.taken left.out)
  pub failed : left.status ≡ 3 → Rose given.depot.faults left.depot.faults
  pub write_failed : left.status ≡ 6 → Rose (outside.sink.faults_of given.out) (outside.sink.faults_of left.out)

-- `serve` ends before a slot is asked for: memory was wanting for the words, the script can't be read, or it is refused.
pub record EndsEarly {S R W : Type 0} (outside : Outside S R W) (script : List ℕ) (given : Given S R W) (left : Left S R W) : Type 0 where
  pub statuses : IsEarlyStatus left.status
  pub alone : LeavesInputAndReport given left
  pub tells : TellsOfScript outside script IsRefusalLine given left

-- `check` of the script at this path.
pub record CheckRun {S R W : Type 0} (outside : Outside S R W) (script : List ℕ) (given : Given S R W) (left : Left S R W) : Type 0 where
  pub statuses : IsCheckStatus left.status
  pub alone : LeavesInputAndReport given left
  pub accepted : left.status ≡ 0 → TellsAll (given.depot.texts script) IsScriptLine (outside.sink.taken given.out) (outside.sink.taken left.out)
  pub tells : TellsOfScript outside script IsCheckLine given left

-- What a run does: what holds at any end, and what holds of the command that its words ask for. This project's profile. A fact of what an input
-- or an output holds speaks of those that are told.
use Rattle.std.specs.Prelude.{◌≡◌, ◌⊎◌, ◌≤◌, ◌++◌, ◌∷◌, ℕ, List, [], IsSome, codes, ⊤}
use Rattle.do_disk.specs.Disk.{IfTold, Rose}
use Rattle.command_words.specs.Asked.{Asked, checks, dumps, gens, serves, usage}
use Rattle.host_core.specs.Reading.{Accepts}
use Rattle.line_server.specs.Cut.{line_end}
use Rattle.line_server.specs.Limits.{most_lines}
use Rattle.mailbox.specs.Seen.{seen_log}
use Rattle.do_host.specs.DumpRuns.{DumpRun}
use Rattle.do_host.specs.GenRuns.{GenRun}
use Rattle.do_host.specs.Outside.{Given, Left, LeavesInputAndReport, Outside}
use Rattle.do_host.specs.ScriptRuns.{CheckRun}
use Rattle.do_host.specs.ServeRuns.{ServeRun}
use Rattle.do_host.specs.Status.{IsSilentStatus, IsStatus}
use Rattle.do_host.specs.Written.{WritesAll, WritesFirstOf}

-- At any end: the status, and what wasn't done where no slot was mounted.
pub record AtAnyEnd {S R W : Type 0} (outside : Outside S R W) (given : Given S R W) (left : Left S R W) : Type 0 where
  pub statuses : IsStatus left.status
  pub line_limit : left.report.lines ≤ most_lines
  -- where no slot was mounted nothing was read, and but for the line of the status nothing written
  pub unread : left.report.slots.items ≡ []
      → (left.input ≡ given.input) × (left.report.switch ≡ given.report.switch) × (left.report.lines ≡ 0)
  pub silent : left.report.slots.items ≡ [] → IsSilentStatus left.status → outside.sink.taken left.out ≡ outside.sink.taken given.out

-- The disk of a bad slot is kept; and the lines that were read, looked at and accepted, from what the source had left before and what it has after.
pub record TakesInput {S R W : Type 0} (outside : Outside S R W) (given : Given S R W) (left : Left S R W) : Type 0 where
  pub bad_slot_kept : left.status ≡ 7 → IsSome left.report.unopened
  pub accepted : IfTold (outside.source.left given.input)
      (λ whole. Accepts whole (outside.source.left left.input) (seen_log left.report.switch).accepted left.report.lines)

-- a fact of each command but `gen`, which serves lines of its own
abbrev pub IfNotMade : Asked → Type 0 → Type 0
IfNotMade (gens seed count folder) P = ⊤
IfNotMade other P = P

-- `["usage"]` with an LF: the line of words that are no command
abbrev pub usage_line : List ℕ
usage_line = codes "[\"usage\"]" ++ line_end ∷ []

-- Words that are no command: the usage is told, or memory was wanting for them; and nothing is asked for.
pub record UsageRun {S R W : Type 0} (outside : Outside S R W) (given : Given S R W) (left : Left S R W) : Type 0 where
  pub statuses : (left.status ≡ 1) ⊎ (left.status ≡ 6) ⊎ (left.status ≡ 4)
  pub alone : LeavesInputAndReport given left
  pub asked : left.depot.asked ≡ given.depot.asked
  pub written : WritesFirstOf (outside.sink.taken given.out) (outside.sink.taken left.out) usage_line
  pub whole : left.status ≡ 1 → WritesAll (outside.sink.taken given.out) (outside.sink.taken left.out) usage_line
  pub silent : left.status ≡ 4 → outside.sink.taken left.out ≡ outside.sink.taken given.out
  pub write_failed : left.status ≡ 6 → Rose (outside.sink.faults_of given.out) (outside.sink.faults_of left.out)

-- what a run does whose words ask for this
abbrev pub RunsAs : {S R W : Type 0} → Asked → Outside S R W → Given S R W → Left S R W → Type 0
RunsAs (serves script folder slots workers journal) outside given left =
    ServeRun outside (record { script = script; folder = folder; slots = slots; journal = journal }) given left
RunsAs (checks script) outside given left = CheckRun outside script given left
RunsAs (dumps folder slots) outside given left = DumpRun outside folder slots given left
RunsAs (gens seed count folder) outside given left = GenRun outside seed count folder given left
RunsAs usage outside given left = UsageRun outside given left

-- A run whose words ask for this: what holds at any end; that status 1 comes for words alone that are no command; and what it does as that command.
pub record Runs {S R W : Type 0} (command : Asked) (outside : Outside S R W) (given : Given S R W) (left : Left S R W) : Type 0 where
  pub any : AtAnyEnd outside given left
  pub input : IfNotMade command (TakesInput outside given left)
  pub status_one : left.status ≡ 1 → command ≡ usage
  pub as_asked : RunsAs command outside given left

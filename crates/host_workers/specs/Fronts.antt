-- What the cell of a front has taken and said.
use Rattle.std.specs.Prelude.{◌≡◌, ◌≤◌, ℕ, ℤ, false, List, [], ◌∷◌, ◌++◌, length, Option}
use Rattle.do_tree.specs.Checked.{tree_of}
use Rattle.do_tree.specs.Tree.{Script}
use Rattle.timeline.specs.Intake.{Taken, delivered, noticed, wanted, opened}
use Rattle.timeline.specs.Logs.{fronted}
use Rattle.timeline.specs.declared.entry.Entry.{Entry}
use Rattle.timeline.specs.declared.event.Event.{Event}
use Rattle.timeline.specs.declared.notice.Notice.{Notice}
use Rattle.object_front.specs.Came.{HasGot}
use Rattle.object_front.specs.Classed.{IsClassed}
use Rattle.object_front.specs.Evaluated.{seen}
use Rattle.front_half.specs.Standing.{Stood, IsClass, IsCutShort, IsHalf, IsTakenBy, is_stopped, kind_in}
use Rattle.object_front.specs.declared.evaluated.Evaluated.{Evaluated}
use Rattle.front_half.specs.declared.half.Half.{Half}
use Rattle.object_core.specs.Apart.{FrontRuns}
use Rattle.object_core.specs.Fitting.{IsFitIntake}
use Rattle.host_workers.specs.declared.front_cell.FrontCell.{FrontCell}

-- The notices that were taken.
abbrev pub notices_in : List Taken → List Notice
notices_in [] = []
notices_in (noticed n ∷ taken) = n ∷ notices_in taken
notices_in (delivered e ∷ taken) = notices_in taken
notices_in (wanted e ∷ taken) = notices_in taken

-- A front has taken these through the input gate: an event is delivered to an idle object alone, so that none stands while the storage is
-- waited for, or an end or a mounting, and each was eligible, and one that a front of its class takes. All that it has logged follows from
-- it; where memory was wanting, some of what the last item says wasn't sent. The notices that it got are those that it took, but for the
-- last, at which it stands still or is stopped.
pub record HasTaken (script : Script) (first : Option ℕ) (alarm : Option (ℤ × ℕ)) (class : ℕ) (half : Half Evaluated) (st : Stood)
    (got : List Notice) : Type 0 where
  pub taken : List Taken
  pub cut : IsCutShort (kind_in script class) (opened alarm) taken (fronted half.log)
  pub by : is_stopped half ≡ false → IsTakenBy (kind_in script class) (opened alarm) taken st.front (fronted half.log)
  pub fit : IsFitIntake script first taken
  pub missed : List Notice
  pub few : length missed ≤ 1
  pub none_missed : is_stopped half ≡ false → st.stuck ≡ false → missed ≡ []
  pub notices : got ≡ notices_in taken ++ missed

-- A front that was made with this class and this alarm. What it has logged as sent is what was sent on its end of the line. Each event that
-- its inbox gave was delivered, answered by `Down` or dropped, or is kept, but for at most one; and each notice that its end gave was taken. It has
-- come there by its turns.
pub record IsFrontOver (script : Script) (first : Option ℕ) (alarm : Option (ℤ × ℕ)) (half : Half Evaluated) (inbox : List Event)
    (notices : List Notice) (line : List Entry) : Type 0 where
  pub st : Stood
  pub stands : is_stopped half ≡ false → IsHalf seen script half st
  pub has_taken : (class : ℕ) → IsClass st.class class → HasTaken script first alarm class half st notices
  pub classed : IsClassed script first half st
  pub has_got : HasGot half st inbox
  pub sent : half.log.sent.items ≡ line
  pub runs : FrontRuns script first alarm half st inbox notices line

-- The script that a cell runs.
abbrev pub script_of : {T : Type 0} → FrontCell T → Script
script_of cell = tree_of cell.checked.now

-- So is the front of a cell, over what went through the cell's own ends.
abbrev pub IsFrontCell : {T : Type 0} → Option ℕ → Option (ℤ × ℕ) → FrontCell T → Type 0
IsFrontCell first alarm cell = IsFrontOver (script_of cell) first alarm cell.front.half cell.inbox.got cell.notices.got cell.line.sent

abbrev pub KeepsFrontCell : {T : Type 0} → (old new : FrontCell T) → Type 0
KeepsFrontCell old new = (first : Option ℕ) (alarm : Option (ℤ × ℕ)) → IsFrontCell first alarm old → IsFrontCell first alarm new

-- The ends are those of the same lanes, and the script is the same.
pub record SameLanes {T : Type 0} (old new : FrontCell T) : Type 0 where
  pub inbox : (new.inbox.lane ≡ old.inbox.lane) × (new.inbox.told ≡ old.inbox.told)
  pub notices : (new.notices.lane ≡ old.notices.lane) × (new.notices.told ≡ old.notices.told)
  pub line : new.line.lane ≡ old.line.lane
  pub script : script_of new ≡ script_of old

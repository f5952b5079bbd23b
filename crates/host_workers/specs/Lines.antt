-- What the cell of the lines has read and sent.
use Rattle.std.specs.Prelude.{◌≡◌, ◌≤◌, ℕ, true, false, List, [], ◌∷◌, ◌++◌, length, map, min, Option, Some, None, Result, Ok, Err, OnOk, OnErr}
use Rattle.std.specs.List.{AllByRecursion}
use Rattle.do_disk.specs.Disk.{Rose}
use Rattle.line_server.specs.Cut.{lines as all_lines}
use Rattle.line_server.specs.Limits.{most_lines}
use Rattle.line_server.specs.Lines.{IsReading, IsFirstOf, LooksAt, IsAllRead, count_of, fault_of, source_of}
use Rattle.line_server.specs.Requests.{SeenLine, requests, through}
use Rattle.line_server.specs.Seen.{seen}
use Rattle.line_server.specs.declared.fault.LineFault.{LineFault}
use Rattle.line_server.specs.declared.fault.LineFault.TheVariants.{ReadFailed, NoMemory}
use Rattle.line_server.specs.declared.line.Line.{Line}
use Rattle.line_server.specs.declared.lines.Lines.{Lines}
use Rattle.timeline.specs.declared.notice.Stepped.{Stepped}
use Rattle.timeline.specs.declared.notice.Stepped.TheVariants.{Did}
use Rattle.timeline.specs.Lines as timeline
use Rattle.mailbox.specs.Seen.{seen_line}
use Rattle.switch_history.specs.Answering.{AreInOrder}
use Rattle.host_workers.specs.declared.lines_cell.LinesCell.{LinesCell}

-- Each line's number is at most this.
abbrev pub AreUpTo : ℕ → List timeline.Line → Type 0
AreUpTo most lines = AllByRecursion (λ (l : timeline.Line). l.number ≤ most) lines

-- How many lines a reader that stands at this fault may have looked at and not given: one where memory was wanting.
abbrev pub most_at : Option LineFault → ℕ
most_at None = 0
most_at (Some ReadFailed) = 0
most_at (Some NoMemory) = 1

module _ {R T : Type 0} where
  -- The lines that went on the cell's lane, as contracts compare lines.
  abbrev pub sent_of : LinesCell R T → List SeenLine
  sent_of cell = map seen cell.send.sent

-- Of the whole input the reader gave the lines that were sent, in order, and no others; but for the last, where memory didn't suffice
-- to send it, after which nothing is read. It reads on from there; or stands at a fault, where the lines given are all that it looked at,
-- but for one where memory was wanting.
pub record IsLinesCell {R T : Type 0} (left : R → Option (List ℕ)) (whole : List ℕ) (cell : LinesCell R T) : Type 0 where
  pub lost : List SeenLine
  pub few : length lost ≤ 1
  pub none_lost : cell.stopped ≡ false → lost ≡ []
  pub goes : fault_of cell.lines ≡ None → IsReading left whole (sent_of cell ++ lost) cell.lines
  pub first : IsFirstOf left whole (sent_of cell ++ lost) cell.lines
  pub looked : LooksAt left whole (sent_of cell ++ lost) (most_at (fault_of cell.lines)) cell.lines
  pub exact : fault_of cell.lines ≡ Some ReadFailed → IsAllRead left whole (sent_of cell ++ lost) cell.lines

-- The lines that were sent stand in the order of their numbers, and none has one above the number of those that were read.
pub record IsNumbered {R T : Type 0} (cell : LinesCell R T) : Type 0 where
  pub order : AreInOrder (map seen_line cell.send.sent)
  pub below : AreUpTo (count_of cell.lines) (map seen_line cell.send.sent)

-- All lines of the input were sent, or through the last that counts.
pub record HasRead {R T : Type 0} (whole : List ℕ) (cell : LinesCell R T) : Type 0 where
  pub all : sent_of cell ≡ through most_lines (requests whole)
  pub counted : count_of cell.lines ≡ min most_lines (length (all_lines whole))

-- A line that was read went on the lane; or memory didn't suffice, and it is lost.
pub record PassesOn {R T : Type 0} (old new : LinesCell R T) (line : Line) (result : Result Stepped LineFault) : Type 0 where
  pub lines : new.lines ≡ old.lines
  pub lane : new.send.lane ≡ old.send.lane
  pub sent : OnOk result ((result ≡ Ok Did) × (new.send.sent ≡ old.send.sent ++ line ∷ []) × (new.stopped ≡ false))
  pub lost : OnErr result ((result ≡ Err NoMemory) × (new.send ≡ old.send) × (new.stopped ≡ true))

-- The source's count of faults is what it was as long as the reader stands at no fault, never falls, and rose where a read failed.
pub record HasCounted {R : Type 0} (faults : R → ℕ) (from : ℕ) (lines : Lines R) : Type 0 where
  pub steady : fault_of lines ≡ None → faults (source_of lines) ≡ from
  pub later : from ≤ faults (source_of lines)
  pub rose : fault_of lines ≡ Some ReadFailed → Rose from (faults (source_of lines))

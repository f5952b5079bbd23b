-- Lines stand in the order of their numbers; so do those that the cell of the lines has sent.
use Rattle.std.proofs.Common.{◌≡◌, ◌∙◌, ◌<◌, ◌≤◌, ap, sym, subst, arith, ℕ, List, [], ◌∷◌, ◌++◌, map}
use Rattle.std.proofs.lemmas.List.{map-append}
use Rattle.std.specs.List.{AllByRecursion}
use Rattle.std.specs.Prelude.{Result, Ok, Err}
use Rattle.lane.specs.Lanes.{Sending}
use Rattle.line_server.specs.Lines.{count_of}
use Rattle.line_server.specs.declared.fault.LineFault.{LineFault}
use Rattle.line_server.specs.declared.line.Line as read
use Rattle.line_server.specs.declared.lines.Lines.{Lines}
use Rattle.mailbox.specs.Seen.{seen_line}
use Rattle.switch_history.specs.Answering.{AreInOrder}
use Rattle.timeline.specs.Lines.{Line}
use Rattle.timeline.specs.declared.notice.Stepped.{Stepped}
use Rattle.host_workers.specs.Lines.{AreUpTo, IsNumbered, PassesOn}
use Rattle.host_workers.specs.declared.lines_cell.LinesCell.{LinesCell}

-- ---- there is none
-- no lines stand in order
pub none_in_order : (lines : List Line) → lines ≡ [] → AreInOrder lines
none_in_order lines none = subst AreInOrder (sym none) tt

-- none of no lines has too high a number
pub none_up_to : (most : ℕ) (lines : List Line) → lines ≡ [] → AreUpTo most lines
none_up_to most lines none = subst (AreUpTo most) (sym none) tt

-- ---- there is one more
-- the numbers are up to that of a further line
further_up_to : (most more : ℕ) (lines : List Line) (l : Line) → AreUpTo most lines → most < more → l.number ≡ more → AreUpTo more (lines ++ l ∷ [])
further_up_to most more [] l all less is = (omega (arith, is), tt)
further_up_to most more (m ∷ lines) l all less is = (omega (arith, all.0, less), further_up_to most more lines l all.1 less is)

-- a further line is above this number, as the others are
above_others : (number most : ℕ) (lines : List Line) (l : Line) → AllByRecursion (λ (m : Line). number < m.number) lines → number < l.number
    → AllByRecursion (λ (m : Line). number < m.number) (lines ++ l ∷ [])
above_others number most [] l all less = (less, tt)
above_others number most (m ∷ lines) l all less = (all.0, above_others number most lines l all.1 less)

-- a line above all numbers stands in order behind their lines
more_in_order : (most : ℕ) (lines : List Line) (l : Line) → AreInOrder lines → AreUpTo most lines → most < l.number → AreInOrder (lines ++ l ∷ [])
more_in_order most [] l order all less = (tt, tt)
more_in_order most (m ∷ lines) l order all less =
    (above_others m.number most lines l order.0 (omega (arith, all.0, less)), more_in_order most lines l order.1 all.1 less)

-- with the next line that was read the lines stand in order
pub next_in_order : (before : ℕ) (old new : List Line) (line : read.Line) → new ≡ old ++ seen_line line ∷ [] → (after : ℕ) → line.number ≡ after → before < after
    → AreInOrder old → AreUpTo before old → AreInOrder new
next_in_order before old new line more after number further order below =
    subst AreInOrder (sym more) (more_in_order before old (seen_line line) order below (omega (arith, number, further)))

-- with the next line that was read the numbers are up to its own
pub next_up_to : (before after : ℕ) (old new : List Line) (line : read.Line) → new ≡ old ++ seen_line line ∷ [] → line.number ≡ after → before < after
    → AreUpTo before old → AreUpTo after new
next_up_to before after old new line more number further below =
    subst (AreUpTo after) (sym more) (further_up_to before after old (seen_line line) below further number)

-- numbers up to one are up to a higher one
pub still_up_to : (most more : ℕ) (lines : List Line) → AreUpTo most lines → most ≤ more → AreUpTo more lines
still_up_to most more [] all less = tt
still_up_to most more (m ∷ lines) all less = (omega (arith, all.0, less), still_up_to most more lines all.1 less)

-- ---- the cell of the lines
module _ {R T : Type 0} where
  -- a cell that sent nothing is numbered
  pub numbered_first : (cell : LinesCell R T) → cell.send.sent ≡ [] → IsNumbered cell
  numbered_first cell none = record {
    order = none_in_order (map seen_line cell.send.sent) (ap (λ (ls : List read.Line). map seen_line ls) none);
    below = none_up_to (count_of cell.lines) (map seen_line cell.send.sent) (ap (λ (ls : List read.Line). map seen_line ls) none);
  }

  -- a cell that sent nothing more is numbered still
  pub numbered_still : (old new : LinesCell R T) → new.send ≡ old.send → count_of old.lines ≤ count_of new.lines → IsNumbered old → IsNumbered new
  numbered_still old new same later is = record {
    order = subst (λ (s : Sending read.Line). AreInOrder (map seen_line s.sent)) (sym same) is.order;
    below = subst (λ (s : Sending read.Line). AreUpTo (count_of new.lines) (map seen_line s.sent)) (sym same)
        (still_up_to (count_of old.lines) (count_of new.lines) (map seen_line old.send.sent) is.below later);
  }

  -- a cell is numbered after one line more was read: it was sent, or is lost
  pub numbered_on : (old : LinesCell R T) (lines : Lines R) (line : read.Line) (new : LinesCell R T) (result : Result Stepped LineFault)
      → line.number ≡ count_of lines → count_of old.lines < count_of lines
      → PassesOn (record { lines = lines; send = old.send; stopped = old.stopped }) new line result → IsNumbered old → IsNumbered new
  numbered_on old lines line new (Ok did) number further by is =
      let more : map seen_line new.send.sent ≡ map seen_line old.send.sent ++ seen_line line ∷ [] =
      ap (λ (ls : List read.Line). map seen_line ls) by.sent.1 ∙ map-append seen_line old.send.sent (line ∷ []) in
      record {
        order = next_in_order (count_of old.lines) (map seen_line old.send.sent) (map seen_line new.send.sent) line more (count_of lines) number further is.order is.below;
        below = subst (λ (ls : Lines R). AreUpTo (count_of ls) (map seen_line new.send.sent)) (sym by.lines)
            (next_up_to (count_of old.lines) (count_of lines) (map seen_line old.send.sent) (map seen_line new.send.sent) line more number further is.below);
      }
  numbered_on old lines line new (Err fault) number further by is =
      numbered_still old new by.lost.1
      (subst (λ (ls : Lines R). count_of old.lines ≤ count_of ls) (sym by.lines) (omega (arith, further))) is

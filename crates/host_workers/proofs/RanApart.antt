-- The halves of two cells ran apart.
use Rattle.std.proofs.Common.{sym, subst, ℕ, ℤ, List, Option}
use Rattle.do_tree.specs.Tree.{Script}
use Rattle.lane.specs.Lanes.{Both}
use Rattle.timeline.specs.declared.entry.Entry.{Entry}
use Rattle.timeline.specs.declared.event.Event.{Event}
use Rattle.timeline.specs.declared.message.Message.{Message as Sent}
use Rattle.timeline.specs.declared.notice.Notice.{Notice}
use Rattle.object_front.specs.declared.evaluated.Evaluated.{Evaluated}
use Rattle.front_half.specs.declared.half.Half.{Half}
use Rattle.object_core.specs.Alone.{AreApart, IsFrontAlone}
use Rattle.object_core.specs.One.{Origin, class_in}
use Rattle.host_workers.specs.Apart.{AreEnded}
use Rattle.host_workers.specs.Fronts.{IsFrontOver, script_of}
use Rattle.host_workers.specs.declared.back_cell.BackCell.{BackCell}
use Rattle.host_workers.specs.declared.front_cell.FrontCell.{FrontCell}

-- What is known of the front of a cell where it ran alone.
pub front_alone : (script : Script) (first : Option ℕ) (alarm : Option (ℤ × ℕ)) (half : Half Evaluated) (inbox : List Event) (notices : List Notice) (line : List Entry)
    → IsFrontOver script first alarm half inbox notices line → IsFrontAlone script first alarm half inbox notices line
front_alone script first alarm half inbox notices line one = record {
  st = one.st;
  stands = one.stands;
  has_taken = λ on class is. let t = one.has_taken class is in (t.taken, t.by on, t.fit);
  classed = one.classed;
  has_got = one.has_got;
  sent = one.sent;
  runs = one.runs;
}

-- So are the halves of two cells.
pub cells_apart : {D T : Type 0} (moment_of : D → ℕ) (left_since : D → ℕ → List ℕ → Type 0) (told : D → Option (List ℕ)) (image : D → List ℕ → Type 0) (faults_of : D → ℕ)
    (origin : Origin) (alarm : Option (ℤ × ℕ)) (front : FrontCell T) (back : BackCell D T) (inbox : Both Event) (line : Both Entry) (notices : Both Notice) (out : Both Sent)
    → AreEnded moment_of left_since told image faults_of origin alarm front back inbox line notices out
    → AreApart moment_of left_since told image faults_of (script_of front) origin front.front.half inbox back.back line notices out
cells_apart moment_of left_since told image faults_of origin alarm front back inbox line notices out are = record {
  sent = front.line.sent;
  took = back.line.got;
  noticed = back.notices.sent;
  heard = front.notices.got;
  gone = back.out.sent;
  alarm = alarm;
  front_alone =
      subst (λ (got : List Event). IsFrontAlone (script_of front) (class_in (script_of front) origin.object) alarm front.front.half got front.notices.got front.line.sent)
      (sym are.inbox_got)
      (front_alone (script_of front) (class_in (script_of front) origin.object) alarm front.front.half front.inbox.got front.notices.got front.line.sent
      are.is_front);
  back_alone = are.is_back;
  is_line = are.line_rest;
  is_told = are.notices_rest;
  is_gone = are.out_rest;
}

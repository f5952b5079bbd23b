use Rattle.std.proofs.Common.{◌∙◌, sym, ap, length}
use Rattle.host_workers.proofs.board.Board.new.Goals as goal

pub invariant_of-result : goal.invariant_of-result
invariant_of-result g c = record {
  counted = c.requires.book ∙ sym c.requires.full;
  many = ap length c.as_slice.ensures.value ∙ c.requires.cells.each_front;
  some = c.requires.workers;
  named = c.requires.cells;
}

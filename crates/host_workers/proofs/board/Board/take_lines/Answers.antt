use Rattle.std.proofs.Common.{◌∙◌, sym}
use Rattle.host_workers.proofs.board.Board.take_lines.Goals as goal

pub returns-clause-cell : goal.returns-clause-cell
returns-clause-cell g c = c.self.invariant.named.lines c.in-Some.cell (sym c.take.ensures.value ∙ c.in-Some.is)

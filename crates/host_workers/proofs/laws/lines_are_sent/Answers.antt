use denote.Param.{param}
use Rattle.host_workers.specs.contracts.lines_cell.LinesCell as LinesCell
use Rattle.host_workers.proofs.Sent.{as_argument}
use Rattle.host_workers.proofs.SentLines.{lines_cell_send}
use Rattle.host_workers.proofs.laws.lines_are_sent.Goals as goal

pub is_sent-requires-send-X : goal.is_sent-requires-send-X
is_sent-requires-send-X g c κs within =
    let R = param 0 g.row.R in
    let T = param 1 g.row.T in
    let cell = as_argument (LinesCell.the_row R T) (lines_cell_send R T c.type_bounds.send-R c.type_bounds.send-T) in
    record { owned = cell.owned; leaving = cell.leaving }

use denote.Param.{param}
use Rattle.host_workers.specs.contracts.back_cell.BackCell as BackCell
use Rattle.host_workers.proofs.Sent.{as_argument}
use Rattle.host_workers.proofs.SentBack.{back_cell_send}
use Rattle.host_workers.proofs.laws.back_is_sent.Goals as goal

pub is_sent-requires-send-X : goal.is_sent-requires-send-X
is_sent-requires-send-X g c κs within =
    let D = param 0 g.row.D in
    let T = param 1 g.row.T in
    let cell = as_argument (BackCell.the_row D T) (back_cell_send D T c.type_bounds.send-D c.type_bounds.send-T) in
    record { owned = cell.owned; leaving = cell.leaving }

use mir.Syntax.{named}
use denote.Ref.{NamedLft}
use denote.Param.{param}
use Rattle.host_workers.specs.contracts.front_cell.FrontCell as FrontCell
use Rattle.host_workers.proofs.Sent.{as_argument}
use Rattle.host_workers.proofs.SentFront.{front_cell_send}
use Rattle.host_workers.proofs.laws.front_is_sent.Goals as goal

pub is_sent-requires-send-X : goal.is_sent-requires-send-X
is_sent-requires-send-X g c κs within =
    let lent : NamedLft = record { mir = named 1; lft = κs.1.0 } in
    let T = param 0 g.row.T in
    let cell = as_argument (FrontCell.the_row lent T) (front_cell_send lent T c.type_bounds.send-T) in
    record { owned = cell.owned; leaving = cell.leaving }

use mir.Syntax.{named}
use denote.Ref.{NamedLft}
use denote.Param.{param}
use Rattle.host_workers.specs.contracts.switch_cell.SwitchCell as SwitchCell
use Rattle.host_workers.proofs.Sent.{as_argument}
use Rattle.host_workers.proofs.SentSwitch.{switch_cell_send}
use Rattle.host_workers.proofs.laws.switch_is_sent.Goals as goal

pub is_sent-requires-send-X : goal.is_sent-requires-send-X
is_sent-requires-send-X g c κs within =
    let lent : NamedLft = record { mir = named 1; lft = κs.1.0 } in
    let W = param 0 g.row.W in
    let T = param 1 g.row.T in
    let cell = as_argument (SwitchCell.the_row lent W T) (switch_cell_send lent W T c.type_bounds.send-W c.type_bounds.send-T) in
    record { owned = cell.owned; leaving = cell.leaving }

use mir.Syntax.{named, ty_unit}
use denote.Exit.{no}
use denote.Ref.{NamedLft}
use denote.Param.{param, arg}
use denote.Param.Send.{param_sync, arg_sync}
use Rattle.host_workers.specs.contracts.shared.Shared as Shared
use Rattle.host_workers.proofs.SentBoard.{shared_sync}
use Rattle.host_workers.proofs.laws.board_is_shared.Goals as goal

pub is_shared-requires-sync-X : goal.is_shared-requires-sync-X
is_shared-requires-sync-X g c κs within =
    let lent : NamedLft = record { mir = named 1; lft = κs.1.0 } in
    let L = param 0 g.row.L in
    let D = param 1 g.row.D in
    let R = param 2 g.row.R in
    let W = param 3 g.row.W in
    let T = param 4 g.row.T in
    let t = c.type_bounds in
    let row = Shared.the_row lent L D R W T g.L.Names g.L.Ledger g.D.Disk g.R.Source g.W.Sink in
    let all = param_sync 0 (arg ty_unit no row) (arg_sync ty_unit no row (shared_sync lent L D R W T g.L.Names g.L.Ledger g.D.Disk g.R.Source g.W.Sink t.send-D t.send-R t.send-W t.send-T)) in
    record { shared = all.shared }

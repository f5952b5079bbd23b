use mir.Syntax.{named}
use denote.Exit.{no}
use denote.Param.{param, copied}
use denote.Param.Send.{IsSend, IsSync, arg_send, param_send, shr_send}
use Rattle.std.proofs.Common.{rules}
use Rattle.std.proofs.alloc.Global.TheSendSync as heap
use Rattle.core.proofs.ledger.Sent.{share_send}
use Rattle.host_workers.proofs.SentBoard.{shared_sync}
use Rattle.worker_pool.proofs.Sending.{closure_send, name, number_send}
use Rattle.worker_pool.proofs.team.+team.Goals as goal

-- what the first worker's closure holds: the handle, the heap, the board, the gate, two numbers and a share
pub join-ours-requires-send-F : goal.join-ours-requires-send-F
join-ours-requires-send-F g t c κs within =
    let disk : IsSend (param 1 g.row.D) = search rules parts 8 in
    let source : IsSend (param 2 g.row.R) = search rules parts 8 in
    let sink : IsSend (param 3 g.row.W) = search rules parts 8 in
    let handle : IsSend (copied 4 g.row.T) = search rules parts 8 in
    let looks : IsSync (copied 4 g.row.T) = search rules parts 8 in
    let gate : IsSync (param 5 g.row.G) = search rules parts 8 in
    let board = shared_sync _ (param 0 g.row.L) (param 1 g.row.D) (param 2 g.row.R) (param 3 g.row.W) (copied 4 g.row.T)
    g.L.Names g.L.Ledger g.D.Disk g.R.Source g.W.Sink disk source sink handle in
    param_send 1 _ (arg_send _ no _ (closure_send name _ _ _ _ _ _ _
    (shr_send (named 6) _ (copied 4 g.row.T) looks)
    heap.the_send
    (shr_send (named 7) _ _ board)
    (shr_send (named 9) _ (param 5 g.row.G) gate)
    number_send
    number_send
    (share_send (param 0 g.row.L) g.L.Ledger)))

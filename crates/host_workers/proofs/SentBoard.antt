-- A board may go to another thread where its disks, its source, its sink and its handle may, and so workers may share it.
use denote.Ref.{NamedLft}
use denote.RattleType.{RattleType}
use denote.Param.Send.{IsSend, IsSync, plain_send, plain_sync, sendable, view_send}
use denote.Param.SendFields.{as_row_send, as_row_sync, declared_send, declared_sync}
use Rattle.core.proofs.ledger.Sent.{book_send}
use Rattle.core.proofs.sync.Sent.{Mutex-sync}
use Rattle.core.specs.declared.ledger.Ledger as ledger
use Rattle.std.proofs.Crossing.{crosses}
use Rattle.do_disk.specs.declared.disk.Disk as disk
use Rattle.do_disk.specs.declared.stream.Sink as sink
use Rattle.do_disk.specs.declared.stream.Source as source
use Rattle.host_workers.specs.declared.names.Names as names
use Rattle.core.specs.contracts.option.Option as Option
use Rattle.host_workers.specs.contracts.board.Board as Board
use Rattle.host_workers.specs.contracts.cells.Cells as Cells
use Rattle.host_workers.specs.contracts.shared.Shared as Shared
use Rattle.host_workers.proofs.SentFront.{front_cell_send}
use Rattle.host_workers.proofs.SentBack.{back_cell_send}
use Rattle.host_workers.proofs.SentSwitch.{switch_cell_send}
use Rattle.host_workers.proofs.SentLines.{lines_cell_send}

ruleset parts = (tt, sendable, crosses, as_row_send, plain_send)

ruleset looks = (tt, sendable, crosses, as_row_sync, plain_sync)

-- a place may go where its cell may
place_send : (X : RattleType) → IsSend X → IsSend (Option.the_row X)
place_send X x = search sendable depth 12 fits 4000

pub cells_send : (s : NamedLft) (D R W T : RattleType) → IsSend D → IsSend R → IsSend W → IsSend T → IsSend (Cells.the_row s D R W T)
cells_send s D R W T d r w t = declared_send (Cells.the_type s D R W T) (
  search (parts, place_send _ (front_cell_send s T t)) depth 20 fits 4000,
  (
    search (parts, place_send _ (back_cell_send D T d t)) depth 20 fits 4000,
    (
      search (parts, switch_cell_send s W T w t) depth 20 fits 4000,
      (
        search (parts, lines_cell_send R T r t) depth 20 fits 4000,
        tt,
      ),
    ),
  ),
)

module _ (s : NamedLft) (L D R W T : RattleType) (n : names.Ghosts L.Denot) (l : ledger.Ghosts L.Denot) (d : disk.Ghosts D.Denot) (r : source.Ghosts R.Denot)
    (w : sink.Ghosts W.Denot) (sent_disk : IsSend D) (sent_source : IsSend R) (sent_sink : IsSend W) (sent_handle : IsSend T) where
  inside_send : IsSend (Board.TheInside.the_row s L D R W T n l d r w)
  inside_send = declared_send (Board.TheInside.the_type s L D R W T n l d r w) (
    search (parts, cells_send s D R W T sent_disk sent_source sent_sink sent_handle) depth 20 fits 4000,
    (
      search parts depth 20 fits 4000,
      (
        search parts depth 20 fits 4000,
        (
          search parts depth 20 fits 4000,
          (
            search parts depth 20 fits 4000,
            (
              search parts depth 20 fits 4000,
              (
                search parts depth 20 fits 4000,
                (
                  search parts depth 20 fits 4000,
                  (
                    search parts depth 20 fits 4000,
                    (
                      search (parts, book_send) depth 20 fits 4000,
                      tt,
                    ),
                  ),
                ),
              ),
            ),
          ),
        ),
      ),
    ),
  )

  board_send : IsSend (Board.the_row s L D R W T n l d r w)
  board_send = view_send (Board.TheInside.the_row s L D R W T n l d r w) _ _ _ _ inside_send

  -- workers may share a board
  pub shared_sync : IsSync (Shared.the_row s L D R W T n l d r w)
  shared_sync = declared_sync (Shared.the_type s L D R W T n l d r w) (
    search (looks, Mutex-sync (Board.the_row s L D R W T n l d r w) board_send) depth 20 fits 4000,
    (
      search looks depth 20 fits 4000,
      tt,
    ),
  )

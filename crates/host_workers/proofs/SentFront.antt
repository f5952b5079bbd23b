-- A front's cell may go to another thread where its handle may.
use denote.Ref.{NamedLft}
use denote.RattleType.{RattleType}
use denote.Param.Send.{IsSend, plain_send, sendable}
use denote.Param.SendFields.{as_row_send, declared_send}
use Rattle.timeline.proofs.Sent.{event_send, entry_send, notice_send}
use Rattle.object_front.proofs.SentFront.{front_send}
use Rattle.host_workers.specs.contracts.front_cell.FrontCell as FrontCell
use Rattle.host_workers.proofs.Sent.{boxed_sent, sends_sent, takes_sent}
use Rattle.host_workers.proofs.SentTree.{checked_sync}

ruleset parts = (tt, sendable, as_row_send, plain_send)

pub front_cell_send : (s : NamedLft) (T : RattleType) → IsSend T → IsSend (FrontCell.the_row s T)
front_cell_send s T t = declared_send (FrontCell.the_type s T) (
  boxed_sent _ front_send,
  (
    search (parts, checked_sync) depth 20 fits 4000,
    (
      takes_sent _ T event_send t,
      (
        takes_sent _ T notice_send t,
        (
          sends_sent _ T entry_send t,
          tt,
        ),
      ),
    ),
  ),
)

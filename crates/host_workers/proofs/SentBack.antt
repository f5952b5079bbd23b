-- A back's cell may go to another thread where its disk and its handle may.
use denote.RattleType.{RattleType}
use denote.Param.Send.{IsSend}
use denote.Param.SendFields.{declared_send}
use Rattle.timeline.proofs.Sent.{entry_send, notice_send, message_send}
use Rattle.output_gate.proofs.Sent.{back_send}
use Rattle.host_workers.specs.contracts.back_cell.BackCell as BackCell
use Rattle.host_workers.proofs.Sent.{boxed_sent, sends_sent, takes_sent}

pub back_cell_send : (D T : RattleType) → IsSend D → IsSend T → IsSend (BackCell.the_row D T)
back_cell_send D T d t = declared_send (BackCell.the_type D T) (
  boxed_sent _ (back_send D d),
  (
    takes_sent _ T entry_send t,
    (
      sends_sent _ T notice_send t,
      (
        sends_sent _ T message_send t,
        tt,
      ),
    ),
  ),
)

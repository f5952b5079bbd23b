-- The switch's cell may go to another thread where its sink and its handle may.
use denote.Ref.{NamedLft}
use denote.RattleType.{RattleType}
use denote.Param.Send.{IsSend, plain_send, sendable}
use denote.Param.SendFields.{as_row_send, declared_send, variants_send}
use Rattle.std.proofs.Crossing.{crosses}
use Rattle.do_value.proofs.text.Text.TheSendSync as text
use Rattle.timeline.specs.contracts.event.Event as Event
use Rattle.timeline.specs.contracts.message.Message as Message
use Rattle.timeline.proofs.Sent.{event_send, message_send, failure_send}
use Rattle.line_server.specs.contracts.line.Line as Line
use Rattle.line_server.specs.contracts.out_line.OutLine as OutLine
use Rattle.line_server.proofs.out_line.Why.TheSendSync as why
use Rattle.line_server.proofs.out_line.WaitLine.TheSendSync as wait
use Rattle.mailbox.proofs.fault.SwitchFault.TheSendSync as fault
use Rattle.mailbox.proofs.state.State.TheSendSync as state
use Rattle.mailbox.specs.contracts.switch_log.SwitchLog as SwitchLog
use Rattle.mailbox.specs.contracts.switch.Switch as Switch
use Rattle.host_workers.specs.contracts.switch_cell.SwitchCell as SwitchCell
use Rattle.host_workers.proofs.Sent.{boxed_sent, sends_sent, takes_sent}
use Rattle.host_workers.proofs.SentLines.{value_send, line_send}
use Rattle.host_workers.proofs.SentTree.{checked_sync}

ruleset parts = (tt, sendable, crosses, as_row_send, plain_send)

-- ---- what is printed
out_line_send : IsSend OutLine.the_row
out_line_send = variants_send OutLine.enum (search (parts, value_send, failure_send, text.the_send, why.the_send, wait.the_send) depth 20 fits 4000)

-- ---- the switch
log_send : IsSend SwitchLog.the_row
log_send = declared_send SwitchLog.the_type (search (parts, line_send, message_send, event_send, out_line_send) depth 30 fits 8000)

switch_send : (W : RattleType) → IsSend W → IsSend (Switch.the_row W)
switch_send W w = declared_send (Switch.the_type W) (search (parts, w, state.the_send, log_send, fault.the_send) depth 20 fits 4000)

-- ---- the cell
pub switch_cell_send : (s : NamedLft) (W T : RattleType) → IsSend W → IsSend T → IsSend (SwitchCell.the_row s W T)
switch_cell_send s W T w t = declared_send (SwitchCell.the_type s W T) (
  boxed_sent _ (switch_send W w),
  (
    search (parts, message_send) depth 20 fits 4000,
    (
      search (parts, checked_sync) depth 20 fits 4000,
      (
        takes_sent Line.the_row T line_send t,
        (
          search (parts, takes_sent Message.the_row T message_send t) depth 20 fits 4000,
          (
            search (parts, sends_sent Event.the_row T event_send t) depth 20 fits 4000,
            tt,
          ),
        ),
      ),
    ),
  ),
)

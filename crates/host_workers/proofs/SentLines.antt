-- A line may go to another thread, and so may a cell of lines where its source and its handle may.
use denote.RattleType.{RattleType}
use denote.Param.Send.{IsSend, plain_send, sendable}
use denote.Param.SendFields.{as_row_send, declared_send, variants_send}
use Rattle.std.proofs.Crossing.{crosses}
use Rattle.do_value.specs.contracts.value.Value as Value
use Rattle.do_value.proofs.num.Num.TheSendSync as num
use Rattle.do_value.proofs.text.Text.TheSendSync as text
use Rattle.do_value.proofs.value.Fields.TheLaws.TheKnot as values
use Rattle.storage_map.proofs.identity.Identity.TheSendSync as identity
use Rattle.timeline.proofs.Sent.{args_send}
use Rattle.line_server.specs.contracts.request.Request as Request
use Rattle.line_server.specs.contracts.line.Line as Line
use Rattle.line_server.proofs.refusal.Refusal.TheSendSync as refusal
use Rattle.line_server.proofs.lines.Lines.TheSendSync as lines
use Rattle.host_workers.specs.contracts.lines_cell.LinesCell as LinesCell
use Rattle.host_workers.proofs.Sent.{boxed_sent, sends_sent}

ruleset parts = (tt, sendable, crosses, as_row_send, plain_send)

pub value_send : IsSend Value.the_row
value_send = search (sendable, crosses, values.crosses, num.the_send, num.the_sync, text.the_send, text.the_sync) depth 12 fits 4000

request_send : IsSend Request.the_row
request_send = variants_send Request.enum (search (parts, identity.the_send, text.the_send, args_send, value_send) depth 20 fits 4000)

pub line_send : IsSend Line.the_row
line_send = declared_send Line.the_type (search (parts, request_send, refusal.the_send) depth 20 fits 4000)

pub lines_cell_send : (R T : RattleType) → IsSend R → IsSend T → IsSend (LinesCell.the_row R T)
lines_cell_send R T r t = declared_send (LinesCell.the_type R T) (
  boxed_sent _ (lines.the_send R r),
  (
    sends_sent Line.the_row T line_send t,
    (
      search parts depth 20 fits 4000,
      tt,
    ),
  ),
)

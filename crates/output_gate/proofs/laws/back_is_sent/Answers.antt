use mir.Syntax.{ty_unit}
use denote.RattleType.{RattleType}
use denote.Exit.{no}
use denote.Param.{param, arg}
use denote.Param.Send.{IsSend, sendable, param_send, arg_send}
use Rattle.output_gate.specs.contracts.back.Back as Back
use Rattle.output_gate.proofs.Sent.{back_send}
use Rattle.output_gate.proofs.laws.back_is_sent.Goals as goal

-- A back as an argument is sent as a back is, however it is laid out.
as_argument : (R : RattleType) → IsSend R → IsSend (param 0 (arg ty_unit no R))
as_argument R sent = param_send 0 (arg ty_unit no R) (arg_send ty_unit no R sent)

pub is_sent-requires-send-T : goal.is_sent-requires-send-T
is_sent-requires-send-T g c κs within =
    let disk : IsSend (param 0 g.row.D) = search (sendable, c.type_bounds.send-D) in
    let back = as_argument (Back.the_row (param 0 g.row.D)) (back_send (param 0 g.row.D) disk) in
    record { owned = back.owned; leaving = back.leaving }

use mir.Syntax.{ty_unit}
use denote.RattleType.{RattleType}
use denote.Exit.{no}
use denote.Param.{param, arg}
use denote.Param.Send.{IsSend, param_send, arg_send}
use Rattle.object_front.specs.contracts.front.Front as Front
use Rattle.object_front.proofs.SentFront.{front_send}
use Rattle.object_front.proofs.laws.front_is_sent.Goals as goal

-- A front as an argument is sent as a front is, however it is laid out.
as_argument : (R : RattleType) → IsSend R → IsSend (param 0 (arg ty_unit no R))
as_argument R sent = param_send 0 (arg ty_unit no R) (arg_send ty_unit no R sent)

pub is_sent-requires-send-T : goal.is_sent-requires-send-T
is_sent-requires-send-T c κs =
    let front = as_argument Front.the_row front_send in
    record { owned = front.owned; leaving = front.leaving }

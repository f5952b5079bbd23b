use mir.Syntax.{ty_unit}
use denote.RattleType.{RattleType}
use denote.Exit.{no}
use denote.Param.{param, arg}
use denote.Param.Send.{IsSend, sendable, param_send, arg_send}
use Rattle.object_storage.specs.contracts.storage.Storage as Storage
use Rattle.object_storage.proofs.Sent.{storage_send}
use Rattle.object_storage.proofs.laws.storage_is_sent.Goals as goal

-- A storage as an argument is sent as a storage is, however it is laid out.
as_argument : (R : RattleType) → IsSend R → IsSend (param 0 (arg ty_unit no R))
as_argument R sent = param_send 0 (arg ty_unit no R) (arg_send ty_unit no R sent)

pub is_sent-requires-send-T : goal.is_sent-requires-send-T
is_sent-requires-send-T g c κs within =
    let disk : IsSend (param 0 g.row.D) = search (sendable, c.type_bounds.send-D) in
    let storage = as_argument (Storage.the_row (param 0 g.row.D)) (storage_send (param 0 g.row.D) disk) in
    record { owned = storage.owned; leaving = storage.leaving }

use mir.Syntax.{ty_unit}
use denote.RattleType.{RattleType}
use denote.Exit.{no}
use denote.Param.{param, arg}
use denote.Param.Send.{IsSend, param_send, arg_send}
use Rattle.storage_cache.specs.contracts.cache.Cache as Cache
use Rattle.storage_cache.proofs.Sent.{cache_send}
use Rattle.storage_cache.proofs.laws.cache_is_sent.Goals as goal

-- A cache as an argument is sent as a cache is, however it is laid out.
as_argument : (R : RattleType) → IsSend R → IsSend (param 0 (arg ty_unit no R))
as_argument R sent = param_send 0 (arg ty_unit no R) (arg_send ty_unit no R sent)

pub is_sent-requires-send-T : goal.is_sent-requires-send-T
is_sent-requires-send-T c κs =
    let cache = as_argument Cache.the_row cache_send in
    record { owned = cache.owned; leaving = cache.leaving }

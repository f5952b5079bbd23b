use Rattle.std.proofs.Common.{◌∙◌}
use Rattle.object_storage.proofs.storage.Storage.alarm.Goals as goal

pub returns : goal.returns
returns g c = λ frames object staged m is. c.alarm.ensures ∙ is.stored.cache_of.alarm

use Rattle.std.proofs.Common.{subst}
use Rattle.do_value.specs.declared.value.Value.{Value}
use Rattle.storage_cache.specs.Cached.{KeepsOnly}
use Rattle.object_storage.proofs.value.keep_copy.Goals as goal

pub returns : goal.returns
returns c = subst (λ (v : Value). KeepsOnly c.args.cache.now c.keep.new.self c.args.place v) c.in-Ok.ensures c.keep.ensures.kept

-- A back of a slot that was just mounted.
use Rattle.std.specs.Prelude.{◌≡◌, false, []}
use Rattle.batch_journal.specs.Rest.{limit_of}
use Rattle.batch_journal.specs.declared.mount.Mounted.{Mounted}
use Rattle.storage_cache.specs.Cached.{of_index}
use Rattle.timeline.specs.Logs.{Backed, backed}
use Rattle.output_gate.specs.Serving.{is_stopped}
use Rattle.output_gate.specs.Storing.{HasLimit}
use Rattle.output_gate.specs.declared.back.Back.{Back}
use Rattle.output_gate.specs.declared.store.Store.TheVariants as store

-- a log in which nothing stands
abbrev pub no_log : Backed
no_log = record { taken = []; flights = []; stops = []; released = []; ends = []; downs = [] }

-- Nothing is logged and nothing is held, and the index, the object and the limit are those that were mounted.
pub record IsFresh {D : Type 0} (mounted : Mounted D) (back : Back D) : Type 0 where
  pub log : backed back.log ≡ no_log
  pub held : back.held.items ≡ []
  pub store : back.store ≡ store.Journal mounted.journal
  pub limit : back.limit ≡ limit_of mounted.journal
  pub journal : HasLimit back.limit back.store
  pub identity : back.identity ≡ mounted.identity
  pub cache : back.cache ≡ of_index mounted.index
  pub stuck : back.stuck ≡ false
  pub stopped : is_stopped back ≡ false

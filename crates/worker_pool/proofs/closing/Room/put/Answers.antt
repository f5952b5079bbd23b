use Rattle.std.proofs.Common.{sym, subst, Result}
use Rattle.object_core.specs.declared.object.Core.{Core}
use Rattle.host_workers.specs.declared.joining.Halves.{Halves}
use Rattle.worker_pool.specs.Joined.{IsPut}
use Rattle.worker_pool.proofs.closing.Room.put.Goals as goal

pub returns-in-Ok-clause-put : goal.returns-in-Ok-clause-put
returns-in-Ok-clause-put g c =
    subst (λ (joined : Result (Core g.row.D.Denot) (Halves g.row.D.Denot)). IsPut joined c.args.self.now c.put_core.new.self) (sym c.in-Ok.is) c.put_core.ensures.put

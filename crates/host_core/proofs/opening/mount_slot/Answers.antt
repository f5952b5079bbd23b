use Rattle.std.proofs.Common.{◌∙◌}
use Rattle.std.proofs.lemmas.Result.{err_from_is_err_and}
use Rattle.host_core.proofs.Opened.{stopped_adopting, was_handed, was_mounted, was_telling}
use Rattle.host_core.proofs.opening.mount_slot.Goals as goal

pub returns-in_err-mounted-clause-stop : goal.returns-in_err-mounted-clause-stop
returns-in_err-mounted-clause-stop g c =
    let p = err_from_is_err_and c.from_residual.result c.from_residual.ensures.1 in
    rw (p.1, p.2) (λ contents is.
    c.in_err-mounted.ensures.stop contents c.args.directory.now (g.P.Depot.faults_of c.args.depot.now) (g.P.Depot.faults_of c.slot.new.self) (c.in-Ok.ensures.content ∙ is))

pub returns-clause-mounted : goal.returns-clause-mounted
returns-clause-mounted g c =
    was_mounted g.P.Store.Disk.told g.P.Store.Disk.image g.P.Store.Disk.moment_of g.P.Store.Disk.left_since c.in-Ok.disk c.in_ok-mounted.mounted c.adopt.result _ _ _
    c.in-Ok.ensures.fresh.0 c.in-Ok.ensures.content c.adopt.ensures.same c.adopt.ensures.here c.in_ok-mounted.ensures.mounted c.in_ok-mounted.ensures.staged c.in_ok-mounted.ensures.limited

pub returns-clause-stop : goal.returns-clause-stop
returns-clause-stop g c =
    stopped_adopting g.P.Store.Disk.told g.P.Store.Disk.image g.P.Store.Disk.moment_of g.P.Store.Disk.left_since g.P.Store.Disk.faults_of
    c.in-Ok.disk c.in_ok-mounted.mounted c.adopt.result _ c.args.slot c.args.directory.now c.adopt.new.directory c.adopt.new.unopened (g.P.Depot.faults_of c.args.depot.now) (g.P.Depot.faults_of c.slot.new.self)
    c.in-Ok.ensures.fresh.0 c.in-Ok.ensures.content c.in_ok-mounted.ensures.mounted c.in_ok-mounted.ensures.left c.adopt.ensures.kept c.adopt.ensures.same_slots c.adopt.ensures.why

pub returns-clause-handed : goal.returns-clause-handed
returns-clause-handed g c =
    was_handed g.P.Store.Disk.told g.P.Store.Disk.image g.P.Store.Disk.moment_of g.P.Store.Disk.left_since c.in-Ok.disk c.in_ok-mounted.mounted c.adopt.result _
    c.in-Ok.ensures.fresh.0 c.in-Ok.ensures.content c.adopt.ensures.same c.in_ok-mounted.ensures.left

pub returns-clause-telling : goal.returns-clause-telling
returns-clause-telling g c =
    was_telling g.P.Store.Disk.told c.in-Ok.disk c.in_ok-mounted.mounted c.adopt.result _ c.in-Ok.ensures.content c.adopt.ensures.same c.in_ok-mounted.ensures.telling

use Rattle.std.proofs.Common.{sym, subst}
use Rattle.std.specs.Prelude.{Bool, Result}
use Rattle.do_value.specs.declared.fault.NoMemory.{NoMemory}
use Rattle.output_gate.proofs.Stored.{still_tells}
use Rattle.object_core.proofs.Choosing.{release_steps}
use Rattle.object_core.proofs.Releasing.{ReleasesBy, release_keeps}
use Rattle.object_core.specs.Stepping.{Steps}
use Rattle.object_core.specs.declared.choice.Choice.TheVariants.{Release}
use Rattle.object_core.proofs.object.Core.release.Goals as goal

pub release-stepped-requires : goal.release-stepped-requires
release-stepped-requires g c = let r = c.requires in (r.1.0.start, r.1.0.opening, r.1.1.back_stands)

pub returns-clause-steps : goal.returns-clause-steps
returns-clause-steps g c script =
    let e = c.release-stepped.ensures in
    let by : ReleasesBy g.D.Disk.moment_of g.D.Disk.left_since g.D.Disk.told g.D.Disk.image g.D.Disk.faults_of c.args.self.now.back c.release-stepped.new.self c.args.self.now.notices c.release-stepped.new.notices c.args.self.now.out c.release-stepped.new.out c.release-stepped.result =
    record { stopped = e.stopped; barred = e.barred; nothing = e.nothing; released = e.released; stays = e.stays; stops = e.stops; outlet = e.outlet.1; left = e.out.1; disk = e.disk; back = e.back } in
    subst (λ (r : Result Bool NoMemory). Steps g.D.Disk.moment_of g.D.Disk.told g.D.Disk.image g.D.Disk.faults_of script c.args.self.now (record c.args.self.now { back = c.release-stepped.new.self; notices = c.release-stepped.new.notices; out = c.release-stepped.new.out }) Release r)
    (sym c.stepped_so.ensures)
    (release_steps g.D.Disk.moment_of g.D.Disk.left_since g.D.Disk.told g.D.Disk.image g.D.Disk.faults_of script c.args.self.now c.release-stepped.new.self c.release-stepped.new.notices c.release-stepped.new.out c.release-stepped.result by)

pub returns-clause-one : goal.returns-clause-one
returns-clause-one g c script origin one =
    let e = c.release-stepped.ensures in
    release_keeps g.D.Disk.moment_of g.D.Disk.left_since g.D.Disk.told g.D.Disk.image g.D.Disk.faults_of c.back_steps.ensures script origin c.args.self.now.front.half c.args.self.now.inbox c.args.self.now.back c.release-stepped.new.self
    c.args.self.now.line c.args.self.now.notices c.release-stepped.new.notices c.args.self.now.out c.release-stepped.new.out one c.release-stepped.result
    (record { stopped = e.stopped; barred = e.barred; nothing = e.nothing; released = e.released; stays = e.stays; stops = e.stops; outlet = e.outlet.1; left = e.out.1; disk = e.disk; back = e.back })

pub returns-clause-tells : goal.returns-clause-tells
returns-clause-tells g c = still_tells g.D.Disk.told c.args.self.now.back.store c.release-stepped.new.self.store c.release-stepped.ensures.disk

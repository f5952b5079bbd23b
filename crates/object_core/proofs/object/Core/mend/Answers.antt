use Rattle.std.proofs.Common.{sym, subst}
use Rattle.std.specs.Prelude.{Bool, Result}
use Rattle.do_value.specs.declared.fault.NoMemory.{NoMemory}
use Rattle.object_core.proofs.Choosing.{mend_steps}
use Rattle.object_core.proofs.Mending.{MendsBy, mend_keeps}
use Rattle.object_core.specs.Stepping.{Steps}
use Rattle.object_core.specs.declared.choice.Choice.TheVariants.{Mend}
use Rattle.object_core.proofs.object.Core.mend.Goals as goal

pub mend-stepped-requires : goal.mend-stepped-requires
mend-stepped-requires g c = let r = c.requires in (r.1.0.start, r.1.0.opening, r.1.1.back_stands)

pub returns-clause-steps : goal.returns-clause-steps
returns-clause-steps g c script =
    let e = c.mend-stepped.ensures in
    let by : MendsBy g.D.Disk.moment_of g.D.Disk.left_since g.D.Disk.told g.D.Disk.image g.D.Disk.faults_of c.args.self.now.back c.mend-stepped.new.self c.args.self.now.notices c.mend-stepped.new.notices c.mend-stepped.result =
    record { stopped = e.stopped; barred = e.barred; nothing = e.nothing; mended = e.mended; lost = e.lost; stops = e.stops; outlet = e.outlet.1; finds = e.finds; tells = e.tells; limit = e.limit; back = e.back } in
    subst (λ (r : Result Bool NoMemory). Steps g.D.Disk.moment_of g.D.Disk.told g.D.Disk.image g.D.Disk.faults_of script c.args.self.now (record c.args.self.now { back = c.mend-stepped.new.self; notices = c.mend-stepped.new.notices }) Mend r)
    (sym c.stepped_so.ensures)
    (mend_steps g.D.Disk.moment_of g.D.Disk.left_since g.D.Disk.told g.D.Disk.image g.D.Disk.faults_of script c.args.self.now c.mend-stepped.new.self c.mend-stepped.new.notices c.mend-stepped.result by)

pub returns-clause-one : goal.returns-clause-one
returns-clause-one g c script origin one =
    let e = c.mend-stepped.ensures in
    mend_keeps g.D.Disk.moment_of g.D.Disk.left_since g.D.Disk.told g.D.Disk.image g.D.Disk.faults_of c.back_steps.ensures script origin c.args.self.now.front.half c.args.self.now.inbox c.args.self.now.back c.mend-stepped.new.self
    c.args.self.now.line c.args.self.now.notices c.mend-stepped.new.notices c.args.self.now.out one c.mend-stepped.result
    (record { stopped = e.stopped; barred = e.barred; nothing = e.nothing; mended = e.mended; lost = e.lost; stops = e.stops; outlet = e.outlet.1; finds = e.finds; tells = e.tells; limit = e.limit; back = e.back })

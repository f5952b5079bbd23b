use Rattle.std.proofs.Common.{sym, subst}
use Rattle.std.specs.Prelude.{Bool, Result}
use Rattle.do_value.specs.declared.fault.NoMemory.{NoMemory}
use Rattle.object_core.proofs.Choosing.{take_steps}
use Rattle.object_core.proofs.Taking.{TakesBy, take_keeps}
use Rattle.object_core.specs.Stepping.{Steps}
use Rattle.object_core.specs.declared.choice.Choice.TheVariants.{Take}
use Rattle.object_core.proofs.object.Core.take.Goals as goal

pub take-stepped-requires : goal.take-stepped-requires
take-stepped-requires g c = let r = c.requires in (r.1.0.start, r.1.0.opening, r.1.1.back_stands)

pub returns-clause-steps : goal.returns-clause-steps
returns-clause-steps g c script =
    let e = c.take-stepped.ensures in
    let by : TakesBy g.D.Disk.moment_of g.D.Disk.left_since g.D.Disk.told g.D.Disk.image g.D.Disk.faults_of c.args.self.now.back c.take-stepped.new.self c.args.self.now.line c.take-stepped.new.line c.args.self.now.notices c.take-stepped.new.notices c.take-stepped.result =
    record { stopped = e.stopped; barred = e.barred; nothing = e.nothing; empty = e.empty; took = e.took; lost = e.lost; stops = e.stops; inlet = e.inlet.1; outlet = e.outlet.1; disk = e.disk; back = e.back } in
    subst (λ (r : Result Bool NoMemory). Steps g.D.Disk.moment_of g.D.Disk.told g.D.Disk.image g.D.Disk.faults_of script c.args.self.now (record c.args.self.now { back = c.take-stepped.new.self; line = c.take-stepped.new.line; notices = c.take-stepped.new.notices }) Take r)
    (sym c.stepped_so.ensures)
    (take_steps g.D.Disk.moment_of g.D.Disk.left_since g.D.Disk.told g.D.Disk.image g.D.Disk.faults_of script c.args.self.now c.take-stepped.new.self c.take-stepped.new.line c.take-stepped.new.notices c.take-stepped.result by)

pub returns-clause-one : goal.returns-clause-one
returns-clause-one g c script origin one =
    let e = c.take-stepped.ensures in
    take_keeps g.D.Disk.moment_of g.D.Disk.left_since g.D.Disk.told g.D.Disk.image g.D.Disk.faults_of c.back_steps.ensures script origin c.args.self.now.front.half c.args.self.now.inbox c.args.self.now.back c.take-stepped.new.self
    c.args.self.now.line c.take-stepped.new.line c.args.self.now.notices c.take-stepped.new.notices c.args.self.now.out one c.take-stepped.result
    (record { stopped = e.stopped; barred = e.barred; nothing = e.nothing; empty = e.empty; took = e.took; lost = e.lost; stops = e.stops; inlet = e.inlet.1; outlet = e.outlet.1; disk = e.disk; back = e.back })

pub returns-clause-tells : goal.returns-clause-tells
returns-clause-tells g c = c.take-stepped.ensures.disk.telling

use Rattle.std.proofs.Common.{sym, subst}
use Rattle.std.specs.Prelude.{Bool, Result}
use Rattle.do_value.specs.declared.fault.NoMemory.{NoMemory}
use Rattle.object_core.proofs.Choosing.{flush_steps}
use Rattle.object_core.proofs.Flushing.{FlushesBy, flush_keeps}
use Rattle.object_core.specs.Stepping.{Steps}
use Rattle.object_core.specs.declared.choice.Choice.TheVariants.{Flush}
use Rattle.object_core.proofs.object.Core.flush.Goals as goal

pub flush-stepped-requires : goal.flush-stepped-requires
flush-stepped-requires g c = let r = c.requires in (r.1.0.start, r.1.0.opening, r.1.1.back_stands)

pub returns-clause-steps : goal.returns-clause-steps
returns-clause-steps g c script =
    let e = c.flush-stepped.ensures in
    let by : FlushesBy g.D.Disk.moment_of g.D.Disk.left_since g.D.Disk.told g.D.Disk.image g.D.Disk.faults_of c.args.self.now.back c.flush-stepped.new.self c.flush-stepped.result =
    record { nothing = e.nothing; flushed = e.flushed; stopped = e.stopped; tells = e.tells; limit = e.limit; back = e.back } in
    subst (λ (r : Result Bool NoMemory). Steps g.D.Disk.moment_of g.D.Disk.told g.D.Disk.image g.D.Disk.faults_of script c.args.self.now (record c.args.self.now { back = c.flush-stepped.new.self }) Flush r)
    (sym c.stepped_so.ensures)
    (flush_steps g.D.Disk.moment_of g.D.Disk.left_since g.D.Disk.told g.D.Disk.image g.D.Disk.faults_of script c.args.self.now c.flush-stepped.new.self c.flush-stepped.result by)

pub returns-clause-one : goal.returns-clause-one
returns-clause-one g c script origin one =
    let e = c.flush-stepped.ensures in
    flush_keeps g.D.Disk.moment_of g.D.Disk.left_since g.D.Disk.told g.D.Disk.image g.D.Disk.faults_of c.back_steps.ensures script origin c.args.self.now.front.half c.args.self.now.inbox c.args.self.now.back c.flush-stepped.new.self
    c.args.self.now.line c.args.self.now.notices c.args.self.now.out one c.flush-stepped.result
    (record { nothing = e.nothing; flushed = e.flushed; stopped = e.stopped; tells = e.tells; limit = e.limit; back = e.back })

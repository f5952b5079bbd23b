use Rattle.std.proofs.Common.{refl, sym, subst}
use Rattle.std.specs.Prelude.{Bool, Result}
use Rattle.do_value.specs.declared.fault.NoMemory.{NoMemory}
use Rattle.output_gate.proofs.Stored.{still_disk, still_tells}
use Rattle.object_core.proofs.Collects.{give_keeps}
use Rattle.object_core.proofs.Turns.{give_by}
use Rattle.object_core.specs.Stepping.{Steps}
use Rattle.object_core.specs.declared.choice.Choice.TheVariants.{Give}
use Rattle.object_core.proofs.object.Core.give.Goals as goal

pub returns-clause-steps : goal.returns-clause-steps
returns-clause-steps g c script =
    subst (λ (r : Result Bool NoMemory). Steps g.D.Disk.moment_of g.D.Disk.told g.D.Disk.image g.D.Disk.faults_of script c.args.self.now (record c.args.self.now { inbox = c.put-sent.new.inbox }) (Give c.args.event) r)
    (sym c.given_so.ensures)
    (give_by g.D.Disk.moment_of g.D.Disk.told g.D.Disk.image g.D.Disk.faults_of script c.args.self.now c.put-sent.new.inbox c.args.event c.put-sent.result c.put-sent.ensures.got c.put-sent.ensures.sent c.put-sent.ensures.same)

pub returns-clause-one : goal.returns-clause-one
returns-clause-one g c script origin one =
    give_keeps g.D.Disk.moment_of g.D.Disk.left_since g.D.Disk.told g.D.Disk.image g.D.Disk.faults_of script origin c.args.self.now.front.half c.args.self.now.inbox c.put-sent.new.inbox
    c.args.self.now.back c.args.self.now.line c.args.self.now.notices c.args.self.now.out c.put-sent.ensures.got one

pub returns-clause-tells : goal.returns-clause-tells
returns-clause-tells g c = let same = c.args.self.now.back.store in still_tells g.D.Disk.told same same (still_disk same same refl)

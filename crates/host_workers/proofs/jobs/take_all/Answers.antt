use Rattle.host_workers.proofs.Holding.{back_then}
use Rattle.host_workers.proofs.jobs.take_all.Goals as goal

pub returns-in-Ok-Nothing-clause-cell : goal.returns-in-Ok-Nothing-clause-cell
returns-in-Ok-Nothing-clause-cell g c start opening is = c.take.ensures.cell start opening (c.loop.invariant.keeps start opening is)

pub returns-in-Err-clause-cell : goal.returns-in-Err-clause-cell
returns-in-Err-clause-cell g c start opening is = c.take.ensures.cell start opening (c.loop.invariant.keeps start opening is)

pub returns-in-Ok-Nothing-clause-alone : goal.returns-in-Ok-Nothing-clause-alone
returns-in-Ok-Nothing-clause-alone g c start opening object limit alarm is =
    c.take.ensures.alone start opening object limit alarm (c.loop.invariant.alone start opening object limit alarm is)

pub returns-in-Err-clause-alone : goal.returns-in-Err-clause-alone
returns-in-Err-clause-alone g c start opening object limit alarm is =
    c.take.ensures.alone start opening object limit alarm (c.loop.invariant.alone start opening object limit alarm is)

pub loop-preserved : goal.loop-preserved
loop-preserved g c =
    let i = c.loop.invariant in
    record {
      can = (i.can.0, i.can.1, c.take.ensures.cell i.can.0 i.can.1 i.can.2);
      lanes = back_then g.D.Disk.moment_of g.D.Disk.left_since g.D.Disk.told g.D.Disk.image g.D.Disk.faults_of _ _ _ i.lanes c.take.ensures.lanes;
      keeps = λ start opening is. c.take.ensures.cell start opening (i.keeps start opening is);
      alone = λ start opening object limit alarm is. c.take.ensures.alone start opening object limit alarm (i.alone start opening object limit alarm is);
    }

use Rattle.host_workers.proofs.Holding.{switch_then}
use Rattle.host_workers.proofs.jobs.accept_all.Goals as goal

pub loop-preserved : goal.loop-preserved
loop-preserved g c =
    let i = c.loop.invariant in
    record {
      can = (i.can.0, c.accept.ensures.cell i.can.0 i.can.1);
      lanes = switch_then _ _ _ i.lanes c.accept.ensures.lanes;
      keeps = λ first is. c.accept.ensures.cell first (i.keeps first is);
      printed = λ held from is. c.accept.ensures.printed held from (i.printed held from is);
    }

use Rattle.host_workers.proofs.Holding.{switch_then}
use Rattle.host_workers.proofs.jobs.route_all.Goals as goal

pub loop-preserved : goal.loop-preserved
loop-preserved g c =
    let i = c.loop.invariant in
    record {
      can = (i.can.0, c.route.ensures.cell i.can.0 i.can.1);
      lanes = switch_then _ _ _ i.lanes c.route.ensures.lanes;
      keeps = λ first is. c.route.ensures.cell first (i.keeps first is);
      printed = λ held from is. c.route.ensures.printed held from (i.printed held from is);
    }

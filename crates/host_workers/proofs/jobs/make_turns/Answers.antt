use Rattle.host_workers.proofs.Holding.{front_same, front_then}
use Rattle.host_workers.proofs.jobs.make_turns.Goals as goal

pub loop-init : goal.loop-init
loop-init g c = record { can = c.requires; lanes = front_same _; keeps = λ first alarm is. is }

pub loop-preserved : goal.loop-preserved
loop-preserved g c =
    let i = c.loop.invariant in
    record {
      can = (i.can.0, i.can.1, c.turn.ensures.cell i.can.0 i.can.1 i.can.2);
      lanes = front_then _ _ _ i.lanes c.turn.ensures.lanes;
      keeps = λ first alarm is. c.turn.ensures.cell first alarm (i.keeps first alarm is);
    }

pub returns-in-Ok-Idle-clause-lanes : goal.returns-in-Ok-Idle-clause-lanes
returns-in-Ok-Idle-clause-lanes g c = front_then _ _ _ c.loop.invariant.lanes c.turn.ensures.lanes

pub returns-in-Ok-Idle-clause-cell : goal.returns-in-Ok-Idle-clause-cell
returns-in-Ok-Idle-clause-cell g c first alarm is = c.turn.ensures.cell first alarm (c.loop.invariant.keeps first alarm is)

pub returns-in-Err-clause-lanes : goal.returns-in-Err-clause-lanes
returns-in-Err-clause-lanes g c = front_then _ _ _ c.loop.invariant.lanes c.turn.ensures.lanes

pub returns-in-Err-clause-cell : goal.returns-in-Err-clause-cell
returns-in-Err-clause-cell g c first alarm is = c.turn.ensures.cell first alarm (c.loop.invariant.keeps first alarm is)

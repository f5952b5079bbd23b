use Rattle.host_workers.proofs.jobs.step_back.Goals as goal

pub release_early-early-requires : goal.release_early-early-requires
release_early-early-requires g c =
    let can = c.requires in
    (can.0, can.1, c.take_all-took.ensures.cell can.0 can.1 can.2)

pub returns-then-early-clause-cell : goal.returns-then-early-clause-cell
returns-then-early-clause-cell g c start opening is = c.release_early-early.ensures.cell start opening (c.take_all-took.ensures.cell start opening is)

pub returns-then-early-clause-alone : goal.returns-then-early-clause-alone
returns-then-early-clause-alone g c start opening object limit alarm is =
    c.release_early-early.ensures.alone start opening object limit alarm (c.take_all-took.ensures.alone start opening object limit alarm is)

pub flush-requires : goal.flush-requires
flush-requires g c =
    let can = c.requires in
    (can.0, can.1, c.release_early-early.ensures.cell can.0 can.1 (c.take_all-took.ensures.cell can.0 can.1 can.2))

pub release_all-released-requires : goal.release_all-released-requires
release_all-released-requires g c =
    let can = c.requires in
    (can.0, can.1, c.flush.ensures.cell can.0 can.1 (c.release_early-early.ensures.cell can.0 can.1 (c.take_all-took.ensures.cell can.0 can.1 can.2)))

pub mend-mended-requires : goal.mend-mended-requires
mend-mended-requires g c =
    let can = c.requires in
    (can.0, can.1, c.release_all-released.ensures.cell can.0 can.1 (c.flush.ensures.cell can.0 can.1 (c.release_early-early.ensures.cell can.0 can.1 (c.take_all-took.ensures.cell can.0 can.1 can.2))))

pub take_all-again-requires : goal.take_all-again-requires
take_all-again-requires g c =
    let can = c.requires in (
      can.0,
      can.1,
      c.mend-mended.ensures.cell can.0 can.1 (c.release_all-released.ensures.cell can.0 can.1
          (c.flush.ensures.cell can.0 can.1 (c.release_early-early.ensures.cell can.0 can.1 (c.take_all-took.ensures.cell can.0 can.1 can.2)))),
    )

pub returns-clause-cell : goal.returns-clause-cell
returns-clause-cell g c start opening is =
    c.take_all-again.ensures.cell start opening (c.mend-mended.ensures.cell start opening (c.release_all-released.ensures.cell start opening
    (c.flush.ensures.cell start opening (c.release_early-early.ensures.cell start opening (c.take_all-took.ensures.cell start opening is)))))

pub returns-clause-alone : goal.returns-clause-alone
returns-clause-alone g c start opening object limit alarm is =
    c.take_all-again.ensures.alone start opening object limit alarm (c.mend-mended.ensures.alone start opening object limit alarm
    (c.release_all-released.ensures.alone start opening object limit alarm (c.flush.ensures.alone start opening object limit alarm
    (c.release_early-early.ensures.alone start opening object limit alarm (c.take_all-took.ensures.alone start opening object limit alarm is)))))

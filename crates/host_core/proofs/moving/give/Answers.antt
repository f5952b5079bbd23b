use Rattle.do_tree.specs.Checked.{tree_of}
use Rattle.host_core.proofs.Movements.{gave_none, gave_more, gives_all, gives_stop}
use Rattle.host_core.proofs.Tells.{told_by}
use Rattle.host_core.proofs.moving.give.Goals as goal

pub loop-event-init : goal.loop-event-init
loop-event-init g c = record { can = c.requires.can; one = λ origin one. one; tells = λ tells. tells; gave = gave_none c.args.core.now c.args.inbox.now }

pub loop-event-preserved : goal.loop-event-preserved
loop-event-preserved g c =
    let i = c.loop-event.invariant in
    record {
      can = c.step.ensures.again;
      one = λ origin one. c.step.ensures.one origin (i.one origin one);
      tells = λ tells. i.tells (told_by g.D.Disk.moment_of g.D.Disk.left_since g.D.Disk.told g.D.Disk.image g.D.Disk.faults_of (tree_of c.args.checked.now) c.loop-event.core c.step.new.self
          i.can c.step.ensures.tells tells);
      gave = gave_more g.D.Disk.moment_of g.D.Disk.told g.D.Disk.image g.D.Disk.faults_of (tree_of c.args.checked.now) c.args.core.now c.loop-event.core c.step.new.self c.args.inbox.now c.loop-event.inbox
          c.take.new.self c.in-Some.event c.step.result c.in_ok-step.field-0 c.in_ok-step.was i.gave
          (record { first = c.in-Some.ensures.some.0; got = c.in-Some.ensures.some.1 }) c.step.ensures.steps;
    }

pub returns-in_err-step-clause-gives : goal.returns-in_err-step-clause-gives
returns-in_err-step-clause-gives g c =
    gives_stop g.D.Disk.moment_of g.D.Disk.told g.D.Disk.image g.D.Disk.faults_of (tree_of c.args.checked.now) c.args.core.now c.loop-event.core c.step.new.self c.args.inbox.now c.loop-event.inbox
    c.take.new.self c.in-Some.event c.step.result c.in_err-step.field-0.0 c.in_err-step.was c.loop-event.invariant.gave
    (record { first = c.in-Some.ensures.some.0; got = c.in-Some.ensures.some.1 }) c.step.ensures.steps c.from_residual.result c.from_residual.ensures.0

pub returns-in_err-step-clause-one : goal.returns-in_err-step-clause-one
returns-in_err-step-clause-one g c origin one = c.step.ensures.one origin (c.loop-event.invariant.one origin one)

pub returns-in_err-step-clause-tells : goal.returns-in_err-step-clause-tells
returns-in_err-step-clause-tells g c tells =
    c.loop-event.invariant.tells
    (told_by g.D.Disk.moment_of g.D.Disk.left_since g.D.Disk.told g.D.Disk.image g.D.Disk.faults_of (tree_of c.args.checked.now) c.loop-event.core c.step.new.self
    c.loop-event.invariant.can c.step.ensures.tells tells)

pub returns-clause-gives : goal.returns-clause-gives
returns-clause-gives g c =
    gives_all c.args.core.now c.loop-event.core c.args.inbox.now c.loop-event.inbox c.take.new.self c.loop-event.invariant.gave c.in_default.ensures.none.0 c.in_default.ensures.none.1

use Rattle.std.proofs.Common.{sym, subst}
use Rattle.do_tree.specs.Checked.{tree_of}
use Rattle.object_core.specs.Stepping.{Steps}
use Rattle.object_core.specs.declared.choice.Choice.{Choice}
use Rattle.object_core.proofs.object.Core.step.Goals as goal

pub take-requires : goal.take-requires
take-requires g c = (tree_of c.args.checked.now, c.requires)

pub returns-in-Take-clause-steps : goal.returns-in-Take-clause-steps
returns-in-Take-clause-steps g c =
    subst (λ (x : Choice). Steps g.D.Disk.moment_of g.D.Disk.told g.D.Disk.image g.D.Disk.faults_of (tree_of c.args.checked.now) c.args.self.now c.take.new.self x c.take.result) (sym c.in-Take.is)
    (c.take.ensures.steps (tree_of c.args.checked.now))

pub returns-in-Take-clause-again : goal.returns-in-Take-clause-again
returns-in-Take-clause-again g c = let r = c.requires in (r.0, c.take.ensures.one (tree_of c.args.checked.now) r.0 r.1)

pub returns-in-Take-clause-one : goal.returns-in-Take-clause-one
returns-in-Take-clause-one g c = c.take.ensures.one (tree_of c.args.checked.now)

pub flush-requires : goal.flush-requires
flush-requires g c = (tree_of c.args.checked.now, c.requires)

pub returns-in-Flush-clause-steps : goal.returns-in-Flush-clause-steps
returns-in-Flush-clause-steps g c =
    subst (λ (x : Choice). Steps g.D.Disk.moment_of g.D.Disk.told g.D.Disk.image g.D.Disk.faults_of (tree_of c.args.checked.now) c.args.self.now c.flush.new.self x c.flush.result) (sym c.in-Flush.is)
    (c.flush.ensures.steps (tree_of c.args.checked.now))

pub returns-in-Flush-clause-again : goal.returns-in-Flush-clause-again
returns-in-Flush-clause-again g c = let r = c.requires in (r.0, c.flush.ensures.one (tree_of c.args.checked.now) r.0 r.1)

pub returns-in-Flush-clause-one : goal.returns-in-Flush-clause-one
returns-in-Flush-clause-one g c = c.flush.ensures.one (tree_of c.args.checked.now)

pub release-requires : goal.release-requires
release-requires g c = (tree_of c.args.checked.now, c.requires)

pub returns-in-Release-clause-steps : goal.returns-in-Release-clause-steps
returns-in-Release-clause-steps g c =
    subst (λ (x : Choice). Steps g.D.Disk.moment_of g.D.Disk.told g.D.Disk.image g.D.Disk.faults_of (tree_of c.args.checked.now) c.args.self.now c.release.new.self x c.release.result) (sym c.in-Release.is)
    (c.release.ensures.steps (tree_of c.args.checked.now))

pub returns-in-Release-clause-again : goal.returns-in-Release-clause-again
returns-in-Release-clause-again g c = let r = c.requires in (r.0, c.release.ensures.one (tree_of c.args.checked.now) r.0 r.1)

pub returns-in-Release-clause-one : goal.returns-in-Release-clause-one
returns-in-Release-clause-one g c = c.release.ensures.one (tree_of c.args.checked.now)

pub mend-requires : goal.mend-requires
mend-requires g c = (tree_of c.args.checked.now, c.requires)

pub returns-in-Mend-clause-steps : goal.returns-in-Mend-clause-steps
returns-in-Mend-clause-steps g c =
    subst (λ (x : Choice). Steps g.D.Disk.moment_of g.D.Disk.told g.D.Disk.image g.D.Disk.faults_of (tree_of c.args.checked.now) c.args.self.now c.mend.new.self x c.mend.result) (sym c.in-Mend.is)
    (c.mend.ensures.steps (tree_of c.args.checked.now))

pub returns-in-Mend-clause-again : goal.returns-in-Mend-clause-again
returns-in-Mend-clause-again g c = let r = c.requires in (r.0, c.mend.ensures.one (tree_of c.args.checked.now) r.0 r.1)

pub returns-in-Mend-clause-one : goal.returns-in-Mend-clause-one
returns-in-Mend-clause-one g c = c.mend.ensures.one (tree_of c.args.checked.now)

pub returns-in-Turn-clause-steps : goal.returns-in-Turn-clause-steps
returns-in-Turn-clause-steps g c =
    subst (λ (x : Choice). Steps g.D.Disk.moment_of g.D.Disk.told g.D.Disk.image g.D.Disk.faults_of (tree_of c.args.checked.now) c.args.self.now c.turn.new.self x c.turn.result) (sym c.in-Turn.is) c.turn.ensures.steps

pub returns-in-Turn-clause-again : goal.returns-in-Turn-clause-again
returns-in-Turn-clause-again g c = let r = c.requires in (r.0, c.turn.ensures.one r.0 r.1)

pub returns-in-Give-clause-steps : goal.returns-in-Give-clause-steps
returns-in-Give-clause-steps g c =
    subst (λ (x : Choice). Steps g.D.Disk.moment_of g.D.Disk.told g.D.Disk.image g.D.Disk.faults_of (tree_of c.args.checked.now) c.args.self.now c.give.new.self x c.give.result) (sym c.in-Give.is)
    (c.give.ensures.steps (tree_of c.args.checked.now))

pub returns-in-Give-clause-again : goal.returns-in-Give-clause-again
returns-in-Give-clause-again g c = let r = c.requires in (r.0, c.give.ensures.one (tree_of c.args.checked.now) r.0 r.1)

pub returns-in-Give-clause-one : goal.returns-in-Give-clause-one
returns-in-Give-clause-one g c = c.give.ensures.one (tree_of c.args.checked.now)

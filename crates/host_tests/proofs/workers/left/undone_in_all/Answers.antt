use Rattle.std.proofs.Common.{List, subst, sym}
use Rattle.std.specs.List.{All}
use Rattle.std.proofs.lemmas.List.Elements.{All-head, All-tail}
use Rattle.do_tree.specs.Checked.{tree_of}
use Rattle.object_core.specs.One.{CanRun}
use Rattle.object_core.specs.declared.object.Core.{Core}
use Rattle.host_tests.proofs.workers.left.undone_in_all.Goals as goal

pub loop-core-init : goal.loop-core-init
loop-core-init g c =
    subst (λ (xs : List (Core g.row.D.Denot)). All (CanRun g.D.Disk.moment_of g.D.Disk.left_since g.D.Disk.told g.D.Disk.image g.D.Disk.faults_of (tree_of c.args.checked.now)) xs)
    (sym c.into_iter-core-iterator.ensures.into_iter_gives.0) c.requires

pub undone_in-things-requires : goal.undone_in-things-requires
undone_in-things-requires g c =
    All-head (CanRun g.D.Disk.moment_of g.D.Disk.left_since g.D.Disk.told g.D.Disk.image g.D.Disk.faults_of (tree_of c.args.checked.now)) c.in-Some.core c.next.new.self.rest.items
    (subst (λ (xs : List (Core g.row.D.Denot)). All (CanRun g.D.Disk.moment_of g.D.Disk.left_since g.D.Disk.told g.D.Disk.image g.D.Disk.faults_of (tree_of c.args.checked.now)) xs)
    c.in-Some.ensures.steps.0 c.loop-core.invariant)

pub loop-core-preserved : goal.loop-core-preserved
loop-core-preserved g c =
    All-tail (CanRun g.D.Disk.moment_of g.D.Disk.left_since g.D.Disk.told g.D.Disk.image g.D.Disk.faults_of (tree_of c.args.checked.now)) c.in-Some.core c.next.new.self.rest.items
    (subst (λ (xs : List (Core g.row.D.Denot)). All (CanRun g.D.Disk.moment_of g.D.Disk.left_since g.D.Disk.told g.D.Disk.image g.D.Disk.faults_of (tree_of c.args.checked.now)) xs)
    c.in-Some.ensures.steps.0 c.loop-core.invariant)

use Rattle.std.specs.Prelude.{◌≡◌, ◌++◌, Ok}
use Rattle.do_tree.specs.Checked.{tree_of}
use Rattle.output_gate.specs.Storing.{KeepsTelling}
use Rattle.object_core.specs.One.{CanRun, KeepsOne}
use Rattle.object_core.specs.Running.{Runs}
use Rattle.object_core.proofs.object.Core.run.Given as goal

-- the choices so far were made, the object is one, and its disk tells as before
abbrev pub invariant-loop-choice : goal.invariant-loop-choice
invariant-loop-choice g l =
    Runs g.D.Disk.moment_of g.D.Disk.told g.D.Disk.image g.D.Disk.faults_of (tree_of l.checked) l.fn.self l.self l.yielded (Ok tt)
    × CanRun g.D.Disk.moment_of g.D.Disk.left_since g.D.Disk.told g.D.Disk.image g.D.Disk.faults_of (tree_of l.checked) l.self
    × KeepsOne g.D.Disk.moment_of g.D.Disk.left_since g.D.Disk.told g.D.Disk.image g.D.Disk.faults_of (tree_of l.checked) l.fn.self l.self
    × KeepsTelling g.D.Disk.told l.fn.self.back.store l.self.back.store
    × (l.fn.choices.items ≡ l.yielded ++ l.choice-iterator.rest.items)

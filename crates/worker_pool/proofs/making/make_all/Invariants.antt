use Rattle.std.specs.Prelude.{◌≡◌, ◌++◌, length}
use Rattle.std.specs.List.{All}
use Rattle.do_tree.specs.Checked.{tree_of}
use Rattle.worker_pool.specs.Making.{AreMade, AreNewEnds, HasRoom}
use Rattle.worker_pool.proofs.making.make_all.Given as goal

-- the slots so far have their cells, and there are lanes and room for those of the others
abbrev pub invariant-loop-halves : goal.invariant-loop-halves
invariant-loop-halves g l = record {
  all : l.fn.slots.items ≡ l.yielded ++ l.halves-iterator.rest.items;
  made : AreMade g.D.Disk.moment_of g.D.Disk.left_since g.D.Disk.told g.D.Disk.image g.D.Disk.faults_of (tree_of l.checked) l.yielded l.made;
  many : length l.ends.items ≡ length l.halves-iterator.rest.items;
  new : All AreNewEnds l.ends.items;
  room : HasRoom (length l.halves-iterator.rest.items) l.made;
}

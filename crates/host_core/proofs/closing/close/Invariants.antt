use Rattle.std.specs.Prelude.{◌≡◌, ◌≤◌, ◌+◌, ◌++◌, OnOk, length, vec_len}
use Rattle.std.specs.Vec.{vec_capacity}
use Rattle.host_core.proofs.Remaining.{AreLeftBy}
use Rattle.host_core.proofs.Rows.{AreRowsOf}
use Rattle.host_core.proofs.closing.close.Given as goal

-- the objects so far have their rows, and what they left is there; and there is room for the rows of the others
abbrev pub invariant-loop-core : goal.invariant-loop-core
invariant-loop-core g l = record {
  all : l.fn.objects.cores.items ≡ l.yielded ++ l.core-iterator.rest.items;
  rows : AreRowsOf g.D.Disk.moment_of g.D.Disk.left_since g.D.Disk.told g.D.Disk.image g.D.Disk.faults_of l.yielded l.rows.items;
  left : OnOk l.asked (AreLeftBy l.yielded l.left.items);
  many : length l.rows.items ≡ length l.yielded;
  capacity : vec_capacity l.fn.rows ≤ vec_capacity l.rows;
  room : vec_len l.rows + length l.core-iterator.rest.items ≤ vec_capacity l.rows;
}

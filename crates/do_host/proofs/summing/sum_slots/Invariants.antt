use Rattle.std.specs.Prelude.{◌≡◌, ◌+◌, ◌≤◌, ◌++◌, length, vec_len, IfOk}
use Rattle.std.specs.Vec.{vec_capacity}
use Rattle.do_host.specs.Sums.{IsSumOf, Sums}
use Rattle.do_host.proofs.summing.sum_slots.Given as goal

-- the disks of the rows so far were mounted again
abbrev pub invariant-loop-row : goal.invariant-loop-row
invariant-loop-row g l = record {
  all : l.fn.rows.items ≡ l.yielded ++ l.row-iterator.rest.items;
  slot : l.slot ≡ length l.yielded;
  sums : Sums g.D.Disk.told g.D.Disk.image g.D.Disk.moment_of g.D.Disk.left_since g.D.Disk.faults_of l.yielded l.again.items l.sum;
  small : IfOk l.sum (IsSumOf l.slot);
  room : vec_len l.again + length l.row-iterator.rest.items ≤ vec_capacity l.again;
}

use Rattle.std.specs.Prelude.{◌≡◌, ◌≤◌, ◌+◌, ◌++◌, [], length, vec_len}
use Rattle.std.specs.Vec.{vec_capacity}
use Rattle.host_core.proofs.Apart.{AreRowsBehind}
use Rattle.host_core.proofs.closing.close_apart.Given as goal

-- behind the rows that were there stand those of the halves so far; and there is room for those of the others
abbrev pub invariant-loop-halves : goal.invariant-loop-halves
invariant-loop-halves g l = record {
  all : l.fn.apart.items ≡ l.yielded ++ l.halves-iterator.rest.items;
  rows : AreRowsBehind g.D.Disk.moment_of g.D.Disk.left_since g.D.Disk.told g.D.Disk.image g.D.Disk.faults_of l.fn.rows.items l.yielded l.rows.items;
  many : length l.rows.items ≡ length l.fn.rows.items + length l.yielded;
  room : vec_len l.rows + length l.halves-iterator.rest.items ≤ vec_capacity l.rows;
  same : l.yielded ≡ [] → l.rows.items ≡ l.fn.rows.items;
}

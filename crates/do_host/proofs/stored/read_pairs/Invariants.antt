use Rattle.std.specs.Prelude.{Ok}
use Rattle.std.specs.List.{AllByRecursion}
use Rattle.std.specs.FinMap.{entries}
use Rattle.batch_journal.specs.Moments.{IsTold}
use Rattle.batch_journal.specs.Places.{Indexes}
use Rattle.batch_journal.specs.Rest.{IsAtRest, disk_in}
use Rattle.storage_map.specs.Kept.{HasShortKey}
use Rattle.do_host.specs.Storage.{ReadsValues}
use Rattle.do_host.proofs.Values.{AreRead}
use Rattle.do_host.proofs.stored.read_pairs.Given as goal

-- the pairs so far were read, and the journal is as it was
abbrev pub invariant-loop-key : goal.invariant-loop-key
invariant-loop-key g l = record {
  read : AreRead (λ frames. IsAtRest g.D.Disk.told g.D.Disk.image l.fn.journal frames × Indexes frames l.index × IsTold (g.D.Disk.told (disk_in l.fn.journal))) (entries l.index.places) l.key-iterator l.pairs.items;
  short : AllByRecursion HasShortKey l.key-iterator;
  reads : ReadsValues {A = Unit {0}} g.D.Disk.told g.D.Disk.image g.D.Disk.moment_of g.D.Disk.left_since g.D.Disk.faults_of l.fn.journal l.journal (Ok tt);
}

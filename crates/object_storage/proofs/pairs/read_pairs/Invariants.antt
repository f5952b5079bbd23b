use Rattle.std.specs.Prelude.{◌≡◌, ◌++◌, List}
use Rattle.batch_journal.specs.Frames.{Frame}
use Rattle.batch_journal.specs.Moments.{IsTold}
use Rattle.batch_journal.specs.Rest.{disk_in, IsAtRest}
use Rattle.object_storage.specs.Reads.{AllCanBeRead, AreReadOf, StaysStored, keys_of, moment_behind}
use Rattle.object_storage.proofs.pairs.read_pairs.Given as goal

-- the pairs so far are read, and the journal and the cache are as they were stored
abbrev pub invariant-loop-pair : goal.invariant-loop-pair
invariant-loop-pair g l = record {
  all : l.fn.pairs.items ≡ l.yielded ++ l.pair-iterator.rest.items;
  keys : keys_of l.yielded ≡ keys_of l.read.items;
  value : (frames : List Frame) → IsAtRest g.D.Disk.told g.D.Disk.image l.fn.journal frames → AllCanBeRead frames l.fn.pairs.items → IsTold (g.D.Disk.told (disk_in l.fn.journal)) → AreReadOf frames l.yielded l.read.items;
  calls : g.D.Disk.moment_of (disk_in l.journal) ≡ moment_behind l.yielded (g.D.Disk.moment_of (disk_in l.fn.journal));
  stays : StaysStored g.D.Disk.told g.D.Disk.image g.D.Disk.moment_of g.D.Disk.left_since (λ frames. AllCanBeRead frames l.fn.pairs.items) l.fn.journal l.fn.cache l.journal l.cache;
  steady : g.D.Disk.faults_of (disk_in l.journal) ≡ g.D.Disk.faults_of (disk_in l.fn.journal);
}

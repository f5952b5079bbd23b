use Rattle.worker_pool.specs.Named.{run_of}
use Rattle.worker_pool.proofs.running.run_prepared.Given as goal

abbrev pub ghosts-run_named-L-Ledger : goal.ghosts-run_named-L-Ledger
ghosts-run_named-L-Ledger g a = record { name = a.blank.name; parts = a.blank.parts }

-- The run that the cells which were made name.
abbrev pub ghosts-run_named-L-Names : goal.ghosts-run_named-L-Names
ghosts-run_named-L-Names g a = record {
  names = run_of g.D.Disk.moment_of g.D.Disk.left_since g.D.Disk.told g.D.Disk.image g.D.Disk.faults_of g.R.Source.left g.R.Source.faults_of
      g.W.Sink.taken g.W.Sink.faults_of a.cells;
}

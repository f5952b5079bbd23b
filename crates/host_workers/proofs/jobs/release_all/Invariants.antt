use Rattle.host_workers.specs.Backs.{CanStep, KeepsBackCell, KeepsCellAlone, SameLanes}
use Rattle.host_workers.proofs.jobs.release_all.Given as goal

-- the back is one, by the same lanes
abbrev pub invariant-loop : goal.invariant-loop
invariant-loop g l = record {
  can : CanStep g.D.Disk.moment_of g.D.Disk.left_since g.D.Disk.told g.D.Disk.image g.D.Disk.faults_of l.cell;
  lanes : SameLanes l.fn.cell l.cell;
  keeps : KeepsBackCell g.D.Disk.moment_of g.D.Disk.left_since g.D.Disk.told g.D.Disk.image g.D.Disk.faults_of l.fn.cell l.cell;
  alone : KeepsCellAlone g.D.Disk.moment_of g.D.Disk.left_since g.D.Disk.told g.D.Disk.image g.D.Disk.faults_of l.fn.cell l.cell;
}

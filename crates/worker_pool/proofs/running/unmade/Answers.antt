use Rattle.std.proofs.Common.{refl}
use Rattle.worker_pool.proofs.Unmade.{unmade_run}
use Rattle.worker_pool.proofs.running.unmade.Goals as goal

pub returns : goal.returns
returns g c script fresh =
    unmade_run g.D.Disk.moment_of g.D.Disk.left_since g.D.Disk.told g.D.Disk.image g.D.Disk.faults_of c.fresh_are_one.ensures script
    g.R.Source.left g.R.Source.faults_of g.W.Sink.taken g.W.Sink.faults_of _ refl c.new.ensures.items refl c.requires.switch c.requires.lines fresh

use Rattle.host_workers.proofs.Places.{lines_come}
use Rattle.host_workers.proofs.board.Board.put_lines.Goals as goal

pub invariant_of-self : goal.invariant_of-self
invariant_of-self g c =
    lines_come g.L.Names.names g.D.Disk.moment_of g.D.Disk.left_since g.D.Disk.told g.D.Disk.image g.D.Disk.faults_of g.R.Source.left g.R.Source.faults_of
    g.W.Sink.taken g.W.Sink.faults_of _ _ _ _ c.self.inside.cells c.replace-none.new.self c.args.cell c.self.invariant c.requires.place c.replace-none.ensures.after
    c.sub.ensures.total

use Rattle.std.proofs.Common.{◌∙◌, refl, sym}
use Rattle.host_workers.proofs.Places.{switch_comes}
use Rattle.host_workers.proofs.board.Board.put_switch.Goals as goal

pub invariant_of-self : goal.invariant_of-self
invariant_of-self g c =
    switch_comes g.L.Names.names g.D.Disk.moment_of g.D.Disk.left_since g.D.Disk.told g.D.Disk.image g.D.Disk.faults_of g.R.Source.left g.R.Source.faults_of
    g.W.Sink.taken g.W.Sink.faults_of _ _ _ _ c.self.inside.cells _ c.args.cell c.self.invariant (sym c.take.ensures.value ∙ c.in_default.is)
    c.requires.place refl c.sub.ensures.total

use Rattle.std.proofs.Common.{◌∙◌, sym}
use Rattle.host_workers.proofs.Places.{switch_leaves}
use Rattle.host_workers.proofs.board.Board.take_switch.Goals as goal

pub invariant_of-self : goal.invariant_of-self
invariant_of-self g c =
    switch_leaves g.L.Names.names g.D.Disk.moment_of g.D.Disk.left_since g.D.Disk.told g.D.Disk.image g.D.Disk.faults_of g.R.Source.left g.R.Source.faults_of
    g.W.Sink.taken g.W.Sink.faults_of _ _ _ _ c.self.inside.cells _ c.in-Some.cell c.self.invariant (sym c.take.ensures.value ∙ c.in-Some.is) c.take.ensures.after
    c.add.ensures.total

pub returns-clause-cell : goal.returns-clause-cell
returns-clause-cell g c = c.self.invariant.named.switch c.in-Some.cell (sym c.take.ensures.value ∙ c.in-Some.is)

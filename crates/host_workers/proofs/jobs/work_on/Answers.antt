use Rattle.std.proofs.Common.{subst}
use Rattle.host_workers.specs.Board.{IsHeld}
use Rattle.host_workers.specs.declared.cells.Held.{Held}
use Rattle.host_workers.specs.declared.cells.Held.TheVariants.{Back, Switch, Lines}
use Rattle.host_workers.proofs.Holding.{back_stays, lines_stay, switch_stays}
use Rattle.host_workers.proofs.jobs.work_on.Goals as goal

pub step_back-found-requires : goal.step_back-found-requires
step_back-found-requires g c =
    let held : IsHeld g.L.Names.names g.D.Disk.moment_of g.D.Disk.left_since g.D.Disk.told g.D.Disk.image g.D.Disk.faults_of g.R.Source.left g.R.Source.faults_of
    g.W.Sink.taken g.W.Sink.faults_of (Back c.in-Back.slot c.in-Back.cell) =
    subst (λ (h : Held g.row.D.Denot g.row.R.Denot g.row.W.Denot g.row.T.Denot). IsHeld g.L.Names.names g.D.Disk.moment_of g.D.Disk.left_since g.D.Disk.told
    g.D.Disk.image g.D.Disk.faults_of g.R.Source.left g.R.Source.faults_of g.W.Sink.taken g.W.Sink.faults_of h) c.in-Back.is c.requires.held in
    let some = held.1.some in
    (some.0, some.1, held.1.back some.0 some.1 some.2)

pub returns-in-Back-clause-held : goal.returns-in-Back-clause-held
returns-in-Back-clause-held g c =
    let held : IsHeld g.L.Names.names g.D.Disk.moment_of g.D.Disk.left_since g.D.Disk.told g.D.Disk.image g.D.Disk.faults_of g.R.Source.left g.R.Source.faults_of
    g.W.Sink.taken g.W.Sink.faults_of (Back c.in-Back.slot c.in-Back.cell) =
    subst (λ (h : Held g.row.D.Denot g.row.R.Denot g.row.W.Denot g.row.T.Denot). IsHeld g.L.Names.names g.D.Disk.moment_of g.D.Disk.left_since g.D.Disk.told
    g.D.Disk.image g.D.Disk.faults_of g.R.Source.left g.R.Source.faults_of g.W.Sink.taken g.W.Sink.faults_of h) c.in-Back.is c.requires.held in
    let e = c.step_back-found.ensures in (
      held.0,
      back_stays g.D.Disk.moment_of g.D.Disk.left_since g.D.Disk.told g.D.Disk.image g.D.Disk.faults_of g.L.Names.names c.in-Back.slot c.in-Back.cell
          c.step_back-found.new.cell held.1 e.lanes e.cell e.alone,
    )

pub returns-in-Switch-clause-held : goal.returns-in-Switch-clause-held
returns-in-Switch-clause-held g c =
    let held : IsHeld g.L.Names.names g.D.Disk.moment_of g.D.Disk.left_since g.D.Disk.told g.D.Disk.image g.D.Disk.faults_of g.R.Source.left g.R.Source.faults_of
    g.W.Sink.taken g.W.Sink.faults_of (Switch c.in-Switch.cell) =
    subst (λ (h : Held g.row.D.Denot g.row.R.Denot g.row.W.Denot g.row.T.Denot). IsHeld g.L.Names.names g.D.Disk.moment_of g.D.Disk.left_since g.D.Disk.told
    g.D.Disk.image g.D.Disk.faults_of g.R.Source.left g.R.Source.faults_of g.W.Sink.taken g.W.Sink.faults_of h) c.in-Switch.is c.requires.held in
    let e = c.run_switch-found.ensures in
    switch_stays g.W.Sink.taken g.W.Sink.faults_of g.L.Names.names c.in-Switch.cell c.run_switch-found.new.cell held e.lanes e.cell e.printed

pub returns-in-Lines-clause-held : goal.returns-in-Lines-clause-held
returns-in-Lines-clause-held g c =
    let held : IsHeld g.L.Names.names g.D.Disk.moment_of g.D.Disk.left_since g.D.Disk.told g.D.Disk.image g.D.Disk.faults_of g.R.Source.left g.R.Source.faults_of
    g.W.Sink.taken g.W.Sink.faults_of (Lines c.in-Lines.cell) =
    subst (λ (h : Held g.row.D.Denot g.row.R.Denot g.row.W.Denot g.row.T.Denot). IsHeld g.L.Names.names g.D.Disk.moment_of g.D.Disk.left_since g.D.Disk.told
    g.D.Disk.image g.D.Disk.faults_of g.R.Source.left g.R.Source.faults_of g.W.Sink.taken g.W.Sink.faults_of h) c.in-Lines.is c.requires.held in
    let e = c.read_lines-found.ensures in
    lines_stay g.R.Source.left g.R.Source.faults_of g.L.Names.names c.in-Lines.cell c.read_lines-found.new.cell held e.lane e.cell e.counts e.numbers

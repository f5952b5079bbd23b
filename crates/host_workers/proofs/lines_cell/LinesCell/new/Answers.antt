use Rattle.host_workers.proofs.Numbering.{numbered_first}
use Rattle.host_workers.proofs.Reading.{begins}
use Rattle.host_workers.proofs.lines_cell.LinesCell.new.Goals as goal

pub returns-clause-cell : goal.returns-clause-cell
returns-clause-cell g c whole reading = begins g.R.Source.left whole _ c.requires reading

pub returns-clause-numbered : goal.returns-clause-numbered
returns-clause-numbered g c = numbered_first _ c.requires

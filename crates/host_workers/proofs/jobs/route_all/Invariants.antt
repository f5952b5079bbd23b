use Rattle.timeline.specs.Switch.{Switch}
use Rattle.host_workers.specs.Switches.{IsSwitchCell, KeepsPrinted, KeepsSwitchCell, SameLanes}
use Rattle.host_workers.proofs.jobs.route_all.Given as goal

-- the switch is one, by the same lanes
abbrev pub invariant-loop : goal.invariant-loop
invariant-loop g l = record {
  can : (first : Switch) × IsSwitchCell first l.cell;
  lanes : SameLanes l.fn.cell l.cell;
  keeps : KeepsSwitchCell l.fn.cell l.cell;
  printed : KeepsPrinted g.W.Sink.taken g.W.Sink.faults_of l.fn.cell.switch l.cell.switch;
}

use Rattle.std.proofs.Common.{◌-◌, ◌≡◌, ◌≤◌, false}
use Rattle.line_server.specs.Limits.{most_cut_bytes}
use Rattle.line_server.proofs.Taking.{IsTaking}
use Rattle.line_server.proofs.cut.cut.Given as goal

abbrev pub invariant-loop-line : goal.invariant-loop-line
invariant-loop-line g l = record {
  taking : IsTaking g.R.Source.left l.initial.bytes l.bytes l.line;
  going : l.bytes.ended ≡ false;
  room : l.line.length ≤ most_cut_bytes;
  steady : g.R.Source.faults_of l.bytes.source ≡ g.R.Source.faults_of l.initial.bytes.source;
}

abbrev pub decreases-loop-line : goal.decreases-loop-line
decreases-loop-line g l = most_cut_bytes - l.line.length

use Rattle.std.proofs.Common.{◌-◌, ◌≡◌, ◌≤◌, None, false}
use Rattle.line_server.specs.Limits.{most_lines}
use Rattle.line_server.proofs.ReadOn.{Stays}
use Rattle.line_server.proofs.lines.Lines.read.Given as goal

abbrev pub invariant-loop-self : goal.invariant-loop-self
invariant-loop-self g l = record {
  stays : Stays g.R.Source.left l.initial.self l.self;
  going : l.self.bytes.ended ≡ false;
  good : l.self.fault ≡ None;
  counted : l.initial.self.count ≤ l.self.count;
  steady : g.R.Source.faults_of l.self.bytes.source ≡ g.R.Source.faults_of l.initial.self.bytes.source;
}

abbrev pub decreases-loop-self : goal.decreases-loop-self
decreases-loop-self g l = most_lines - l.self.count

use Rattle.std.proofs.Common.{◌-◌, ◌≡◌, ◌≤◌, ◌++◌, length, take, option_map}
use Rattle.line_server.proofs.write.put.Given as goal

abbrev pub invariant-loop-at : goal.invariant-loop-at
invariant-loop-at g l = record {
  within : l.at ≤ length l.bytes;
  taken : g.W.Sink.taken l.sink ≡ option_map (λ taken. taken ++ take l.at l.bytes) (g.W.Sink.taken l.initial.sink);
  steady : g.W.Sink.faults_of l.sink ≡ g.W.Sink.faults_of l.initial.sink;
}

abbrev pub decreases-loop-at : goal.decreases-loop-at
decreases-loop-at g l = length l.bytes - l.at

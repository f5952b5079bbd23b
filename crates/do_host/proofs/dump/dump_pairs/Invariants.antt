use Rattle.std.specs.Prelude.{◌≡◌}
use Rattle.do_host.proofs.Dumping.{IsPrinted}
use Rattle.do_host.proofs.dump.dump_pairs.Given as goal

-- the pairs so far were printed, and those to come are the others
abbrev pub invariant-loop-pair : goal.invariant-loop-pair
invariant-loop-pair g l = record {
  printed : IsPrinted l.slot (g.W.Sink.taken l.initial.out) (g.W.Sink.taken l.out) l.pair-iterator.rest.items l.fn.pairs.items;
  steady : g.W.Sink.faults_of l.out ≡ g.W.Sink.faults_of l.initial.out;
}

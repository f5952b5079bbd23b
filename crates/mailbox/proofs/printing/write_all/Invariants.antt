use Rattle.std.proofs.Common.{◌≡◌, ◌++◌, map}
use Rattle.mailbox.specs.Written.{Writes}
use Rattle.mailbox.proofs.printing.write_all.Given as goal

-- what was printed and what is left are all that is to be printed
abbrev pub invariant-loop-item : goal.invariant-loop-item
invariant-loop-item g l = record {
  logged : l.log.items ++ map (λ line. line.1) l.item-iterator.rest.items ≡ l.fn.log.items ++ map (λ line. line.1) l.fn.lines.items;
  written : Writes (g.W.Sink.taken l.fn.out) (g.W.Sink.taken l.out) l.fn.log.items l.log.items;
  steady : g.W.Sink.faults_of l.out ≡ g.W.Sink.faults_of l.fn.out;
}

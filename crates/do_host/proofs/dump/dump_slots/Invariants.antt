use Rattle.std.specs.Prelude.{◌≡◌, ◌++◌, length, map}
use Rattle.host_core.specs.declared.report.SlotReport.{SlotReport}
use Rattle.do_host.specs.Dump.{slots_text}
use Rattle.do_host.proofs.Dumped.{ArePrinted}
use Rattle.do_host.proofs.dump.dump_slots.Given as goal

-- the slots so far were printed, and those to come are the others
abbrev pub invariant-loop-stored : goal.invariant-loop-stored
invariant-loop-stored g l = record {
  all : l.fn.storages.items ≡ l.yielded ++ l.stored-iterator.rest.items;
  slot : l.slot ≡ length l.yielded;
  printed : ArePrinted (g.W.Sink.taken l.initial.out) (g.W.Sink.taken l.out) l.slot (map (λ (row : SlotReport g.row.S.Denot). row.identity) l.rows) l.stored-iterator.rest.items
      (slots_text 0 (map (λ (row : SlotReport g.row.S.Denot). row.identity) l.rows) l.fn.storages.items);
  steady : g.W.Sink.faults_of l.out ≡ g.W.Sink.faults_of l.initial.out;
}

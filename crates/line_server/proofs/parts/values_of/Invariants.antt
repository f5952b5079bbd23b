use Rattle.line_server.proofs.Values.{AreDone}
use Rattle.line_server.proofs.parts.values_of.Given as goal

abbrev pub invariant-loop-item : goal.invariant-loop-item
invariant-loop-item l = AreDone l.items l.item-index l.values.items

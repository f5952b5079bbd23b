use Rattle.std.proofs.Common.{◌≡◌, map}
use Rattle.mailbox.specs.Taken.{AreEmpty, SameInlets}
use Rattle.mailbox.proofs.taking.take_first.Given as goal

-- the lanes that were looked at are empty
abbrev pub invariant-loop-slot : goal.invariant-loop-slot
invariant-loop-slot g l = record {
  empty : AreEmpty g.O.Inlet.got g.O.Inlet.told l.from l.slot l.initial.outs;
  same : map g.O.Inlet.got l.outs ≡ map g.O.Inlet.got l.initial.outs;
  ends : SameInlets g.O.Inlet.inlet g.O.Inlet.told l.initial.outs l.outs;
}

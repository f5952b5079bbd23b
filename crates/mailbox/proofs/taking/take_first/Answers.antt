use Rattle.std.proofs.Common.{◌<◌, ◌∙◌, length, arith}
use Rattle.mailbox.proofs.Sendings.{set_same}
use Rattle.mailbox.proofs.Takings.{empty_on, got_one}
use Rattle.mailbox.proofs.taking.take_first.Goals as goal

pub returns-in-Some-clause-some : goal.returns-in-Some-clause-some
returns-in-Some-clause-some g c =
    let within : c.loop-slot.slot < length c.loop-slot.outs = omega (arith, c.loop-slot-test.true, c.requires.within, c.loop-slot.auto.outs) in
    got_one g.O.Inlet.got g.O.Inlet.told c.args.outs.now c.loop-slot.outs c.loop-slot.slot c.index-outs-slot.result within c.loop-slot.invariant.same
    c.take.new.self c.in-Some.message c.in-Some.ensures.some

pub returns-in-Some-clause-ends : goal.returns-in-Some-clause-ends
returns-in-Some-clause-ends g c = record {
  lanes = set_same g.O.Inlet.inlet c.loop-slot.outs c.loop-slot.slot c.index-outs-slot.result c.take.new.self c.take.ensures.lane ∙ c.loop-slot.invariant.ends.lanes;
  known = set_same g.O.Inlet.told c.loop-slot.outs c.loop-slot.slot c.index-outs-slot.result c.take.new.self c.take.ensures.told ∙ c.loop-slot.invariant.ends.known;
}

pub loop-slot-preserved : goal.loop-slot-preserved
loop-slot-preserved g c =
    let within : c.loop-slot.slot < length c.loop-slot.outs = omega (arith, c.loop-slot-test.true, c.requires.within, c.loop-slot.auto.outs) in
    record {
      empty = empty_on g.O.Inlet.got g.O.Inlet.told c.args.outs.now c.loop-slot.outs c.loop-slot.slot c.index-outs-slot.result within c.loop-slot.invariant.same
          c.args.from c.loop-slot.invariant.ends.known c.in_default.ensures.none.1 c.loop-slot.invariant.empty;
      same = set_same g.O.Inlet.got c.loop-slot.outs c.loop-slot.slot c.index-outs-slot.result c.take.new.self c.in_default.ensures.none.0 ∙ c.loop-slot.invariant.same;
      ends = record {
        lanes = set_same g.O.Inlet.inlet c.loop-slot.outs c.loop-slot.slot c.index-outs-slot.result c.take.new.self c.take.ensures.lane ∙ c.loop-slot.invariant.ends.lanes;
        known = set_same g.O.Inlet.told c.loop-slot.outs c.loop-slot.slot c.index-outs-slot.result c.take.new.self c.take.ensures.told ∙ c.loop-slot.invariant.ends.known;
      };
    }

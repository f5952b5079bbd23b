use Rattle.std.proofs.Common.{◌∙◌, sym, append-nil, arith}
use Rattle.output_gate.specs.Held.{stays}
use Rattle.output_gate.proofs.Helds.{gone_first, gone_all}
use Rattle.output_gate.proofs.held.discard_all.Goals as goal

pub loop-init : goal.loop-init
loop-init c = (sym (append-nil c.args.held.now.items), omega arith, c.len-end.ensures ∙ c.args.held.now.ok.0)

pub loop-preserved : goal.loop-preserved
loop-preserved c =
    let i = c.loop.invariant in (
      gone_first (stays c.args.durable c.args.number c.args.cause) c.args.held.now.items c.loop.held.items c.discard_first.new.held.items c.loop.counter (omega (arith, c.loop-test.true, i.2)) i.0 c.discard_first.ensures,
      omega (arith, c.loop-test.true),
      i.2,
    )

pub returns : goal.returns
returns c =
    let i = c.loop.invariant in
    gone_all (stays c.args.durable c.args.number c.args.cause) c.args.held.now.items c.loop.held.items c.loop.counter (omega (arith, i.1, i.2, c.loop-test.false)) i.0

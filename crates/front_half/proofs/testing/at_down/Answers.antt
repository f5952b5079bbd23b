use Rattle.std.proofs.Common.{◌∙◌, sym}
use Rattle.front_half.proofs.Judging.{down_wants, down_stale}
use Rattle.front_half.proofs.testing.at_down.Goals as goal

pub returns-then-is_call : goal.returns-then-is_call
returns-then-is_call c = sym (down_wants c.args.now c.args.event.now (sym c.is_call.ensures ∙ c.if-is_call.true))

pub returns : goal.returns
returns c = c.stale.ensures ∙ sym (down_stale c.args.now c.args.event.now (sym c.is_call.ensures ∙ c.if-is_call.false))

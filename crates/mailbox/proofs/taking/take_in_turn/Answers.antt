use Rattle.std.proofs.Common.{◌∙◌}
use Rattle.mailbox.proofs.Takings.{empty_both, none_then}
use Rattle.mailbox.proofs.taking.take_in_turn.Goals as goal

pub returns-in-None-clause-none : goal.returns-in-None-clause-none
returns-in-None-clause-none g c =
    let after = c.take_first.new.outs in
    let high = c.in-None.ensures.none in
    none_then c.take_first-in-None.result
    (λ low. (empty_both g.O.Inlet.got g.O.Inlet.told c.args.outs.now after high.1 c.args.first c.args.count c.take_first.ensures.ends.known high.0 low.0, low.1 ∙ high.1))
    c.take_first-in-None.ensures.none

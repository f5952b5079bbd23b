use Rattle.std.proofs.Common.{◌∙◌, sym}
use Rattle.front_half.proofs.Left.{from_delivered, from_sent, left_stands}
use Rattle.front_half.proofs.half.Half.remaining.Goals as goal

pub returns : goal.returns
returns g c = λ script st is free.
    left_stands g.T.Task.seen script c.args.self.now st c.as_slice.result.now _ is free
    (c.as_slice.ensures.value ∙ c.in_ok-deferred.ensures)
    c.in_ok-left.ensures

pub remaining_at-requires-clause-delivered : goal.remaining_at-requires-clause-delivered
remaining_at-requires-clause-delivered g c = from_delivered g.T.Task.seen c.requires.0 c.args.self.now c.requires.1 (sym c.waits.ensures ∙ c.if-waits.false)

pub remaining_at-requires-clause-sent : goal.remaining_at-requires-clause-sent
remaining_at-requires-clause-sent g c = from_sent g.T.Task.seen c.requires.0 c.args.self.now c.requires.1 (sym c.waits.ensures ∙ c.if-waits.false)

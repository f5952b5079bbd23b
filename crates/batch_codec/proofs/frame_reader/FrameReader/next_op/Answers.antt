use Rattle.std.proofs.Common.{sym, ap, ◌∙◌}
use Rattle.batch_codec.specs.Formats.{limits_of}
use Rattle.batch_codec.specs.Lent.{ToRead}
use Rattle.batch_codec.proofs.Formats.{allows_no_more}
use Rattle.batch_codec.proofs.ToRead.{next_unread, at_front, after_op, next_shown}
use Rattle.batch_codec.proofs.frame_reader.FrameReader.next_op.Goals as goal

pub returns-in_default-view_op-clause-refused : goal.returns-in_default-view_op-clause-refused
returns-in_default-view_op-clause-refused c = λ refused.
    let hand = rw c.in-Some.is at c.in_ok-hand.ensures.read in
    let next = c.in-Some.hand in
    sym (ap (λ (r : ToRead). r.ops) c.self.view_is) ∙ hand.same ∙ next_unread (limits_of c.self.inside.format) next.left next.more next.begun next.rest.now hand.some c.in_default-view_op.ensures

pub invariant_of-self : goal.invariant_of-self
invariant_of-self c =
    let hand = rw c.in-Some.is at c.in_ok-hand.ensures.read in
    let old = c.self.inside.hand in
    let next = c.in-Some.hand in
    let front = at_front (limits_of c.self.inside.format) c.self.inside.payload.now old.rest.now next.rest.now old.left old.more old.begun next.left next.more next.begun c.self.invariant.0 hand in
    (after_op (limits_of c.self.inside.format) c.self.inside.payload.now next.rest.now c.in-Some-view_op.rest.now next.begun c.in-Some-view_op.view front c.in-Some-view_op.ensures, c.self.invariant.1)

pub returns-clause-read : goal.returns-clause-read
returns-clause-read c =
    let hand = rw c.in-Some.is at c.in_ok-hand.ensures.read in
    let old = c.self.inside.hand in
    let next = c.in-Some.hand in
    next_shown (limits_of c.self.inside.format) (allows_no_more c.self.inside.format) c.self.inside.payload.now old.rest.now next.rest.now c.in-Some-view_op.rest.now (c.self.inside.class.now, c.self.inside.name.now)
    old.left old.more old.begun next.left next.more next.begun c.in-Some-view_op.view c.args.self.now c.self.invariant.0 hand c.in-Some-view_op.ensures c.self.view_is

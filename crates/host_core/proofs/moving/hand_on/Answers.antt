use Rattle.host_core.proofs.Movements.{handed_none, handed_more, hands_all, hands_stop}
use Rattle.host_core.proofs.moving.hand_on.Goals as goal

pub loop-message-init : goal.loop-message-init
loop-message-init g c = record { one = λ script origin one. one; handed = handed_none c.args.core.now c.args.out.now }

pub loop-message-preserved : goal.loop-message-preserved
loop-message-preserved g c =
    let i = c.loop-message.invariant in
    record {
      one = λ script origin one. c.collect.ensures.one script origin (i.one script origin one);
      handed = handed_more c.args.core.now c.loop-message.core c.collect.new.self c.args.out.now c.loop-message.out c.put.new.out c.in-Some.message i.handed
          c.in-Some.ensures.some c.put.ensures.got c.in_ok-put.ensures.sent;
    }

pub returns-in_err-put-clause-hands : goal.returns-in_err-put-clause-hands
returns-in_err-put-clause-hands g c =
    hands_stop c.args.core.now c.loop-message.core c.collect.new.self c.args.out.now c.loop-message.out c.put.new.out c.in-Some.message c.loop-message.invariant.handed
    c.in-Some.ensures.some c.in_err-put.ensures.same c.from_residual.result c.from_residual.ensures.0

pub returns-in_err-put-clause-one : goal.returns-in_err-put-clause-one
returns-in_err-put-clause-one g c script origin one = c.collect.ensures.one script origin (c.loop-message.invariant.one script origin one)

pub returns-clause-hands : goal.returns-clause-hands
returns-clause-hands g c =
    hands_all c.args.core.now c.loop-message.core c.collect.new.self c.args.out.now c.loop-message.out c.loop-message.invariant.handed c.in_default.ensures.none.0 c.in_default.ensures.none.1

pub returns-clause-one : goal.returns-clause-one
returns-clause-one g c script origin one = c.collect.ensures.one script origin (c.loop-message.invariant.one script origin one)

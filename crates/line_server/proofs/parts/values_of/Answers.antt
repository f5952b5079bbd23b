use Rattle.line_server.proofs.Values.{done_none, done_on, done_fail, done_all}
use Rattle.line_server.proofs.parts.values_of.Goals as goal

pub loop-item-init : goal.loop-item-init
loop-item-init c = done_none c.args.items.now _ c.new-values.ensures.items

pub loop-item-preserved : goal.loop-item-preserved
loop-item-preserved c =
    done_on c.args.items.now c.loop-item.item-index c.item-item.result _ _ c.in_ok-value.field-0 c.in-Some.value c.loop-item-test.true c.item-item.is c.loop-item.invariant
    c.in_ok-value.ensures c.in-Some.is c.in_ok-add.ensures

pub returns-in_default : goal.returns-in_default
returns-in_default c =
    done_fail c.args.items.now c.loop-item.item-index c.item-item.result _ c.in_ok-value.field-0 c.loop-item-test.true c.item-item.is c.loop-item.invariant c.in_ok-value.ensures c.in_default.is

pub returns : goal.returns
returns c = rw c.new.ensures (done_all c.args.items.now c.loop-item.item-index _ c.loop-item-test.false c.loop-item.invariant)

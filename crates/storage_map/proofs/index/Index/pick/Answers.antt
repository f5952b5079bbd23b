use Rattle.std.proofs.Common.{arith, ◌≤◌, length}
use Rattle.storage_map.proofs.Picking.{none_picked, picked_next, picked_end}
use Rattle.storage_map.proofs.index.Index.pick.Goals as goal

pub loop-key-init : goal.loop-key-init
loop-key-init c = none_picked c.args.self.now.places c.new-found.result c.new-found.ensures

pub loop-key-preserved : goal.loop-key-preserved
loop-key-preserved c = picked_next c.args.self.now.places c.loop-key.found c.add_found.new.found c.as_slice-key-items.result.now c.loop-key.key-index c.key-item.result c.loop-key-test.true c.key-item.is c.in_ok-add_found.ensures c.loop-key.invariant

pub returns-clause-part : goal.returns-clause-part
returns-clause-part c =
    let all : length c.as_slice-key-items.result.now ≤ c.loop-key.key-index = omega arith in
    picked_end c.args.self.now.places c.loop-key.found c.as_slice-key-items.result.now c.args.keys.now c.loop-key.key-index all c.as_slice-key-items.ensures c.loop-key.invariant

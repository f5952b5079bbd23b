use Rattle.std.proofs.Common.{◌≡◌, drop}
use Rattle.serde_json.specs.View.{items_view, members_view}
use Rattle.do_wire.specs.Numbers.{item_numbers, member_numbers, first_fault}
use Rattle.do_wire.proofs.Again.{AreSameItems, AreSameMembers}
use Rattle.do_wire.proofs.numbers.+faults.Given as goal

abbrev pub invariant-fault_in_items-loop-item : goal.invariant-fault_in_items-loop-item
invariant-fault_in_items-loop-item l = record {
  fault : first_fault (item_numbers (items_view l.item-items)) ≡ first_fault (item_numbers (items_view (drop l.item-index l.item-items)));
  same : AreSameItems (drop l.item-index l.item-items) → AreSameItems l.item-items;
}

abbrev pub invariant-fault_in_members-loop-part : goal.invariant-fault_in_members-loop-part
invariant-fault_in_members-loop-part l = record {
  fault : first_fault (member_numbers (members_view l.members.entries)) ≡ first_fault (member_numbers (members_view l.part-iterator));
  same : AreSameMembers l.part-iterator → AreSameMembers l.members.entries;
}

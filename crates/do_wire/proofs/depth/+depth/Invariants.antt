use Rattle.std.proofs.Common.{◌↔◌, ◌≤◌, drop}
use Rattle.serde_json.specs.View.{items_view, members_view}
use Rattle.do_value.specs.Tree.{greatest_depth, greatest_pair_depth}
use Rattle.do_wire.specs.Reading.{trees_in_items, pairs_in_members}
use Rattle.do_wire.proofs.depth.+depth.Given as goal

abbrev pub invariant-items_nest_within-loop-item : goal.invariant-items_nest_within-loop-item
invariant-items_nest_within-loop-item l =
    (greatest_depth (trees_in_items (items_view l.item-items)) ≤ l.levels) ↔ (greatest_depth (trees_in_items (items_view (drop l.item-index l.item-items))) ≤ l.levels)

abbrev pub invariant-members_nest_within-loop-part : goal.invariant-members_nest_within-loop-part
invariant-members_nest_within-loop-part l =
    (greatest_pair_depth (pairs_in_members (members_view l.members.entries)) ≤ l.levels) ↔ (greatest_pair_depth (pairs_in_members (members_view l.part-iterator)) ≤ l.levels)

use Rattle.std.proofs.Common.{◌≡◌, ◌+◌, ◌*◌, List, ◌++◌, map, take}
use Rattle.serde_json.proofs.Views.{Entry}
use Rattle.serde_json.specs.View.{view, items_view, members_view}
use Rattle.do_value.specs.Tree.{depth_of, list, rec}
use Rattle.do_value.specs.Seen.{trees_in, pairs_in}
use Rattle.do_wire.specs.Reading.{tree_in, trees_in_items, pairs_in_members}
use Rattle.do_wire.proofs.Walked.{pair_in}
use Rattle.do_wire.proofs.read.+build.Given as goal

abbrev pub decreases-build : goal.decreases-build
decreases-build l = 1 + 2 * depth_of (tree_in (view l.json.now))

abbrev pub decreases-build_list : goal.decreases-build_list
decreases-build_list l = 2 * depth_of (list (trees_in_items (items_view l.items.now.items)))

abbrev pub decreases-build_record : goal.decreases-build_record
decreases-build_record l = 2 * depth_of (rec (pairs_in_members (members_view l.members.now.entries)))

abbrev pub invariant-build_list-loop-item : goal.invariant-build_list-loop-item
invariant-build_list-loop-item l = trees_in l.values.items ≡ map (λ j. tree_in (view j)) (take l.item-index l.item-items)

abbrev pub invariant-build_record-loop-name : goal.invariant-build_record-loop-name
invariant-build_record-loop-name l =
    (done : List Entry) × (l.members.entries ≡ done ++ l.name-iterator) × (pairs_in l.pairs.items ≡ map pair_in done)

use Rattle.std.proofs.Common.{◌≡◌, ◌+◌, ◌*◌, map, take}
use Rattle.serde_json.specs.View.{view, members_view}
use Rattle.do_value.specs.Tree.{items, fields, depth_of, pairs_of}
use Rattle.do_value.specs.Seen.{tree_of, pairs_in}
use Rattle.do_wire.specs.Json.{json_of, members_of}
use Rattle.do_wire.proofs.print.+print.Given as goal

abbrev pub decreases-to_json : goal.decreases-to_json
decreases-to_json l = 1 + 2 * depth_of (tree_of l.value.now)

abbrev pub decreases-list_to_json : goal.decreases-list_to_json
decreases-list_to_json l = 2 * depth_of (items l.list.now)

abbrev pub decreases-record_to_json : goal.decreases-record_to_json
decreases-record_to_json l = 2 * depth_of (fields l.of.now)

abbrev pub invariant-list_to_json-loop-part : goal.invariant-list_to_json-loop-part
invariant-list_to_json-loop-part l = map view l.values.items ≡ map (λ v. json_of (tree_of v)) (take l.part-index l.part-items)

abbrev pub invariant-record_to_json-loop-key : goal.invariant-record_to_json-loop-key
invariant-record_to_json-loop-key l = members_view l.members.entries ≡ members_of (pairs_of (pairs_in (take l.key-index l.key-items)))

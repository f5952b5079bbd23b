use Rattle.std.proofs.Common.{◌+◌, ◌*◌}
use Rattle.do_value.specs.Tree.{items, fields, depth_of}
use Rattle.do_value.specs.Seen.{tree_of}
use Rattle.test_rows.proofs.tell.+tell.Given as goal

abbrev pub decreases-tell_value : goal.decreases-tell_value
decreases-tell_value l = 1 + 2 * depth_of (tree_of l.value.now)

abbrev pub decreases-tell_list : goal.decreases-tell_list
decreases-tell_list l = 2 * depth_of (items l.list.now)

abbrev pub decreases-tell_record : goal.decreases-tell_record
decreases-tell_record l = 2 * depth_of (fields l.of.now)

use Rattle.std.proofs.Common.{◌≡◌, drop}
use Rattle.do_tree.specs.Names.{are_part_steps}
use Rattle.do_tree.specs.Nodes.{links_in}
use Rattle.do_check.proofs.path.are_part_steps.Given as goal

abbrev pub invariant-loop-link : goal.invariant-loop-link
invariant-loop-link l = are_part_steps (links_in (drop l.link-index l.links)) ≡ are_part_steps (links_in l.links)

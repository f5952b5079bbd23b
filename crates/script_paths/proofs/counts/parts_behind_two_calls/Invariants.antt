use Rattle.std.proofs.Common.{◌≡◌, ◌≤◌, length}
use Rattle.do_tree.specs.Nodes.{links_in}
use Rattle.script_mean.specs.Paths.{parts_behind_two_calls}
use Rattle.script_paths.proofs.counts.parts_behind_two_calls.Given as goal

-- no call stood before
abbrev pub invariant-loop-rest : goal.invariant-loop-rest
invariant-loop-rest l = record {
  same : parts_behind_two_calls (links_in l.rest) ≡ parts_behind_two_calls (links_in l.links);
  room : length l.rest ≤ length l.links;
}

abbrev pub decreases-loop-rest : goal.decreases-loop-rest
decreases-loop-rest l = length l.rest

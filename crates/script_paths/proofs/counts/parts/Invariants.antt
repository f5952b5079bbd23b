use Rattle.std.proofs.Common.{◌≡◌, ◌+◌, ◌≤◌, length}
use Rattle.do_tree.specs.Nodes.{links_in}
use Rattle.script_mean.specs.Paths.{parts}
use Rattle.script_paths.proofs.counts.parts.Given as goal

-- those so far and those to come are all
abbrev pub invariant-loop-rest : goal.invariant-loop-rest
invariant-loop-rest l = record {
  all : l.count + parts (links_in l.rest) ≡ parts (links_in l.links);
  room : l.count + length l.rest ≤ length l.links;
}

abbrev pub decreases-loop-rest : goal.decreases-loop-rest
decreases-loop-rest l = length l.rest

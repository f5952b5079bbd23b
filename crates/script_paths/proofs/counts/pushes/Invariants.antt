use Rattle.std.proofs.Common.{◌≡◌, length}
use Rattle.do_tree.specs.Nodes.{links_in}
use Rattle.script_mean.specs.Paths.{pushes}
use Rattle.script_paths.proofs.counts.pushes.Given as goal

abbrev pub invariant-loop-rest : goal.invariant-loop-rest
invariant-loop-rest l = pushes (links_in l.rest) ≡ pushes (links_in l.links)

abbrev pub decreases-loop-rest : goal.decreases-loop-rest
decreases-loop-rest l = length l.rest

use Rattle.std.proofs.Common.{◌≡◌, ◌+◌, ◌≤◌, length, option_map}
use Rattle.do_tree.specs.Nodes.{links_in}
use Rattle.script_paths.specs.Onward.{first_call}
use Rattle.script_paths.proofs.classes.first_call.Given as goal

-- only fields stood before
abbrev pub invariant-loop-rest : goal.invariant-loop-rest
invariant-loop-rest l = record {
  same : first_call (links_in l.links) ≡ option_map (λ k. l.place + k) (first_call (links_in l.rest));
  room : l.place + length l.rest ≤ length l.links;
}

abbrev pub decreases-loop-rest : goal.decreases-loop-rest
decreases-loop-rest l = length l.rest

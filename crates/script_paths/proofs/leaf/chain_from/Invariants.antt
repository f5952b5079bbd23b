use Rattle.std.proofs.Common.{◌≡◌, ◌+◌, length}
use Rattle.do_tree.specs.Nodes.{operands_in}
use Rattle.do_value.specs.Seen.{tree_of}
use Rattle.script_mean.specs.Calls.{Calls}
use Rattle.script_mean.specs.Meaning.{strict}
use Rattle.script_mean.specs.Turn.{Next, State}
use Rattle.script_steps.specs.Parts.{operands_from}
use Rattle.script_steps.specs.Seen.{charged}
use Rattle.script_vars.specs.Seen.{env_of}
use Rattle.script_paths.proofs.leaf.chain_from.Given as goal

abbrev pub invariant-loop-place : goal.invariant-loop-place
invariant-loop-place l = record {
  cost : l.cost ≡ length l.rest + 1 + l.place;
  same : (calls : Calls) (next : Next) (st : State) → charged (length l.rest + 1) (strict calls (tree_of l.fn.first) (operands_in l.rest)) (env_of l.vars) next st
      ≡ charged l.cost (strict calls (tree_of l.left) (operands_from l.place (operands_in l.rest))) (env_of l.vars) next st;
}

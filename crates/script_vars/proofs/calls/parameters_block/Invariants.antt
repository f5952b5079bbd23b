use Rattle.std.proofs.Common.{◌≡◌, [], drop, map, reverse}
use Rattle.do_value.specs.Seen.{trees_in}
use Rattle.do_tree.specs.Seen.{named_of}
use Rattle.script_mean.specs.Meaning.{with_parameters}
use Rattle.script_vars.specs.Seen.{scope_of}
use Rattle.script_vars.proofs.calls.parameters_block.Given as goal

-- what is left to bind, begun with what is bound, gives the block
abbrev pub invariant-loop-parameter : goal.invariant-loop-parameter
invariant-loop-parameter l =
    with_parameters (map named_of (drop l.parameter-index l.parameters)) (trees_in (reverse l.left.items)) (scope_of l.block)
    ≡ with_parameters (map named_of l.parameters) (trees_in l.fn.values.items) []

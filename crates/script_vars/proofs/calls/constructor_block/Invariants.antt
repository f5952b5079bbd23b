use Rattle.std.proofs.Common.{◌≡◌, [], drop, map}
use Rattle.do_tree.specs.Seen.{named_of}
use Rattle.script_mean.specs.Meaning.{with_given}
use Rattle.script_vars.specs.Seen.{scope_of}
use Rattle.script_vars.proofs.calls.constructor_block.Given as goal

-- what is left to bind, begun with what is bound, gives the block
abbrev pub invariant-loop-parameter : goal.invariant-loop-parameter
invariant-loop-parameter l =
    with_given (map named_of (drop l.parameter-index l.parameters)) (scope_of l.block)
    ≡ with_given (map named_of l.parameters) []

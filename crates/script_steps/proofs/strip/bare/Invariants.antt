use Rattle.std.proofs.Common.{◌≡◌}
use Rattle.do_tree.specs.Seen.{expr_of}
use Rattle.script_mean.specs.Calls.{Calls}
use Rattle.script_mean.specs.Meaning.{value}
use Rattle.script_steps.specs.Parts.{coats}
use Rattle.script_steps.specs.Paths.{is_present}
use Rattle.script_steps.proofs.strip.bare.Given as goal

abbrev pub invariant-loop-within : goal.invariant-loop-within
invariant-loop-within l = (calls : Calls) → value (is_present l.fn.awaited) calls (expr_of l.fn.expr.value) ≡ value (is_present l.around) calls (expr_of l.inner.value)

abbrev pub decreases-loop-within : goal.decreases-loop-within
decreases-loop-within l = coats (expr_of l.inner.value)

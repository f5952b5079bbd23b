use Rattle.std.proofs.Common.{sym, subst, arith}
use Rattle.std.proofs.lemmas.List.{length-map}
use Rattle.do_value.specs.Seen.{tree_of}
use Rattle.script_places.specs.Steps.{step_of, steps_in, change_of}
use Rattle.script_places.specs.Changes.{Allows}
use Rattle.script_places.specs.Writes.{written}
use Rattle.script_places.proofs.Steps.{allows_value}
use Rattle.script_places.proofs.writes.allow.Goals as goal

pub returns : goal.returns
returns c =
    subst (λ answer. Allows (written (steps_in c.args.steps.now) (change_of c.args.write.now) (tree_of c.args.whole.now)) answer) (sym c.within_limits.ensures)
    (allows_value c.args.write.now (steps_in c.args.steps.now) (tree_of c.args.whole.now) c.in_ok-size.size c.saturating_add-depth.result c.in_ok-size.ensures
    (omega (arith, c.depth.ensures.value, c.depth.ensures.limit))
    (omega (arith, c.saturating_add-depth.ensures, c.levels.ensures, length-map c.args.steps.now step_of)))

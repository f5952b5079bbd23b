use Rattle.std.proofs.Common.{◌≡◌, ◌∷◌, drop, arith}
use Rattle.std.proofs.lemmas.Grind.{common_steps}
use Rattle.do_value.specs.Seen.{tree_of}
use Rattle.script_steps.proofs.Turns.{visit_some}
use Rattle.script_steps.proofs.block.visit_from.Goals as goal

pub returns-in_ok-inner-in-Some-clause-moves : goal.returns-in_ok-inner-in-Some-clause-moves
returns-in_ok-inner-in-Some-clause-moves c =
    let found : drop c.args.place c.args.items ≡ tree_of c.in-Some.value ∷ drop c.in-Some.next c.args.items = grind (arith, common_steps) in
    λ calls. visit_some calls c.args.node c.in_ok-inner-in-Some.inner _ _ _ found c.in_ok-inner-in-Some.ensures

use Rattle.std.proofs.Common.{◌≡◌, ◌∙◌, ap, sym, []}
use Rattle.timeline.specs.Logs.{Backed}
use Rattle.host_core.specs.RowExamples.{wiped}
use Rattle.host_core.proofs.row_examples.unknown_class_writes_nothing.Goals as goal

pub returns : goal.returns
returns g c posts routed remaining row is untouched =
    let none : wiped.taken ≡ [] = sym (ap (λ (log : Backed). log.taken) is) ∙ untouched.taken in
    absurd cc

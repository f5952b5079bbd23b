use Rattle.std.proofs.Common.{◌≡◌, ◌∙◌, ap, sym, [], None}
use Rattle.object_front.specs.Classed.{class_by}
use Rattle.timeline.specs.Logs.{Fronted}
use Rattle.host_core.specs.RowExamples.{answered_unbound}
use Rattle.host_core.proofs.row_examples.unbound_answers_nothing.Goals as goal

pub returns : goal.returns
returns g c limit script content posts routed row is_told is row_is =
    let done = (row_is.meaning is_told).unbound (ap (class_by script None) is) in
    let none : answered_unbound.sent ≡ [] = sym (ap (λ (log : Fronted). log.sent) is) ∙ done.said.sent in
    absurd cc

use Rattle.std.proofs.Common.{◌+◌, ◌≤◌, sym, refl, subst, arith, Option}
use Rattle.batch_journal.proofs.Nameless.{marker_at_most}
use Rattle.batch_journal.specs.Frames.{header_end}
use Rattle.storage_map.specs.Limits.{Object}
use Rattle.timeline.specs.History.{history}
use Rattle.timeline.specs.Logs.{Backed, fronted}
use Rattle.output_gate.proofs.Unfilled.{fills_nothing}
use Rattle.output_gate.specs.Examples.{some_object}
use Rattle.output_gate.specs.Kept.{MayBe}
use Rattle.output_gate.specs.Written.{AreFilled}
use Rattle.host_core.proofs.row_examples.small_writes_fill_no_slot.Goals as goal

pub returns : goal.returns
returns g c script content posts routed row is_told is named row_is =
    let few = marker_at_most row_is.begun.stand.0 row_is.begun.frames row_is.begun.stand.1.each row_is.begun.names in
    let short : row_is.origin.extent.end ≤ header_end + 45 = omega (arith, row_is.begun.end, few) in
    let may : MayBe row.identity some_object = subst (λ (o : Option Object). MayBe o some_object) (sym named) refl in
    fills_nothing (fronted row.front) row_is.origin.extent.end short
    (subst (λ (log : Backed). AreFilled 4096 row_is.origin.extent.end some_object (history (fronted row.front) log)) is ((row_is.kept is_told).filled some_object may))

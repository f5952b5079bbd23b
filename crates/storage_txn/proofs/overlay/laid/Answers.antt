use Rattle.std.proofs.Common.{ap, ◌∙◌}
use Rattle.std.specs.FinMap.{from_entries}
use Rattle.storage_map.specs.Contents.{Contents}
use Rattle.storage_map.specs.Readings.{reading}
use Rattle.storage_txn.proofs.Views.{view_pairs}
use Rattle.storage_txn.proofs.overlay.laid.Goals as goal

pub returns : goal.returns
returns c =
    let ask = c.args.ask.now in
    c.in_ok-reading.ensures
    ∙ ap (λ (m : Contents). reading m ask) c.of.ensures
    ∙ view_pairs c.args.ops.now c.args.places.now.count ask c.args.below.now c.fill.new.values c.lay.new.values c.do_all.new.values c.requires.kind (c.in_ok-fill.ensures ∙ ap from_entries c.as_slice.ensures.pairs) c.in_ok-lay.ensures c.in_ok-do_all.ensures

use Rattle.std.proofs.Common.{sym, ap, ◌∙◌}
use Rattle.std.specs.FinMap.{FinMap, entries}
use Rattle.storage_map.specs.Contents.{by_bytes}
use Rattle.storage_map.specs.Kept.{with_bytes}
use Rattle.storage_map.proofs.Finite.{entries_kept}
use Rattle.storage_map.proofs.by_key.ByKey.pairs.Goals as goal

pub returns : goal.returns
returns g c =
    ap with_bytes c.iter.ensures.rest
    ∙ sym (entries_kept c.self.inside.entries c.self.invariant)
    ∙ ap (λ (m : FinMap by_bytes g.row.V.Denot). entries m) c.self.view_is

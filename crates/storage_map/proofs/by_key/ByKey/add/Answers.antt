use Rattle.std.proofs.Common.{ℕ, ◌≤◌, List, length, arith, subst, sym, ap, ◌∙◌}
use Rattle.std.specs.List.{AllByRecursion}
use Rattle.std.specs.FinMap.{FinMap, insert}
use Rattle.std.proofs.lemmas.Map.Text.{text_keys}
use Rattle.storage_map.specs.Limits.{most_key_bytes}
use Rattle.storage_map.specs.Contents.{by_bytes}
use Rattle.storage_map.proofs.Finite.{set_kept, short_insert, IsShort}
use Rattle.storage_map.proofs.by_key.ByKey.add.Goals as goal

pub invariant_of-self : goal.invariant_of-self
invariant_of-self g c = record {
  ordered = c.insert.ensures.ordered;
  short = subst (AllByRecursion IsShort) (sym c.in-Ok-insert.ensures.entries) (short_insert c.in-Ok.text c.args.value c.self.inside.entries.entries (subst (λ (k : List ℕ). length k ≤ most_key_bytes) (sym c.in-Ok.ensures.ok) c.requires) c.self.invariant.short);
}

pub returns-in-Ok-insert-clause-set : goal.returns-in-Ok-insert-clause-set
returns-in-Ok-insert-clause-set g c =
    set_kept c.self.inside.entries c.insert.new.self c.args.key.now c.args.value (λ q. grind (arith, text_keys))
    ∙ ap (λ (m : FinMap by_bytes g.row.V.Denot). insert m c.args.key.now c.args.value) c.self.view_is

use Rattle.std.proofs.Common.{◌≡◌, ◌≤◌, ap, subst, sym, inl, inr, arith}
use Rattle.std.specs.Prelude.{◌⊎◌}
use Rattle.std.specs.List.{Contains}
use Rattle.do_value.specs.Tree.{size_of}
use Rattle.do_value.specs.Seen.{tree_of}
use Rattle.do_value.specs.declared.value.Value.{Value}
use Rattle.storage_map.specs.declared.place.Place.{Place}
use Rattle.storage_cache.specs.Cached.{Cached, most_kept_bytes}
use Rattle.storage_cache.proofs.Keeping.{kept_put}
use Rattle.storage_cache.proofs.cache.Cache.keep.Goals as goal

pub returns-clause-kept : goal.returns-clause-kept
returns-clause-kept c = record {
  index = ap (λ (x : Cached). x.index) c.self.view_is;
  unflushed = ap (λ (x : Cached). x.unflushed) c.self.view_is;
  kept = λ p v h.
      let pair : Place × Value = (p, v) in
      subst (λ (x : Cached). Contains x.kept pair ⊎ ((p ≡ c.args.place) × (v ≡ c.args.value))) c.self.view_is
      (kept_put c.put.result c.self.inside.kept c.put.new.self c.args.place c.args.value c.put.ensures.entries c.put.ensures.err p v h);
}

pub returns-clause-small : goal.returns-clause-small
returns-clause-small c = λ p v h.
    let pair : Place × Value = (p, v) in
    elim (kept_put c.put.result c.self.inside.kept c.put.new.self c.args.place c.args.value c.put.ensures.entries c.put.ensures.err p v h) [
      | inl before ↦ inl (subst (λ (x : Cached). Contains x.kept pair) c.self.view_is before)
      | inr put ↦ inr (subst (λ (w : Value). size_of (tree_of w) ≤ most_kept_bytes) (sym put.1) (omega (arith, c.size.ensures.value, c.if-size-gt-MOST_KEPT_BYTES.false)))
    ]

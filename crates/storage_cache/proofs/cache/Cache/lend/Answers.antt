use Rattle.std.proofs.Common.{◌≡◌, None, sym, subst, inr}
use Rattle.std.specs.List.{Contains}
use Rattle.std.specs.FinMap.{get}
use Rattle.do_value.specs.declared.value.Value.{Value}
use Rattle.storage_map.specs.declared.place.Place.{Place}
use Rattle.storage_cache.specs.Cached.{Cached}
use Rattle.storage_cache.proofs.Keeping.{found_kept}
use Rattle.storage_cache.proofs.cache.Cache.lend.Goals as goal

pub returns-in-Some-peek : goal.returns-in-Some-peek
returns-in-Some-peek c =
    let pair : Place × Value = (c.args.place, c.in-Some-peek.value.now) in
    inr (
      sym (subst (λ (x : Cached). None ≡ get x.unflushed c.args.key.now) c.self.view_is c.in_default.ensures),
      subst (λ (x : Cached). Contains x.kept pair) c.self.view_is (found_kept c.self.inside.kept.entries c.args.place c.in-Some-peek.value.now (sym c.in-Some-peek.ensures)),
    )

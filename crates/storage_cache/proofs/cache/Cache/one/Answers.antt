use Rattle.std.proofs.Common.{◌≡◌, ℕ, List, [], ◌∷◌, ◌++◌, Some, None, ap, subst, sym, refl, ◌∙◌}
use Rattle.std.specs.List.{Contains}
use Rattle.std.specs.FinMap.{get}
use Rattle.do_value.specs.declared.value.Value.{Value}
use Rattle.storage_map.specs.declared.place.Place.{Place}
use Rattle.storage_cache.specs.Cached.{Cached}
use Rattle.storage_cache.specs.Looks.{IsHeldAt}
use Rattle.storage_cache.specs.declared.held.Held.{Held}
use Rattle.storage_cache.proofs.Keeping.{kept_promoted}
use Rattle.storage_cache.proofs.Given.{one_given, none_given, one_own_place, no_own_place}
use Rattle.storage_cache.proofs.InOrder.{one_order, no_order}
use Rattle.storage_cache.proofs.cache.Cache.one.Goals as goal
use Rattle.storage_cache.proofs.cache.Cache.one.Goals.{in-Some+in_ok-add, in_default}

pub returns-clause-look : goal.returns-clause-look
returns-clause-look c = λ m is agrees. elim c.match-get.branch [
  | in-Some+in_ok-add w ↦ let cache = c.args.self.now in
      let key = c.args.key.now in
      let place = w.in-Some.place in
      let added = w.in_ok-add.ensures in
      let text = w.as_str-in-Some.ensures.text in
      let at : get cache.index.places key ≡ Some place =
      subst (λ (k : List ℕ). get cache.index.places k ≡ Some place) c.as_str.ensures.text
      (subst (λ (x : Cached). get x.index.places c.as_str.result.now ≡ Some place) c.self.view_is (sym w.in-Some.ensures)) in
      rw w.pairs-is
      (one_given cache m is agrees key place added.0 w.add.new.pairs.items at (subst (λ (k : List ℕ). IsHeldAt cache k place added.0) text added.1)
      (added.2 ∙ ap (λ (l : List (List ℕ × Held)). l ++ (w.as_str-in-Some.result.now, added.0) ∷ []) c.new-pairs.ensures.items ∙ ap (λ (k : List ℕ). (k, added.0) ∷ []) text))
  | in_default w ↦ let cache = c.args.self.now in
      let key = c.args.key.now in
      let absent : get cache.index.places key ≡ None =
      subst (λ (k : List ℕ). get cache.index.places k ≡ None) c.as_str.ensures.text
      (subst (λ (x : Cached). get x.index.places c.as_str.result.now ≡ None) c.self.view_is (sym w.in_default.ensures)) in
      rw w.pairs-is (none_given cache m is agrees key c.new-pairs.result.items absent c.new-pairs.ensures.items)
]

pub returns-clause-same : goal.returns-clause-same
returns-clause-same c = elim c.match-get.branch [
  | in-Some+in_ok-add w ↦ rw w.self-is record {
    index = ap (λ (x : Cached). x.index) c.self.view_is;
    unflushed = ap (λ (x : Cached). x.unflushed) c.self.view_is;
    kept = λ p v h.
        let pair : Place × Value = (p, v) in
        subst (λ (x : Cached). Contains x.kept pair) c.self.view_is (kept_promoted c.self.inside.kept w.promote.new.self w.in-Some.place w.promote.ensures.entries p v h);
  }
  | in_default w ↦ rw w.self-is record { index = refl; unflushed = refl; kept = λ p v h. h }
]

pub returns-clause-places : goal.returns-clause-places
returns-clause-places c = elim c.match-get.branch [
  | in-Some+in_ok-add w ↦ let cache = c.args.self.now in
      let key = c.args.key.now in
      let place = w.in-Some.place in
      let added = w.in_ok-add.ensures in
      let text = w.as_str-in-Some.ensures.text in
      let at : get cache.index.places key ≡ Some place =
      subst (λ (k : List ℕ). get cache.index.places k ≡ Some place) c.as_str.ensures.text
      (subst (λ (x : Cached). get x.index.places c.as_str.result.now ≡ Some place) c.self.view_is (sym w.in-Some.ensures)) in
      rw w.pairs-is
      (one_own_place cache key place added.0 w.add.new.pairs.items at (subst (λ (k : List ℕ). IsHeldAt cache k place added.0) text added.1)
      (added.2 ∙ ap (λ (l : List (List ℕ × Held)). l ++ (w.as_str-in-Some.result.now, added.0) ∷ []) c.new-pairs.ensures.items ∙ ap (λ (k : List ℕ). (k, added.0) ∷ []) text))
  | in_default w ↦ rw w.pairs-is (no_own_place c.args.self.now c.new-pairs.result.items c.new-pairs.ensures.items)
]

pub returns-clause-order : goal.returns-clause-order
returns-clause-order c = elim c.match-get.branch [
  | in-Some+in_ok-add w ↦ rw w.pairs-is
      (one_order w.as_str-in-Some.result.now w.in_ok-add.ensures.0 w.add.new.pairs.items
      (w.in_ok-add.ensures.2 ∙ ap (λ (l : List (List ℕ × Held)). l ++ (w.as_str-in-Some.result.now, w.in_ok-add.ensures.0) ∷ []) c.new-pairs.ensures.items))
  | in_default w ↦ rw w.pairs-is (no_order c.new-pairs.result.items c.new-pairs.ensures.items)
]

-- Each pair that is listed of a finite map is one of its pairs.
use Rattle.std.proofs.Common.{◌≡◌, ℕ, zero, suc, true, false, List, [], ◌∷◌, ◌++◌, reverse, take, cond, Option, Some, None, sym, ap, ◌∙◌, subst, refl}
use Rattle.std.specs.Prelude.{Bool, T, ◌&&◌}
use Rattle.std.specs.Str.{bytes_eq}
use Rattle.std.specs.Set.{is_member}
use Rattle.std.specs.List.{filter, AllByRecursion}
use Rattle.std.specs.Ordering.{is_lt, is_eq, ordering_reverse}
use Rattle.std.specs.Cmp.{tied_itself}
use Rattle.std.specs.declared.cmp.Ordering.{Ordering}
use Rattle.std.specs.declared.cmp.Ordering.TheVariants.{Less, Equal, Greater}
use Rattle.std.specs.FinMap.{FinMap, entries, entries_sorted, get, get-entries, find, is_sorted}
use Rattle.std.specs.FinMap.Entries.{below_all}
use Rattle.std.proofs.lemmas.Cmp.{nat_list_cmp_total}
use Rattle.std.proofs.lemmas.List.{reverse-append}
use Rattle.storage_map.specs.Contents.{by_bytes}
use Rattle.storage_map.specs.Readings.{keeps, turned, limited, listed}
use Rattle.storage_map.specs.declared.options.Options.{Options}

-- ---- what holds of each

module _ {X : Type 0} (P : X → Type 0) where
  each_filter : (test : X → Bool) (xs : List X) → AllByRecursion P xs → AllByRecursion P (filter test xs)
  each_filter test [] h = tt
  each_filter test (x ∷ xs) h = elim (test x) as (λ b. AllByRecursion P (cond b (x ∷ filter test xs) (filter test xs))) [ true ↦ (h.0, each_filter test xs h.1) | false ↦ each_filter test xs h.1 ]

  each_push : (xs : List X) (x : X) → AllByRecursion P xs → P x → AllByRecursion P (xs ++ x ∷ [])
  each_push [] x h p = (p, tt)
  each_push (y ∷ xs) x h p = (h.0, each_push xs x h.1 p)

  each_reverse : (xs : List X) → AllByRecursion P xs → AllByRecursion P (reverse xs)
  each_reverse [] h = tt
  each_reverse (x ∷ xs) h = subst (AllByRecursion P) (sym (reverse-append (x ∷ []) xs)) (each_push (reverse xs) x (each_reverse xs h.1) h.0)

  each_take : (n : ℕ) (xs : List X) → AllByRecursion P xs → AllByRecursion P (take n xs)
  each_take zero xs h = tt
  each_take (suc n) [] h = tt
  each_take (suc n) (x ∷ xs) h = (h.0, each_take n xs h.1)

  -- it holds of one behind others
  pub each_behind : (xs : List X) (y : X) (ys : List X) → AllByRecursion P (xs ++ y ∷ ys) → P y
  each_behind [] y ys h = h.0
  each_behind (x ∷ xs) y ys h = each_behind xs y ys h.1

each_is : {X : Type 0} (P Q : X → Type 0) → ((x : X) → P x → Q x) → (xs : List X) → AllByRecursion P xs → AllByRecursion Q xs
each_is P Q is [] h = tt
each_is P Q is (x ∷ xs) h = (is x h.0, each_is P Q is xs h.1)

-- ---- each entry is the map's

both_true : (a b : Bool) → T (a && b) → T a × T b
both_true true b h = (tt, h)
both_true false b h = absurd h

-- a key behind another isn't it
behind : (o : Ordering) → T (is_lt o) → is_eq (ordering_reverse o) ≡ false
behind Less h = refl
behind Equal h = absurd h
behind Greater h = absurd h

module _ {V : Type 0} where
  -- the map has the pair
  abbrev pub IsEntry : FinMap by_bytes V → List ℕ × V → Type 0
  IsEntry map e = get map e.0 ≡ Some e.1

  -- what is found behind the first is found
  later_found : (e : List ℕ × V) (es fs : List (List ℕ × V)) → T (below_all by_bytes e.0 fs) → AllByRecursion (λ f. find by_bytes f.0 es ≡ Some f.1) fs → AllByRecursion (λ f. find by_bytes f.0 (e ∷ es) ≡ Some f.1) fs
  later_found e es [] below h = tt
  later_found e es (f ∷ fs) below h =
      let parts = both_true (is_lt (by_bytes e.0 f.0)) (below_all by_bytes e.0 fs) below in
      let apart : is_eq (by_bytes f.0 e.0) ≡ false = ap is_eq (nat_list_cmp_total.antisymm f.0 e.0) ∙ behind (by_bytes e.0 f.0) parts.0 in
      (ap (λ (b : Bool). cond b (Some e.1) (find by_bytes f.0 es)) apart ∙ h.0, later_found e es fs parts.1 h.1)

  all_found : (es : List (List ℕ × V)) → T (is_sorted by_bytes es) → AllByRecursion (λ e. find by_bytes e.0 es ≡ Some e.1) es
  all_found [] h = tt
  all_found (e ∷ es) h =
      let parts = both_true (below_all by_bytes e.0 es) (is_sorted by_bytes es) h in
      let itself : is_eq (by_bytes e.0 e.0) ≡ true = ap is_eq (tied_itself nat_list_cmp_total e.0) in
      (ap (λ (b : Bool). cond b (Some e.1) (find by_bytes e.0 es)) itself, later_found e es es parts.0 (all_found es parts.1))

  all_entries : (map : FinMap by_bytes V) → AllByRecursion (IsEntry map) (entries map)
  all_entries map = each_is (λ e. find by_bytes e.0 (entries map) ≡ Some e.1) (IsEntry map) (λ e is. get-entries map e.0 ∙ is) (entries map) (all_found (entries map) (entries_sorted map))

  turned_each : (map : FinMap by_bytes V) (back : Bool) (es : List (List ℕ × V)) → AllByRecursion (IsEntry map) es → AllByRecursion (IsEntry map) (turned back es)
  turned_each map true es h = each_reverse (IsEntry map) es h
  turned_each map false es h = h

  limited_each : (map : FinMap by_bytes V) (limit : Option ℕ) (es : List (List ℕ × V)) → AllByRecursion (IsEntry map) es → AllByRecursion (IsEntry map) (limited limit es)
  limited_each map None es h = h
  limited_each map (Some n) es h = each_take (IsEntry map) n es h

  -- so is each that a listing gives, and each of some keys
  pub listed_entries : (map : FinMap by_bytes V) (o : Options) → AllByRecursion (IsEntry map) (listed o (entries map))
  listed_entries map o =
      let some = filter (λ p. keeps o p.0) (entries map) in
      limited_each map o.limit (turned o.reverse some) (turned_each map o.reverse some (each_filter (IsEntry map) (λ p. keeps o p.0) (entries map) (all_entries map)))

  pub picked_entries : (map : FinMap by_bytes V) (keys : List (List ℕ)) → AllByRecursion (IsEntry map) (filter (λ p. is_member bytes_eq keys p.0) (entries map))
  picked_entries map keys = each_filter (IsEntry map) (λ p. is_member bytes_eq keys p.0) (entries map) (all_entries map)

-- A code of what a cache has, by which its model is kept.
use Rattle.std.specs.Prelude.{ℕ, List}
use Rattle.std.proofs.Common.{refl}
use Rattle.std.specs.Coded.{Coded, code_by, coded×, coded_list, coded_ℕ}
use Rattle.std.specs.FinMap.{code}
use Rattle.do_value.specs.declared.value.Value.{Value}
use Rattle.do_value.specs.contracts.value.Value as one_value
use Rattle.storage_map.specs.Contents.{Values, by_bytes}
use Rattle.storage_map.specs.Indexed.{Indexed}
use Rattle.storage_map.specs.IndexedCode.{indexed_code}
use Rattle.storage_map.specs.contracts.place.Place as one_place
use Rattle.storage_map.specs.declared.place.Place.{Place}
use Rattle.storage_cache.specs.Cached.{Cached}
use Rattle.storage_cache.specs.Looks.{Lent}

abbrev kept_code : Coded (List (Place × Value))
kept_code = coded_list (coded× one_place.the_row.coded one_value.the_row.coded)

abbrev pub cached_code : Coded Cached
cached_code =
    code_by (Indexed × (Values × List (Place × Value)))
    (coded× indexed_code (coded× (code {R = by_bytes} (coded_list coded_ℕ) one_value.the_row.coded) kept_code))
    (λ c. (c.index, (c.unflushed, c.kept))) (λ p. record { index = p.0; unflushed = (p.1).0; kept = (p.1).1 }) (λ _. refl)

abbrev pub lent_code : Coded Lent
lent_code =
    code_by (Cached × List (List ℕ × Place)) (coded× cached_code (coded_list (coded× (coded_list coded_ℕ) one_place.the_row.coded)))
    (λ l. (l.cache, l.left)) (λ p. record { cache = p.0; left = p.1 }) (λ _. refl)

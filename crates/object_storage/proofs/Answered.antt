-- A look whose places are read is the map's reading.
use Rattle.std.proofs.Common.{◌≡◌, ℕ, ℤ, List, [], ◌∷◌, ◌++◌, Option, Some, None, refl, sym, ap, ◌∙◌, subst}
use Rattle.std.specs.Prelude.{Result, Ok, Err, IfOk, unwrap_or}
use Rattle.do_value.specs.declared.value.Value.TheVariants.{Undefined}
use Rattle.std.specs.List.{AllByRecursion, filter}
use Rattle.std.specs.Str.{bytes_eq}
use Rattle.std.specs.Set.{is_member}
use Rattle.std.specs.FinMap.{get, entries}
use Rattle.do_value.specs.declared.value.Value.{Value}
use Rattle.storage_map.specs.Contents.{Contents, Values}
use Rattle.storage_map.specs.Readings.{reading, listed}
use Rattle.storage_map.specs.declared.place.Place.{Place}
use Rattle.storage_map.specs.declared.ask.StoreAsk.{StoreAsk}
use Rattle.storage_map.specs.declared.ask.StoreAsk.TheVariants.{Get, GetMany, List as Listed, Alarm as AskedAlarm}
use Rattle.storage_map.specs.declared.answer.Reading.TheVariants.{One, Pairs, Alarm}
use Rattle.storage_cache.specs.Cached.{Cached}
use Rattle.storage_cache.specs.Standing.{FlushedStand}
use Rattle.storage_cache.specs.Looks.{IsGiven, AreGiven, IsOwnPlace, AreOwnPlaces, IsLook, pair_at}
use Rattle.storage_cache.specs.declared.held.Held.{Held}
use Rattle.storage_cache.specs.declared.held.Held.TheVariants.{Value as Given, At}
use Rattle.storage_cache.specs.declared.held.Look.{Look}
use Rattle.storage_cache.specs.declared.held.Look.TheVariants as found
use Rattle.storage_cache.proofs.Entries.{IsEntry, each_behind, listed_entries, picked_entries}
use Rattle.storage_cache.proofs.Standing.{given_stands}
use Rattle.batch_journal.specs.Frames.{Frame}
use Rattle.batch_journal.specs.Places.{IsPlaceIn}
use Rattle.batch_journal.proofs.ReadPlaces.{one_value_in}
use Rattle.object_storage.specs.Stored.{HasSome}
use Rattle.object_storage.specs.Reads.{keys_of, CanBeRead, AllCanBeRead, IsReadOf, AreReadOf, AreAsked, moment_after, moment_behind}

-- ---- what is read

-- what a look gives can be read
pub can_read : (frames : List Frame) (cache : Cached) → HasSome cache frames → (hs : List (List ℕ × Held)) → AreOwnPlaces cache hs → AllCanBeRead frames hs
can_read frames cache is [] own = tt
can_read frames cache is (h ∷ hs) own = (one h.0 h.1 own.0, can_read frames cache is hs own.1)
  where
    one : (key : List ℕ) (held : Held) → IsOwnPlace cache key held → CanBeRead frames held
    one key (Given v) own = tt
    one key (At place) own = let there = given_stands (IsPlaceIn frames) cache is.2 key place is.3.cache_of is.3.flushed own.0 own.1 in (there.0, there.2)

-- one behind others can be read
pub can_behind : (frames : List Frame) (items done : List (List ℕ × Held)) (pair : List ℕ × Held) (left : List (List ℕ × Held)) → items ≡ done ++ pair ∷ left → AllCanBeRead frames items → CanBeRead frames pair.1
can_behind frames items done pair left all can = each_behind (λ (h : List ℕ × Held). CanBeRead frames h.1) done pair left (subst (AllCanBeRead frames) all can)

-- what is read at a place stands there
pub read_of_place : {E : Type 0} (frames : List Frame) (place : Place) (r : Result Value E) → CanBeRead frames (At place) → ((v : Value) → IsPlaceIn frames place v → IfOk r (λ read. read ≡ v)) → IfOk r (IsReadOf frames (At place))
read_of_place frames place (Ok read) can is = subst (IsPlaceIn frames place) (sym (is can.0 can.1)) can.1
read_of_place frames place (Err e) can is = tt

-- ---- one more pair

pub read_push : (frames : List Frame) (hs : List (List ℕ × Held)) (rs : List (List ℕ × Value)) (key : List ℕ) (held : Held) (value : Value) → AreReadOf frames hs rs → IsReadOf frames held value
    → AreReadOf frames (hs ++ (key, held) ∷ []) (rs ++ (key, value) ∷ [])
read_push frames [] [] key held value are is = (refl, is, tt)
read_push frames [] (r ∷ rs) key held value wrong is = absurd wrong
read_push frames (h ∷ hs) [] key held value wrong is = absurd wrong
read_push frames (h ∷ hs) (r ∷ rs) key held value are is = (are.0, are.1, read_push frames hs rs key held value are.2 is)

pub keys_push : {V W : Type 0} (hs : List (List ℕ × V)) (rs : List (List ℕ × W)) (key : List ℕ) (held : V) (value : W) → keys_of hs ≡ keys_of rs → keys_of (hs ++ (key, held) ∷ []) ≡ keys_of (rs ++ (key, value) ∷ [])
keys_push hs rs key held value same = keys_more hs key held ∙ ap (λ (ks : List (List ℕ)). ks ++ key ∷ []) same ∙ sym (keys_more rs key value)
  where
    keys_more : {X : Type 0} (xs : List (List ℕ × X)) (key : List ℕ) (x : X) → keys_of (xs ++ (key, x) ∷ []) ≡ keys_of xs ++ key ∷ []
    keys_more [] key x = refl
    keys_more (y ∷ xs) key x = ap (λ (ks : List (List ℕ)). y.0 ∷ ks) (keys_more xs key x)

pub moment_push : (hs : List (List ℕ × Held)) (h : List ℕ × Held) (moment : ℕ) → moment_behind (hs ++ h ∷ []) moment ≡ moment_after h.1 (moment_behind hs moment)
moment_push [] h moment = refl
moment_push (g ∷ hs) h moment = moment_push hs h (moment_after g.1 moment)

-- ---- the pairs that were asked

-- what is read of what is given of a map's pairs is those pairs
pub read_is : (frames : List Frame) (cache : Cached) (m : Contents) → FlushedStand (IsPlaceIn frames) cache m → (hs : List (List ℕ × Held)) (ps rs : List (List ℕ × Value)) → AllByRecursion (IsEntry m.values) ps
    → AreGiven cache hs ps → AreReadOf frames hs rs → rs ≡ ps
read_is frames cache m stand [] [] [] each given read = refl
read_is frames cache m stand [] [] (r ∷ rs) each given wrong = absurd wrong
read_is frames cache m stand [] (p ∷ ps) rs each wrong read = absurd wrong
read_is frames cache m stand (h ∷ hs) [] rs each wrong read = absurd wrong
read_is frames cache m stand (h ∷ hs) (p ∷ ps) [] each given wrong = absurd wrong
read_is frames cache m stand (h ∷ hs) (p ∷ ps) (r ∷ rs) each given read =
    let key : r.0 ≡ p.0 = read.0 ∙ given.0 in
    let value : r.1 ≡ p.1 = one p.0 p.1 r.1 h.1 each.0 given.1 read.1 in
    let rest : rs ≡ ps = read_is frames cache m stand hs ps rs each.1 given.2 read.2 in
    λ i. (key i, value i) ∷ rest i
  where
    one : (key : List ℕ) (value other : Value) (held : Held) → get m.values key ≡ Some value → IsGiven cache key value held → IsReadOf frames held other → other ≡ value
    one key value other (Given v) is given read = read ∙ given
    one key value other (At place) is given read = one_value_in frames place other value read (stand key place value given.0 given.1 is)

own_pair : (values : Values) (key : List ℕ) → AllByRecursion (IsEntry values) (pair_at key (get values key))
own_pair values key = found_as (get values key) refl
  where
    found_as : (v : Option Value) → get values key ≡ v → AllByRecursion (IsEntry values) (pair_at key v)
    found_as None none = tt
    found_as (Some w) is = (is, tt)

-- what is given to each ask that has pairs
abbrev pub AreOfPairs : Cached → Contents → StoreAsk → List (List ℕ × Held) → Type 0
AreOfPairs cache m (Get key) hs = AreGiven cache hs (pair_at key (get m.values key))
AreOfPairs cache m (GetMany keys) hs = AreGiven cache hs (filter (λ p. is_member bytes_eq keys p.0) (entries m.values))
AreOfPairs cache m (Listed o) hs = AreGiven cache hs (listed o (entries m.values))
AreOfPairs cache m AskedAlarm hs = ⊥

pub asked_of_pairs : (cache : Cached) (m : Contents) (ask : StoreAsk) (hs : List (List ℕ × Held)) → AreOfPairs cache m ask hs → AreAsked cache m ask hs
asked_of_pairs cache m (Get key) hs are = are
asked_of_pairs cache m (GetMany keys) hs are = are
asked_of_pairs cache m (Listed o) hs are = are
asked_of_pairs cache m AskedAlarm hs wrong = absurd wrong

abbrev pub GivesThese : Look → List (List ℕ × Held) → Type 0
GivesThese (found.Pairs ps) hs = ps.items ≡ hs
GivesThese (found.Alarm alarm) hs = ⊥

pub are_asked : (cache : Cached) (m : Contents) (ask : StoreAsk) (look : Look) (hs : List (List ℕ × Held)) → GivesThese look hs → IsLook cache m ask look → AreOfPairs cache m ask hs
are_asked cache m (Get key) (found.Pairs ps) hs these is = subst (λ (l : List (List ℕ × Held)). AreGiven cache l (pair_at key (get m.values key))) these is
are_asked cache m (GetMany keys) (found.Pairs ps) hs these is = subst (λ (l : List (List ℕ × Held)). AreGiven cache l (filter (λ p. is_member bytes_eq keys p.0) (entries m.values))) these is
are_asked cache m (Listed o) (found.Pairs ps) hs these is = subst (λ (l : List (List ℕ × Held)). AreGiven cache l (listed o (entries m.values))) these is
are_asked cache m AskedAlarm (found.Pairs ps) hs these wrong = wrong
are_asked cache m (Get key) (found.Alarm alarm) hs wrong is = absurd wrong
are_asked cache m (GetMany keys) (found.Alarm alarm) hs wrong is = absurd wrong
are_asked cache m (Listed o) (found.Alarm alarm) hs wrong is = absurd wrong
are_asked cache m AskedAlarm (found.Alarm alarm) hs wrong is = absurd wrong

-- the value of the key that was asked
pub get_read : (frames : List Frame) (cache : Cached) (m : Contents) (ask : StoreAsk) (key : List ℕ) (hs : List (List ℕ × Held)) (rs : List (List ℕ × Value)) (value : Value) → FlushedStand (IsPlaceIn frames) cache m → ask ≡ Get key
    → AreOfPairs cache m ask hs → AreReadOf frames hs rs → ((k : List ℕ) (v : Option Value) → rs ≡ pair_at k v → value ≡ unwrap_or v Undefined) → One value ≡ reading m ask
get_read frames cache m ask key hs rs value stand is given read only =
    let given_key : AreGiven cache hs (pair_at key (get m.values key)) = subst (λ (a : StoreAsk). AreOfPairs cache m a hs) is given in
    subst (λ (a : StoreAsk). One value ≡ reading m a) (sym is) (ap One (only key (get m.values key) (read_is frames cache m stand hs (pair_at key (get m.values key)) rs (own_pair m.values key) given_key read)))

-- the pairs that were asked
pub pairs_read : (frames : List Frame) (cache : Cached) (m : Contents) (ask : StoreAsk) (hs : List (List ℕ × Held)) (rs : List (List ℕ × Value)) → FlushedStand (IsPlaceIn frames) cache m → ((key : List ℕ) → ask ≡ Get key → ⊥)
    → AreOfPairs cache m ask hs → AreReadOf frames hs rs → Pairs rs ≡ reading m ask
pairs_read frames cache m (Get key) hs rs stand other given read = absurd (other key refl)
pairs_read frames cache m (GetMany keys) hs rs stand other given read =
    ap Pairs (read_is frames cache m stand hs (filter (λ p. is_member bytes_eq keys p.0) (entries m.values)) rs (picked_entries m.values keys) given read)
pairs_read frames cache m (Listed o) hs rs stand other given read = ap Pairs (read_is frames cache m stand hs (listed o (entries m.values)) rs (listed_entries m.values o) given read)
pairs_read frames cache m AskedAlarm hs rs stand other wrong read = absurd wrong

-- the alarm, of which nothing is read
pub alarm_read : (cache : Cached) (m : Contents) (ask : StoreAsk) (alarm : Option (ℤ × ℕ)) → IsLook cache m ask (found.Alarm alarm) → Alarm alarm ≡ reading m ask
alarm_read cache m (Get key) alarm wrong = absurd wrong
alarm_read cache m (GetMany keys) alarm wrong = absurd wrong
alarm_read cache m (Listed o) alarm wrong = absurd wrong
alarm_read cache m AskedAlarm alarm is = ap Alarm is

pub alarm_asked : (cache : Cached) (m : Contents) (ask : StoreAsk) (alarm : Option (ℤ × ℕ)) → IsLook cache m ask (found.Alarm alarm) → AreAsked cache m ask []
alarm_asked cache m (Get key) alarm wrong = absurd wrong
alarm_asked cache m (GetMany keys) alarm wrong = absurd wrong
alarm_asked cache m (Listed o) alarm wrong = absurd wrong
alarm_asked cache m AskedAlarm alarm is = refl

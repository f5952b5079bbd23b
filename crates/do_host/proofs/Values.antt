-- Values that are read at the places of an index.
use Rattle.std.proofs.Common.{◌≡◌, ◌≤◌, ⊎_elim, inl, inr, ℕ, List, [], ◌∷◌, ◌++◌, map, Option, Some, None, Result, Ok, Err, refl, sym, ap, ◌∙◌, subst, arith, append_assoc}
use Rattle.std.specs.Prelude.{IsErrOf, is_some, unwrap_or}
use Rattle.std.specs.List.{AllByRecursion}
use Rattle.std.specs.FinMap.{entries, get}
use Rattle.std.proofs.lemmas.List.{append-nil, map-append}
use Rattle.batch_journal.specs.Frames.{Frame}
use Rattle.batch_journal.specs.Moments.{OnlyReads}
use Rattle.batch_journal.specs.Places.{Indexes, IsPlaceIn}
use Rattle.batch_journal.specs.Rest.{IsAtRest, disk_in}
use Rattle.batch_journal.specs.declared.journal.Journal.{Journal}
use Rattle.batch_journal.specs.declared.read_stored.ReadFault.{ReadFault}
use Rattle.batch_journal.specs.declared.read_stored.ReadFault.TheVariants.{BadValue, DiskFailed}
use Rattle.batch_journal.proofs.ReadPlaces.{one_value_in}
use Rattle.batch_journal.proofs.Runs.{reads_on, started}
use Rattle.do_disk.specs.Disk.{Rose}
use Rattle.do_value.specs.declared.value.Value.{Value}
use Rattle.do_value.specs.declared.value.Value.TheVariants.{Undefined}
use Rattle.storage_map.specs.Contents.{Contents}
use Rattle.storage_map.specs.Indexed.{Indexed, IsPlaced, StandsFor}
use Rattle.storage_map.specs.declared.place.Place.{Place}
use Rattle.storage_map.specs.Readings.{every}
use Rattle.storage_cache.proofs.Entries.{IsEntry, each_behind, listed_entries}
use Rattle.storage_cache.proofs.Given.{all_listed, entries_valued}
use Rattle.do_host.specs.Storage.{ReadsValues, keys_of, left_by}

-- under each key stands its place, at which this value was read
abbrev pub AreReadAt : (Place → Value → Type 0) → List (List ℕ × Place) → List (List ℕ × Value) → Type 0
AreReadAt S [] [] = Unit {0}
AreReadAt S [] (r ∷ rs) = ⊥
AreReadAt S (p ∷ ps) [] = ⊥
AreReadAt S (p ∷ ps) (r ∷ rs) = (r.0 ≡ p.0) × S p.1 r.1 × AreReadAt S ps rs

read_push : (S : Place → Value → Type 0) (ps : List (List ℕ × Place)) (rs : List (List ℕ × Value)) (key : List ℕ) (place : Place) (value : Value) → AreReadAt S ps rs → S place value
    → AreReadAt S (ps ++ (key, place) ∷ []) (rs ++ (key, value) ∷ [])
read_push S [] [] key place value are is = (refl, is, tt)
read_push S [] (r ∷ rs) key place value wrong is = absurd wrong
read_push S (p ∷ ps) [] key place value wrong is = absurd wrong
read_push S (p ∷ ps) (r ∷ rs) key place value are is = (are.0, are.1, read_push S ps rs key place value are.2 is)

keys_push : {V W : Type 0} (ps : List (List ℕ × V)) (rs : List (List ℕ × W)) (key : List ℕ) (v : V) (w : W) → keys_of rs ≡ keys_of ps → keys_of (rs ++ (key, w) ∷ []) ≡ keys_of (ps ++ (key, v) ∷ [])
keys_push {V} {W} ps rs key v w same =
    map-append (λ (p : List ℕ × W). p.0) rs ((key, w) ∷ []) ∙ ap (λ (ks : List (List ℕ)). ks ++ key ∷ []) same ∙ sym (map-append (λ (p : List ℕ × V). p.0) ps ((key, v) ∷ []))

-- a key of the index has a value, which stands at its place
module _ (S : Place → Value → Type 0) (index : Indexed) (m : Contents) (stands : StandsFor S index m) where
  pub value_there : (key : List ℕ) (place : Place) → get index.places key ≡ Some place → (value : Value) × (get m.values key ≡ Some value) × S place value
  value_there key place at = go (get index.places key) (get m.values key) (stands.each key) at refl
    where
      go : (o : Option Place) (v : Option Value) → IsPlaced S o v → o ≡ Some place → get m.values key ≡ v → (value : Value) × (get m.values key ≡ Some value) × S place value
      go None v none is same = absurd (let wrong : None ≡ Some place = is in cc)
      go (Some p) None wrong is same = absurd wrong
      go (Some p) (Some w) here is same = let one : p ≡ place = cc in (w, same, subst (λ (q : Place). S q w) one here)

  -- the index has the keys of the map
  same_key : (o : Option Place) (v : Option Value) → IsPlaced S o v → is_some o ≡ is_some v
  same_key None None placed = refl
  same_key None (Some v) wrong = absurd wrong
  same_key (Some p) None wrong = absurd wrong
  same_key (Some p) (Some v) placed = refl

  abbrev valued : List ℕ × Place → List ℕ × Value
  valued e = (e.0, unwrap_or (get m.values e.0) Undefined)

  same_pairs : entries m.values ≡ map valued (entries index.places)
  same_pairs = entries_valued index.places m.values (λ key. same_key (get index.places key) (get m.values key) (stands.each key))

  pub same_keys : keys_of (entries index.places) ≡ keys_of (entries m.values)
  same_keys = sym (ap (λ (es : List (List ℕ × Value)). keys_of es) same_pairs ∙ go (entries index.places))
    where
      go : (es : List (List ℕ × Place)) → keys_of (map valued es) ≡ keys_of es
      go [] = refl
      go (e ∷ es) = ap (λ (ks : List (List ℕ)). e.0 ∷ ks) (go es)

  module _ (one : (place : Place) (v w : Value) → S place v → S place w → v ≡ w) where
    read_all : (ps : List (List ℕ × Place)) (rs : List (List ℕ × Value)) → AllByRecursion (IsEntry index.places) ps → AreReadAt S ps rs → rs ≡ map valued ps
    read_all [] [] each read = refl
    read_all [] (r ∷ rs) each wrong = absurd wrong
    read_all (p ∷ ps) [] each wrong = absurd wrong
    read_all (p ∷ ps) (r ∷ rs) each read =
        let there = value_there p.0 p.1 each.0 in
        let value : r.1 ≡ unwrap_or (get m.values p.0) Undefined = one p.1 r.1 there.0 read.1 there.2 ∙ sym (ap (λ (v : Option Value). unwrap_or v Undefined) there.1) in
        let rest : rs ≡ map valued ps = read_all ps rs each.1 read.2 in
        let key : r.0 ≡ p.0 = read.0 in
        λ i. (key i, value i) ∷ rest i

    -- all that was read is what the map has
    pub read_whole : (rs : List (List ℕ × Value)) → AllByRecursion (IsEntry index.places) (entries index.places) → AreReadAt S (entries index.places) rs → rs ≡ entries m.values
    read_whole rs each read = read_all (entries index.places) rs each read ∙ sym same_pairs

-- The pairs so far were read at the first places, and the others are to come. In frames that are Good each value stands at its place.
pub record AreRead (Good : List Frame → Type 0) (all left : List (List ℕ × Place)) (pairs : List (List ℕ × Value)) : Type 0 where
  pub done : List (List ℕ × Place)
  pub split : done ++ left ≡ all
  pub keys : keys_of pairs ≡ keys_of done
  pub values : (frames : List Frame) → Good frames → AreReadAt (IsPlaceIn frames) done pairs

module _ (Good : List Frame → Type 0) (all left : List (List ℕ × Place)) (pairs : List (List ℕ × Value)) where
  pub read_none : left ≡ all → pairs ≡ [] → AreRead Good all left pairs
  read_none same none = record {
    done = [];
    split = same;
    keys = ap (λ (ps : List (List ℕ × Value)). keys_of ps) none;
    values = λ frames good. subst (λ (ps : List (List ℕ × Value)). AreReadAt (IsPlaceIn frames) [] ps) (sym none) tt;
  }

  module _ (so_far : AreRead Good all left pairs) where
    -- the next place is one of the index
    pub next_entry : (P : List ℕ × Place → Type 0) (next : List ℕ × Place) (rest : List (List ℕ × Place)) → left ≡ next ∷ rest → AllByRecursion P all → P next
    next_entry P next rest first each = each_behind P so_far.done next rest (subst (AllByRecursion P) (sym (ap (λ (ps : List (List ℕ × Place)). so_far.done ++ ps) (sym first) ∙ so_far.split)) each)

    pub read_more : (key : List ℕ) (place : Place) (value : Value) (rest : List (List ℕ × Place)) (after : List (List ℕ × Value)) → left ≡ (key, place) ∷ rest → after ≡ pairs ++ (key, value) ∷ []
        → ((frames : List Frame) → Good frames → IsPlaceIn frames place value) → AreRead Good all rest after
    read_more key place value rest after first added is = record {
      done = so_far.done ++ (key, place) ∷ [];
      split = append_assoc so_far.done ((key, place) ∷ []) rest ∙ ap (λ (ps : List (List ℕ × Place)). so_far.done ++ ps) (sym first) ∙ so_far.split;
      keys = ap (λ (ps : List (List ℕ × Value)). keys_of ps) added ∙ keys_push so_far.done pairs key place value so_far.keys;
      values = λ frames good.
          subst (λ (ps : List (List ℕ × Value)). AreReadAt (IsPlaceIn frames) (so_far.done ++ (key, place) ∷ []) ps) (sym added)
          (read_push (IsPlaceIn frames) so_far.done pairs key place value (so_far.values frames good) (is frames good));
    }

    all_done : left ≡ [] → so_far.done ≡ all
    all_done none = sym (append-nil so_far.done) ∙ ap (λ (ps : List (List ℕ × Place)). so_far.done ++ ps) (sym none) ∙ so_far.split

    pub read_keys : left ≡ [] → keys_of pairs ≡ keys_of all
    read_keys none = so_far.keys ∙ ap (λ (ps : List (List ℕ × Place)). keys_of ps) (all_done none)

    pub read_values : left ≡ [] → (frames : List Frame) → Good frames → AreReadAt (IsPlaceIn frames) all pairs
    read_values none frames good = subst (λ (ps : List (List ℕ × Place)). AreReadAt (IsPlaceIn frames) ps pairs) (all_done none) (so_far.values frames good)

-- each pair of an index is one of its entries
pub each_entry : (index : Indexed) → AllByRecursion (IsEntry index.places) (entries index.places)
each_entry index = subst (AllByRecursion (IsEntry index.places)) (all_listed (entries index.places)) (listed_entries index.places every)

-- all pairs that were read are those that the frames leave
pub left_read : (frames : List Frame) (index : Indexed) (rs : List (List ℕ × Value)) → Indexes frames index → AreReadAt (IsPlaceIn frames) (entries index.places) rs
    → rs ≡ entries (left_by frames).values
left_read frames index rs stands read = read_whole (IsPlaceIn frames) index (left_by frames) stands (one_value_in frames) rs (each_entry index) read

-- ---- the journal over the reads

pub fault_isnt : {T E : Type 0} (x : T) (e : E) → IsErrOf (Ok x) e → ⊥
fault_isnt {T} {E} x e is = let wrong : ◌≡◌ {A = Result T E} (Ok x) (Err e) = is in cc

-- a fault that is handed on
pub handed_on : {T U E : Type 0} (r : Result U E) (y e other : E) → r ≡ Err y → y ≡ e → IsErrOf r other → IsErrOf {T = T} (Err e) other
handed_on {T} {U} {E} r y e other was same is =
    let whole : ◌≡◌ {A = Result U E} (Err y) (Err other) = sym was ∙ is in
    let one : y ≡ other = cc in
    ap (λ (x : E). Err x) (sym same ∙ one)

pub rose_on : (a b c : ℕ) → a ≤ b → Rose b c → Rose a c
rose_on a b c less rose = ⊎_elim (λ more. inl (omega (arith, less, more))) (λ most. inr most) rose

module _ {D : Type 0} (told : D → Option (List ℕ)) (image : D → List ℕ → Type 0) (moment_of : D → ℕ) (left_since : D → ℕ → List ℕ → Type 0) (faults_of : D → ℕ) where
  -- nothing was read yet
  pub reads_none : (journal : Journal D) → ((c : List ℕ) → left_since (disk_in journal) (moment_of (disk_in journal)) c → image (disk_in journal) c)
      → ReadsValues {A = Unit {0}} told image moment_of left_since faults_of journal journal (Ok tt)
  reads_none journal now = record {
    frames = λ fs rest. rest;
    reads = record { same = refl; images = λ c left. left; moments = started moment_of left_since (disk_in journal) (image (disk_in journal)) now };
    failed = λ is. absurd (fault_isnt tt DiskFailed is);
    bad = λ place is. absurd (fault_isnt tt (BadValue place) is);
    later = omega arith;
  }

  -- one value more, and how that ends
  pub reads_more : {A : Type 0} (old mid new : Journal D) (result : Result A ReadFault) → ReadsValues {A = Unit {0}} told image moment_of left_since faults_of old mid (Ok tt)
      → ((fs : List Frame) → IsAtRest told image mid fs → IsAtRest told image new fs) → OnlyReads told image moment_of left_since (disk_in mid) (disk_in new)
      → faults_of (disk_in mid) ≤ faults_of (disk_in new) → (IsErrOf result DiskFailed → Rose (faults_of (disk_in mid)) (faults_of (disk_in new)))
      → ((place : ℕ) → IsErrOf result (BadValue place) → told (disk_in mid) ≡ None) → ReadsValues told image moment_of left_since faults_of old new result
  reads_more old mid new result so_far rests only later failed bad = record {
    frames = λ fs rest. rests fs (so_far.frames fs rest);
    reads = reads_on told image moment_of left_since (disk_in old) (disk_in mid) (disk_in new) so_far.reads only;
    failed = λ is. rose_on (faults_of (disk_in old)) (faults_of (disk_in mid)) (faults_of (disk_in new)) so_far.later (failed is);
    bad = λ place is. sym so_far.reads.same ∙ bad place is;
    later = omega (arith, so_far.later, later);
  }

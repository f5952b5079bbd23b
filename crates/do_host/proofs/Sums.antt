-- The numbers of slots, added up.
use Rattle.std.proofs.Common.{◌≡◌, ◌≤◌, ◌<◌, ◌+◌, ⊎_elim, ℕ, ◌*◌, ℤ, ◌+ℤ◌, ◌≤ℤ◌, pos, List, [], ◌∷◌, ◌++◌, length, true, false, Option, Some, None, is_some, Result, Ok, Err, refl, sym, ap, ap₂, ◌∙◌, subst, arith, to_z, of_z, w64, FitsSigned}
use Rattle.std.specs.Prelude.{◌⊎◌, neg_ℤ, negsuc, IfOk, IfErr, slice_get}
use Rattle.std.proofs.lemmas.Int.{ints, to_z-of_z}
use Rattle.std.proofs.lemmas.List.{length-append}
use Rattle.std.proofs.lemmas.Option.{slice_get_within}
use Rattle.batch_journal.specs.Frames.{Frame}
use Rattle.batch_journal.specs.Moments.{IsTold, LeavesOnly, OnlyReads, TellsAsBefore}
use Rattle.batch_journal.specs.Recovery.{Recovers}
use Rattle.batch_journal.proofs.Runs.{runs_on}
use Rattle.do_disk.specs.Disk.{IfTold}
use Rattle.do_value.specs.Limits.{IsSafe}
use Rattle.host_core.specs.declared.opening.OpenEnd.{OpenEnd}
use Rattle.host_core.specs.declared.opening.OpenEnd.TheVariants as opening
use Rattle.host_core.specs.declared.report.SlotReport.{SlotReport}
use Rattle.host_core.proofs.Pushed.{before_push, next_at}
use Rattle.do_host.specs.Sums.{AreNumbersOf, IsMountedAgain, IsNumberOf, IsSumOf, StopsAt, StopsSumming, StopsWhere, Sums, number_left, sum_of}
use Rattle.do_host.proofs.Mounts.{both_push}

-- what isn't told after a call wasn't before
pub told_after : (before after : Option (List ℕ)) → TellsAsBefore before after → IsTold before → IsTold after
told_after before None tells some = absurd (let wrong : false ≡ is_some before = tells in let yes : is_some before ≡ true = ap is_some some.1 in cc)
told_after before (Some c) tells some = (c, refl)

-- the number that was read is that of the file
pub number_told : {E : Type 0} (r : Result ℤ E) (content mid : Option (List ℕ)) (frames : List Frame) → TellsAsBefore content mid → IfTold content (λ c. Recovers c frames)
    → (IsTold mid → IfOk r (λ n. n ≡ number_left frames)) → IfOk r (IsNumberOf content)
number_told (Ok n) content mid frames tells recovers is = λ c told. (frames, recovers c told, is (told_after content mid tells (c, told)))
number_told (Err e) content mid frames tells recovers is = tt

module _ {S : Type 0} (told : S → Option (List ℕ)) (image : S → List ℕ → Type 0) (moment_of : S → ℕ) (left_since : S → ℕ → List ℕ → Type 0)
    (now_counts : (disk : S) (t : ℕ) (c : List ℕ) → t ≤ moment_of disk → image disk c → left_since disk t c) where
  -- reads after other calls leave nothing new
  pub leaves_read : (disk mid after : S) (P : List ℕ → Type 0) → LeavesOnly moment_of left_since disk mid P → OnlyReads told image moment_of left_since mid after → LeavesOnly moment_of left_since disk after P
  leaves_read disk mid after P first reads =
      runs_on moment_of left_since disk mid after P (image mid) P first reads.moments (λ c p. p) (λ c now. first.each c (now_counts mid (moment_of disk) c first.later now))

-- ---- the sum

-- a number that is no further from 0 than 2^62 fits
far_fits : (z : ℤ) → neg_ℤ (pos 4611686018427387904) ≤ℤ z → z ≤ℤ pos 4611686018427387904 → FitsSigned w64 z
far_fits (pos n) least most = record { sfits = omega (arith, ints, most) }
far_fits (negsuc n) least most = record { sfits = omega (arith, ints, least) }

fits_far : (z : ℤ) → neg_ℤ (pos 4611686018427387904) ≤ℤ z → z ≤ℤ pos 4611686018427387904 → to_z w64 (of_z w64 z) ≡ z
fits_far z least most = to_z-of_z w64 z (far_fits z least most)

module _ (k : ℕ) (s n : ℤ) (few : k ≤ 2305843009213693952) (least : neg_ℤ (pos k) ≤ℤ s) (most : s ≤ℤ pos k) (safe : IsSafe n) where
  sum_back : to_z w64 (of_z w64 s) ≡ s
  sum_back = fits_far s (omega (arith, ints, few, least)) (omega (arith, ints, few, most))

  added_back : to_z w64 (of_z w64 (s +ℤ n)) ≡ s +ℤ n
  added_back = fits_far (s +ℤ n) (omega (arith, ints, few, least, safe.0)) (omega (arith, ints, few, most, safe.1))

sum_end : (slots : ℕ) (s n : ℤ) → slots ≤ 256 → IsSumOf slots s → IsSafe n → to_z w64 (of_z w64 (to_z w64 (of_z w64 s) +ℤ to_z w64 (of_z w64 n))) ≡ s +ℤ n
sum_end slots s n few small safe =
    let bound : slots * 9007199254740991 ≤ 2305843009213693952 = omega (arith, few) in
    let one : to_z w64 (of_z w64 s) ≡ s = sum_back (slots * 9007199254740991) s n bound small.0 small.1 safe in
    let two : to_z w64 (of_z w64 n) ≡ n = fits_far n (omega (arith, ints, safe.0)) (omega (arith, ints, safe.1)) in
    ap (λ (z : ℤ). to_z w64 (of_z w64 z)) (ap₂ (λ (a b : ℤ). a +ℤ b) one two) ∙ added_back (slots * 9007199254740991) s n bound small.0 small.1 safe

-- the sum of so many slots fits
pub sum_fits : (slots : ℕ) (s : ℤ) → slots ≤ 256 → IsSumOf slots s → to_z w64 (of_z w64 s) ≡ s
sum_fits slots s few small =
    let bound : slots * 9007199254740991 ≤ 2305843009213693952 = omega (arith, few) in
    sum_back (slots * 9007199254740991) s (pos 0) bound small.0 small.1 (omega (arith, ints), omega (arith, ints))

sum_small : (slots : ℕ) (s n : ℤ) → IsSumOf slots s → IsSafe n → IsSumOf (slots + 1) (s +ℤ n)
sum_small slots s n small safe = (omega (arith, ints, small.0, safe.0), omega (arith, ints, small.1, safe.1))

-- a number more
module _ {E F : Type 0} (content : Option (List ℕ)) (slots : ℕ) (sum : Result ℤ E) (read : Result ℤ F) (s n : ℤ) (few : slots ≤ 256) (sum_is : sum ≡ Ok s) (read_is : read ≡ Ok n)
    (small : IfOk sum (IsSumOf slots)) (safe : IfOk read IsSafe) where
  small_is : IsSumOf slots s
  small_is = subst (λ (r : Result ℤ E). IfOk r (IsSumOf slots)) sum_is small

  safe_is : IsSafe n
  safe_is = subst (λ (r : Result ℤ F). IfOk r IsSafe) read_is safe

  abbrev added : ℤ
  added = to_z w64 (of_z w64 (to_z w64 (of_z w64 s) +ℤ to_z w64 (of_z w64 n)))

  pub number_added : IfOk read (IsNumberOf content) → (so_far m : ℤ) × (sum ≡ Ok so_far) × IsNumberOf content m × (added ≡ so_far +ℤ m)
  number_added number = (s, n, sum_is, subst (λ (r : Result ℤ F). IfOk r (IsNumberOf content)) read_is number, sum_end slots s n few small_is safe_is)

  pub small_added : IsSumOf (slots + 1) added
  small_added = subst (IsSumOf (slots + 1)) (sym (sum_end slots s n few small_is safe_is)) (sum_small slots s n small_is safe_is)

sum_push : (ns : List ℤ) (n : ℤ) → sum_of (ns ++ n ∷ []) ≡ sum_of ns +ℤ n
sum_push [] n = omega (arith, ints)
sum_push (m ∷ ns) n = let rest = sum_push ns n in ap (λ (z : ℤ). m +ℤ z) rest ∙ omega (arith, ints)

-- ---- the rows

module _ {S : Type 0} (told : S → Option (List ℕ)) (image : S → List ℕ → Type 0) (moment_of : S → ℕ) (left_since : S → ℕ → List ℕ → Type 0) (faults_of : S → ℕ) where
  -- no slot was added yet
  pub sums_none : Sums told image moment_of left_since faults_of [] [] (Ok (pos 0))
  sums_none = record {
    many = refl;
    again = λ slot row after here there. absurd (let less : slot < 0 = slice_get_within {A = SlotReport S} [] slot row here in omega (arith, less));
    sum = ([], record { many = refl; each = λ slot row n here at. absurd (let less : slot < 0 = slice_get_within {A = SlotReport S} [] slot row here in omega (arith, less)) }, refl);
    stops = tt;
  }

  module _ (rows after : List (SlotReport S)) (row next : SlotReport S) where
    stops_push : (end : OpenEnd) → StopsWhere told faults_of rows after end → StopsWhere told faults_of (rows ++ row ∷ []) (after ++ next ∷ []) end
    stops_push opening.NoMemory stop = tt
    stops_push opening.Failed stop = record { slot = stop.slot; row = stop.row; row_after = stop.row_after; here = before_push rows row stop.row stop.slot stop.here; there = before_push after next stop.row_after stop.slot stop.there; stops = stop.stops }
    stops_push (opening.BadSlot bad) stop = record { slot = stop.slot; row = stop.row; row_after = stop.row_after; here = before_push rows row stop.row stop.slot stop.here; there = before_push after next stop.row_after stop.slot stop.there; stops = stop.stops }

    stops_here : (end : OpenEnd) → length after ≡ length rows → StopsAt told faults_of (length rows) row.store next.store end → StopsWhere told faults_of (rows ++ row ∷ []) (after ++ next ∷ []) end
    stops_here end many stop = go end (record {
      slot = length rows;
      row = row;
      row_after = next;
      here = next_at rows row [];
      there = subst (λ (n : ℕ). slice_get (after ++ next ∷ []) n ≡ Some next) many (next_at after next []);
      stops = stop;
    })
      where
        go : (end : OpenEnd) → StopsSumming told faults_of (rows ++ row ∷ []) (after ++ next ∷ []) end → StopsWhere told faults_of (rows ++ row ∷ []) (after ++ next ∷ []) end
        go opening.NoMemory stops = tt
        go opening.Failed stops = stops
        go (opening.BadSlot bad) stops = stops

  -- a slot more
  pub sums_more : (rows after : List (SlotReport S)) (row next : SlotReport S) (sum result : Result ℤ OpenEnd) → Sums told image moment_of left_since faults_of rows after sum
      → IsMountedAgain told image moment_of left_since row next → IfOk result (λ total. (before n : ℤ) × (sum ≡ Ok before) × IsNumberOf (told row.store) n × (total ≡ before +ℤ n))
      → IfErr result (λ end. (sum ≡ Err end) ⊎ StopsAt told faults_of (length rows) row.store next.store end)
      → Sums told image moment_of left_since faults_of (rows ++ row ∷ []) (after ++ next ∷ []) result
  sums_more rows after row next sum result so_far again number stops = record {
    many = length-append after (next ∷ []) ∙ ap (λ (n : ℕ). n + 1) so_far.many ∙ sym (length-append rows (row ∷ []));
    again = both_push (λ slot a b. IsMountedAgain told image moment_of left_since a b) rows after row next so_far.many (λ slot a b less here there. so_far.again slot a b here there) again;
    sum = total result number;
    stops = stopped result stops;
  }
    where
      numbers : (ns : List ℤ) (n : ℤ) → AreNumbersOf told rows ns → IsNumberOf (told row.store) n → AreNumbersOf told (rows ++ row ∷ []) (ns ++ n ∷ [])
      numbers ns n are is = record {
        many = length-append ns (n ∷ []) ∙ ap (λ (k : ℕ). k + 1) are.many ∙ sym (length-append rows (row ∷ []));
        each = both_push (λ slot a m. IsNumberOf (told a.store) m) rows ns row n are.many (λ slot a m less here there. are.each slot a m here there) is;
      }

      total : (r : Result ℤ OpenEnd) → IfOk r (λ total. (before n : ℤ) × (sum ≡ Ok before) × IsNumberOf (told row.store) n × (total ≡ before +ℤ n))
          → IfOk r (λ total. (ns : List ℤ) × AreNumbersOf told (rows ++ row ∷ []) ns × (total ≡ sum_of ns))
      total (Err end) is = tt
      total (Ok t) (before, n, sum_is, is, adds) =
          let had = subst (λ (r : Result ℤ OpenEnd). IfOk r (λ total. (ns : List ℤ) × AreNumbersOf told rows ns × (total ≡ sum_of ns))) sum_is so_far.sum in
          (had.0 ++ n ∷ [], numbers had.0 n had.1 is, adds ∙ ap (λ (z : ℤ). z +ℤ n) had.2 ∙ sym (sum_push had.0 n))

      stopped : (r : Result ℤ OpenEnd) → IfErr r (λ end. (sum ≡ Err end) ⊎ StopsAt told faults_of (length rows) row.store next.store end)
          → IfErr r (StopsWhere told faults_of (rows ++ row ∷ []) (after ++ next ∷ []))
      stopped (Ok t) is = tt
      stopped (Err end) is =
          ⊎_elim (λ was. stops_push rows after row next end (subst (λ (r : Result ℤ OpenEnd). IfErr r (StopsWhere told faults_of rows after)) was so_far.stops))
          (λ here. stops_here rows after row next end so_far.many here) is

-- Mounting again behind a failed append: which of its two outcomes was found.
use Rattle.std.proofs.Common.{◌≡◌, ◌≢◌, ◌∙◌, ap, sym, subst, inl, inr, ⊎_elim, ℕ, ◌+◌, List, [], ◌∷◌, ◌++◌, append-nil, append_assoc, length, length-append, take, arith, Option, Some}
use Rattle.std.proofs.lemmas.Bool.{eq-eqb, ne_eqb}
use Rattle.std.specs.Prelude.{◌⊎◌, Bool, true, false, not, ◌==◌}
use Rattle.std.proofs.lemmas.Grind.{flat_map-append}
use Rattle.timeline.specs.declared.caller.Cause.TheVariants as causes
use Rattle.std.proofs.lemmas.List.Elements.{All-push}
use Rattle.do_disk.specs.Disk.{IfTold}
use Rattle.batch_codec.proofs.ReadPayloads.{one_payload}
use Rattle.batch_journal.proofs.Journals.{length-journal_push}
use Rattle.batch_journal.proofs.Verdicts.{one_verdict}
use Rattle.batch_journal.specs.Frames.{Frame, holds, batches_of, journal_bytes, batches_in, NamesAs}
use Rattle.batch_journal.specs.Moments.{LeavesOnly, TellsAsBefore}
use Rattle.batch_journal.specs.Mounting.{ImageOrSame, IsMountOf}
use Rattle.batch_journal.specs.declared.journal.Journal.{Journal}
use Rattle.batch_journal.specs.declared.mount.Mounted.{Mounted}
use Rattle.storage_map.specs.Indexed.{Indexed}
use Rattle.storage_map.specs.Limits.{Object}
use Rattle.output_gate.specs.Mending.{HasCache, IsFound}
use Rattle.output_gate.specs.declared.mending.Found.{Found}
use Rattle.output_gate.specs.declared.mending.Found.TheVariants as found
use Rattle.batch_journal.specs.Recovery.{Recovers, IsJournal}
use Rattle.batch_journal.specs.Rest.{IsStaged, RecoversToOneOf, disk_in}
use Rattle.batch_journal.specs.Verdicts.{Verdict}
use Rattle.storage_map.specs.declared.op.Op.{Op}
use Rattle.timeline.specs.History.{batches_in as batches_taken, durable, kept_before, line}
use Rattle.timeline.specs.Logs.{Fronted}
use Rattle.output_gate.specs.Down.{place_down, IsDown}
use Rattle.output_gate.specs.Gate.{Lists, IsGate}
use Rattle.output_gate.specs.Held.{waiting_in}
use Rattle.output_gate.specs.Kept.{RecoversToPrefix}
use Rattle.output_gate.specs.Passing.{AreMended}
use Rattle.output_gate.specs.Serving.{IsEnded}
use Rattle.output_gate.specs.declared.back.Ending.{Ending}
use Rattle.output_gate.specs.declared.back.Back.{Back}
use Rattle.output_gate.proofs.Downs.{begins, calls_down}
use Rattle.output_gate.proofs.Kept.{first_of, fewer}
use Rattle.batch_journal.proofs.Marking.{recovers_journal}

abbrev is_yes : Bool → Type 0
is_yes true = Unit {0}
is_yes false = ⊥

true_false : true ≡ false → ⊥
true_false same = subst is_yes same tt

-- a file recovers to one list of frames
abbrev frames_in : Verdict → List Frame → List Frame
frames_in (Verdict.recovered frames) other = frames
frames_in v other = other

pub one_list : (c : List ℕ) (xs ys : List Frame) → Recovers c xs → Recovers c ys → xs ≡ ys
one_list c xs ys left right = ap (λ (v : Verdict). frames_in v xs) (one_verdict one_payload c (Verdict.recovered xs) (Verdict.recovered ys) left right)

-- which of the two was found, by the journal's end
pub old_by_end : (frames found : List Frame) (flight : Frame) → (found ≡ frames) ⊎ (found ≡ frames ++ flight ∷ [])
    → length (journal_bytes found) + 1 ≡ length (journal_bytes frames) + 1 → found ≡ frames
old_by_end frames found flight (inl old) same = old
old_by_end frames found flight (inr more) same = absurd (omega (arith, same, ap (λ (fs : List Frame). length (journal_bytes fs)) more, length-journal_push frames flight))

pub more_by_end : (frames found : List Frame) (flight : Frame) → (found ≡ frames) ⊎ (found ≡ frames ++ flight ∷ [])
    → length (journal_bytes found) + 1 ≢ length (journal_bytes frames) + 1 → found ≡ frames ++ flight ∷ []
more_by_end frames found flight (inl old) other = absurd (other (ap (λ (fs : List Frame). length (journal_bytes fs) + 1) old))
more_by_end frames found flight (inr more) other = more

module _ {D : Type 0} (moment_of : D → ℕ) (left_since : D → ℕ → List ℕ → Type 0) (told : D → Option (List ℕ)) (image : D → List ℕ → Type 0)
    (reads_an_image : (disk : D) (c : List ℕ) → told disk ≡ Some c → image disk c) (start : List (List Op)) (opening : ℕ) where
  -- of a disk that tells its content a mounting finds the old frames, or these with the flight
  pub found_one : (disk : D) (ending : Ending) (back : Back D) (s : IsEnded moment_of left_since image start opening disk ending back) (c : List ℕ) (found : List Frame) → told disk ≡ Some c
      → IfTold (told disk) (λ bytes. Recovers bytes found) → (found ≡ s.frames) ⊎ (found ≡ s.frames ++ holds s.flight ∷ [])
  found_one disk ending back s c found tells recovers =
      let now : Recovers c found = recovers c tells in
      ⊎_elim (λ old. inl (one_list c found s.frames now (recovers_journal c s.frames old)))
      (λ more. inr (one_list c found (s.frames ++ holds s.flight ∷ []) now (recovers_journal c (s.frames ++ holds s.flight ∷ []) more)))
      (s.outcomes c (reads_an_image disk c tells))

  -- a full journal is found as it was
  pub found_old : (disk : D) (ending : Ending) (back : Back D) (s : IsEnded moment_of left_since image start opening disk ending back) (c : List ℕ) (found : List Frame) (needed limit : ℕ) → told disk ≡ Some c
      → ending.cause ≡ causes.Full needed limit → IfTold (told disk) (λ bytes. Recovers bytes found) → found ≡ s.frames
  found_old disk ending back s c found needed limit tells full recovers = one_list c found s.frames (recovers c tells) (recovers_journal c s.frames (s.full needed limit full c (reads_an_image disk c tells)))

  -- whatever a mounting does, good or failed, a crash leaves one of the two
  pub mounting_leaves : (disk : D) (ending : Ending) (back : Back D) (s : IsEnded moment_of left_since image start opening disk ending back) (d : List ℕ)
      → ImageOrSame (told disk) (image disk) d → RecoversToOneOf s.frames (holds s.flight) d
  mounting_leaves disk ending back s d (inl now) = s.outcomes d now
  mounting_leaves disk ending back s d (inr same) =
      let file : List ℕ = same.1.file in
      absurd (⊎_elim (λ old. same.1.unsettled s.frames old) (λ more. same.1.unsettled (s.frames ++ holds s.flight ∷ []) more)
      (s.outcomes file (reads_an_image disk file same.1.tells)))

  -- a full journal is left as it was
  pub full_leaves : (disk : D) (ending : Ending) (back : Back D) (s : IsEnded moment_of left_since image start opening disk ending back) (needed limit : ℕ) → ending.cause ≡ causes.Full needed limit
      → (d : List ℕ) → ImageOrSame (told disk) (image disk) d → IsJournal d s.frames
  full_leaves disk ending back s needed limit full d (inl now) = s.full needed limit full d now
  full_leaves disk ending back s needed limit full d (inr same) =
      let file : List ℕ = same.1.file in
      absurd (same.1.unsettled s.frames (s.full needed limit full file (reads_an_image disk file same.1.tells)))

  pub flown_with : (disk : D) (ending : Ending) (back : Back D) (s : IsEnded moment_of left_since image start opening disk ending back) → batches_in (s.frames ++ holds s.flight ∷ []) ≡ start ++ (s.flown ++ s.flight.batches)
  flown_with disk ending back s = flat_map-append batches_of s.frames (holds s.flight ∷ []) ∙ ap (λ bs. bs ++ (s.flight.batches ++ [])) s.batches
      ∙ ap (λ bs. (start ++ s.flown) ++ bs) (append-nil s.flight.batches) ∙ append_assoc start s.flown s.flight.batches

  -- so a mounting keeps what is known of the end, until it is known which of the two was found
  pub one_of_down : (disk : D) (ending : Ending) (back : Back D) (s : IsEnded moment_of left_since image start opening disk ending back) (front : Fronted) (d : List ℕ) → RecoversToOneOf s.frames (holds s.flight) d
      → RecoversToPrefix back.identity start (line (s.last front ∷ s.rest front)) back.durable d
  one_of_down disk ending back s front d one =
      let g = s.down front in
      let all : List (List Op) = s.flown ++ s.flight.batches in
      subst (λ (both : List (List Op) × ℕ). RecoversToPrefix back.identity start both.0 both.1 d) (ap (λ bs. (bs, length s.flown)) (sym g.line) ∙ ap (λ n. (line (s.last front ∷ s.rest front), n)) g.long)
      (⊎_elim (λ old. first_of back.identity start s.flown s.flight.batches s.frames d (recovers_journal d s.frames old) s.named s.batches)
      (λ more. fewer back.identity start all (length s.flown) (length all) d (omega (arith, length-append s.flown s.flight.batches))
      (subst (λ bs. RecoversToPrefix back.identity start bs (length all) d) (append-nil all) (first_of back.identity start all [] (s.frames ++ holds s.flight ∷ []) d (recovers_journal d (s.frames ++ holds s.flight ∷ []) more)
      (All-push (NamesAs back.identity) s.frames (holds s.flight) s.named s.object) (flown_with disk ending back s)))) one)

  abbrev pub lists_of : (disk : D) (ending : Ending) (back : Back D) → IsEnded moment_of left_since image start opening disk ending back → Lists
  lists_of disk ending back s = record { released = back.log.released.items; left = s.left; waiting = waiting_in back.held.items; flown = s.flown; staged = s.flight.batches }

  pub still_down : (disk : D) (ending : Ending) (back : Back D) (s : IsEnded moment_of left_since image start opening disk ending back) (front : Fronted) (new : D)
      → LeavesOnly moment_of left_since disk new (ImageOrSame (told disk) (image disk))
      → IsDown moment_of left_since back.identity start opening front s.ended s.taken (s.last front) (s.rest front) new (lists_of disk ending back s) back.durable
  still_down disk ending back s front new leaves =
      calls_down moment_of left_since back.identity start opening front s.ended s.taken (s.last front) (s.rest front) disk new (lists_of disk ending back s) back.durable
      (ImageOrSame (told disk) (image disk)) (s.down front) leaves
      (λ d one. one_of_down disk ending back s front d (mounting_leaves disk ending back s d one))

  -- the next incarnation begins with what was durable
  pub begins_old : (disk : D) (ending : Ending) (back : Back D) (s : IsEnded moment_of left_since image start opening disk ending back) (front : Fronted) (new : D)
      → LeavesOnly moment_of left_since disk new (ImageOrSame (told disk) (image disk)) → AreMended s.taken
      → IsGate moment_of left_since back.identity start opening front (record (place_down s.ended s.taken (s.last front) (s.rest front)) { older = record (s.last front) { kept = Some (durable (s.last front)) } ∷ s.rest front }) new
      (record (lists_of disk ending back s) { flown = s.flown; staged = [] }) (length s.flown) (length s.flown)
  begins_old disk ending back s front new leaves mended =
      let g = still_down disk ending back s front new leaves in
      begins moment_of left_since back.identity start opening front s.ended s.taken (s.last front) (s.rest front) new (lists_of disk ending back s) back.durable (durable (s.last front)) s.flown g mended g.fails (omega (arith, g.long))

  -- or with the whole flight as well
  pub begins_more : (disk : D) (ending : Ending) (back : Back D) (s : IsEnded moment_of left_since image start opening disk ending back) (front : Fronted) (new : D)
      → LeavesOnly moment_of left_since disk new (ImageOrSame (told disk) (image disk)) → AreMended s.taken
      → (kept : ℕ) → kept ≡ durable (s.last front) + length s.flight.batches
      → IsGate moment_of left_since back.identity start opening front (record (place_down s.ended s.taken (s.last front) (s.rest front)) { older = record (s.last front) { kept = Some kept } ∷ s.rest front }) new
      (record (lists_of disk ending back s) { flown = s.flown ++ s.flight.batches; staged = [] }) (length (s.flown ++ s.flight.batches)) (length (s.flown ++ s.flight.batches))
  begins_more disk ending back s front new leaves mended kept is =
      let g = still_down disk ending back s front new leaves in
      begins moment_of left_since back.identity start opening front s.ended s.taken (s.last front) (s.rest front) new (lists_of disk ending back s) back.durable kept (s.flown ++ s.flight.batches) g mended
      (ap (λ k. kept_before (s.rest front) ++ take k (batches_taken (s.last front).taken)) (is ∙ sym g.lands.1) ∙ g.lands.2) (omega (arith, g.long, length-append s.flown s.flight.batches))

-- which frames were found, told by the journal's end
pub old_found : (frames found : List Frame) (flight : Frame) (place end : ℕ) → (found ≡ frames) ⊎ (found ≡ frames ++ flight ∷ [])
    → place ≡ length (journal_bytes found) + 1 → end ≡ length (journal_bytes frames) + 1 → not (place == end) ≡ false → found ≡ frames
old_found frames found flight place end one at was even =
    ⊎_elim (λ old. old) (λ more. absurd (true_false (sym (ap not (ne_eqb place end (λ same. omega (arith, same, at, was, ap (λ (fs : List Frame). length (journal_bytes fs)) more, length-journal_push frames flight)))) ∙ even))) one

pub more_found : (frames found : List Frame) (flight : Frame) (place end : ℕ) → (found ≡ frames) ⊎ (found ≡ frames ++ flight ∷ [])
    → place ≡ length (journal_bytes found) + 1 → end ≡ length (journal_bytes frames) + 1 → not (place == end) ≡ true → found ≡ frames ++ flight ∷ []
more_found frames found flight place end one at was other =
    more_by_end frames found flight one (λ same. true_false (sym other ∙ ap not (eq-eqb place end (at ∙ same ∙ sym was))))

-- What was mounted is what a mounting gave, with a cache of its index; or its disk is left for want of memory.
module _ {D : Type 0} (moment_of : D → ℕ) (left_since : D → ℕ → List ℕ → Type 0) (told : D → Option (List ℕ)) (image : D → List ℕ → Type 0) (disk : D) where
  abbrev Gives : Journal D × Option Object → Indexed → Type 0
  Gives x index =
      IsMountOf told image moment_of left_since disk (record { journal = x.0; identity = x.1; index = index }) × ((object : Object) → IsStaged x.0 object [])
      × LeavesOnly moment_of left_since disk (disk_in x.0) (ImageOrSame (told disk) (image disk)) × TellsAsBefore (told disk) (told (disk_in x.0))

  pub found_with : (mounted : Mounted D) (f : Found D) → HasCache mounted f → Gives (mounted.journal, mounted.identity) mounted.index → IsFound moment_of left_since told image disk f
  found_with mounted (found.Mounted journal identity cache) has gives =
      let same : (journal, identity) ≡ (mounted.journal, mounted.identity) = λ i. (has.0 i, has.1 i) in
      let g = subst (λ (x : Journal D × Option Object). Gives x mounted.index) (sym same) gives in
      ((mounted.index, has.2, g.0), g.1, g.2, g.3)
  found_with mounted (found.Refused left) has gives = absurd has
  found_with mounted (found.NoMemory left) has gives =
      subst (λ (d : D). LeavesOnly moment_of left_since disk d (ImageOrSame (told disk) (image disk)) × TellsAsBefore (told disk) (told d)) (sym has) (gives.2, gives.3)

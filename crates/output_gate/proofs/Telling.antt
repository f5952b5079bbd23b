-- What a back tells whoever reads its log.
use Rattle.std.proofs.Common.{◌≡◌, ◌∙◌, ap, sym, refl, subst, inl, inr, ℕ, List, [], ◌∷◌, ◌++◌, append-nil, append_assoc, map, Option, Some, None}
use Rattle.std.proofs.lemmas.Grind.{flat_map-append}
use Rattle.std.proofs.lemmas.List.{map-append}
use Rattle.std.specs.Prelude.{Bool, true}
use Rattle.std.specs.List.{flat_map}
use Rattle.batch_journal.specs.Moments.{IsTold}
use Rattle.batch_journal.specs.Rest.{disk_in}
use Rattle.storage_map.proofs.Folds.{apply-append}
use Rattle.storage_map.specs.Contents.{Contents, nothing, apply}
use Rattle.storage_map.specs.Limits.{Object}
use Rattle.storage_map.specs.declared.op.Op.{Op}
use Rattle.timeline.specs.Headline.{KeepBy, release_of, pass_of}
use Rattle.timeline.specs.History.{Incarnation, History, batches_in, history, kept_before, said_in, start_after}
use Rattle.timeline.specs.Intake.{answer_in}
use Rattle.timeline.specs.Logs.{Fronted, Backed, backed}
use Rattle.timeline.specs.Passed.{Passed, passed}
use Rattle.timeline.specs.Told.{said_by, spoken, batches_of, stored_answer, written, written_by}
use Rattle.timeline.specs.declared.back_log.Release.{Release}
use Rattle.timeline.specs.declared.entry.Body.{Body}
use Rattle.timeline.specs.declared.entry.Body.TheVariants as body
use Rattle.timeline.specs.declared.entry.Entry.{Entry}
use Rattle.timeline.specs.declared.notice.Notice.{Notice}
use Rattle.output_gate.specs.Down.{place_down}
use Rattle.output_gate.specs.Gate.{place_of, history_at}
use Rattle.output_gate.specs.Held.{waiting_in}
use Rattle.output_gate.specs.Kept.{RecoversToLine, HasLeft, HaveLeft}
use Rattle.output_gate.specs.Serving.{IsMounted, IsUnmounted, IsBackAs, alarm_of}
use Rattle.output_gate.specs.Standing.{own_entries, older_of}
use Rattle.output_gate.specs.Storing.{IsDiskOf}
use Rattle.object_storage.specs.Stored.{HasStored}
use Rattle.output_gate.specs.Entering.{StandsForMap}
use Rattle.output_gate.proofs.Takings.{may_some, some_object}
use Rattle.output_gate.specs.Taking.{is_mounted_mode, notice_of}
use Rattle.output_gate.specs.Telling.{HasTold, opened_map}
use Rattle.output_gate.specs.declared.back.Back.{Back}
use Rattle.output_gate.specs.declared.back.Mode.TheVariants.{Mounted}
use Rattle.output_gate.specs.declared.store.Store.{Store}
use Rattle.output_gate.proofs.Endings.{no_count}
use Rattle.output_gate.proofs.Fitting.{mounted_of}
use Rattle.output_gate.proofs.Gates.{batches_of-append}
use Rattle.output_gate.proofs.Histories.{stands}
use Rattle.output_gate.proofs.Stored.{same_disk}

-- the releases are those of what has left
released_as : {D : Type 0} (moment_of : D → ℕ) (left_since : D → ℕ → List ℕ → Type 0) (object : Option Object) (start : List (List Op)) (disk : D) (h : History) (released : List Release) (left : List Passed)
    → HaveLeft moment_of left_since object start disk h released left → map release_of released ≡ map pass_of left
released_as moment_of left_since object start disk h [] [] held = refl
released_as moment_of left_since object start disk h [] (p ∷ left) held = elim held [ ]
released_as moment_of left_since object start disk h (r ∷ released) [] held = elim held [ ]
released_as moment_of left_since object start disk h (r ∷ released) (p ∷ left) held =
    let here : HasLeft moment_of left_since object start disk h r p = held.0 in
    ap (λ m. (m, r.needs) ∷ map release_of released) here.message ∙ ap (λ n. (p.message, n) ∷ map release_of released) here.needs
    ∙ ap (λ rest. (p.message, p.needs) ∷ rest) (released_as moment_of left_since object start disk h released left held.1)

-- the newest incarnation goes on, so it kept nothing yet
keeps_on : (i : Incarnation) (older : History) → i.kept ≡ None → KeepBy older → KeepBy (i ∷ older)
keeps_on i older on keep = ((λ stop k is kept. absurd (no_count k (sym on ∙ kept))), keep)

module _ {D : Type 0} (moment_of : D → ℕ) (left_since : D → ℕ → List ℕ → Type 0) (told : D → Option (List ℕ)) (image : D → List ℕ → Type 0) (faults_of : D → ℕ) (start : List (List Op)) (opening : ℕ) (sound : Bool) where
  mounted_tells : (back : Back D) (m : IsMounted moment_of left_since told image faults_of start opening sound back) → IsTold (told (disk_in m.journal)) → (front : Fronted)
      → HasTold moment_of left_since faults_of back.identity start opening front (disk_in m.journal) (backed back.log)
  mounted_tells back m tells front =
      let s = m.serves tells in
      let b : Backed = backed back.log in
      let at : history front b ≡ history_at front (place_of front b) = stands front b s.room.logs in
      let g = s.gate front in
      let passes : s.left ++ waiting_in back.held.items ≡ passed (history front b) = sym (ap passed at ∙ g.passes) in
      let released : HaveLeft moment_of left_since back.identity start (disk_in m.journal) (history front b) b.released s.left =
      subst (λ (h : History). HaveLeft moment_of left_since back.identity start (disk_in m.journal) h b.released s.left) (sym at) g.released in
      record {
        logs = s.room.logs;
        left = s.left;
        begins = (waiting_in back.held.items, passes);
        passes = (
          map pass_of (waiting_in back.held.items),
          ap (λ xs. xs ++ map pass_of (waiting_in back.held.items)) (released_as moment_of left_since back.identity start (disk_in m.journal) (history front b) b.released s.left released)
              ∙ sym (map-append pass_of s.left (waiting_in back.held.items)) ∙ ap (map pass_of) passes,
        );
        released = released;
        images = λ c now. subst (λ (h : History). RecoversToLine back.identity start 0 h 0 c) (sym at) (g.images c now);
        kept = subst KeepBy (sym at) (keeps_on _ (older_of front b) refl (m.logged.keep tells front));
        followed = ([], append-nil _ ∙ m.logged.followed);
        missed = m.counts.begun;
        rising = m.counts.rising;
        rose = m.counts.rose tells;
      }

  unmounted_tells : (back : Back D) (u : IsUnmounted moment_of left_since told image faults_of start opening back) → IsTold (told u.disk) → (front : Fronted)
      → HasTold moment_of left_since faults_of back.identity start opening front u.disk (backed back.log)
  unmounted_tells back u tells front =
      let s = u.ended tells in
      let b : Backed = backed back.log in
      let at : history front b ≡ history_at front (place_of front b) = stands front b s.logs in
      let down : history front b ≡ history_at front (place_down s.ended s.taken (s.last front) (s.rest front)) = at ∙ ap (history_at front) (s.place front) in
      let g = s.down front in
      let passes : s.left ++ waiting_in back.held.items ≡ passed (history front b) = sym (ap passed down ∙ g.passes) in
      let released : HaveLeft moment_of left_since back.identity start u.disk (history front b) b.released s.left =
      subst (λ (h : History). HaveLeft moment_of left_since back.identity start u.disk h b.released s.left) (sym down) g.released in
      record {
        logs = s.logs;
        left = s.left;
        begins = (waiting_in back.held.items, passes);
        passes = (
          map pass_of (waiting_in back.held.items),
          ap (λ xs. xs ++ map pass_of (waiting_in back.held.items)) (released_as moment_of left_since back.identity start u.disk (history front b) b.released s.left released)
              ∙ sym (map-append pass_of s.left (waiting_in back.held.items)) ∙ ap (map pass_of) passes,
        );
        released = released;
        images = λ c now. subst (λ (h : History). RecoversToLine back.identity start 0 h 0 c) (sym down) (g.images c now);
        kept = subst KeepBy (sym at) (keeps_on _ (older_of front b) refl (u.logged.keep tells front));
        followed = (u.ending.cause ∷ [], u.logged.followed);
        missed = u.counts.begun;
        rising = u.counts.rising;
        rose = u.counts.rose tells;
      }

  pub tells_all : (back : Back D) (disk : D) → IsDiskOf back.store disk → IsTold (told disk) → IsBackAs moment_of left_since told image faults_of start opening sound back → (front : Fronted)
      → HasTold moment_of left_since faults_of back.identity start opening front disk (backed back.log)
  tells_all back disk at tells (inl m) front =
      let same = same_disk back.store (disk_in m.journal) disk (subst (λ (s : Store D). IsDiskOf s (disk_in m.journal)) (sym m.safe.store) refl) at in
      subst (λ (d : D). HasTold moment_of left_since faults_of back.identity start opening front d (backed back.log)) same
      (mounted_tells back m (subst (λ (d : D). IsTold (told d)) (sym same) tells) front)
  tells_all back disk at tells (inr u) front =
      let same = same_disk back.store u.disk disk u.safe.store at in
      subst (λ (d : D). HasTold moment_of left_since faults_of back.identity start opening front d (backed back.log)) same
      (unmounted_tells back u (subst (λ (d : D). IsTold (told d)) (sym same) tells) front)

-- a notice that is given at once
abbrev given : Option Notice → Notice → Notice
given None other = other
given (Some n) other = n

abbrev is_given : Option Notice → Type 0
is_given None = ⊥
is_given (Some n) = Unit {0}

not_given : {n : Notice} → None ≡ Some n → ⊥
not_given same = subst is_given (sym same) tt

same_given : {n m : Notice} → Some n ≡ Some m → m ≡ n
same_given {n} {m} same = ap (λ (o : Option Notice). given o m) (sym same)

batch_answers : (number : ℕ) (m : Contents) (ops : List Op) (tail : Option ℕ) (confirmed : Bool) (n : Notice) → notice_of number m (body.Batch ops tail confirmed) ≡ Some n → answer_in n ≡ stored_answer m (body.Batch ops tail confirmed) ∷ []
batch_answers number m ops None confirmed n is = absurd (not_given is)
batch_answers number m ops (Some tail) confirmed n is = ap answer_in (same_given is)

pub answers : (number : ℕ) (m : Contents) (b : Body) (n : Notice) → notice_of number m b ≡ Some n → answer_in n ≡ stored_answer m b ∷ []
answers number m (body.Batch ops tail confirmed) n is = batch_answers number m ops tail confirmed n is
answers number m (body.Ask ask free) n is = ap answer_in (same_given is)
answers number m (body.Bind identity) n is = absurd (not_given is)
answers number m body.Sync n is = absurd (not_given is)
answers number m (body.Message sent) n is = absurd (not_given is)
answers number m (body.Halt cause) n is = absurd (not_given is)
answers number m body.Mend n is = absurd (not_given is)

-- what entries write is the fold of their batches
one_written : (m : Contents) (b : Body) → written_by m b ≡ apply m (flat_map (λ ops. ops) (batches_of (said_by b)))
one_written m (body.Batch ops tail confirmed) = ap (apply m) (sym (append-nil ops))
one_written m (body.Ask ask free) = refl
one_written m (body.Bind identity) = refl
one_written m body.Sync = refl
one_written m (body.Message sent) = refl
one_written m (body.Halt cause) = refl
one_written m body.Mend = refl

all_written : (m : Contents) (entries : List Entry) → written m (said_in entries) ≡ apply m (flat_map (λ ops. ops) (batches_in entries))
all_written m [] = refl
all_written m (e ∷ entries) =
    let own = batches_of (said_by e.body) in
    ap (λ x. written x (said_in entries)) (one_written m e.body)
    ∙ all_written (apply m (flat_map (λ ops. ops) own)) entries
    ∙ sym (apply-append m (flat_map (λ ops. ops) own) (flat_map (λ ops. ops) (batches_in entries)))
    ∙ ap (apply m) (sym (flat_map-append (λ ops. ops) own (batches_in entries)) ∙ ap (flat_map (λ ops. ops)) (sym (batches_of-append (said_by e.body) (spoken entries))))

joined : (xs ys : List (List Op)) → apply nothing (flat_map (λ ops. ops) (xs ++ ys)) ≡ apply (apply nothing (flat_map (λ ops. ops) xs)) (flat_map (λ ops. ops) ys)
joined xs ys = ap (apply nothing) (flat_map-append (λ ops. ops) xs ys) ∙ apply-append nothing (flat_map (λ ops. ops) xs) (flat_map (λ ops. ops) ys)

-- what the newest of these has written on the map with which it started
abbrev written_in : Contents → History → Contents
written_in opened [] = opened
written_in opened (i ∷ older) = written (start_after opened older) (said_in i.taken)

module _ {D : Type 0} (moment_of : D → ℕ) (left_since : D → ℕ → List ℕ → Type 0) (told : D → Option (List ℕ)) (image : D → List ℕ → Type 0) (faults_of : D → ℕ) (start : List (List Op)) (opening : ℕ) where
  serving_map : (back : Back D) (m : IsMounted moment_of left_since told image faults_of start opening true back) → (tells : IsTold (told (disk_in m.journal))) → (front : Fronted)
      → apply nothing (flat_map (λ ops. ops) (start ++ (m.serves tells).flown ++ (m.serves tells).staged))
      ≡ written (start_after (opened_map start) (older_of front (backed back.log))) (said_in (own_entries (backed back.log)))
  serving_map back m tells front =
      let s = m.serves tells in
      let kept = kept_before (older_of front (backed back.log)) in
      let own = batches_in (own_entries (backed back.log)) in
      ap (λ bs. apply nothing (flat_map (λ ops. ops) bs)) (append_assoc start s.flown s.staged ∙ ap (λ bs. start ++ bs) (sym (s.gate front).line) ∙ sym (append_assoc start kept own))
      ∙ joined (start ++ kept) own
      ∙ ap (λ m. apply m (flat_map (λ ops. ops) own)) (ap (apply nothing) (flat_map-append (λ ops. ops) start kept) ∙ apply-append nothing (flat_map (λ ops. ops) start) (flat_map (λ ops. ops) kept))
      ∙ sym (all_written (start_after (opened_map start) (older_of front (backed back.log))) (own_entries (backed back.log)))

  -- the map that is stored, and its alarm
  stands_for : (back : Back D) (m : IsMounted moment_of left_since told image faults_of start opening true back) → IsTold (told (disk_in m.journal)) → (front : Fronted)
      → StandsForMap told image (written (start_after (opened_map start) (older_of front (backed back.log))) (said_in (own_entries (backed back.log)))) back
  stands_for back m tells front =
      let s = m.serves tells in
      record {
        journal = m.journal;
        frames = s.frames;
        staged = s.staged;
        at = m.safe.store;
        at_rest = s.at_rest;
        stored = λ object may. subst (λ (x : Contents). HasStored s.frames object s.staged back.cache x) (serving_map back m tells front) (s.stored refl object may);
        kept = s.kept refl;
      }

  alarm_stands : (back : Back D) (m : Contents) → StandsForMap told image m back → alarm_of back ≡ m.alarm
  alarm_stands back m has = (has.stored (some_object back.identity) (may_some back.identity)).cache_of.alarm

  pub map_is : (back : Back D) (disk : D) → IsDiskOf back.store disk → IsTold (told disk) → IsBackAs moment_of left_since told image faults_of start opening true back → back.mode ≡ Mounted
      → (front : Fronted) (i : Incarnation) (older : History) → history front (backed back.log) ≡ i ∷ older
      → StandsForMap told image (written (start_after (opened_map start) older) (said_in i.taken)) back × (alarm_of back ≡ (written (start_after (opened_map start) older) (said_in i.taken)).alarm)
  map_is back disk at tells b mode front i older is =
      let m = mounted_of moment_of left_since told image faults_of start opening true back b (ap is_mounted_mode mode) in
      let same = same_disk back.store (disk_in m.journal) disk (subst (λ (s : Store D). IsDiskOf s (disk_in m.journal)) (sym m.safe.store) refl) at in
      let has = subst (λ (x : Contents). StandsForMap told image x back) (ap (written_in (opened_map start)) (sym (stands front (backed back.log) m.safe.room.logs) ∙ is))
      (stands_for back m (subst (λ (d : D). IsTold (told d)) (sym same) tells) front) in
      (has, alarm_stands back (written (start_after (opened_map start) older) (said_in i.taken)) has)

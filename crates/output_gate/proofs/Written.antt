-- What each step of a back leaves of the journal's end, by the frames of its log.
use Rattle.std.proofs.Common.{◌≡◌, ◌≢◌, ◌∙◌, ap, sym, refl, subst, inl, inr, ⊎_elim, ℕ, suc, ◌+◌, ◌-◌, ◌^◌, ◌<◌, ◌≤◌, List, [], ◌∷◌, ◌++◌, append-nil, length, length-append, take, drop, sum, arith, Option, Some, None}
use Rattle.std.proofs.lemmas.Bool.{eq-eqb, ne_eqb}
use Rattle.std.proofs.lemmas.List.Elements.{All-nil}
use Rattle.std.proofs.lemmas.List.{length-drop, length-take, take_all}
use Rattle.std.specs.Prelude.{Bool, true, not, ◌||◌, min, if◌then◌else◌, is_some}
use Rattle.batch_codec.specs.Frames as codec
use Rattle.batch_journal.specs.Frames.{Frame, holds, payload}
use Rattle.batch_journal.specs.Moments.{IsTold}
use Rattle.batch_journal.specs.Rest.{disk_in, end_of, limit_of, needed}
use Rattle.batch_journal.specs.Staged.{frame_of}
use Rattle.batch_journal.specs.declared.journal.Journal.{Journal}
use Rattle.storage_map.specs.Limits.{Object}
use Rattle.storage_map.specs.declared.op.Op.{Op}
use Rattle.timeline.specs.History.{Incarnation, History, batches_in, before_stop, durable_by, history, incarnation_at, incarnations, kept_before}
use Rattle.timeline.specs.Logs.{Fronted, Backed, backed}
use Rattle.timeline.specs.declared.back_log.Stop.{Stop}
use Rattle.timeline.specs.declared.caller.Cause.{Cause}
use Rattle.timeline.specs.declared.caller.Cause.TheVariants as cause
use Rattle.timeline.specs.declared.entry.Body.{Body}
use Rattle.timeline.specs.declared.entry.Body.TheVariants as body
use Rattle.timeline.specs.declared.entry.Entry.{Entry}
use Rattle.timeline.specs.declared.message.Message.{Message as Sent}
use Rattle.timeline.specs.declared.notice.Notice.{Notice}
use Rattle.output_gate.specs.Down.{place_down}
use Rattle.output_gate.specs.Ended.{AreInOrder, HasEnded, IsEnding, AreEnding}
use Rattle.output_gate.specs.Entering.{Enters, Failed, identity_after, identity_by, logged_as, mode_after, mode_by}
use Rattle.output_gate.specs.Fits.{fits_mounted}
use Rattle.output_gate.specs.Flushing.{Ends, FliesAll, Flushes}
use Rattle.output_gate.specs.Gate.{Place, history_at, place_of}
use Rattle.output_gate.specs.Held.{HaltsLast, ends_well, halts_well, has_halt, is_held_halt}
use Rattle.output_gate.specs.Logs.{no_log}
use Rattle.output_gate.specs.Mending.{HasBegun, HasMissed, Remounts, kept_at}
use Rattle.output_gate.specs.Releasing.{Releases, Stays, released_log}
use Rattle.output_gate.specs.Serving.{IsAsBefore, IsAtEnd, IsBackAs, IsEnded, IsMounted, IsServing, IsUnmounted, halt_of, marks_of, stop_of}
use Rattle.output_gate.specs.Standing.{AreLogs, older_of, own_entries, own_flights}
use Rattle.output_gate.specs.Storing.{HasLimit, IsCauseOf, IsDiskOf, KeepsEnd}
use Rattle.output_gate.specs.Taking.{fit_of, is_mounted_mode, is_wanted}
use Rattle.output_gate.specs.Kept.{MayBe}
use Rattle.output_gate.specs.Written.{AreFilled, AreWritten, FindsEnd, IsFoundWith, IsFullBy, IsWritten, end_with, frames_before, frames_in, going, needed_by, unflown, unflown_in}
use Rattle.output_gate.specs.declared.back.Back.{Back}
use Rattle.output_gate.specs.declared.back.Ending.{Ending}
use Rattle.output_gate.specs.declared.back.Mode.{Mode}
use Rattle.output_gate.specs.declared.back.Mode.TheVariants.{Mounted, Wanted, Down}
use Rattle.output_gate.specs.declared.fit.Fit.{Fit}
use Rattle.output_gate.specs.declared.fit.Fit.TheVariants as fit
use Rattle.output_gate.specs.declared.held.HeldBody.{HeldBody}
use Rattle.output_gate.specs.declared.held.HeldBody.TheVariants.{Message, Sync, Halt}
use Rattle.output_gate.specs.declared.store.Store.TheVariants as store
use Rattle.output_gate.proofs.Afterwards.{Comes, comes, ended_at, ending_at, place_before, place_behind}
use Rattle.output_gate.proofs.Fitting.{down_of, late_of, mounted_of, never_mounted, own_of}
use Rattle.output_gate.proofs.Frames.{behind, end_push, flew_filled, flew_frames, followed_filled, followed_more, followed_old, grown_filled, grown_frames, last_of_place, late_filled, late_frames, no_stop, some_less, stopped_filled, stopped_frames}
use Rattle.output_gate.proofs.Helds.{true_false}
use Rattle.output_gate.proofs.Histories.{stands}
use Rattle.output_gate.proofs.Mountings.{place_followed}
use Rattle.output_gate.proofs.Places.{missed_place, place_flew, place_stopped, place_took, released_place}
use Rattle.output_gate.proofs.Remounts.{same_ending}
use Rattle.output_gate.proofs.Restarts.{restart_place}
use Rattle.output_gate.proofs.Steps.{flushed_back, longer, safe_object}
use Rattle.output_gate.proofs.Stored.{in_it, same_disk, same_journal, still_end}

-- how a back stands behind an entry
mounted_by : (f : Fit) (mode : Mode) (b : Body) → mode_after f mode b ≡ Mounted → mode ≡ Mounted
mounted_by f Mounted b is = refl
mounted_by fit.Down (Wanted e) body.Mend is = is
mounted_by fit.Down (Wanted e) (body.Batch ops tail confirmed) is = is
mounted_by fit.Down (Wanted e) (body.Ask ask free) is = is
mounted_by fit.Down (Wanted e) (body.Bind object) is = is
mounted_by fit.Down (Wanted e) body.Sync is = is
mounted_by fit.Down (Wanted e) (body.Message sent) is = is
mounted_by fit.Down (Wanted e) (body.Halt c) is = is
mounted_by fit.Down (Down e) body.Mend is = absurd (true_false (sym (ap is_mounted_mode is)))
mounted_by fit.Down (Down e) (body.Batch ops tail confirmed) is = is
mounted_by fit.Down (Down e) (body.Ask ask free) is = is
mounted_by fit.Down (Down e) (body.Bind object) is = is
mounted_by fit.Down (Down e) body.Sync is = is
mounted_by fit.Down (Down e) (body.Message sent) is = is
mounted_by fit.Down (Down e) (body.Halt c) is = is
mounted_by fit.Unfit (Wanted e) b is = is
mounted_by fit.Own (Wanted e) b is = is
mounted_by fit.Late (Wanted e) b is = is
mounted_by fit.Unfit (Down e) b is = is
mounted_by fit.Own (Down e) b is = is
mounted_by fit.Late (Down e) b is = is

abbrev wanted_or : Mode → Ending → Ending
wanted_or (Wanted ending) other = ending
wanted_or mode other = other

-- the end is the one that it was
asked_at : (mode : Mode) (ending : Ending) → IsAtEnd ending (mode_by body.Mend mode) → IsAtEnd ending mode
asked_at Mounted ending at = at
asked_at (Wanted e) ending at = at
asked_at (Down e) ending (inl wanted) = inr (ap (λ (x : Ending). Down x) (ap (λ m. wanted_or m e) wanted))
asked_at (Down e) ending (inr down) = absurd (true_false (ap is_wanted down))

at_end_by : (f : Fit) (mode : Mode) (b : Body) (ending : Ending) → IsAtEnd ending (mode_after f mode b) → IsAtEnd ending mode
at_end_by fit.Down mode body.Mend ending at = asked_at mode ending at
at_end_by fit.Down mode (body.Batch ops tail confirmed) ending at = at
at_end_by fit.Down mode (body.Ask ask free) ending at = at
at_end_by fit.Down mode (body.Bind object) ending at = at
at_end_by fit.Down mode body.Sync ending at = at
at_end_by fit.Down mode (body.Message sent) ending at = at
at_end_by fit.Down mode (body.Halt c) ending at = at
at_end_by fit.Unfit mode b ending at = at
at_end_by fit.Own mode b ending at = at
at_end_by fit.Late mode b ending at = at

-- a binding fits only where no object is known
may_bind : (identity : Option Object) (b : Body) (object : Object) → fits_mounted b (is_some identity) ≡ true → MayBe (identity_by b identity) object → MayBe identity object
may_bind None b object fits may = tt
may_bind (Some known) (body.Bind bound) object fits may = absurd (true_false (sym fits))
may_bind (Some known) (body.Batch ops tail confirmed) object fits may = may
may_bind (Some known) (body.Ask ask free) object fits may = may
may_bind (Some known) body.Sync object fits may = may
may_bind (Some known) (body.Message sent) object fits may = may
may_bind (Some known) (body.Halt c) object fits may = may
may_bind (Some known) body.Mend object fits may = may

abbrev down_or : Mode → Ending → Ending
down_or (Down ending) other = ending
down_or mode other = other

-- the end of a back that is down
down_at : (ending other : Ending) → IsAtEnd other (Down ending) → ending ≡ other
down_at ending other (inl wanted) = absurd (true_false (sym (ap is_wanted wanted)))
down_at ending other (inr down) = ap (λ m. down_or m ending) down

-- the object that is known
is_known : (identity : Option Object) (known object : Object) → identity ≡ Some known → MayBe identity object → identity ≡ Some object
is_known identity known object is may =
    let same : known ≡ object = subst (λ (o : Option Object). MayBe o object) is may in
    is ∙ ap (λ (o : Object). Some o) same

module _ {D : Type 0} (limit end : ℕ) (old new : Back D) where
  -- The frames, how the back stands and where its journal ends are as before.
  written_on : (front : Fronted) (object : Object) → frames_in object (going front (backed new.log)) ≡ frames_in object (going front (backed old.log))
      → AreFilled limit end object (going front (backed new.log)) → (new.mode ≡ Mounted → old.mode ≡ Mounted)
      → ((ending : Ending) → IsAtEnd ending new.mode → IsAtEnd ending old.mode) → (old.mode ≡ Mounted → KeepsEnd old.store new.store)
      → IsWritten limit end old front object → IsWritten limit end new front object
  written_on front object frames filled mounted at keeps w = record {
    journal = λ journal is now.
        let b = keeps (mounted now) journal is in
        b.2 ∙ w.journal b.0 b.1 (mounted now) ∙ ap (end_with end) (sym frames);
    ending = λ ending now. w.ending ending (at ending now) ∙ ap (end_with end) (sym frames);
    filled = filled;
  }

  written_still : ((front : Fronted) → place_of front (backed new.log) ≡ place_of front (backed old.log)) → new.mode ≡ old.mode → new.identity ≡ old.identity
      → (old.mode ≡ Mounted → KeepsEnd old.store new.store) → AreWritten limit end old → AreWritten limit end new
  written_still places mode same keeps all front object may =
      let w = all front object (subst (λ (o : Option Object). MayBe o object) same may) in
      let h : going front (backed new.log) ≡ going front (backed old.log) = ap (history_at front) (places front) in
      written_on front object (ap (frames_in object) h) (subst (AreFilled limit end object) (sym h) w.filled) (λ now. sym mode ∙ now)
      (λ ending now. subst (IsAtEnd ending) mode now) keeps w

  pub written_as_before : IsAsBefore old new → (old.mode ≡ Mounted → KeepsEnd old.store new.store) → AreWritten limit end old → AreWritten limit end new
  written_as_before same keeps all = written_still (λ front. ap (place_of front) same.log) same.mode same.identity keeps all

  pub written_stays : (s0 s : List Notice) (o0 o : List Sent) → Stays old new s0 s o0 o → AreWritten limit end old → AreWritten limit end new
  written_stays s0 s o0 o stays all =
      written_still (λ front. ap (place_of front) stays.log) stays.mode stays.identity (λ now. still_end old.store new.store stays.store) all

module _ {D : Type 0} (moment_of : D → ℕ) (left_since : D → ℕ → List ℕ → Type 0) (told : D → Option (List ℕ)) (image : D → List ℕ → Type 0) (faults_of : D → ℕ)
    (start : List (List Op)) (opening : ℕ) (sound : Bool) where
  abbrev Known : Back D → Type 0
  Known = IsBackAs moment_of left_since told image faults_of start opening sound

  logs_of : (back : Back D) → Known back → AreLogs (backed back.log)
  logs_of back (inl m) = m.safe.room.logs
  logs_of back (inr u) = u.safe.logs

  number_of : (back : Back D) → Known back → back.number ≡ suc (length back.log.stops.items)
  number_of back (inl m) = m.safe.room.number
  number_of back (inr u) = u.safe.number

  order_of : (back : Back D) → Known back → AreInOrder back.log.taken.items back.log.stops.items
  order_of back (inl m) = m.logged.ordered
  order_of back (inr u) = u.logged.ordered

  ended_of : (back : Back D) → Known back → (e : Entry) (c : Comes (backed back.log) e) (front : Fronted)
      → HasEnded (marks_of back) (incarnation_at front (backed back.log) c.last) (incarnations front (backed back.log) c.last)
  ended_of back (inl m) e c front = ended_at (backed back.log) e c front (marks_of back) (m.logged.placed front).ended
  ended_of back (inr u) e c front = (ending_at (backed back.log) e c front u.ending (marks_of back) (u.logged.ended front)).ended

  -- The batches of a mounted incarnation that have not flown are staged.
  staged_is : (back : Back D) (m : IsMounted moment_of left_since told image faults_of start opening sound back)
      (s : IsServing moment_of left_since told image start opening sound m.journal back) (front : Fronted)
      → s.staged ≡ drop (sum (own_flights (backed back.log))) (batches_in (own_entries (backed back.log)))
  staged_is back m s front =
      let g = s.gate front in
      behind (kept_before (older_of front (backed back.log))) (batches_in (own_entries (backed back.log))) s.flown s.staged (sum (own_flights (backed back.log))) g.line
      (g.long ∙ g.flown)

  module _ (limit end : ℕ) (old new : Back D) (all : AreWritten limit end old) where
    -- ---- an entry was taken, or it wasn't fit
    took_one : (known : Known old) (e : Entry) → e.incarnation ≡ old.number → backed new.log ≡ record (backed old.log) { taken = old.log.taken.items ++ e ∷ [] }
        → (f : Fit) → new.mode ≡ mode_after f old.mode e.body → KeepsEnd old.store new.store
        → ((object : Object) → MayBe new.identity object → MayBe old.identity object) → AreWritten limit end new
    took_one known e own log f mode keeps names front object may =
        let w = all front object (names object may) in
        let p : Place = place_of front (backed old.log) in
        let q : Place = record p { taken = p.taken ++ e ∷ [] } in
        let at : place_of front (backed new.log) ≡ q =
        ap (place_of front) log ∙ place_took front (backed old.log) e (logs_of old known) (own ∙ number_of old known) in
        let h : going front (backed new.log) ≡ history_at front q = ap (history_at front) at in
        written_on limit end old new front object (ap (frames_in object) h ∙ grown_frames limit end object front p w.filled e)
        (subst (AreFilled limit end object) (sym h) (grown_filled limit end object front p w.filled e))
        (λ now. mounted_by f old.mode e.body (sym mode ∙ now)) (λ ending now. at_end_by f old.mode e.body ending (subst (IsAtEnd ending) mode now)) (λ now. keeps) w

    took_late : (known : Known old) (e : Entry) → (c : Comes (backed old.log) e) → backed new.log ≡ record (backed old.log) { taken = old.log.taken.items ++ e ∷ [] }
        → new.mode ≡ old.mode → KeepsEnd old.store new.store → new.identity ≡ old.identity → AreWritten limit end new
    took_late known e c log mode keeps same front object may =
        let b : Backed = backed old.log in
        let w = all front object (subst (λ (o : Option Object). MayBe o object) same may) in
        let logs = logs_of old known in
        let i : Incarnation = incarnation_at front b c.last in
        let rest : History = incarnations front b c.last in
        let before = place_before b e c.last logs c.long c.own c.none front in
        let behind_it = ap (place_of front) log ∙ place_behind b e c.last logs c.long c.own c.none front in
        let ended = ended_of old known e c front in
        let filled = subst (AreFilled limit end object) (ap (history_at front) before) w.filled in
        written_on limit end old new front object
        (ap (λ (p : Place). frames_in object (history_at front p)) behind_it
        ∙ late_frames limit end object front (suc c.last) [] (own_flights b) (marks_of old) i rest e ended filled
        ∙ sym (ap (λ (p : Place). frames_in object (history_at front p)) before))
        (subst (λ (p : Place). AreFilled limit end object (history_at front p)) (sym behind_it)
        (late_filled limit end object front (suc c.last) [] (own_flights b) (marks_of old) i rest e ended filled))
        (λ now. sym mode ∙ now) (λ ending now. subst (IsAtEnd ending) mode now) (λ now. keeps) w

    enters_as : (known : Known old) (e : Entry) (failed : Failed) → Enters failed old new e → KeepsEnd old.store new.store → (f : Fit) → fit_of old e ≡ f → AreWritten limit end new
    enters_as known e failed enters keeps fit.Unfit is =
        written_still limit end old new (λ front. ap (place_of front) (enters.log ∙ ap (λ (x : Fit). logged_as x (backed old.log) e) is))
        (enters.mode ∙ ap (λ (x : Fit). mode_after x old.mode e.body) is) (enters.identity ∙ ap (λ (x : Fit). identity_after x old.identity e.body) is) (λ now. keeps) all
    enters_as known e failed enters keeps fit.Own is =
        let o = own_of old e is in
        took_one known e o.own (enters.log ∙ ap (λ (x : Fit). logged_as x (backed old.log) e) is) fit.Own
        (enters.mode ∙ ap (λ (x : Fit). mode_after x old.mode e.body) is) keeps
        (λ object may. may_bind old.identity e.body object o.fits
        (subst (λ (i : Option Object). MayBe i object) (enters.identity ∙ ap (λ (x : Fit). identity_after x old.identity e.body) is) may))
    enters_as known e failed enters keeps fit.Down is =
        took_one known e (down_of old e is).own (enters.log ∙ ap (λ (x : Fit). logged_as x (backed old.log) e) is) fit.Down
        (enters.mode ∙ ap (λ (x : Fit). mode_after x old.mode e.body) is) keeps
        (λ object may. subst (λ (i : Option Object). MayBe i object) (enters.identity ∙ ap (λ (x : Fit). identity_after x old.identity e.body) is) may)
    enters_as known e failed enters keeps fit.Late is =
        took_late known e (comes old e (late_of old e is) (number_of old known) (order_of old known)) (enters.log ∙ ap (λ (x : Fit). logged_as x (backed old.log) e) is)
        (enters.mode ∙ ap (λ (x : Fit). mode_after x old.mode e.body) is) keeps (enters.identity ∙ ap (λ (x : Fit). identity_after x old.identity e.body) is)

    pub written_enters : Known old → (e : Entry) (failed : Failed) → Enters failed old new e → KeepsEnd old.store new.store → AreWritten limit end new
    written_enters known e failed enters keeps = enters_as known e failed enters keeps (fit_of old e) refl

    -- ---- an append
    module _ (m : IsMounted moment_of left_since told image faults_of start opening sound old) (tells : IsTold (told (disk_in m.journal))) (more : old.before ≢ old.durable) where
      named_of : (object : Object) → MayBe old.identity object → old.identity ≡ Some object
      named_of object may =
          let o = safe_object told image sound m.journal old m.safe more in
          is_known old.identity o.0 object o.1 may

      left_over : (front : Fronted) → IsServing moment_of left_since told image start opening sound m.journal old
          → (object : Object) → AreFilled limit end object (going front (backed old.log))
          → sum (own_flights (backed old.log)) + (old.before - old.durable) ≡ length (batches_in (own_entries (backed old.log)))
      left_over front s object filled =
          omega (arith, s.unflown, ap length (staged_is old m s front), length-drop (sum (own_flights (backed old.log))) (batches_in (own_entries (backed old.log))), filled.0)

      flies_so : FliesAll old new → AreWritten limit end new
      flies_so f front object may =
          let b : Backed = backed old.log in
          let may_be = subst (λ (o : Option Object). MayBe o object) f.identity may in
          let w = all front object may_be in
          let s = m.serves tells in
          let k : ℕ = old.before - old.durable in
          let p : Place = place_of front b in
          let whole = left_over front s object w.filled in
          let at : place_of front (backed new.log) ≡ record p { flights = p.flights ++ k ∷ [] } =
          ap (place_of front) f.log ∙ place_flew front b k m.safe.room.logs in
          let flight : Frame = frame_of object s.staged in
          let same : frame_of object (drop (sum p.flights) (batches_in p.taken)) ≡ flight = ap (frame_of object) (sym (staged_is old m s front)) in
          let frames : frames_in object (going front (backed new.log)) ≡ frames_in object (going front b) ++ flight ∷ [] =
          ap (λ (q : Place). frames_in object (history_at front q)) at ∙ flew_frames limit end object front p w.filled k whole
          ∙ ap (λ (x : Frame). frames_in object (history_at front p) ++ x ∷ []) same in
          let named = named_of object may_be in
          record {
            journal = λ after is now.
                let grew : end_of after ≡ needed m.journal flight = f.end m.journal after m.safe.store is object s.staged named (s.staged_for object named) in
                let was : end_of m.journal ≡ end_with end (frames_in object (going front b)) = w.journal m.journal m.safe.store m.safe.mode in
                omega (arith, grew, was, end_push end (frames_in object (going front b)) flight, ap (end_with end) frames);
            ending = λ ending now. absurd (never_mounted ending new.mode now (ap is_mounted_mode (f.mode ∙ m.safe.mode)));
            filled = subst (λ (q : Place). AreFilled limit end object (history_at front q)) (sym at) (flew_filled limit end object front p w.filled k whole
                (omega (arith, longer old.durable old.before s.staged s.unflown more)));
          }

      -- The cause of an end at an append.
      full_by : (front : Fronted) (object : Object) → old.identity ≡ Some object → (after : Journal D) → limit_of m.journal ≡ limit
          → end_of m.journal ≡ end_with end (frames_in object (going front (backed old.log))) → (stop : Stop) → stop.batches ≡ old.own
          → (c : Cause) → IsCauseOf faults_of m.journal after c
          → IsFullBy limit end object (last_of_place front (place_of front (backed old.log)) stop) (older_of front (backed old.log)) c
      full_by front object named after is was stop own (cause.Disk before later) by = tt
      full_by front object named after is was stop own (cause.Full needs most) by =
          let b : Backed = backed old.log in
          let s = m.serves tells in
          let last : Incarnation = last_of_place front (place_of front b) stop in
          let past = by.1 object s.staged (s.staged_for object named) in
          let rest : unflown last ≡ s.staged =
          ap (drop (sum (own_flights b))) (take_all stop.batches (batches_in (own_entries b)) (omega (arith, own, m.safe.room.own))) ∙ sym (staged_is old m s front) in
          let before : List Frame = frames_before object last (older_of front b) in
          let now : end_of m.journal ≡ end_with end before = was ∙ ap (end_with end) (append-nil before) in
          let pay : length (payload (frame_of object s.staged)) ≡ length (payload (frame_of object (unflown last))) =
          ap (λ bs. length (payload (frame_of object bs))) (sym rest) in
          let whole : needed m.journal (frame_of object s.staged) ≡ needed_by end object last (older_of front b) =
          omega (arith, now, end_push end before (frame_of object (unflown last)), pay) in
          let same : most ≡ limit = by.0 ∙ is in
          record {
            some = λ none. more (omega (arith, s.unflown, ap length (sym rest ∙ none)));
            passed = omega (arith, past.0, same, whole);
            told = past.1 ∙ ap (λ (n : ℕ). min n (2 ^ 64 - 1)) whole;
            limit_is = same;
          }
      full_by front object named after is was stop own cause.Exceeded by = absurd by
      full_by front object named after is was stop own cause.StartThrew by = absurd by
      full_by front object named after is was stop own cause.BlockThrew by = absurd by

      ends_so : (e : Ends faults_of old new) → limit_of m.journal ≡ limit → AreWritten limit end new
      ends_so e is front object may =
          let b : Backed = backed old.log in
          let may_be = subst (λ (o : Option Object). MayBe o object) e.identity may in
          let w = all front object may_be in
          let p : Place = place_of front b in
          let stop : Stop = stop_of old e.cause in
          let n : ℕ = suc (length b.stops) in
          let one : m.journal ≡ e.journal = same_journal m.journal e.journal (sym m.safe.store ∙ e.from) in
          let was : end_of m.journal ≡ end_with end (frames_in object (going front b)) = w.journal m.journal m.safe.store m.safe.mode in
          let at : place_of front (backed new.log) ≡ place_down n [] (last_of_place front p stop) p.older =
          ap (place_of front) e.log ∙ place_stopped front b stop m.safe.room.logs refl in
          let frames : frames_in object (going front (backed new.log)) ≡ frames_in object (going front b) =
          ap (λ (q : Place). frames_in object (history_at front q)) at ∙ stopped_frames limit end object front p w.filled stop n in
          let full = full_by front object (named_of object may_be) e.after is was stop refl e.cause
          (subst (λ (j : Journal D). IsCauseOf faults_of j e.after e.cause) (sym one) e.by_cause) in
          record {
            journal = λ after into now. absurd (never_mounted e.mode.0 new.mode (inl e.mode.2) (ap is_mounted_mode now));
            ending = λ ending now.
                let here : ending.end ≡ end_of e.journal =
                ⊎_elim (λ wanted. e.end ending wanted) (λ down. absurd (true_false (sym (ap is_wanted e.mode.2) ∙ ap is_wanted down))) now in
                here ∙ ap end_of (sym one) ∙ was ∙ ap (end_with end) (sym frames);
            filled = subst (λ (q : Place). AreFilled limit end object (history_at front q)) (sym at) (stopped_filled limit end object front p w.filled stop n full);
          }

    pub written_flush : Known old → (disk : D) → IsDiskOf old.store disk → IsTold (told disk) → old.before ≢ old.durable → HasLimit limit old.store → Flushes faults_of old new
        → AreWritten limit end new
    written_flush known disk at tells more has flushes =
        let m = flushed_back moment_of left_since told image faults_of start opening sound old more known in
        let now : IsTold (told (disk_in m.journal)) =
        subst (λ (d : D). IsTold (told d)) (same_disk old.store disk (disk_in m.journal) at (in_it old.store m.journal m.safe.store)) tells in
        ⊎_elim (λ f. flies_so m now more f) (λ e. ends_so m now more e (has m.journal m.safe.store)) flushes

    -- ---- something is let go
    halting_full : (object : Object) (i : Incarnation) (older : History) (c : Cause) → ends_well c ≡ true → IsFullBy limit end object i older c
    halting_full object i older (cause.Disk before after) is = tt
    halting_full object i older (cause.Full needs most) is = absurd (true_false (sym is))
    halting_full object i older cause.Exceeded is = tt
    halting_full object i older cause.StartThrew is = tt
    halting_full object i older cause.BlockThrew is = tt

    -- all of the incarnation had flown, since the next one starts with all of it
    all_flown : (later : Bool) → IsBackAs moment_of left_since told image faults_of start opening later new → (m : IsMounted moment_of left_since told image faults_of start opening sound old)
        → new.mode ≡ old.mode → new.durable ≡ old.durable → (front : Fronted) (stop : Stop)
        → place_of front (backed new.log) ≡ record { ended = suc (length old.log.stops.items); taken = []; flights = []; older = record (last_of_place front (place_of front (backed old.log)) stop) { kept = Some old.own } ∷ older_of front (backed old.log) }
        → old.own ≤ sum (own_flights (backed old.log))
    all_flown later known m mode durable front stop at =
        let b : Backed = backed old.log in
        let batches : List (List Op) = batches_in (own_entries b) in
        let now = mounted_of moment_of left_since told image faults_of start opening later new known (ap is_mounted_mode (mode ∙ m.safe.mode)) in
        let counted : new.durable ≡ length (kept_before (older_of front b) ++ take old.own batches) + 0 =
        subst (λ (q : Place). new.durable ≡ length (kept_before q.older) + sum q.flights) at (now.logged.placed front).known in
        omega (
          arith,
          counted,
          durable,
          (m.logged.placed front).known,
          length-append (kept_before (older_of front b)) (take old.own batches),
          length-take old.own batches,
          m.safe.room.own,
        )

    halted_so : (later : Bool) → IsBackAs moment_of left_since told image faults_of start opening later new → (m : IsMounted moment_of left_since told image faults_of start opening sound old)
        → (c : Cause) → ends_well c ≡ true → new.mode ≡ old.mode → new.durable ≡ old.durable → new.identity ≡ old.identity → new.store ≡ old.store
        → backed new.log ≡ record (backed old.log) { stops = old.log.stops.items ++ halt_of old c ∷ []; ends = old.log.ends.items ++ record { kept = old.own; cause = c } ∷ [] }
        → AreWritten limit end new
    halted_so later known m c halts mode durable same kept log front object may =
        let b : Backed = backed old.log in
        let w = all front object (subst (λ (o : Option Object). MayBe o object) same may) in
        let p : Place = place_of front b in
        let stop : Stop = halt_of old c in
        let n : ℕ = suc (length b.stops) in
        let last : Incarnation = last_of_place front p stop in
        let at = ap (place_of front) log ∙ restart_place front b stop old.own m.safe.room.logs refl m.safe.room.followed in
        let mid = stopped_filled limit end object front p w.filled stop n (halting_full object last p.older c halts) in
        let less = all_flown later known m mode durable front stop at in
        written_on limit end old new front object
        (ap (λ (q : Place). frames_in object (history_at front q)) at ∙ followed_old limit end object front n [] last p.older old.own mid less refl
        ∙ stopped_frames limit end object front p w.filled stop n)
        (subst (λ (q : Place). AreFilled limit end object (history_at front q)) (sym at) (followed_filled limit end object front n [] last p.older old.own mid))
        (λ now. sym mode ∙ now) (λ ending now. subst (IsAtEnd ending) mode now) (λ now. still_end old.store new.store kept) w

    module _ (s0 s : List Notice) (o0 o : List Sent) (r : Releases moment_of old new s0 s o0 o) (disk : D) (disk_at : IsDiskOf old.store disk)
        (later : Bool) (known_now : IsBackAs moment_of left_since told image faults_of start opening later new) where
      log_as : (b : HeldBody) → r.first.body ≡ b → backed new.log ≡ released_log old (moment_of disk) r.first b
      log_as b is = r.log disk disk_at ∙ ap (released_log old (moment_of disk) r.first) is

      halt_goes : (c : Cause) → r.first.body ≡ Halt c → Known old → AreWritten limit end new
      halt_goes c is (inl m) =
          let last = (subst (HaltsLast old.before) r.held m.safe.halts).0 (ap is_held_halt is) in
          halted_so later known_now m c (sym (ap halts_well is) ∙ last.2) r.mode r.durable r.identity r.store (log_as (Halt c) is)
      halt_goes c is (inr u) =
          absurd (true_false (sym (ap (λ (x : HeldBody). is_held_halt x || has_halt r.rest) is) ∙ sym (ap has_halt r.held) ∙ u.safe.halts))

      goes_as : (b : HeldBody) → r.first.body ≡ b → Known old → AreWritten limit end new
      goes_as (Message sent) is known =
          written_still limit end old new (λ front. ap (place_of front) (log_as (Message sent) is) ∙ released_place front (backed old.log)
          (old.log.released.items ++ record { message = sent; needs = r.first.needs; moment = moment_of disk } ∷ [])) r.mode r.identity
          (λ now. still_end old.store new.store r.store) all
      goes_as (Sync number) is known =
          written_still limit end old new (λ front. ap (place_of front) (log_as (Sync number) is)) r.mode r.identity (λ now. still_end old.store new.store r.store) all
      goes_as (Halt c) is known = halt_goes c is known

      pub written_release : Known old → AreWritten limit end new
      written_release known = goes_as r.first.body refl known

    -- ---- the journal was mounted again, or that failed
    module _ (ending : Ending) (wanted : old.mode ≡ Wanted ending) where
      unmounted : Known old → IsUnmounted moment_of left_since told image faults_of start opening old
      unmounted (inl m) = absurd (true_false (sym (ap is_mounted_mode m.safe.mode) ∙ ap is_mounted_mode wanted))
      unmounted (inr u) = u

      misses_so : (notice : Notice) → HasMissed faults_of old new ending notice → AreWritten limit end new
      misses_so notice missed front object may =
          let w = all front object (subst (λ (o : Option Object). MayBe o object) (ap (λ (x : Back D). x.identity) missed.misses.same) may) in
          let mode : new.mode ≡ Down ending = ap (λ (x : Back D). x.mode) missed.misses.same in
          let h : going front (backed new.log) ≡ going front (backed old.log) =
          ap (history_at front) (ap (place_of front) missed.misses.log ∙ missed_place front (backed old.log)
          (old.log.downs.items ++ record { incarnation = old.number; before = faults_of missed.disk; after = faults_of missed.left } ∷ [])) in
          written_on limit end old new front object (ap (frames_in object) h) (subst (AreFilled limit end object) (sym h) w.filled)
          (λ now. absurd (true_false (sym (ap is_mounted_mode now) ∙ ap is_mounted_mode mode)))
          (λ other now. inl (wanted ∙ ap (λ (x : Ending). Wanted x) (down_at ending other (subst (IsAtEnd other) mode now))))
          (λ now. absurd (true_false (sym (ap is_mounted_mode now) ∙ ap is_mounted_mode wanted))) w

      module _ (notice : Notice) (begun : HasBegun old new ending notice) (u : IsUnmounted moment_of left_since told image faults_of start opening old) (tells : IsTold (told u.disk)) where
        e_is : u.ending ≡ ending
        e_is = same_ending u.ending ending old.mode u.safe.mode wanted

        abbrev ended : IsEnded moment_of left_since image start opening u.disk u.ending old
        ended = u.ended tells

        into : new.store ≡ store.Journal begun.journal
        into = ap (λ (x : Back D). x.store) begun.begins.same

        is_on : new.mode ≡ Mounted
        is_on = ap (λ (x : Back D). x.mode) begun.begins.same

        abbrev kept_now : ℕ
        kept_now = kept_at ending (end_of begun.journal)

        module _ (front : Fronted) (object : Object) (may : MayBe old.identity object) where
          abbrev last : Incarnation
          last = ended.last front

          abbrev rest : History
          rest = ended.rest front

          abbrev before : Place
          before = place_down ended.ended ended.taken last rest

          abbrev behind_it : Place
          behind_it = record { ended = ended.ended; taken = ended.taken; flights = []; older = record last { kept = Some kept_now } ∷ rest }

          was : IsWritten limit end old front object
          was = all front object may

          filled : AreFilled limit end object (history_at front before)
          filled = subst (λ (p : Place). AreFilled limit end object (history_at front p)) (ended.place front) was.filled

          at : place_of front (backed new.log) ≡ behind_it
          at = ap (place_of front) begun.begins.log
              ∙ place_followed front (backed old.log) (record { kept = kept_now; cause = ending.cause }) u.safe.logs (length old.log.ends.items) u.safe.gone refl ended.ended ended.taken last rest (ended.place front)

          how : IsEnding u.ending (marks_of old) last rest
          how = subst (AreEnding u.ending (marks_of old)) (ap (λ (p : Place). p.older) (ended.place front)) (u.logged.ended front)

          flown_is : ending.flown ≡ sum last.flights
          flown_is = ap (λ (x : Ending). x.flown) (sym e_is) ∙ how.is_flown ∙ ap (λ (o : Option Stop). durable_by o last.flights) how.ended.stopped
              ∙ ap (λ (r : Bool). if r then how.ended.stop.batches else sum last.flights) how.unread

          whole_is : ending.whole ≡ how.ended.stop.batches
          whole_is = ap (λ (x : Ending). x.whole) (sym e_is) ∙ how.is_whole

          old_end : ending.end ≡ end_with end (frames_in object (going front (backed old.log)))
          old_end = ap (λ (x : Ending). x.end) (sym e_is) ∙ was.ending u.ending u.safe.mode

          old_place : frames_in object (history_at front before) ≡ frames_in object (going front (backed old.log))
          old_place = ap (λ (p : Place). frames_in object (history_at front p)) (sym (ended.place front))

          rest_is : unflown last ≡ drop (sum last.flights) (take how.ended.stop.batches (batches_in last.taken))
          rest_is = ap (λ (o : Option Stop). drop (sum last.flights) (before_stop o (batches_in last.taken))) how.ended.stopped

          begins_with : end_of begun.journal ≡ end_with end (frames_in object (going front (backed new.log))) → IsWritten limit end new front object
          begins_with here = record {
            journal = λ journal is now. ap end_of (same_journal journal begun.journal (sym is ∙ into)) ∙ here;
            ending = λ other now. absurd (never_mounted other new.mode now (ap is_mounted_mode is_on));
            filled = subst (λ (p : Place). AreFilled limit end object (history_at front p)) (sym at)
                (followed_filled limit end object front ended.ended ended.taken last rest kept_now filled);
          }

          -- the journal was found as it was
          begins_old : end_of begun.journal ≡ ending.end → IsWritten limit end new front object
          begins_old same =
              let kept_is : kept_now ≡ ending.flown = ap (λ (b : Bool). if not b then ending.whole else ending.flown) (eq-eqb (end_of begun.journal) ending.end same) in
              let frames : frames_in object (going front (backed new.log)) ≡ frames_in object (going front (backed old.log)) =
              ap (λ (p : Place). frames_in object (history_at front p)) at
              ∙ followed_old limit end object front ended.ended ended.taken last rest kept_now filled (omega (arith, kept_is, flown_is)) (ended.down front).unfollowed ∙ old_place in
              begins_with (same ∙ old_end ∙ ap (end_with end) (sym frames))

          -- or with the flight that failed
          begins_more : (flight : codec.Frame) → IsFoundWith old ending (end_of begun.journal) flight → IsWritten limit end new front object
          begins_more flight with =
              let all_of : flight.batches ≡ unflown last = with.batches front ∙ ap (λ (p : Place). unflown_in p.older) (ended.place front) in
              let one : flight.object ≡ object = subst (λ (o : Option Object). MayBe o object) with.object may in
              let flight_is : frame_of object (unflown last) ≡ holds flight =
              ap (λ (o : Object). frame_of o (unflown last)) (sym one) ∙ ap (λ bs. frame_of flight.object bs) (sym all_of) in
              let other : end_of begun.journal ≡ ending.end → ⊥ = λ same. omega (arith, same, with.end_is) in
              let kept_is : kept_now ≡ ending.whole = ap (λ (b : Bool). if not b then ending.whole else ending.flown) (ne_eqb (end_of begun.journal) ending.end other) in
              let less : sum last.flights < how.ended.stop.batches =
              some_less (sum last.flights) how.ended.stop.batches (batches_in last.taken) (λ none. with.some (all_of ∙ rest_is ∙ none)) in
              let frames : frames_in object (going front (backed new.log)) ≡ frames_in object (going front (backed old.log)) ++ holds flight ∷ [] =
              ap (λ (p : Place). frames_in object (history_at front p)) at
              ∙ followed_more limit end object front ended.ended ended.taken last rest kept_now filled (omega (arith, kept_is, whole_is, less)) (ended.down front).unfollowed
              ∙ ap (λ fs. fs ++ frame_of object (unflown last) ∷ []) old_place
              ∙ ap (λ (f : Frame). frames_in object (going front (backed old.log)) ++ f ∷ []) flight_is in
              begins_with
              (omega (arith, with.end_is, old_end, end_push end (frames_in object (going front (backed old.log))) (holds flight), ap (end_with end) frames))

        begins_so : FindsEnd told old new → IsTold (told (disk_in begun.journal)) → AreWritten limit end new
        begins_so finds now front object may =
            let may_be = subst (λ (o : Option Object). MayBe o object) (ap (λ (x : Back D). x.identity) begun.begins.same) may in
            ⊎_elim (λ same. begins_old front object may_be same) (λ more. begins_more front object may_be more.0 more.1)
            (finds ending begun.journal wanted into is_on now)

      pub written_remounts : Known old → (notice : Notice) → Remounts faults_of old new ending notice → FindsEnd told old new → (disk left : D) → IsDiskOf old.store disk → IsTold (told disk)
          → IsDiskOf new.store left → IsTold (told left) → AreWritten limit end new
      written_remounts known notice (inl begun) finds disk left here tells later_at later_tells =
          let u = unmounted known in
          begins_so notice begun u (subst (λ (d : D). IsTold (told d)) (same_disk old.store disk u.disk here u.safe.store) tells) finds
          (subst (λ (d : D). IsTold (told d)) (same_disk new.store left (disk_in begun.journal) later_at
          (in_it new.store begun.journal (ap (λ (x : Back D). x.store) begun.begins.same))) later_tells)
      written_remounts known notice (inr missed) finds disk left here tells later_at later_tells = misses_so notice missed

-- A slot that was just mounted.
module _ {D : Type 0} (moment_of : D → ℕ) (left_since : D → ℕ → List ℕ → Type 0) (told : D → Option (List ℕ)) (image : D → List ℕ → Type 0) (faults_of : D → ℕ)
    (start : List (List Op)) (opening : ℕ) (sound : Bool) (back : Back D) where
  no_end : backed back.log ≡ no_log → IsBackAs moment_of left_since told image faults_of start opening sound back → (ending : Ending) → IsAtEnd ending back.mode → ⊥
  no_end none (inl m) ending now = never_mounted ending back.mode now (ap is_mounted_mode m.safe.mode)
  no_end none (inr u) ending now = omega (arith, u.safe.gone, ap (λ (b : Backed). length b.stops) none)

  pub written_fresh : (limit end : ℕ) → backed back.log ≡ no_log → IsBackAs moment_of left_since told image faults_of start opening sound back
      → ((journal : Journal D) → back.store ≡ store.Journal journal → end_of journal ≡ end) → AreWritten limit end back
  written_fresh limit end none known at front object may =
      let h : going front (backed back.log) ≡ history_at front (place_of front no_log) = ap (λ (b : Backed). going front b) none in
      record {
        journal = λ journal is now. at journal is ∙ omega (arith, ap (λ (x : History). end_with end (frames_in object x)) h);
        ending = λ ending now. absurd (no_end none known ending now);
        filled = subst (AreFilled limit end object) (sym h) (omega arith, λ stop is. absurd (no_stop is), All-nil (λ count. 1 ≤ count), tt);
      }

-- The history of a log.
pub written_history : {D : Type 0} (limit end : ℕ) (back : Back D) → AreLogs (backed back.log) → AreWritten limit end back → (front : Fronted) (object : Object)
    → MayBe back.identity object → AreFilled limit end object (history front (backed back.log))
written_history limit end back logs all front object may = subst (AreFilled limit end object) (sym (stands front (backed back.log) logs)) (all front object may).filled

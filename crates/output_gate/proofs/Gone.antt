-- What a release does to a back, whether its newest incarnation is mounted or not.
use Rattle.std.proofs.Common.{◌≡◌, ◌∙◌, ap, sym, refl, subst, inl, inr, ℕ, ◌+◌, ◌≤◌, List, [], ◌∷◌, ◌++◌, append-nil, map, Option, Global}
use Rattle.std.specs.Prelude.{true, false, ◌||◌, length, Some, Result, Ok, Err, OnErr}
use Rattle.std.specs.declared.collections.VecDeque.{VecDeque}
use Rattle.batch_journal.specs.Rest.{disk_in}
use Rattle.do_value.specs.declared.fault.NoMemory.{NoMemory}
use Rattle.storage_map.specs.declared.op.Op.{Op}
use Rattle.timeline.specs.Logs.{Backed, backed}
use Rattle.timeline.specs.declared.back_log.BackLog.{BackLog}
use Rattle.timeline.specs.declared.back_log.Release.{Release}
use Rattle.timeline.specs.declared.caller.Cause.{Cause}
use Rattle.timeline.specs.declared.message.Message.{Message as Sent}
use Rattle.timeline.specs.declared.notice.Notice.{Notice}
use Rattle.timeline.specs.declared.notice.Stepped.{Stepped}
use Rattle.timeline.specs.declared.notice.Stepped.TheVariants.{Did, Nothing}
use Rattle.output_gate.specs.Held.{passed_by, passed_of, is_held_halt, is_read, has_halt}
use Rattle.output_gate.specs.Releasing.{late_released, settled_released, may_release, release_at, released_log, needs_released, released_notices, released_messages, IsIdleRelease, Releases, Stays, StaysPut, Goes, LogReleases, LogHalts}
use Rattle.output_gate.specs.Serving.{IsMounted, IsUnmounted, IsBackAs}
use Rattle.output_gate.specs.Storing.{IsDiskOf, KeepsDisk}
use Rattle.output_gate.specs.Taking.{LogSame}
use Rattle.output_gate.specs.declared.back.Back.{Back}
use Rattle.output_gate.specs.declared.held.Held.{Held}
use Rattle.output_gate.specs.declared.held.HeldBody.{HeldBody}
use Rattle.output_gate.specs.declared.held.HeldBody.TheVariants.{Message, Sync, Halt}
use Rattle.output_gate.specs.declared.store.Store.{Store}
use Rattle.output_gate.proofs.Helds.{true_false}
use Rattle.output_gate.proofs.Releasings.{LogReleased, mounted_release}
use Rattle.output_gate.proofs.Restarts.{LogRestarts, restarted, mounted_restart}
use Rattle.output_gate.proofs.Stored.{still_disk}
use Rattle.output_gate.proofs.Takings.{kept_fails, same_log, same_stored, mounted_same}
use Rattle.output_gate.proofs.Unmounting.{unmounted_same, unmounted_release}

module _ {D : Type 0} (moment_of : D → ℕ) (left_since : D → ℕ → List ℕ → Type 0) (told : D → Option (List ℕ)) (image : D → List ℕ → Type 0) (faults_of : D → ℕ)
    (start : List (List Op)) (opening : ℕ) where
  -- the log got room
  pub back_room : (old : Back D) (log : BackLog) → LogSame old.log log → IsBackAs moment_of left_since told image faults_of start opening true old
      → IsBackAs moment_of left_since told image faults_of start opening true (record old { log = log })
  back_room old log same (inl m) =
      inl (subst (λ (s : Store D). IsMounted moment_of left_since told image faults_of start opening true (record old { store = s; log = log })) (sym m.safe.store)
      (mounted_same moment_of left_since told image faults_of start opening true true old log old.held m.journal old.cache old.stuck m same refl (λ object batches staged. staged) (λ frames rest. rest) refl (λ yes. (refl, same_stored told image m.journal old.cache old.cache refl))))
  back_room old log same (inr u) = inr (unmounted_same moment_of left_since told image faults_of start opening old log old.held old.stuck u same.same refl)

  -- something was taken that no front sends
  pub back_stuck : (old : Back D) → IsBackAs moment_of left_since told image faults_of start opening true old → IsBackAs moment_of left_since told image faults_of start opening true (record old { stuck = true })
  back_stuck old (inl m) =
      inl (subst (λ (s : Store D). IsMounted moment_of left_since told image faults_of start opening true (record old { store = s; stuck = true })) (sym m.safe.store)
      (mounted_same moment_of left_since told image faults_of start opening true true old old.log old.held m.journal old.cache true m (same_log moment_of left_since told image faults_of start opening true old.log) refl
      (λ object batches staged. staged) (λ frames rest. rest) refl (λ yes. (refl, same_stored told image m.journal old.cache old.cache refl))))
  back_stuck old (inr u) = inr (unmounted_same moment_of left_since told image faults_of start opening old old.log old.held true u refl refl)

  pub back_stopped : (old : Back D) → IsBackAs moment_of left_since told image faults_of start opening true old → IsBackAs moment_of left_since told image faults_of start opening false old
  back_stopped old (inl m) =
      inl (kept_fails moment_of left_since told image faults_of start opening true old old old.cache old.held old.log refl (same_log moment_of left_since told image faults_of start opening true old.log) refl m)
  back_stopped old (inr u) = inr u

  pub back_held : (old new : Back D) → new.held.items ≡ old.held.items → new ≡ record old { held = new.held } → IsBackAs moment_of left_since told image faults_of start opening true old
      → IsBackAs moment_of left_since told image faults_of start opening false new
  back_held old new items same (inl m) =
      inl (kept_fails moment_of left_since told image faults_of start opening true old new old.cache new.held old.log same (same_log moment_of left_since told image faults_of start opening true old.log) items m)
  back_held old new items same (inr u) =
      inr (subst (IsUnmounted moment_of left_since told image faults_of start opening) (sym same) (unmounted_same moment_of left_since told image faults_of start opening old old.log new.held old.stuck u refl items))

module _ {D : Type 0} (moment_of : D → ℕ) (left_since : D → ℕ → List ℕ → Type 0) (told : D → Option (List ℕ)) (image : D → List ℕ → Type 0) (faults_of : D → ℕ)
    (only_now : (disk : D) (c : List ℕ) → left_since disk (moment_of disk) c → image disk c)
    (reads_an_image : (disk : D) (c : List ℕ) → told disk ≡ Some c → image disk c) where
  pub stays_put : (old : Back D) (log : BackLog) (s0 s : List Notice) (o0 o : List Sent) → LogSame old.log log → s ≡ s0 → o ≡ o0
      → StaysPut moment_of left_since told image faults_of old (record old { log = log }) s0 s o0 o
  stays_put old log s0 s o0 o same told_so left_so = record {
    stays = record { told = told_so; left = left_so; log = same.same; held = refl; store = refl; identity = refl; stuck = refl; mode = refl; before = refl; durable = refl; limit = refl };
    back = λ start opening b. back_stopped moment_of left_since told image faults_of start opening (record old { log = log }) (back_room moment_of left_since told image faults_of start opening old log same b);
  }

  -- a back of which what is held, the log and the newest incarnation changed
  releases_as : (old : Back D) (held : VecDeque Held Global) (log : BackLog) (own needs settled number : ℕ) (late : Option ℕ) (first : Held) (b : HeldBody) → old.held.items ≡ first ∷ held.items
      → first.body ≡ b → needs ≡ needs_released old b → settled ≡ settled_released old b → late ≡ late_released old b
      → (s0 s : List Notice) (o0 o : List Sent) → s ≡ s0 ++ released_notices old b → o ≡ o0 ++ released_messages b
      → ((disk : D) → IsDiskOf old.store disk → backed log ≡ released_log old (moment_of disk) first b)
      → Releases moment_of old (record old { held = held; log = log; own = own; needs = needs; settled = settled; late = late; number = number }) s0 s o0 o
  releases_as old held log own needs settled number late first b items body reach even still s0 s o0 o told_so left_so logged = record {
    first = first;
    rest = held.items;
    held = items;
    others = refl;
    told = told_so ∙ ap (λ x. s0 ++ released_notices old x) (sym body);
    left = left_so ∙ ap (λ x. o0 ++ released_messages x) (sym body);
    log = λ disk at. logged disk at ∙ ap (released_log old (moment_of disk) first) (sym body);
    store = refl;
    cache = refl;
    identity = refl;
    stuck = refl;
    mode = refl;
    before = refl;
    needs = reach ∙ ap (needs_released old) (sym body);
    durable = refl;
    limit = refl;
    settled = even ∙ ap (settled_released old) (sym body);
    late = still ∙ ap (late_released old) (sym body);
    unflushed = refl;
  }

  disk_at : (start : List (List Op)) (opening : ℕ) (old : Back D) (m : IsMounted moment_of left_since told image faults_of start opening true old) → IsDiskOf old.store (disk_in m.journal)
  disk_at start opening old m = subst (λ (s : Store D). IsDiskOf s (disk_in m.journal)) (sym m.safe.store) refl

  back_release : (start : List (List Op)) (opening : ℕ) (old : Back D) (log : BackLog) (held : VecDeque Held Global) (h : Held) → is_held_halt h.body ≡ false → old.held.items ≡ h ∷ held.items → h.needs ≤ old.durable
      → ((disk : D) → IsDiskOf old.store disk → LogReleased old.log log (old.log.released.items ++ map (release_at (moment_of disk)) (passed_of h)))
      → log.flights ≡ old.log.flights → log.stops ≡ old.log.stops
      → IsBackAs moment_of left_since told image faults_of start opening true old → IsBackAs moment_of left_since told image faults_of start opening true (record old { held = held; log = log })
  back_release start opening old log held h none first ready is flights stops (inl m) =
      inl (mounted_release moment_of left_since told image faults_of only_now start opening true old log held h m none first ready (is (disk_in m.journal) (disk_at start opening old m)) flights stops)
  back_release start opening old log held h none first ready is flights stops (inr u) =
      inr (unmounted_release moment_of left_since told image faults_of only_now reads_an_image start opening old log held h u first ready (is u.disk u.safe.store))

  -- a message
  pub message_goes : (old : Back D) (mid log : BackLog) (held : VecDeque Held Global) (first : Held) (sent : Sent) (moment : ℕ) → LogSame old.log mid
      → old.held.items ≡ first ∷ held.items → first.body ≡ Message sent → first.needs ≤ old.durable
      → ((disk : D) → IsDiskOf old.store disk → moment ≡ moment_of disk)
      → LogReleases mid log (record { message = sent; needs = first.needs; moment = moment })
      → (s : List Notice) (o0 o : List Sent) → o ≡ o0 ++ sent ∷ []
      → Goes moment_of left_since told image faults_of old (record old { held = held; log = log }) s s o0 o
  message_goes old mid log held first sent moment same items body ready at done s o0 o left_so =
      let one : ℕ → Release = λ t. record { message = sent; needs = first.needs; moment = t } in
      let passes : passed_of first ≡ record { message = sent; needs = first.needs; since = first.since } ∷ [] = ap (λ (b : HeldBody). passed_by b first.needs first.since) body in
      record {
        releases = releases_as old held log old.own old.needs old.settled old.number old.late first (Message sent) items body refl refl refl s s o0 o (sym (append-nil s)) left_so
            (λ disk where_is. done.log ∙ ap (λ (x : Backed). record x { released = x.released ++ one moment ∷ [] }) same.same
            ∙ ap (λ (t : ℕ). record (backed old.log) { released = old.log.released.items ++ one t ∷ [] }) (at disk where_is));
        back = λ start opening b. back_release start opening (record old { log = mid }) log held first (ap is_held_halt body) items ready
            (λ disk where_is. done.log ∙ ap (λ (t : ℕ). record (backed mid) { released = mid.released.items ++ one t ∷ [] }) (at disk where_is)
            ∙ ap (λ ps. record (backed mid) { released = mid.released.items ++ map (release_at (moment_of disk)) ps }) (sym passes))
            done.flights done.stops (back_room moment_of left_since told image faults_of start opening old mid same b);
      }

  -- a sync
  pub sync_goes : (old : Back D) (held : VecDeque Held Global) (first : Held) (number : ℕ) → old.held.items ≡ first ∷ held.items → first.body ≡ Sync number → first.needs ≤ old.durable
      → (s0 s : List Notice) (o : List Sent) → s ≡ s0 ++ released_notices old (Sync number)
      → Goes moment_of left_since told image faults_of old (record old { held = held }) s0 s o o
  sync_goes old held first number items body ready s0 s o told_so =
      let none : passed_of first ≡ [] = ap (λ (b : HeldBody). passed_by b first.needs first.since) body in
      record {
        releases = releases_as old held old.log old.own old.needs old.settled old.number old.late first (Sync number) items body refl refl refl s0 s o o told_so (sym (append-nil o)) (λ disk where_is. refl);
        back = λ start opening b. back_release start opening old old.log held first (ap is_held_halt body) items ready
            (λ disk where_is. ap (λ rs. record (backed old.log) { released = rs }) (sym (append-nil old.log.released.items))
            ∙ ap (λ ps. record (backed old.log) { released = old.log.released.items ++ map (release_at (moment_of disk)) ps }) (sym none)) refl refl b;
      }

  -- a halt
  halts_back : (start : List (List Op)) (opening : ℕ) (old : Back D) (log : BackLog) (held : VecDeque Held Global) (first : Held) (c : Cause) → old.held.items ≡ first ∷ held.items → first.body ≡ Halt c → first.needs ≤ old.durable
      → LogRestarts old log c → IsBackAs moment_of left_since told image faults_of start opening true old → IsBackAs moment_of left_since told image faults_of start opening true (restarted old log held)
  halts_back start opening old log held first c items body ready is (inl m) =
      inl (mounted_restart moment_of left_since told image faults_of start opening true old log held first c m (record { first = items; body = body; ready = ready }) is)
  halts_back start opening old log held first c items body ready is (inr u) =
      absurd (true_false (sym (ap (λ (b : HeldBody). is_held_halt b || has_halt held.items) body) ∙ sym (ap has_halt items) ∙ u.safe.halts))

  pub halt_goes : (old : Back D) (mid log : BackLog) (held : VecDeque Held Global) (first : Held) (c : Cause) → LogSame old.log mid
      → old.held.items ≡ first ∷ held.items → first.body ≡ Halt c → first.needs ≤ old.durable → LogHalts mid log c old.own
      → (s0 s : List Notice) (o : List Sent) → s ≡ s0 ++ released_notices old (Halt c)
      → Goes moment_of left_since told image faults_of old (restarted old log held) s0 s o o
  halt_goes old mid log held first c same items body ready done s0 s o told_so = record {
    releases = releases_as old held log 0 old.before old.before (old.number + 1) (Some old.needs) first (Halt c) items body refl refl refl s0 s o o told_so (sym (append-nil o))
        (λ disk where_is. done ∙ ap (λ (x : Backed). record x {
          stops = x.stops ++ record { cause = c; flights = length x.flights; batches = old.own; read = is_read c } ∷ [];
          ends = x.ends ++ record { kept = old.own; cause = c } ∷ [];
        }) same.same);
    back = λ start opening b. halts_back start opening (record old { log = mid }) log held first c items body ready done (back_room moment_of left_since told image faults_of start opening old mid same b);
  }

-- The same disk is in the store, whatever memory sufficed for.
pub release_disk : {D : Type 0} (moment_of : D → ℕ) (r : Result Stepped NoMemory) (old new : Back D) (s0 s : List Notice) (o0 o : List Sent)
    → (may_release old ≡ false → IsIdleRelease old new s0 s o0 o r) → (r ≡ Ok Nothing → may_release old ≡ false)
    → (r ≡ Ok Did → Releases moment_of old new s0 s o0 o) → OnErr r (Stays old new s0 s o0 o) → KeepsDisk old.store new.store
release_disk {D} moment_of (Ok Nothing) old new s0 s o0 o barred nothing released stays =
    still_disk old.store new.store (ap (λ (b : Back D). b.store) (barred (nothing refl)).back)
release_disk moment_of (Ok Did) old new s0 s o0 o barred nothing released stays = still_disk old.store new.store (released refl).store
release_disk moment_of (Err fault) old new s0 s o0 o barred nothing released stays = still_disk old.store new.store stays.store

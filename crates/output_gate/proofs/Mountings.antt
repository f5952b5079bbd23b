-- What a mounting does to a back whose incarnation has ended.
use Rattle.std.proofs.Common.{◌≡◌, ◌∙◌, ap, sym, refl, subst, inl, inr, ℕ, suc, ◌+◌, ◌-◌, ◌≤◌, List, [], ◌∷◌, ◌++◌, append-nil, length, length-append, arith, Option, Some}
use Rattle.std.proofs.lemmas.Bool.{eq-eqb}
use Rattle.std.proofs.lemmas.List.{length_push}
use Rattle.std.proofs.lemmas.List.Elements.{All-nil, All-cons}
use Rattle.std.specs.Prelude.{◌⊎◌, Bool, true, false, not, ◌==◌, if◌then◌else◌}
use Rattle.std.specs.List.{flat_map}
use Rattle.batch_journal.proofs.Held.{all_named}
use Rattle.batch_journal.specs.Frames.{Frame, holds, marker, journal_bytes, batches_in, operations_in, NamesAs}
use Rattle.batch_journal.specs.Moments.{LeavesOnly, TellsAsBefore, IsTold}
use Rattle.batch_journal.specs.Mounting.{IsMountOf, ImageOrSame}
use Rattle.batch_journal.specs.Reading.{IsObjectOf}
use Rattle.batch_journal.specs.Rest.{IsAtRest, IsStaged, disk_in}
use Rattle.batch_journal.specs.declared.journal.Journal.{Journal}
use Rattle.batch_journal.specs.declared.mount.Mounted.{Mounted}
use Rattle.storage_cache.specs.Cached.{Cached, of_index}
use Rattle.storage_cache.proofs.Standing.{kept_index}
use Rattle.storage_map.specs.Contents.{nothing, apply}
use Rattle.batch_journal.specs.Places.{IsPlaceIn, Indexes}
use Rattle.object_storage.specs.Stored.{HasStored}
use Rattle.object_storage.proofs.Going.{mounted as stored_mounted}
use Rattle.output_gate.proofs.Reading.{failed_none, reading_none, unread_none}
use Rattle.storage_map.specs.Limits.{Object}
use Rattle.storage_map.specs.declared.op.Op.{Op}
use Rattle.timeline.specs.History.{Incarnation, History, incarnations, batches_in as batches_taken}
use Rattle.timeline.specs.declared.entry.Entry.{Entry}
use Rattle.timeline.specs.Logs.{Fronted, Backed, backed}
use Rattle.timeline.specs.declared.back_log.BackLog.{BackLog}
use Rattle.timeline.specs.declared.back_log.End.{End}
use Rattle.timeline.specs.declared.back_log.Missed.{Missed}
use Rattle.timeline.specs.declared.back_log.Release.{Release}
use Rattle.timeline.specs.declared.caller.Cause.TheVariants as causes
use Rattle.output_gate.specs.Down.{place_down, IsDown}
use Rattle.do_disk.specs.Disk.{HasRisen}
use Rattle.timeline.specs.declared.back_log.Stop.{Stop}
use Rattle.output_gate.specs.Counted.{AreCounted}
use Rattle.output_gate.specs.Ended.{IsLogged, IsLoggedDown}
use Rattle.output_gate.specs.Gate.{Place, place_of, IsGate}
use Rattle.output_gate.specs.Held.{waiting_in}
use Rattle.output_gate.specs.Kept.{NameOnly}
use Rattle.output_gate.specs.Mending.{Begins, Misses, is_own_object, kept_at}
use Rattle.output_gate.specs.Serving.{HasRoom, IsEnded, IsMounted, IsSafe, IsSafeEnded, IsServing, IsUnmounted, marks_of}
use Rattle.output_gate.specs.Standing.{AreLogs, own_entries, own_flights, going_on}
use Rattle.output_gate.specs.declared.back.Back.{Back}
use Rattle.output_gate.specs.declared.back.Ending.{Ending}
use Rattle.output_gate.specs.declared.back.Mode.{Mode}
use Rattle.output_gate.specs.declared.back.Mode.TheVariants.{Mounted as IsMountedMode, Wanted, Down}
use Rattle.output_gate.specs.declared.store.Store.TheVariants as store
use Rattle.output_gate.proofs.Flushes.{front_none, placed}
use Rattle.output_gate.proofs.Helds.{true_false, halts_none}
use Rattle.output_gate.proofs.Counts.{counts_same, counts_missed_more}
use Rattle.output_gate.proofs.Endings.{logged_begun, down_same}
use Rattle.output_gate.proofs.Histories.{follows as history_follows, follows_fits}
use Rattle.output_gate.proofs.Places.{missed_place}
use Rattle.output_gate.proofs.Mends.{found_one, found_old, old_found, more_found, lists_of, begins_old, begins_more, flown_with, still_down, mounting_leaves, full_leaves}
use Rattle.output_gate.proofs.Named.{some_none}
use Rattle.output_gate.proofs.Steps.{told_before}

-- frames of an object that may be the slot's name that
named_found : (mounted identity : Option Object) (frames : List Frame) → IsObjectOf mounted frames → is_own_object mounted identity → NameOnly identity frames
named_found mounted identity frames is (inl same) = subst (λ o. NameOnly o frames) same (all_named mounted frames is)
named_found mounted identity [] is (inr nobody) = All-nil (NamesAs identity)
named_found mounted identity (holds f ∷ frames) is (inr nobody) = absurd (some_none (sym is.0 ∙ nobody))
named_found mounted identity (marker ∷ frames) is (inr nobody) = All-cons (NamesAs identity) marker frames tt (named_found mounted identity frames is (inr nobody))

-- the older incarnations, of which the last is followed
abbrev kept_head : ℕ → History → History
kept_head kept [] = []
kept_head kept (i ∷ older) = record i { kept = Some kept } ∷ older

-- where the log stands behind an `End`
pub place_followed : (front : Fronted) (back : Backed) (end : End) → AreLogs back → (n : ℕ) → length back.stops ≡ suc n → length back.ends ≡ n
    → (ended : ℕ) (taken : List Entry) (last : Incarnation) (rest : History) → place_of front back ≡ place_down ended taken last rest
    → place_of front (record back { ends = back.ends ++ end ∷ [] }) ≡ record (place_down ended taken last rest) { older = record last { kept = Some end.kept } ∷ rest }
place_followed front back end logs n stopped followed ended taken last rest is =
    let f : Place → History = λ p. going_on front p.ended p.taken p.flights ∷ kept_head end.kept p.older in
    placed front (record back { ends = back.ends ++ end ∷ [] }) (record (place_down ended taken last rest) { older = record last { kept = Some end.kept } ∷ rest })
    (follows_fits front back end logs n stopped followed)
    (history_follows front back end logs n stopped followed
    ∙ sym (ap (λ (m : ℕ). going_on front m (own_entries back) (own_flights back) ∷ kept_head end.kept (incarnations front back m)) stopped)
    ∙ ap f is)

-- the two ways of being unmounted differ
abbrev is_down_mode : Mode → Type 0
is_down_mode (Down ending) = Unit {0}
is_down_mode mode = ⊥

pub down_wanted : (ending : Ending) → Down ending ≡ Wanted ending → ⊥
down_wanted ending same = subst is_down_mode same tt

kept_most : (ending : Ending) (whole : Bool) → ending.flown ≤ ending.whole → (if whole then ending.whole else ending.flown) ≤ ending.whole
kept_most ending true more = omega arith
kept_most ending false more = more

-- what was kept is one of the two, and of a full journal what was durable
kept_one : (ending : Ending) (whole : Bool) → ((if whole then ending.whole else ending.flown) ≡ ending.flown) ⊎ ((if whole then ending.whole else ending.flown) ≡ ending.whole)
kept_one ending true = inr refl
kept_one ending false = inl refl

-- the back behind a mounting
abbrev pub begun : {D : Type 0} → Back D → BackLog → Journal D → Cached → ℕ → Back D
begun old log journal cache now = record old { store = store.Journal journal; cache = cache; mode = IsMountedMode; durable = now; before = now; needs = now; log = log }

module _ {D : Type 0} (told : D → Option (List ℕ)) (image : D → List ℕ → Type 0) where
  begun_room : (disk : D) (ending : Ending) (old : Back D) (log : BackLog) (end : End) (journal : Journal D) (cache : Cached) (now : ℕ) → IsSafeEnded disk ending old
      → backed log ≡ record (backed old.log) { ends = old.log.ends.items ++ end ∷ [] } → now ≤ old.durable + (ending.whole - ending.flown)
      → HasRoom (begun old log journal cache now)
  begun_room disk ending old log end journal cache now s is few =
      let n : ℕ = length old.log.ends.items in
      record {
        logs = subst AreLogs (sym is) (follows_fits front_none (backed old.log) end s.logs n s.gone refl);
        flights = λ other. absurd (other refl);
        stops = λ other. absurd (other refl);
        number = s.number ∙ ap (λ (b : Backed). suc (length b.stops)) (sym is);
        own = s.own ∙ ap (λ (b : Backed). length (batches_taken (own_entries b))) (sym is);
        few = omega (arith, few, s.few, ap (λ (b : Backed). length b.taken) is);
        own_few = omega (arith, s.none);
        followed = omega (arith, s.gone, ap (λ (b : Backed). length b.ends) is, length_push old.log.ends.items end, ap (λ (b : Backed). length b.stops) is);
      }

  safe_begun : (disk : D) (ending : Ending) (old : Back D) (log : BackLog) (end : End) (mounted : Mounted D) (now : ℕ) (frames : List Frame) → IsSafeEnded disk ending old
      → backed log ≡ record (backed old.log) { ends = old.log.ends.items ++ end ∷ [] } → now ≤ old.durable + (ending.whole - ending.flown)
      → IsAtRest told image mounted.journal frames → IsObjectOf mounted.identity frames → is_own_object mounted.identity old.identity
      → ((object : Object) → IsStaged mounted.journal object []) → Indexes frames mounted.index
      → IsSafe told image true mounted.journal (begun old log mounted.journal (of_index mounted.index) now)
  safe_begun disk ending old log end mounted now frames s is few rest object own staged indexes = record {
    store = refl;
    mode = refl;
    room = begun_room disk ending old log end mounted.journal (of_index mounted.index) now s is few;
    frames = frames;
    staged = [];
    at_rest = rest;
    named = named_found mounted.identity old.identity frames object own;
    unflown = omega arith;
    own = omega arith;
    unflushed = s.unflushed;
    staged_for = λ other is_named. staged other;
    nameless = λ nobody. (refl, staged);
    halts = halts_none now old.held.items s.halts;
    halted = λ has. absurd (true_false (sym has ∙ s.halts));
    stored = λ yes. (apply nothing (operations_in frames), λ any may. stored_mounted frames any mounted.index indexes);
  }

module _ {D : Type 0} (moment_of : D → ℕ) (left_since : D → ℕ → List ℕ → Type 0) (told : D → Option (List ℕ)) (image : D → List ℕ → Type 0) (faults_of : D → ℕ)
    (reads_an_image : (disk : D) (c : List ℕ) → told disk ≡ Some c → image disk c) (start : List (List Op)) (opening : ℕ) where
  -- so many batches of the ended incarnation were found
  serves_found : (disk : D) (ending : Ending) (old : Back D) (log : BackLog) (end : End) (mounted : Mounted D) (now : ℕ) (frames : List Frame) (found : List (List Op))
      → IsSafeEnded disk ending old → (s : IsEnded moment_of left_since image start opening disk ending old)
      → backed log ≡ record (backed old.log) { ends = old.log.ends.items ++ end ∷ [] } → now ≤ old.durable + (ending.whole - ending.flown)
      → IsAtRest told image mounted.journal frames → IsObjectOf mounted.identity frames → is_own_object mounted.identity old.identity
      → ((object : Object) → IsStaged mounted.journal object []) → Indexes frames mounted.index
      → batches_in frames ≡ start ++ found → length found ≡ now
      → ((front : Fronted) → IsGate moment_of left_since old.identity start opening front
      (record (place_down s.ended s.taken (s.last front) (s.rest front)) { older = record (s.last front) { kept = Some end.kept } ∷ s.rest front }) (disk_in mounted.journal)
      (record (lists_of moment_of left_since told image reads_an_image start opening disk ending old s) { flown = found; staged = [] }) (length found) (length found))
      → IsServing moment_of left_since told image start opening true mounted.journal (begun old log mounted.journal (of_index mounted.index) now)
  serves_found disk ending old log end mounted now frames found safe s is few rest object own staged indexes batches long gate =
      let n : ℕ = length old.log.ends.items in
      let released : log.released.items ≡ old.log.released.items = ap (λ (b : Backed). b.released) is in
      record {
        room = begun_room told image disk ending old log end mounted.journal (of_index mounted.index) now safe is few;
        frames = frames;
        left = s.left;
        flown = found;
        staged = [];
        gate = λ front.
            subst (λ (x : Place × List Release × ℕ). IsGate moment_of left_since old.identity start opening front x.0 (disk_in mounted.journal)
            (record { released = x.1; left = s.left; waiting = waiting_in old.held.items; flown = found; staged = [] }) x.2 x.2)
            (ap (λ (p : Place). (p, old.log.released.items, length found))
            (sym (ap (place_of front) is ∙ place_followed front (backed old.log) end s.logs n s.gone refl s.ended s.taken (s.last front) (s.rest front) (s.place front)))
            ∙ ap (λ (rs : List Release). (place_of front (backed log), rs, length found)) (sym released)
            ∙ ap (λ (k : ℕ). (place_of front (backed log), log.released.items, k)) long) (gate front);
        at_rest = rest;
        named = named_found mounted.identity old.identity frames object own;
        batches = batches;
        unflown = omega arith;
        unflushed = safe.unflushed;
        staged_for = λ other is_named. staged other;
        nameless = λ nobody. (refl, staged);
        stored = λ yes any may.
            subst (λ bs. HasStored frames any [] (of_index mounted.index) (apply nothing (flat_map (λ ops. ops) bs))) (batches ∙ sym (append-nil (start ++ found)))
            (stored_mounted frames any mounted.index indexes);
        kept = λ yes. kept_index (IsPlaceIn frames) mounted.index;
      }

  serves_begun : (disk : D) (ending : Ending) (old : Back D) (log : BackLog) (mounted : Mounted D) (kept : ℕ) (whole : Bool)
      → (safe : IsSafeEnded disk ending old) (s : IsEnded moment_of left_since image start opening disk ending old) → old.mode ≡ Wanted ending
      → backed log ≡ record (backed old.log) { ends = old.log.ends.items ++ record { kept = kept; cause = ending.cause } ∷ [] }
      → (is : IsMountOf told image moment_of left_since disk mounted) → is_own_object mounted.identity old.identity
      → ((object : Object) → IsStaged mounted.journal object [])
      → LeavesOnly moment_of left_since disk (disk_in mounted.journal) (ImageOrSame (told disk) (image disk)) → (c : List ℕ) → told disk ≡ Some c
      → not (mounted.journal.end == ending.end) ≡ whole → kept ≡ (if whole then ending.whole else ending.flown)
      → IsServing moment_of left_since told image start opening true mounted.journal (begun old log mounted.journal (of_index mounted.index) (old.durable + (kept - ending.flown)))
  serves_begun disk ending old log mounted kept true safe s wanted is_log is own staged leaves c tells test so =
      let one = found_one moment_of left_since told image reads_an_image start opening disk ending old s c is.frames tells is.recovers in
      let frames : is.frames ≡ s.frames ++ holds s.flight ∷ [] = more_found s.frames is.frames (holds s.flight) mounted.journal.end ending.end one is.at_rest.end s.end test in
      let found : List (List Op) = s.flown ++ s.flight.batches in
      let long : length found ≡ old.durable + (kept - ending.flown) = omega (arith, length-append s.flown s.flight.batches, (s.down front_none).long, so, s.is_whole) in
      serves_found disk ending old log (record { kept = kept; cause = ending.cause }) mounted (old.durable + (kept - ending.flown)) is.frames found safe s is_log (omega (arith, so)) is.at_rest is.object own staged is.index
      (ap batches_in frames ∙ flown_with moment_of left_since told image reads_an_image start opening disk ending old s) long
      (λ front. begins_more moment_of left_since told image reads_an_image start opening disk ending old s front (disk_in mounted.journal) leaves (s.mended wanted) kept (omega (arith, so, s.is_whole, s.is_flown front)))
  serves_begun disk ending old log mounted kept false safe s wanted is_log is own staged leaves c tells test so =
      let one = found_one moment_of left_since told image reads_an_image start opening disk ending old s c is.frames tells is.recovers in
      let frames : is.frames ≡ s.frames = old_found s.frames is.frames (holds s.flight) mounted.journal.end ending.end one is.at_rest.end s.end test in
      let long : length s.flown ≡ old.durable + (kept - ending.flown) = omega (arith, (s.down front_none).long, so) in
      serves_found disk ending old log (record { kept = kept; cause = ending.cause }) mounted (old.durable + (kept - ending.flown)) is.frames s.flown safe s is_log (omega (arith, so)) is.at_rest is.object own staged is.index
      (ap batches_in frames ∙ s.batches) long
      (λ front. subst (λ (k : ℕ). IsGate moment_of left_since old.identity start opening front
      (record (place_down s.ended s.taken (s.last front) (s.rest front)) { older = record (s.last front) { kept = Some k } ∷ s.rest front }) (disk_in mounted.journal)
      (record (lists_of moment_of left_since told image reads_an_image start opening disk ending old s) { flown = s.flown; staged = [] }) (length s.flown) (length s.flown))
      (sym (so ∙ s.is_flown front)) (begins_old moment_of left_since told image reads_an_image start opening disk ending old s front (disk_in mounted.journal) leaves (s.mended wanted)))

  begun_full : (disk : D) (ending : Ending) (old : Back D) (s : IsEnded moment_of left_since image start opening disk ending old) (mounted : Mounted D)
      (is : IsMountOf told image moment_of left_since disk mounted) (c : List ℕ) → told disk ≡ Some c → (needed limit : ℕ) → ending.cause ≡ causes.Full needed limit → kept_at ending mounted.journal.end ≡ ending.flown
  begun_full disk ending old s mounted is c tells needed limit full =
      let frames : is.frames ≡ s.frames = found_old moment_of left_since told image reads_an_image start opening disk ending old s c is.frames needed limit tells full is.recovers in
      ap (λ (b : Bool). if not b then ending.whole else ending.flown)
      (eq-eqb mounted.journal.end ending.end (is.at_rest.end ∙ ap (λ (fs : List Frame). length (journal_bytes fs) + 1) frames ∙ sym s.end))

  pub mounted_begun : (disk : D) (ending : Ending) (old new : Back D) (mounted : Mounted D) → (safe : IsSafeEnded disk ending old)
      → (IsTold (told disk) → IsEnded moment_of left_since image start opening disk ending old) → old.mode ≡ Wanted ending
      → (is : IsMountOf told image moment_of left_since disk mounted) → is_own_object mounted.identity old.identity
      → ((object : Object) → IsStaged mounted.journal object [])
      → LeavesOnly moment_of left_since disk (disk_in mounted.journal) (ImageOrSame (told disk) (image disk))
      → TellsAsBefore (told disk) (told (disk_in mounted.journal)) → IsLoggedDown (IsTold (told disk)) (backed old.log) ending (marks_of old) old.durable
      → AreCounted (IsTold (told disk)) (backed old.log) (faults_of disk) → faults_of disk ≤ faults_of (disk_in mounted.journal)
      → Begins old new ending mounted.journal (of_index mounted.index)
      → IsMounted moment_of left_since told image faults_of start opening true new
  mounted_begun disk ending old new mounted safe s wanted is own staged leaves telling l counted up done =
      let kept : ℕ = kept_at ending mounted.journal.end in
      let now : ℕ = old.durable + (kept - ending.flown) in
      let within : now ≤ old.durable + (ending.whole - ending.flown) = omega (arith, kept_most ending (not (mounted.journal.end == ending.end)) safe.more) in
      let made : IsMounted moment_of left_since told image faults_of start opening true (begun old new.log mounted.journal (of_index mounted.index) now) = record {
        journal = mounted.journal;
        safe = safe_begun told image disk ending old new.log (record { kept = kept; cause = ending.cause }) mounted now is.frames safe done.log within is.at_rest is.object own staged is.index;
        serves = λ tells.
            let before = told_before (told disk) (told (disk_in mounted.journal)) telling tells in
            serves_begun disk ending old new.log mounted kept (not (mounted.journal.end == ending.end)) safe (s before) wanted done.log is own staged leaves before.0 before.1 refl refl;
        logged =
            let tells : Type 0 = IsTold (told (disk_in mounted.journal)) in
            let before_it : tells → IsTold (told disk) = told_before (told disk) (told (disk_in mounted.journal)) telling in
            let one = kept_one ending (not (mounted.journal.end == ending.end)) in
            subst (λ (x : Backed × ℕ). IsLogged tells x.0 (record (marks_of old) { needs = now }) x.1 now now) (ap (λ (b : Backed). (b, 0)) (sym done.log) ∙ ap (λ (n : ℕ). (backed new.log, n)) (sym safe.none))
            (logged_begun (IsTold (told disk)) tells before_it (backed old.log) ending (marks_of old) old.durable kept now safe.logs safe.gone one
            (λ yes. let t = before_it yes in (one, begun_full disk ending old (s t) mounted is t.0 t.1)) safe.more refl (sym safe.own ∙ safe.none) l);
        counts = counts_same (IsTold (told disk)) (IsTold (told (disk_in mounted.journal))) (told_before (told disk) (told (disk_in mounted.journal)) telling) (backed old.log)
            (faults_of disk) (faults_of (disk_in mounted.journal)) counted (backed new.log) (ap (λ (b : Backed). b.stops) done.log) (ap (λ (b : Backed). b.downs) done.log) up;
        reads = reading_none (IsTold (told (disk_in mounted.journal))) (faults_of (disk_in mounted.journal)) (begun old new.log mounted.journal (of_index mounted.index) now)
            (unread_none old.held.items (failed_none old.held.items safe.halts));
      } in
      subst (IsMounted moment_of left_since told image faults_of start opening true) (sym done.same) made

  -- the mounting failed
  pub unmounted_missed : (disk left : D) (ending : Ending) (old new : Back D) (before after : ℕ) → (safe : IsSafeEnded disk ending old)
      → (IsTold (told disk) → IsEnded moment_of left_since image start opening disk ending old)
      → LeavesOnly moment_of left_since disk left (ImageOrSame (told disk) (image disk))
      → TellsAsBefore (told disk) (told left)
      → ((c : List ℕ) → image left c → ImageOrSame (told disk) (image disk) c)
      → IsLoggedDown (IsTold (told disk)) (backed old.log) ending (marks_of old) old.durable
      → AreCounted (IsTold (told disk)) (backed old.log) (faults_of disk) → before ≡ faults_of disk → after ≡ faults_of left → (IsTold (told left) → HasRisen (faults_of disk) (faults_of left))
      → Misses old new ending left before after
      → IsUnmounted moment_of left_since told image faults_of start opening new
  unmounted_missed disk left ending old new before after safe s leaves telling images l counted from into rises done =
      let log : backed new.log ≡ record (backed old.log) { downs = old.log.downs.items ++ record { incarnation = old.number; before = before; after = after } ∷ [] } = done.log in
      let made : IsUnmounted moment_of left_since told image faults_of start opening (record old { store = store.Disk left; mode = Down ending; log = new.log }) = record {
        disk = left;
        ending = ending;
        safe = record {
          store = refl;
          mode = inr refl;
          logs = subst AreLogs (sym log) (record { flown = safe.logs.flown; begun = safe.logs.begun; ends = safe.logs.ends });
          number = safe.number ∙ ap (λ (b : Backed). suc (length b.stops)) (sym log);
          gone = ap (λ (b : Backed). length b.stops) log ∙ safe.gone ∙ ap (λ (b : Backed). suc (length b.ends)) (sym log);
          even = safe.even;
          own = safe.own ∙ ap (λ (b : Backed). length (batches_taken (own_entries b))) (sym log);
          none = safe.none;
          unflushed = safe.unflushed;
          more = safe.more;
          few = omega (arith, safe.few, ap (λ (b : Backed). length b.taken) log);
          halts = safe.halts;
        };
        ended = λ tells.
            let e = s (told_before (told disk) (told left) telling tells) in
            record {
              frames = e.frames;
              flight = e.flight;
              ended = e.ended;
              taken = e.taken;
              left = e.left;
              flown = e.flown;
              last = e.last;
              rest = e.rest;
              end = e.end;
              is_flown = e.is_flown;
              is_whole = e.is_whole;
              logs = subst AreLogs (sym log) (record { flown = e.logs.flown; begun = e.logs.begun; ends = e.logs.ends });
              place = λ front. ap (place_of front) log ∙ missed_place front (backed old.log) (old.log.downs.items ++ record { incarnation = old.number; before = before; after = after } ∷ []) ∙ e.place front;
              down = λ front. subst (λ (rs : List Release). IsDown moment_of left_since old.identity start opening front e.ended e.taken (e.last front) (e.rest front) left
                  (record { released = rs; left = e.left; waiting = waiting_in old.held.items; flown = e.flown; staged = e.flight.batches }) old.durable)
                  (sym (ap (λ (b : Backed). b.released) log)) (still_down moment_of left_since told image reads_an_image start opening disk ending old e front left leaves);
              object = e.object;
              named = e.named;
              batches = e.batches;
              outcomes = λ c now. mounting_leaves moment_of left_since told image reads_an_image start opening disk ending old e c (images c now);
              mended = λ wanted. absurd (down_wanted ending wanted);
              gone = ap (λ (b : Backed). length b.stops) log ∙ e.gone ∙ ap (λ (b : Backed). suc (length b.ends)) (sym log);
              number = e.number ∙ ap (λ (b : Backed). suc (length b.stops)) (sym log);
              full = λ needed limit is c now. full_leaves moment_of left_since told image reads_an_image start opening disk ending old e needed limit is c (images c now);
            };
        logged =
            let tells : Type 0 = IsTold (told left) in
            let all : List Missed = old.log.downs.items ++ record { incarnation = old.number; before = before; after = after } ∷ [] in
            subst (λ (b : Backed). IsLoggedDown tells b ending (marks_of old) old.durable) (sym log)
            (down_same (IsTold (told disk)) tells (told_before (told disk) (told left) telling) (backed old.log) ending (marks_of old) old.durable (record (backed old.log) { downs = all }) refl refl refl
            (λ front. missed_place front (backed old.log) all) l);
        counts = counts_missed_more (IsTold (told disk)) (IsTold (told left)) (told_before (told disk) (told left) telling) (backed old.log) (faults_of disk) (faults_of left) counted (backed new.log)
            (record { incarnation = old.number; before = before; after = after }) (ap (λ (b : Backed). b.stops) log) (ap (λ (b : Backed). b.downs) log) safe.number
            (λ none. absurd (omega (arith, safe.gone, ap (λ (ss : List Stop). length ss) none))) (omega (arith, from)) (omega (arith, into))
            (λ yes. subst (λ (x : ℕ × ℕ). HasRisen x.0 x.1) (ap (λ (n : ℕ). (n, faults_of left)) (sym from) ∙ ap (λ (n : ℕ). (before, n)) (sym into)) (rises yes));
      } in
      subst (IsUnmounted moment_of left_since told image faults_of start opening) (sym done.same) made

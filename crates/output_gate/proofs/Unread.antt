-- An ask that is answered by reads of the disk, and one whose read fails.
use Rattle.std.proofs.Common.{◌≡◌, ◌∙◌, ap, sym, refl, subst, inl, inr, ℕ, ◌≤◌, List, [], ◌∷◌, ◌++◌, append-nil, length, arith, Option, Some, None, Ok, Err, Global}
use Rattle.std.specs.List.{flat_map}
use Rattle.std.specs.Prelude.{◌⊎◌, Bool, true, false, is_some, Result}
use Rattle.std.specs.declared.collections.VecDeque.{VecDeque}
use Rattle.do_disk.specs.Disk.{Rose}
use Rattle.storage_map.specs.Contents.{Contents, nothing, apply}
use Rattle.storage_map.specs.declared.answer.Reading.{Reading}
use Rattle.storage_map.specs.declared.ask.StoreAsk.{StoreAsk}
use Rattle.storage_map.specs.declared.op.Op.{Op}
use Rattle.storage_cache.specs.Cached.{Cached}
use Rattle.batch_journal.specs.Moments.{IsTold}
use Rattle.batch_journal.specs.Recovery.{Recovers}
use Rattle.batch_journal.specs.Rest.{disk_in, end_of, limit_of}
use Rattle.batch_journal.specs.declared.journal.Journal.{Journal}
use Rattle.object_storage.proofs.Going.{stored_same}
use Rattle.object_storage.specs.Reads.{StaysStored}
use Rattle.object_storage.specs.Stored.{HasSome}
use Rattle.object_storage.specs.declared.fault.AnswerFault.{AnswerFault}
use Rattle.object_storage.specs.declared.fault.AnswerFault.TheVariants.{ReadFailed}
use Rattle.timeline.specs.History.{History, line}
use Rattle.timeline.specs.Logs.{Fronted, backed}
use Rattle.timeline.specs.declared.entry.Body.TheVariants as body
use Rattle.timeline.specs.declared.entry.Entry.{Entry}
use Rattle.timeline.specs.declared.notice.Notice.TheVariants as notice
use Rattle.output_gate.specs.Counted.{HasRisenIn, counts_in}
use Rattle.output_gate.specs.Entering.{TakesOwn, FailsOwn}
use Rattle.output_gate.specs.Fits.{comes_behind, last_of}
use Rattle.output_gate.specs.Gate.{place_of, history_at}
use Rattle.output_gate.specs.Held.{waiting_in, has_failed_read}
use Rattle.output_gate.specs.Kept.{RecoversToPrefix}
use Rattle.output_gate.specs.Serving.{IsMounted, IsServing, marks_of}
use Rattle.output_gate.specs.Storing.{Reads, ReadsDisk}
use Rattle.output_gate.specs.Taking.{LogTook}
use Rattle.output_gate.specs.declared.back.Back.{Back}
use Rattle.output_gate.specs.declared.held.Held.{Held}
use Rattle.output_gate.specs.declared.store.Store.{Store}
use Rattle.output_gate.specs.declared.store.Store.TheVariants as store
use Rattle.output_gate.proofs.Counts.{counts_same, rising_push}
use Rattle.output_gate.proofs.Endings.{logged_same}
use Rattle.output_gate.proofs.Entered.{as_before}
use Rattle.output_gate.proofs.Gates.{calls}
use Rattle.output_gate.proofs.Helds.{true_false}
use Rattle.output_gate.proofs.Kept.{first_of}
use Rattle.batch_journal.proofs.Marking.{recovers_journal}
use Rattle.output_gate.proofs.Resting.{rests}
use Rattle.output_gate.proofs.Reading.{reading_stays, unread_none}
use Rattle.output_gate.proofs.Stored.{in_it, keeps_limit, same_disk, same_journal, tells_as}
use Rattle.output_gate.proofs.Takings.{HoldsMore, KeepsStored, has_some_of, may_some, some_object, mounted_same, mounted_silent, mounted_unread, safe_same, same_log, unread_held}

abbrev is_none_told : Option (List ℕ) → Type 0
is_none_told None = Unit {0}
is_none_told (Some bytes) = ⊥

-- over a disk that tells its content a read fails only where the count rose
risen : {before after : ℕ} {o : Option (List ℕ)} → Rose before after ⊎ ((after ≡ before) × (o ≡ None)) → IsTold o → Rose before after
risen (inl rose) tells = rose
risen (inr none) tells = absurd (subst is_none_told (sym none.1 ∙ tells.1) tt)

-- ---- the store

-- its journal's disk was read
pub read_store : {D : Type 0} (told : D → Option (List ℕ)) (old new : Store D) (journal later : Journal D) → old ≡ store.Journal journal → new ≡ store.Journal later
    → told (disk_in later) ≡ told (disk_in journal) → limit_of later ≡ limit_of journal → end_of later ≡ end_of journal → ReadsDisk told old new
read_store {D} told old new journal later from into same limit end = record {
  telling = tells_as told old new (disk_in journal) (disk_in later) (in_it old journal from) (in_it new later into) (ap (λ (o : Option (List ℕ)). is_some o) same);
  limit = keeps_limit old new journal later from into limit;
  end = λ other is. (journal, from, ap end_of (same_journal other later (sym is ∙ into)) ∙ end);
}

module _ {D : Type 0} (moment_of : D → ℕ) (left_since : D → ℕ → List ℕ → Type 0) (told : D → Option (List ℕ)) (image : D → List ℕ → Type 0) (faults_of : D → ℕ) where
  -- the back whose disk was read
  abbrev pub was_read : Back D → Journal D → Cached → Back D
  was_read old later cache = record old { store = store.Journal later; cache = cache }

  keeps : (journal later : Journal D) (old cache : Cached) → StaysStored told image moment_of left_since (HasSome old) journal old later cache → KeepsStored told image journal old cache
  keeps journal later old cache stays = record {
    stored = λ frames object staged m is. stored_same frames object staged old cache m stays.index stays.unflushed is;
    kept = λ frames rest tells some kept. stays.kept frames rest tells some kept;
  }

  module _ (start : List (List Op)) (opening : ℕ) where
    -- what a crash leaves while it is read are the frames, which have all that is durable
    read_leaves : (journal : Journal D) (back : Back D) (s : IsServing moment_of left_since told image start opening true journal back) (front : Fronted) (c : List ℕ) → image (disk_in journal) c
        → RecoversToPrefix back.identity start (line (history_at front (place_of front (backed back.log)))) back.durable c
    read_leaves journal back s front c now =
        let g = s.gate front in
        let h : History = history_at front (place_of front (backed back.log)) in
        let past : Recovers c s.frames = recovers_journal c s.frames (rests told image journal s.frames s.at_rest c now) in
        subst (λ (both : List (List Op) × ℕ). RecoversToPrefix back.identity start both.0 both.1 c) (ap (λ bs. (bs, length s.flown)) (sym g.line) ∙ ap (λ n. (line h, n)) g.long)
        (first_of back.identity start s.flown s.staged s.frames c past s.named s.batches)

    serves_read : (old : Back D) (journal later : Journal D) (cache : Cached) → StaysStored told image moment_of left_since (HasSome old.cache) journal old.cache later cache → IsTold (told (disk_in journal))
        → IsServing moment_of left_since told image start opening true journal old → IsServing moment_of left_since told image start opening true later (was_read old later cache)
    serves_read old journal later cache stays tells s =
        let k = keeps journal later old.cache cache stays in
        let m : Contents = apply nothing (flat_map (λ x. x) (start ++ s.flown ++ s.staged)) in
        record {
          room = record {
            logs = s.room.logs;
            flights = s.room.flights;
            stops = s.room.stops;
            number = s.room.number;
            own = s.room.own;
            few = s.room.few;
            own_few = s.room.own_few;
            followed = s.room.followed;
          };
          frames = s.frames;
          left = s.left;
          flown = s.flown;
          staged = s.staged;
          gate = λ front.
              calls moment_of left_since old.identity start opening front (place_of front (backed old.log))
              (record { released = old.log.released.items; left = s.left; waiting = waiting_in old.held.items; flown = s.flown; staged = s.staged }) old.before old.durable (disk_in journal) (disk_in later)
              (image (disk_in journal)) (s.gate front) stays.journal.reads.moments (read_leaves journal old s front);
          at_rest = stays.journal.frames s.frames s.at_rest;
          named = s.named;
          batches = s.batches;
          unflown = s.unflown;
          unflushed = s.unflushed;
          staged_for = λ object is. stays.journal.staged object s.staged (s.staged_for object is);
          nameless = λ is. ((s.nameless is).0, λ object. stays.journal.staged object [] ((s.nameless is).1 object));
          stored = λ yes object may. k.stored s.frames object s.staged m (s.stored yes object may);
          kept = λ yes. k.kept s.frames s.at_rest tells (has_some_of old.identity s.frames s.staged m old.cache (s.stored yes)) (s.kept yes);
        }

    abbrev mounted_read : (old : Back D) (m : IsMounted moment_of left_since told image faults_of start opening true old) (later : Journal D) (cache : Cached)
        → StaysStored told image moment_of left_since (HasSome old.cache) m.journal old.cache later cache → faults_of (disk_in m.journal) ≤ faults_of (disk_in later)
        → IsMounted moment_of left_since told image faults_of start opening true (was_read old later cache)
    mounted_read old m later cache stays up =
        let before_it : IsTold (told (disk_in later)) → IsTold (told (disk_in m.journal)) = λ tells. (tells.0, sym stays.journal.reads.same ∙ tells.1) in
        record {
          journal = later;
          safe = safe_same told image true true old old.log old.held m.journal later cache old.stuck m.safe (same_log moment_of left_since told image faults_of start opening true old.log) refl stays.journal.staged
              stays.journal.frames (λ yes. (refl, keeps m.journal later old.cache cache stays));
          serves = λ tells. serves_read old m.journal later cache stays (before_it tells) (m.serves (before_it tells));
          logged = logged_same (IsTold (told (disk_in m.journal))) (IsTold (told (disk_in later))) before_it (backed old.log) (marks_of old) old.own old.before old.durable (backed old.log) refl refl refl
              (λ front. refl) m.logged;
          counts = counts_same (IsTold (told (disk_in m.journal))) (IsTold (told (disk_in later))) before_it (backed old.log) (faults_of (disk_in m.journal)) (faults_of (disk_in later)) m.counts (backed old.log)
              refl refl up;
          reads = reading_stays (IsTold (told (disk_in m.journal))) (IsTold (told (disk_in later))) before_it (faults_of (disk_in m.journal)) (faults_of (disk_in later)) up old (was_read old later cache)
              refl refl refl m.reads;
        }

  -- ---- what the answer was

  abbrev ReadsOf : Back D → (after : Store D) → Cached → StoreAsk → Result Reading AnswerFault → Type 0
  ReadsOf old after cache ask result = (journal : Journal D) → old.store ≡ store.Journal journal → Reads moment_of left_since told image faults_of journal after old.cache cache ask result

  reads_disk : (old : Back D) (after : Store D) (cache : Cached) (ask : StoreAsk) (result : Result Reading AnswerFault) (journal : Journal D) → old.store ≡ store.Journal journal
      → ReadsOf old after cache ask result → ReadsDisk told old.store after
  reads_disk old after cache ask result journal at reads =
      let r = reads journal at in read_store told old.store after journal r.new at r.is r.stays.journal.reads.same r.stays.journal.limit r.stays.journal.end

  -- where memory was wanting
  pub failed_read : (old new : Back D) (after : Store D) (held : VecDeque Held Global) (cache : Cached) (ask : StoreAsk) (result : Result Reading AnswerFault) (journal : Journal D)
      → old.store ≡ store.Journal journal → ReadsOf old after cache ask result → held.items ≡ old.held.items → new ≡ record old { store = after; cache = cache; held = held }
      → FailsOwn moment_of left_since told image faults_of old new
  failed_read old new after held cache ask result journal at reads items same = record {
    same = as_before old new after cache held old.log same refl items;
    disk = subst (ReadsDisk told old.store) (ap (λ (x : Back D). x.store) (sym same)) (reads_disk old after cache ask result journal at reads);
    back = λ start opening m.
        let r = reads m.journal m.safe.store in
        let mid : Back D = was_read old r.new cache in
        subst (IsMounted moment_of left_since told image faults_of start opening false)
        (ap (λ (s : Store D). record old { store = s; cache = cache; held = held }) (sym r.is) ∙ sym same)
        (mounted_same moment_of left_since told image faults_of start opening true false mid mid.log held r.new cache mid.stuck (mounted_read start opening old m r.new cache r.stays r.counts.later)
        (same_log moment_of left_since told image faults_of start opening true mid.log) items (λ object batches staged. staged) (λ frames rest. rest) refl (λ yes. absurd (true_false (sym yes))));
  }

  -- an entry, as it is logged
  abbrev asks : Back D → ℕ → StoreAsk → Bool → Entry
  asks old number ask free = record { incarnation = old.number; number = number; body = body.Ask ask free }

  -- it is answered
  pub took_read : (old mid new : Back D) (number : ℕ) (ask : StoreAsk) (free : Bool) (after : Store D) (cache : Cached) (answer : Reading) (journal : Journal D) → old.store ≡ store.Journal journal
      → ReadsOf old after cache ask (Ok answer) → mid ≡ record old { store = after; cache = cache } → comes_behind (last_of old.log.taken.items) (asks old number ask free) ≡ true → has_failed_read old.held.items ≡ false
      → LogTook mid.log new.log (asks mid number ask free) → new ≡ record mid { log = new.log }
      → TakesOwn moment_of left_since told image faults_of old new number (body.Ask ask free) (Some (notice.Read number answer))
  took_read old mid new number ask free after cache answer journal at reads first comes on log then =
      let same : new ≡ record old { store = after; cache = cache; log = new.log } = then ∙ ap (λ (x : Back D). record x { log = new.log }) first in
      let took : LogTook old.log new.log (asks old number ask free) = record {
        taken = log.taken ∙ ap (λ (x : Back D). record (backed x.log) { taken = x.log.taken.items ++ asks x number ask free ∷ [] }) first;
        flights = log.flights;
        stops = log.stops;
      } in
      record {
        failed = None;
        may = tt;
        answers = λ disk is tells m has.
            let r = reads has.journal has.at in
            let told_now = subst (λ (d : D). IsTold (told d)) (same_disk old.store disk (disk_in has.journal) is (in_it old.store has.journal has.at)) tells in
            ap (λ (x : Reading). Some (notice.Read number x)) (r.reading has.frames (some_object old.identity) has.staged m has.at_rest told_now (has.stored (some_object old.identity) (may_some old.identity)) has.kept);
        rose = λ disk is tells. tt;
        log = took.taken;
        stuck = ap (λ (x : Back D). x.stuck) same;
        identity = ap (λ (x : Back D). x.identity) same;
        holds = ap (λ (x : Back D). x.held.items) same ∙ sym (append-nil old.held.items);
        mode = ap (λ (x : Back D). x.mode) same;
        before = ap (λ (x : Back D). x.before) same;
        needs = ap (λ (x : Back D). x.needs) same;
        durable = ap (λ (x : Back D). x.durable) same;
        limit = ap (λ (x : Back D). x.limit) same;
        disk = subst (ReadsDisk told old.store) (ap (λ (x : Back D). x.store) (sym same)) (reads_disk old after cache ask (Ok answer) journal at reads);
        back = λ start opening m.
            let r = reads m.journal m.safe.store in
            let was : Back D = was_read old r.new cache in
            let read = mounted_read start opening old m r.new cache r.stays r.counts.later in
            subst (IsMounted moment_of left_since told image faults_of start opening true) (ap (λ (s : Store D). record old { store = s; cache = cache; log = new.log }) (sym r.is) ∙ sym same)
            (mounted_silent moment_of left_since told image faults_of start opening true was new.log was.held (asks old number ask free) read took refl comes on refl (λ n k. refl) refl
            (HoldsMore.nothing_more refl refl refl)
            (unread_none old.held.items on));
      }

  -- why a read failed, as a log has it
  rose_so : (now later before after : ℕ) → before ≡ now → after ≡ later → now ≤ later → Rose before after → HasRisenIn (before, after)
  rose_so now later before after from into up rose = record { later = omega (arith, from, into, up); rose = rose }

  -- its read fails
  pub took_unread : (old mid held_then new : Back D) (number : ℕ) (ask : StoreAsk) (free : Bool) (after : Store D) (cache : Cached) (before_it after_it : ℕ) (journal : Journal D)
      → old.store ≡ store.Journal journal → ReadsOf old after cache ask (Err (ReadFailed before_it after_it)) → mid ≡ record old { store = after; cache = cache }
      → held_then.held.items ≡ mid.held.items ++ unread_held mid (before_it, after_it) ∷ [] → held_then ≡ record mid { held = held_then.held }
      → comes_behind (last_of old.log.taken.items) (asks old number ask free) ≡ true → has_failed_read old.held.items ≡ false
      → LogTook held_then.log new.log (asks held_then number ask free) → new ≡ record held_then { log = new.log }
      → TakesOwn moment_of left_since told image faults_of old new number (body.Ask ask free) None
  took_unread old mid held_then new number ask free after cache before_it after_it journal at reads first items second comes on log then =
      let counts : ℕ × ℕ = (before_it, after_it) in
      let held : VecDeque Held Global = held_then.held in
      let all : held_then ≡ record old { store = after; cache = cache; held = held } = second ∙ ap (λ (x : Back D). record x { held = held }) first in
      let same : new ≡ record old { store = after; cache = cache; held = held; log = new.log } = then ∙ ap (λ (x : Back D). record x { log = new.log }) all in
      let took : LogTook old.log new.log (asks old number ask free) = record {
        taken = log.taken ∙ ap (λ (x : Back D). record (backed x.log) { taken = x.log.taken.items ++ asks x number ask free ∷ [] }) all;
        flights = log.flights;
        stops = log.stops;
      } in
      let more : held.items ≡ old.held.items ++ unread_held old counts ∷ [] = items ∙ ap (λ (x : Back D). x.held.items ++ unread_held x counts ∷ []) first in
      record {
        failed = Some counts;
        may = tt;
        answers = λ disk is tells m has. refl;
        rose = λ disk is tells.
            let r = reads journal at in
            let told_now = subst (λ (d : D). IsTold (told d)) (same_disk old.store disk (disk_in journal) is (in_it old.store journal at)) tells in
            risen (r.counts.failed before_it after_it refl).2 told_now;
        log = took.taken;
        stuck = ap (λ (x : Back D). x.stuck) same;
        identity = ap (λ (x : Back D). x.identity) same;
        holds = ap (λ (x : Back D). x.held.items) same ∙ more;
        mode = ap (λ (x : Back D). x.mode) same;
        before = ap (λ (x : Back D). x.before) same;
        needs = ap (λ (x : Back D). x.needs) same;
        durable = ap (λ (x : Back D). x.durable) same;
        limit = ap (λ (x : Back D). x.limit) same;
        disk = subst (ReadsDisk told old.store) (ap (λ (x : Back D). x.store) (sym same)) (reads_disk old after cache ask (Err (ReadFailed before_it after_it)) journal at reads);
        back = λ start opening m.
            let r = reads m.journal m.safe.store in
            let was : Back D = was_read old r.new cache in
            let read = mounted_read start opening old m r.new cache r.stays r.counts.later in
            let so = r.counts.failed before_it after_it refl in
            subst (IsMounted moment_of left_since told image faults_of start opening true)
            (ap (λ (s : Store D). record old { store = s; cache = cache; held = held; log = new.log }) (sym r.is) ∙ sym same)
            (mounted_unread moment_of left_since told image faults_of start opening true was new.log held (asks old number ask free) counts read took refl comes on tt refl (λ n k. refl) refl more
            (rising_push 0 (counts_in (backed old.log)) counts (faults_of (disk_in m.journal)) (faults_of (disk_in r.new)) (omega (arith, so.0)) (omega (arith, so.1)) m.counts.rising)
            (λ tells. rose_so (faults_of (disk_in m.journal)) (faults_of (disk_in r.new)) before_it after_it so.0 so.1 r.counts.later (risen so.2 (tells.0, sym r.stays.journal.reads.same ∙ tells.1))));
      }

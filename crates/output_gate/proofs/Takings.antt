-- What taking an entry does to a back that serves.
use Rattle.std.proofs.Common.{◌≡◌, ◌∙◌, ap, sym, refl, subst, inl, inr, ⊎_elim, ℕ, suc, ◌+◌, ◌≤◌, List, [], ◌∷◌, ◌++◌, append-nil, append_assoc, length, length-append, arith, Option, Some, None}
use Rattle.std.proofs.lemmas.Grind.{flat_map-append}
use Rattle.std.proofs.lemmas.List.{length_push}
use Rattle.storage_map.proofs.Folds.{apply-append}
use Rattle.std.specs.List.{flat_map}
use Rattle.batch_journal.specs.Moments.{IsTold}
use Rattle.batch_journal.specs.Rest.{IsAtRest, IsStaged, disk_in}
use Rattle.batch_journal.specs.Frames.{Frame}
use Rattle.batch_journal.specs.declared.journal.Journal.{Journal}
use Rattle.storage_cache.specs.Cached.{Cached}
use Rattle.storage_map.specs.Contents.{Contents, nothing, apply}
use Rattle.storage_map.specs.Limits.{Object}
use Rattle.storage_map.specs.declared.op.Op.{Op}
use Rattle.timeline.specs.History.{batches_in as batches_taken, kept_before, said_in}
use Rattle.timeline.specs.Logs.{Fronted, Backed, backed}
use Rattle.timeline.specs.Passed.{Passed, follows, is_mend, reaches}
use Rattle.timeline.specs.Told.{said_by, batches_of}
use Rattle.timeline.specs.declared.back_log.BackLog.{BackLog}
use Rattle.timeline.specs.declared.back_log.Release.{Release}
use Rattle.timeline.specs.declared.entry.Body.TheVariants as body
use Rattle.timeline.specs.declared.entry.Entry.{Entry}
use Rattle.output_gate.specs.Gate.{Place, place_of, Lists, IsGate}
use Rattle.output_gate.specs.Held.{passed_of, waiting_in, has_failed_read, is_failed_read, is_held_halt, has_halt, halts_well, unread_in, HaltsLast}
use Rattle.output_gate.specs.Passing.{IsSilent}
use Rattle.output_gate.specs.Kept.{MayBe}
use Rattle.output_gate.specs.declared.held.Held.{Held}
use Rattle.output_gate.specs.declared.held.HeldBody.TheVariants as held_body
use Rattle.timeline.specs.declared.caller.Cause.TheVariants as causes
use Rattle.timeline.specs.declared.message.Message.{Message}
use Rattle.std.proofs.Common.{Global}
use Rattle.std.specs.declared.collections.VecDeque.{VecDeque}
use Rattle.std.specs.Prelude.{Bool, true, false}
use Rattle.storage_map.specs.Ops.{batch_bytes}
use Rattle.object_storage.specs.Stored.{HasStored, HasKept, HasSome}
use Rattle.output_gate.specs.Counted.{AreCounted, AreRising, HasRisenIn, counts_in}
use Rattle.output_gate.specs.Ended.{IsLogged}
use Rattle.output_gate.specs.Fits.{IsAsk, is_halt, last_of, comes_behind}
use Rattle.output_gate.specs.declared.store.Store.{Store}
use Rattle.output_gate.specs.declared.store.Store.TheVariants as store
use Rattle.output_gate.specs.Serving.{HaltsBy, HasRoom, IsSafe, IsServing, IsMounted, marks_of}
use Rattle.output_gate.specs.Standing.{AreLogs, own_entries, older_of}
use Rattle.output_gate.specs.Taking.{LogTook, LogSame}
use Rattle.output_gate.specs.declared.back.Back.{Back}
use Rattle.output_gate.proofs.Flushes.{be_same, front_none, may_be, placed}
use Rattle.output_gate.proofs.Helds.{true_false, halts_none, halts_push, push_none}
use Rattle.output_gate.proofs.Named.{some_none, no_frames, named_gate}
use Rattle.output_gate.proofs.Gates.{batches_more, takes_batch, takes_silent, takes_message}
use Rattle.output_gate.proofs.Histories.{takes as history_takes, takes_fit}
use Rattle.output_gate.proofs.Counts.{counts_stay}
use Rattle.output_gate.proofs.Endings.{logged_took, logged_said, logged_same}
use Rattle.output_gate.proofs.Ordered.{last_push, no_halt}
use Rattle.output_gate.proofs.Reading.{failed_pushed, unread_failed, reading_stays, reading_none, reading_fails, unread_none}

-- the operations of one more batch
applies : (line : List (List Op)) (ops : List Op) → apply (apply nothing (flat_map (λ x. x) line)) ops ≡ apply nothing (flat_map (λ x. x) (line ++ ops ∷ []))
applies line ops =
    sym (apply-append nothing (flat_map (λ x. x) line) ops)
    ∙ ap (apply nothing) (ap (λ more. flat_map (λ x. x) line ++ more) (sym (append-nil ops)) ∙ sym (flat_map-append (λ x. x) line (ops ∷ [])))

-- the log with one more entry
abbrev pub TookOf : BackLog → BackLog → Entry → Type 0
TookOf old new e = backed new ≡ record (backed old) { taken = old.taken.items ++ e ∷ [] }

-- where the history then stands
pub took_place : (old new : BackLog) (e : Entry) → AreLogs (backed old) → e.incarnation ≡ suc (length old.stops.items) → TookOf old new e
    → (front : Fronted) → place_of front (backed new) ≡ record (place_of front (backed old)) { taken = own_entries (backed old) ++ e ∷ [] }
took_place old new e logs is took front =
    let later : Backed = record (backed old) { taken = old.taken.items ++ e ∷ [] } in
    ap (place_of front) took ∙ placed front later (record (place_of front (backed old)) { taken = own_entries (backed old) ++ e ∷ [] }) (takes_fit front (backed old) e logs (omega (arith, is))) (history_takes front (backed old) e logs is)

-- the entries of the newest incarnation
abbrev pub batch_entry : {D : Type 0} → Back D → ℕ → List Op → Option ℕ → Bool → Entry
batch_entry back number ops tail confirmed = record { incarnation = back.number; number = number; body = body.Batch ops tail confirmed }

abbrev pub bind_entry : {D : Type 0} → Back D → ℕ → Object → Entry
bind_entry back number object = record { incarnation = back.number; number = number; body = body.Bind object }

-- the back with a batch more
abbrev pub with_batch : {D : Type 0} → Back D → BackLog → Journal D → Cached → (bytes needs : ℕ) → Back D
with_batch old log journal cache bytes needs =
    record old { store = store.Journal journal; cache = cache; log = log; before = old.before + 1; own = old.own + 1; needs = needs; unflushed = bytes }

-- the bytes of one more batch
more_bytes : (batches : List (List Op)) (ops : List Op) (bytes : ℕ) → bytes ≡ length (flat_map batch_bytes batches)
    → bytes + length (batch_bytes ops) ≡ length (flat_map batch_bytes (batches ++ ops ∷ []))
more_bytes batches ops bytes is =
    omega (arith, is, ap length (flat_map-append batch_bytes batches (ops ∷ [])), length-append (flat_map batch_bytes batches) (batch_bytes ops ++ []), ap length (append-nil (batch_bytes ops)))

abbrev named_or : Option Object → Object → Object
named_or None other = other
named_or (Some object) other = object

pub same_object : (one other : Object) → Some one ≡ Some other → one ≡ other
same_object one other same = ap (λ (o : Option Object). named_or o one) same

-- the log's lists and the counters fit still
pub took_room : {D : Type 0} (old : Back D) (log : BackLog) (e : Entry) (more : ℕ) → HasRoom old → e.incarnation ≡ suc (length old.log.stops.items) → LogTook old.log log e
    → more ≡ length (batches_of (said_by e.body)) → more ≤ 1
    → (later : Store D) (cache : Cached) (held : VecDeque Held Global) (identity : Option Object) (bytes needs : ℕ)
    → HasRoom (record old { store = later; cache = cache; identity = identity; held = held; log = log; before = old.before + more; own = old.own + more; needs = needs; unflushed = bytes })
took_room old log e more room is took count most later cache held identity bytes needs =
    let own : own_entries (backed log) ≡ own_entries (backed old.log) ++ e ∷ [] = ap (λ (p : Place). p.taken) (took_place old.log log e room.logs is took.taken front_none) in
    let long : length log.taken.items ≡ length old.log.taken.items + 1 = ap (λ (b : Backed). length b.taken) took.taken ∙ length_push old.log.taken.items e in
    record {
      logs = subst AreLogs (sym took.taken) (takes_fit front_none (backed old.log) e room.logs (omega (arith, is)));
      flights = λ other. took.flights;
      stops = λ other. took.stops;
      number = room.number ∙ ap (λ (b : Backed). suc (length b.stops)) (sym took.taken);
      own = omega (arith, room.own, count, ap (λ es. length (batches_taken es)) own, ap length (batches_more (own_entries (backed old.log)) e), length-append (batches_taken (own_entries (backed old.log))) (batches_of (said_by e.body)));
      few = omega (arith, room.few, long, most);
      own_few = omega (arith, room.own_few, long, most);
      followed = ap (λ (b : Backed). length b.ends) took.taken ∙ room.followed ∙ ap (λ (b : Backed). length b.stops) (sym took.taken);
    }

pub same_room : {D : Type 0} (old : Back D) (log : BackLog) → HasRoom old → LogSame old.log log → (later : Store D) (cache : Cached) (held : VecDeque Held Global) (stuck : Bool)
    → HasRoom (record old { store = later; cache = cache; held = held; stuck = stuck; log = log })
same_room old log room same later cache held stuck = record {
  logs = subst AreLogs (sym same.same) room.logs;
  flights = λ other. same.flights (room.flights other);
  stops = λ other. same.stops (room.stops other);
  number = room.number ∙ ap (λ (b : Backed). suc (length b.stops)) (sym same.same);
  own = room.own ∙ ap (λ (b : Backed). length (batches_taken (own_entries b))) (sym same.same);
  few = subst (λ (b : Backed). old.before ≤ length b.taken) (sym same.same) room.few;
  own_few = subst (λ (b : Backed). old.own ≤ length b.taken) (sym same.same) room.own_few;
  followed = ap (λ (b : Backed). length b.ends) same.same ∙ room.followed ∙ ap (λ (b : Backed). length b.stops) (sym same.same);
}

-- what is held: nothing more, or one more
pub data HoldsMore (old new : List Held) (e : Entry) (before : ℕ) (more : List Passed) : Type 0 where
  nothing_more : new ≡ old → more ≡ [] → is_halt e.body ≡ false → HoldsMore old new e before more
  one_more : (h : Held) → new ≡ old ++ h ∷ [] → more ≡ passed_of h → (is_held_halt h.body ≡ true → (h.needs ≡ before) × (halts_well h.body ≡ true)) → is_held_halt h.body ≡ is_halt e.body → HoldsMore old new e before more

pub waits_more : (held : List Held) (h : Held) → waiting_in (held ++ h ∷ []) ≡ waiting_in held ++ passed_of h
waits_more held h = flat_map-append passed_of held (h ∷ []) ∙ ap (λ ps. waiting_in held ++ ps) (append-nil (passed_of h))

pub waits_as : (old new : List Held) (e : Entry) (before : ℕ) (more : List Passed) → HoldsMore old new e before more → waiting_in new ≡ waiting_in old ++ more
waits_as old new e before more (HoldsMore.nothing_more same empty other) = ap waiting_in same ∙ sym (append-nil (waiting_in old)) ∙ ap (λ ps. waiting_in old ++ ps) (sym empty)
waits_as old new e before more (HoldsMore.one_more h is says last halts) = ap waiting_in is ∙ waits_more old h ∙ ap (λ ps. waiting_in old ++ ps) (sym says)

halts_as : (old new : List Held) (e : Entry) (before : ℕ) (more : List Passed) → HoldsMore old new e before more → has_halt old ≡ false → HaltsLast before new
halts_as old new e before more (HoldsMore.nothing_more same empty other) free = subst (HaltsLast before) (sym same) (halts_none before old free)
halts_as old new e before more (HoldsMore.one_more h is says last halts) free = subst (HaltsLast before) (sym is) (halts_push before old h free last)

-- only a halt brings one
halted_if : (old : List Held) (h : Held) (b : Bool) → has_halt old ≡ false → has_halt (old ++ h ∷ []) ≡ true → is_held_halt h.body ≡ b → b ≡ true
halted_if old h true free has is = refl
halted_if old h false free has is = absurd (true_false (sym has ∙ push_none old h free is))

halted_as : (old new : List Held) (e : Entry) (before : ℕ) (more : List Passed) → HoldsMore old new e before more → has_halt old ≡ false → has_halt new ≡ true → is_halt e.body ≡ true
halted_as old new e before more (HoldsMore.nothing_more same empty other) free has = absurd (true_false (sym has ∙ ap has_halt same ∙ free))
halted_as old new e before more (HoldsMore.one_more h is says last halts) free has = halted_if old h (is_halt e.body) free (sym (ap has_halt is) ∙ has) halts

-- some object that it may be
abbrev pub some_object : Option Object → Object
some_object None = ([], [])
some_object (Some object) = object

pub may_some : (identity : Option Object) → MayBe identity (some_object identity)
may_some None = tt
may_some (Some object) = refl

pub has_some_of : (identity : Option Object) (frames : List Frame) (staged : List (List Op)) (m : Contents) (cache : Cached)
    → ((object : Object) → MayBe identity object → HasStored frames object staged cache m) → HasSome cache frames
has_some_of identity frames staged m cache stored = (some_object identity, staged, m, stored (some_object identity) (may_some identity))

-- What is stored behind a batch.
pub record StoresOps {D : Type 0} (told : D → Option (List ℕ)) (image : D → List ℕ → Type 0) (journal : Journal D) (old new : Cached) (object : Object) (ops : List Op) : Type 0 where
  pub stored : (frames : List Frame) (staged : List (List Op)) (m : Contents) → IsAtRest told image journal frames → IsStaged journal object staged → HasStored frames object staged old m
      → HasStored frames object (staged ++ ops ∷ []) new (apply m ops)
  pub kept : (frames : List Frame) → HasKept frames old → HasKept frames new

-- the end by a read that failed, as it is held
abbrev pub unread_held : {D : Type 0} → Back D → ℕ × ℕ → Held
unread_held old counts = record { body = held_body.Halt (causes.Disk counts.0 counts.1); needs = old.before; since = old.number }

-- the last entry is that by which the held halt came, of a back that holds the same
halts_same : {D : Type 0} (e : Entry) (old new : Back D) → new.held.items ≡ old.held.items → HaltsBy e old → HaltsBy e new
halts_same e old new items (inl halts) = inl (ap has_failed_read items ∙ halts.0, halts.1)
halts_same e old new items (inr by) = inr (ap has_failed_read items ∙ by.0, by.1)

-- What is stored in one cache is stored in the other, and what that keeps stands too: no batch was taken and none was flushed.
pub record KeepsStored {D : Type 0} (told : D → Option (List ℕ)) (image : D → List ℕ → Type 0) (journal : Journal D) (old new : Cached) : Type 0 where
  pub stored : (frames : List Frame) (object : Object) (staged : List (List Op)) (m : Contents) → HasStored frames object staged old m → HasStored frames object staged new m
  pub kept : (frames : List Frame) → IsAtRest told image journal frames → IsTold (told (disk_in journal)) → HasSome old frames → HasKept frames old → HasKept frames new

pub same_stored : {D : Type 0} (told : D → Option (List ℕ)) (image : D → List ℕ → Type 0) (journal : Journal D) (old new : Cached) → new ≡ old → KeepsStored told image journal old new
same_stored told image journal old new same = record {
  stored = λ frames object staged m is. subst (λ (c : Cached). HasStored frames object staged c m) (sym same) is;
  kept = λ frames rest tells some keeps. subst (HasKept frames) (sym same) keeps;
}

module _ {D : Type 0} (told : D → Option (List ℕ)) (image : D → List ℕ → Type 0) (sound : Bool) where
  free_if : (journal : Journal D) (back : Back D) (s : IsSafe told image sound journal back) (e : Entry) (b : Bool) → has_halt back.held.items ≡ b
      → e.incarnation ≡ back.number → comes_behind (last_of back.log.taken.items) e ≡ true → has_failed_read back.held.items ≡ false → has_halt back.held.items ≡ false
  free_if journal back s e false is own comes on = is
  free_if journal back s e true is own comes on =
      let h = s.halted is in
      ⊎_elim (λ halts. absurd (no_halt h.0 e (h.2 ∙ sym own) halts.1 (ap (λ (o : Option Entry). comes_behind o e) (sym h.1) ∙ comes)))
      (λ by. absurd (true_false (sym by.0 ∙ on))) h.3

  pub free : (journal : Journal D) (back : Back D) → IsSafe told image sound journal back → (e : Entry) → e.incarnation ≡ back.number → comes_behind (last_of back.log.taken.items) e ≡ true
      → has_failed_read back.held.items ≡ false → has_halt back.held.items ≡ false
  free journal back s e own comes on = free_if journal back s e (has_halt back.held.items) refl own comes on

  safe_batch : (old : Back D) (log : BackLog) (number : ℕ) (ops : List Op) (tail : Option ℕ) (confirmed : Bool) (journal later : Journal D) (cache : Cached) (bytes needs : ℕ) (object : Object)
      → IsSafe told image sound journal old → LogTook old.log log (batch_entry old number ops tail confirmed) → old.identity ≡ Some object
      → comes_behind (last_of old.log.taken.items) (batch_entry old number ops tail confirmed) ≡ true → has_failed_read old.held.items ≡ false
      → ((batches : List (List Op)) → IsStaged journal object batches → IsStaged later object (batches ++ ops ∷ []))
      → ((frames : List Frame) → IsAtRest told image journal frames → IsAtRest told image later frames) → StoresOps told image journal old.cache cache object ops
      → bytes ≡ old.unflushed + length (batch_bytes ops)
      → IsSafe told image sound later (with_batch old log later cache bytes needs)
  safe_batch old log number ops tail confirmed journal later cache bytes needs object s took named comes on staged frames wrote is =
      let e : Entry = batch_entry old number ops tail confirmed in
      let none = free journal old s e refl comes on in
      record {
        store = refl;
        mode = s.mode;
        room = took_room old log e 1 s.room s.room.number took refl (omega arith) (store.Journal later) cache old.held old.identity bytes needs;
        frames = s.frames;
        staged = s.staged ++ ops ∷ [];
        at_rest = frames s.frames s.at_rest;
        named = s.named;
        unflown = omega (arith, s.unflown, length_push s.staged ops);
        own = omega (arith, s.own, length_push s.staged ops);
        unflushed = is ∙ more_bytes s.staged ops old.unflushed s.unflushed;
        staged_for = λ other is_named. subst (λ (o : Object). IsStaged later o (s.staged ++ ops ∷ [])) (same_object object other (sym named ∙ is_named)) (staged s.staged (s.staged_for object named));
        nameless = λ nobody. absurd (some_none (sym named ∙ nobody));
        halts = halts_none (old.before + 1) old.held.items none;
        halted = λ has. absurd (true_false (sym has ∙ none));
        stored = λ yes.
            let st = s.stored yes in (
              apply st.0 ops,
              λ other may. subst (λ (o : Object). HasStored s.frames o (s.staged ++ ops ∷ []) cache (apply st.0 ops)) (be_same old.identity object other named may)
                  (wrote.stored s.frames s.staged st.0 s.at_rest (s.staged_for object named) (st.1 object (may_be old.identity object named))),
            );
      }

  safe_said : (old : Back D) (log : BackLog) (held : VecDeque Held Global) (e : Entry) (more : List Passed) (journal : Journal D)
      → IsSafe told image sound journal old → LogTook old.log log e → e.incarnation ≡ old.number → comes_behind (last_of old.log.taken.items) e ≡ true → has_failed_read old.held.items ≡ false
      → batches_of (said_by e.body) ≡ [] → unread_in held.items ≡ [] → HoldsMore old.held.items held.items e old.before more
      → IsSafe told image sound journal (record old { held = held; log = log })
  safe_said old log held e more journal s took own comes on silent unread holds =
      let none = free journal old s e own comes on in
      let room = took_room old log e 0 s.room (own ∙ s.room.number) took (ap length (sym silent)) (omega arith) old.store old.cache held old.identity old.unflushed old.needs in
      record {
        store = s.store;
        mode = s.mode;
        room = record { logs = room.logs; flights = λ other. took.flights; stops = λ other. took.stops; number = room.number; own = omega (arith, room.own); few = omega (arith, room.few); own_few = omega (arith, room.own_few); followed = room.followed };
        frames = s.frames;
        staged = s.staged;
        at_rest = s.at_rest;
        named = s.named;
        unflown = s.unflown;
        own = s.own;
        unflushed = s.unflushed;
        staged_for = s.staged_for;
        nameless = s.nameless;
        halts = halts_as old.held.items held.items e old.before more holds none;
        halted = λ has. (e, ap (λ (b : Backed). last_of b.taken) took.taken ∙ last_push old.log.taken.items e, own, inl (unread_failed held.items unread, halted_as old.held.items held.items e old.before more holds none has));
        stored = s.stored;
      }

  -- a read failed, and the end by that is held
  safe_unread : (old : Back D) (log : BackLog) (held : VecDeque Held Global) (e : Entry) (h : Held) (counts : ℕ × ℕ) (journal : Journal D)
      → IsSafe told image sound journal old → LogTook old.log log e → e.incarnation ≡ old.number → comes_behind (last_of old.log.taken.items) e ≡ true → has_failed_read old.held.items ≡ false
      → IsAsk e.body → batches_of (said_by e.body) ≡ [] → h ≡ unread_held old counts → held.items ≡ old.held.items ++ h ∷ []
      → IsSafe told image sound journal (record old { held = held; log = log })
  safe_unread old log held e h counts journal s took own comes on asks silent is_held items =
      let none = free journal old s e own comes on in
      let room = took_room old log e 0 s.room (own ∙ s.room.number) took (ap length (sym silent)) (omega arith) old.store old.cache held old.identity old.unflushed old.needs in
      record {
        store = s.store;
        mode = s.mode;
        room = record { logs = room.logs; flights = λ other. took.flights; stops = λ other. took.stops; number = room.number; own = omega (arith, room.own); few = omega (arith, room.few); own_few = omega (arith, room.own_few); followed = room.followed };
        frames = s.frames;
        staged = s.staged;
        at_rest = s.at_rest;
        named = s.named;
        unflown = s.unflown;
        own = s.own;
        unflushed = s.unflushed;
        staged_for = s.staged_for;
        nameless = s.nameless;
        halts = subst (HaltsLast old.before) (sym items) (halts_push old.before old.held.items h none (λ yes. (ap (λ (x : Held). x.needs) is_held, ap (λ (x : Held). halts_well x.body) is_held)));
        halted = λ has. (
          e,
          ap (λ (b : Backed). last_of b.taken) took.taken ∙ last_push old.log.taken.items e,
          own,
          inr (ap has_failed_read items ∙ failed_pushed old.held.items h (ap (λ (x : Held). is_failed_read x.body) is_held), asks),
        );
        stored = s.stored;
      }

  safe_bind : (old : Back D) (log : BackLog) (number : ℕ) (object : Object) (journal : Journal D)
      → IsSafe told image sound journal old → LogTook old.log log (bind_entry old number object) → old.identity ≡ None
      → comes_behind (last_of old.log.taken.items) (bind_entry old number object) ≡ true → has_failed_read old.held.items ≡ false
      → IsSafe told image sound journal (record old { identity = Some object; log = log })
  safe_bind old log number object journal s took nobody comes on =
      let e : Entry = bind_entry old number object in
      let none = free journal old s e refl comes on in
      let room = took_room old log e 0 s.room s.room.number took refl (omega arith) old.store old.cache old.held (Some object) old.unflushed old.needs in
      let nothing = s.nameless nobody in
      record {
        store = s.store;
        mode = s.mode;
        room = record { logs = room.logs; flights = λ other. took.flights; stops = λ other. took.stops; number = room.number; own = omega (arith, room.own); few = omega (arith, room.few); own_few = omega (arith, room.own_few); followed = room.followed };
        frames = s.frames;
        staged = s.staged;
        at_rest = s.at_rest;
        named = no_frames object old.identity s.frames nobody s.named;
        unflown = s.unflown;
        own = s.own;
        unflushed = s.unflushed;
        staged_for = λ other is. subst (λ bs. IsStaged journal other bs) (sym nothing.0) (nothing.1 other);
        nameless = λ is. absurd (some_none is);
        halts = halts_none old.before old.held.items none;
        halted = λ has. absurd (true_false (sym has ∙ none));
        stored = λ yes. let st = s.stored yes in (st.0, λ other same. st.1 other (subst (λ (i : Option Object). MayBe i other) (sym nobody) tt));
      }

  pub safe_same : (out : Bool) (old : Back D) (log : BackLog) (held : VecDeque Held Global) (journal later : Journal D) (cache : Cached) (stuck : Bool)
      → IsSafe told image sound journal old → LogSame old.log log → held.items ≡ old.held.items
      → ((object : Object) (batches : List (List Op)) → IsStaged journal object batches → IsStaged later object batches)
      → ((frames : List Frame) → IsAtRest told image journal frames → IsAtRest told image later frames) → (out ≡ true → (sound ≡ true) × KeepsStored told image journal old.cache cache)
      → IsSafe told image out later (record old { store = store.Journal later; cache = cache; held = held; stuck = stuck; log = log })
  safe_same out old log held journal later cache stuck s same items staged frames keeps = record {
    store = refl;
    mode = s.mode;
    room = same_room old log s.room same (store.Journal later) cache held stuck;
    frames = s.frames;
    staged = s.staged;
    at_rest = frames s.frames s.at_rest;
    named = s.named;
    unflown = s.unflown;
    own = s.own;
    unflushed = s.unflushed;
    staged_for = λ object is. staged object s.staged (s.staged_for object is);
    nameless = λ is. ((s.nameless is).0, λ object. staged object [] ((s.nameless is).1 object));
    halts = subst (HaltsLast old.before) (sym items) s.halts;
    halted = λ has. let h = s.halted (sym (ap has_halt items) ∙ has) in (
      h.0,
      ap (λ (b : Backed). last_of b.taken) same.same ∙ h.1,
      h.2,
      halts_same h.0 old (record old { store = store.Journal later; cache = cache; held = held; stuck = stuck; log = log }) items h.3,
    );
    stored = λ yes. let k = keeps yes in let st = s.stored k.0 in (st.0, λ other may. k.1.stored s.frames other s.staged st.0 (st.1 other may));
  }

module _ {D : Type 0} (moment_of : D → ℕ) (left_since : D → ℕ → List ℕ → Type 0) (told : D → Option (List ℕ)) (image : D → List ℕ → Type 0) (faults_of : D → ℕ) (start : List (List Op)) (opening : ℕ) (sound : Bool) where
  serves_batch : (old : Back D) (log : BackLog) (number : ℕ) (ops : List Op) (tail : Option ℕ) (confirmed : Bool) (journal later : Journal D) (cache : Cached) (bytes needs : ℕ) (object : Object)
      → IsServing moment_of left_since told image start opening sound journal old → LogTook old.log log (batch_entry old number ops tail confirmed) → old.identity ≡ Some object
      → ((batches : List (List Op)) → IsStaged journal object batches → IsStaged later object (batches ++ ops ∷ []))
      → ((frames : List Frame) → IsAtRest told image journal frames → IsAtRest told image later frames)
      → disk_in later ≡ disk_in journal → StoresOps told image journal old.cache cache object ops → bytes ≡ old.unflushed + length (batch_bytes ops)
      → IsServing moment_of left_since told image start opening sound later (with_batch old log later cache bytes needs)
  serves_batch old log number ops tail confirmed journal later cache bytes needs object s took named staged frames disk wrote is =
      let e : Entry = batch_entry old number ops tail confirmed in
      let line : List (List Op) = start ++ s.flown ++ s.staged in
      let released : log.released.items ≡ old.log.released.items = ap (λ (b : Backed). b.released) took.taken in
      record {
        room = took_room old log e 1 s.room s.room.number took refl (omega arith) (store.Journal later) cache old.held old.identity bytes needs;
        frames = s.frames;
        left = s.left;
        flown = s.flown;
        staged = s.staged ++ ops ∷ [];
        gate = λ front.
            let p : Place = place_of front (backed old.log) in
            let l : Lists = record { released = old.log.released.items; left = s.left; waiting = waiting_in old.held.items; flown = s.flown; staged = s.staged } in
            subst (λ (x : Place × D × List Release). IsGate moment_of left_since old.identity start opening front x.0 x.1 (record l { released = x.2; staged = s.staged ++ ops ∷ [] }) (old.before + 1) old.durable)
            (ap (λ (q : Place). (q, disk_in journal, old.log.released.items)) (sym (took_place old.log log e s.room.logs s.room.number took.taken front))
            ∙ ap (λ (d : D). (place_of front (backed log), d, old.log.released.items)) (sym disk) ∙ ap (λ (rs : List Release). (place_of front (backed log), disk_in later, rs)) (sym released))
            (takes_batch moment_of left_since old.identity start opening front p l old.before old.durable (disk_in journal) e ops tail confirmed refl (s.gate front));
        at_rest = frames s.frames s.at_rest;
        named = s.named;
        batches = s.batches;
        unflown = omega (arith, s.unflown, length_push s.staged ops);
        unflushed = is ∙ more_bytes s.staged ops old.unflushed s.unflushed;
        staged_for = λ other is_named. subst (λ (o : Object). IsStaged later o (s.staged ++ ops ∷ [])) (same_object object other (sym named ∙ is_named)) (staged s.staged (s.staged_for object named));
        nameless = λ nobody. absurd (some_none (sym named ∙ nobody));
        stored = λ yes other may.
            subst (λ (x : Object × Contents). HasStored s.frames x.0 (s.staged ++ ops ∷ []) cache x.1)
            (ap (λ (o : Object). (o, apply (apply nothing (flat_map (λ x. x) line)) ops)) (be_same old.identity object other named may)
            ∙ ap (λ (m : Contents). (other, m)) (applies line ops ∙ ap (λ bs. apply nothing (flat_map (λ x. x) bs)) (append_assoc (start ++ s.flown) s.staged (ops ∷ []))))
            (wrote.stored s.frames s.staged (apply nothing (flat_map (λ x. x) line)) s.at_rest (s.staged_for object named) (s.stored yes object (may_be old.identity object named)));
        kept = λ yes. wrote.kept s.frames (s.kept yes);
      }

  -- An entry that writes nothing: what is held is added to by the messages that wait for it.
  serves_said : (old : Back D) (log : BackLog) (held : VecDeque Held Global) (e : Entry) (more : List Passed) (journal : Journal D) → IsServing moment_of left_since told image start opening sound journal old
      → LogTook old.log log e → e.incarnation ≡ old.number → batches_of (said_by e.body) ≡ [] → waiting_in held.items ≡ waiting_in old.held.items ++ more
      → ((front : Fronted) (s : IsServing moment_of left_since told image start opening sound journal old) → IsGate moment_of left_since old.identity start opening front (record (place_of front (backed old.log)) { taken = own_entries (backed old.log) ++ e ∷ [] })
      (disk_in journal) (record { released = old.log.released.items; left = s.left; waiting = waiting_in old.held.items ++ more; flown = s.flown; staged = s.staged }) old.before old.durable)
      → IsServing moment_of left_since told image start opening sound journal (record old { held = held; log = log })
  serves_said old log held e more journal s took own silent waits gate =
      let released : log.released.items ≡ old.log.released.items = ap (λ (b : Backed). b.released) took.taken in
      let number : e.incarnation ≡ suc (length old.log.stops.items) = own ∙ s.room.number in
      let room = took_room old log e 0 s.room number took (ap length (sym silent)) (omega arith) old.store old.cache held old.identity old.unflushed old.needs in
      record {
        room = record { logs = room.logs; flights = λ other. took.flights; stops = λ other. took.stops; number = room.number; own = omega (arith, room.own); few = omega (arith, room.few); own_few = omega (arith, room.own_few); followed = room.followed };
        frames = s.frames;
        left = s.left;
        flown = s.flown;
        staged = s.staged;
        gate = λ front.
            subst (λ (x : Place × List Passed × List Release). IsGate moment_of left_since old.identity start opening front x.0 (disk_in journal)
            (record { released = x.2; left = s.left; waiting = x.1; flown = s.flown; staged = s.staged }) old.before old.durable)
            (ap (λ (q : Place). (q, waiting_in old.held.items ++ more, old.log.released.items)) (sym (took_place old.log log e s.room.logs number took.taken front))
            ∙ ap (λ (ws : List Passed). (place_of front (backed log), ws, old.log.released.items)) (sym waits)
            ∙ ap (λ (rs : List Release). (place_of front (backed log), waiting_in held.items, rs)) (sym released))
            (gate front s);
        at_rest = s.at_rest;
        named = s.named;
        batches = s.batches;
        unflown = s.unflown;
        unflushed = s.unflushed;
        staged_for = s.staged_for;
        nameless = s.nameless;
        stored = s.stored;
        kept = s.kept;
      }

  serves_silent : (old : Back D) (log : BackLog) (held : VecDeque Held Global) (e : Entry) (journal : Journal D) → IsServing moment_of left_since told image start opening sound journal old
      → LogTook old.log log e → e.incarnation ≡ old.number → is_mend e.body ≡ false → IsSilent e.body → batches_of (said_by e.body) ≡ []
      → waiting_in held.items ≡ waiting_in old.held.items ++ []
      → IsServing moment_of left_since told image start opening sound journal (record old { held = held; log = log })
  serves_silent old log held e journal s took own other silent none waits =
      serves_said old log held e [] journal s took own none waits
      (λ front t.
      let l : Lists = record { released = old.log.released.items; left = t.left; waiting = waiting_in old.held.items; flown = t.flown; staged = t.staged } in
      subst (λ (ws : List Passed). IsGate moment_of left_since old.identity start opening front (record (place_of front (backed old.log)) { taken = own_entries (backed old.log) ++ e ∷ [] }) (disk_in journal)
      (record l { waiting = ws }) old.before old.durable) (sym (append-nil (waiting_in old.held.items)))
      (takes_silent moment_of left_since old.identity start opening front (place_of front (backed old.log)) l old.before old.durable (disk_in journal) e other silent none (t.gate front)))

  serves_message : (old : Back D) (log : BackLog) (held : VecDeque Held Global) (e : Entry) (sent : Message) (journal : Journal D) → IsServing moment_of left_since told image start opening sound journal old
      → LogTook old.log log e → e.incarnation ≡ old.number → e.body ≡ body.Message sent
      → ((front : Fronted) → old.needs ≡ length (kept_before (older_of front (backed old.log))) + reaches 0 0 (said_in (own_entries (backed old.log))))
      → waiting_in held.items ≡ waiting_in old.held.items ++ record { message = sent; needs = old.needs; since = old.number } ∷ []
      → IsServing moment_of left_since told image start opening sound journal (record old { held = held; log = log })
  serves_message old log held e sent journal s took own says reach waits =
      let one : ℕ → Passed = λ n. record { message = sent; needs = old.needs; since = n } in
      serves_said old log held e (one (suc (length old.log.stops.items)) ∷ []) journal s took own (ap (λ b. batches_of (said_by b)) says)
      (waits ∙ ap (λ n. waiting_in old.held.items ++ one n ∷ []) s.room.number)
      (λ front t. takes_message moment_of left_since old.identity start opening front (place_of front (backed old.log))
      (record { released = old.log.released.items; left = t.left; waiting = waiting_in old.held.items; flown = t.flown; staged = t.staged }) old.before old.durable (disk_in journal) e sent old.needs says (reach front) (t.gate front))

  -- the object is named
  serves_bind : (old : Back D) (log : BackLog) (number : ℕ) (object : Object) (journal : Journal D) → IsServing moment_of left_since told image start opening sound journal old
      → LogTook old.log log (bind_entry old number object) → old.identity ≡ None
      → IsServing moment_of left_since told image start opening sound journal (record old { identity = Some object; log = log })
  serves_bind old log number object journal s took nobody =
      let e : Entry = bind_entry old number object in
      let said = serves_silent old log old.held e journal s took refl refl (λ n k. refl) refl (sym (append-nil (waiting_in old.held.items))) in
      record {
        room = record {
          logs = said.room.logs;
          flights = said.room.flights;
          stops = said.room.stops;
          number = said.room.number;
          own = said.room.own;
          few = said.room.few;
          own_few = said.room.own_few;
          followed = said.room.followed;
        };
        frames = said.frames;
        left = said.left;
        flown = said.flown;
        staged = said.staged;
        gate = λ front. named_gate start object moment_of left_since opening front (place_of front (backed log)) (disk_in journal)
            (record { released = log.released.items; left = said.left; waiting = waiting_in old.held.items; flown = said.flown; staged = said.staged }) old.before old.durable
            (subst (λ (o : Option Object). IsGate moment_of left_since o start opening front (place_of front (backed log)) (disk_in journal)
            (record { released = log.released.items; left = said.left; waiting = waiting_in old.held.items; flown = said.flown; staged = said.staged }) old.before old.durable) nobody (said.gate front));
        at_rest = said.at_rest;
        named = no_frames object old.identity said.frames nobody said.named;
        batches = said.batches;
        unflown = said.unflown;
        unflushed = said.unflushed;
        staged_for = λ other is. subst (λ bs. IsStaged journal other bs) (sym (said.nameless nobody).0) ((said.nameless nobody).1 other);
        nameless = λ is. absurd (some_none is);
        stored = λ yes other same. said.stored yes other (subst (λ (i : Option Object). MayBe i other) (sym nobody) tt);
        kept = said.kept;
      }

  serves_same : (out : Bool) (old : Back D) (log : BackLog) (held : VecDeque Held Global) (journal later : Journal D) (cache : Cached) (stuck : Bool)
      → IsServing moment_of left_since told image start opening sound journal old → LogSame old.log log → held.items ≡ old.held.items
      → ((object : Object) (batches : List (List Op)) → IsStaged journal object batches → IsStaged later object batches)
      → ((frames : List Frame) → IsAtRest told image journal frames → IsAtRest told image later frames)
      → disk_in later ≡ disk_in journal → IsTold (told (disk_in journal)) → (out ≡ true → (sound ≡ true) × KeepsStored told image journal old.cache cache)
      → IsServing moment_of left_since told image start opening out later (record old { store = store.Journal later; cache = cache; held = held; stuck = stuck; log = log })
  serves_same out old log held journal later cache stuck s same items staged frames disk tells keeps = record {
    room = same_room old log s.room same (store.Journal later) cache held stuck;
    frames = s.frames;
    left = s.left;
    flown = s.flown;
    staged = s.staged;
    gate = λ front.
        subst (λ (x : Backed × List Held × D). IsGate moment_of left_since old.identity start opening front (place_of front x.0) x.2
        (record { released = x.0.released; left = s.left; waiting = waiting_in x.1; flown = s.flown; staged = s.staged }) old.before old.durable)
        (ap (λ (b : Backed). (b, old.held.items, disk_in journal)) (sym same.same) ∙ ap (λ (hs : List Held). (backed log, hs, disk_in journal)) (sym items) ∙ ap (λ (d : D). (backed log, held.items, d)) (sym disk))
        (s.gate front);
    at_rest = frames s.frames s.at_rest;
    named = s.named;
    batches = s.batches;
    unflown = s.unflown;
    unflushed = s.unflushed;
    staged_for = λ object is. staged object s.staged (s.staged_for object is);
    nameless = λ is. ((s.nameless is).0, λ object. staged object [] ((s.nameless is).1 object));
    stored = λ yes other may. let k = keeps yes in k.1.stored s.frames other s.staged (apply nothing (flat_map (λ x. x) (start ++ s.flown ++ s.staged))) (s.stored k.0 other may);
    kept = λ yes.
        let k = keeps yes in
        k.1.kept s.frames s.at_rest tells (has_some_of old.identity s.frames s.staged (apply nothing (flat_map (λ x. x) (start ++ s.flown ++ s.staged))) old.cache (s.stored k.0)) (s.kept k.0);
  }

  -- what the log shows behind an entry that writes nothing
  said_logged : (old : Back D) (log : BackLog) (e : Entry) (m : IsMounted moment_of left_since told image faults_of start opening sound old)
      → LogTook old.log log e → e.incarnation ≡ suc (length old.log.stops.items) → batches_of (said_by e.body) ≡ []
      → IsLogged (IsTold (told (disk_in m.journal))) (backed log) (marks_of old) old.own old.before old.durable
  said_logged old log e m took is none =
      subst (λ (b : Backed). IsLogged (IsTold (told (disk_in m.journal))) b (marks_of old) old.own old.before old.durable) (sym took.taken)
      (logged_said (IsTold (told (disk_in m.journal))) (IsTold (told (disk_in m.journal))) (λ tells. tells) (backed old.log) (marks_of old) old.own old.before old.durable e m.safe.room.logs is m.safe.room.own none m.logged)

  took_counts : (old : Back D) (log : BackLog) (e : Entry) (m : IsMounted moment_of left_since told image faults_of start opening sound old) (later : D) → later ≡ disk_in m.journal
      → LogTook old.log log e → AreCounted (IsTold (told later)) (backed log) (faults_of later)
  took_counts old log e m later disk took =
      counts_stay told faults_of (disk_in m.journal) later (backed old.log) (backed log) disk (ap (λ (b : Backed). b.stops) took.taken) (ap (λ (b : Backed). b.downs) took.taken) m.counts

  -- All of it, over any disk.
  pub mounted_batch : (old : Back D) (log : BackLog) (number : ℕ) (ops : List Op) (tail : Option ℕ) (confirmed : Bool) (later : Journal D) (cache : Cached) (bytes needs : ℕ) (object : Object)
      (m : IsMounted moment_of left_since told image faults_of start opening sound old) → LogTook old.log log (batch_entry old number ops tail confirmed) → old.identity ≡ Some object
      → comes_behind (last_of old.log.taken.items) (batch_entry old number ops tail confirmed) ≡ true → has_failed_read old.held.items ≡ false
      → ((batches : List (List Op)) → IsStaged m.journal object batches → IsStaged later object (batches ++ ops ∷ []))
      → ((frames : List Frame) → IsAtRest told image m.journal frames → IsAtRest told image later frames)
      → disk_in later ≡ disk_in m.journal → StoresOps told image m.journal old.cache cache object ops → bytes ≡ old.unflushed + length (batch_bytes ops) → needs ≡ follows old.before old.needs confirmed
      → IsMounted moment_of left_since told image faults_of start opening sound (with_batch old log later cache bytes needs)
  mounted_batch old log number ops tail confirmed later cache bytes needs object m took named comes on staged frames disk wrote is is_needs = record {
    journal = later;
    safe = safe_batch told image sound old log number ops tail confirmed m.journal later cache bytes needs object m.safe took named comes on staged frames wrote is;
    serves = λ tells. serves_batch old log number ops tail confirmed m.journal later cache bytes needs object (m.serves (subst (λ (d : D). IsTold (told d)) disk tells)) took named staged frames disk wrote is;
    logged = subst (λ (b : Backed). IsLogged (IsTold (told (disk_in later))) b (record (marks_of old) { needs = needs }) (old.own + 1) (old.before + 1) old.durable) (sym took.taken)
        (logged_took (IsTold (told (disk_in m.journal))) (IsTold (told (disk_in later))) (λ tells. subst (λ (d : D). IsTold (told d)) disk tells) (backed old.log) (marks_of old) old.own old.before old.durable
        (batch_entry old number ops tail confirmed) 1 needs m.safe.room.logs m.safe.room.number m.safe.room.own is_needs m.logged);
    counts = took_counts old log (batch_entry old number ops tail confirmed) m (disk_in later) disk took;
    reads = reading_stays (IsTold (told (disk_in m.journal))) (IsTold (told (disk_in later))) (λ tells. subst (λ (d : D). IsTold (told d)) disk tells) (faults_of (disk_in m.journal)) (faults_of (disk_in later))
        (omega (arith, ap faults_of disk)) old (with_batch old log later cache bytes needs) (ap (λ (b : Backed). b.stops) took.taken) (ap (λ (b : Backed). b.downs) took.taken) refl m.reads;
  }

  pub mounted_silent : (old : Back D) (log : BackLog) (held : VecDeque Held Global) (e : Entry) (m : IsMounted moment_of left_since told image faults_of start opening sound old)
      → LogTook old.log log e → e.incarnation ≡ old.number → comes_behind (last_of old.log.taken.items) e ≡ true → has_failed_read old.held.items ≡ false
      → is_mend e.body ≡ false → IsSilent e.body → batches_of (said_by e.body) ≡ [] → HoldsMore old.held.items held.items e old.before [] → unread_in held.items ≡ []
      → IsMounted moment_of left_since told image faults_of start opening sound (record old { held = held; log = log })
  mounted_silent old log held e m took own comes on other silent none holds unread = record {
    journal = m.journal;
    safe = safe_said told image sound old log held e [] m.journal m.safe took own comes on none unread holds;
    serves = λ tells. serves_silent old log held e m.journal (m.serves tells) took own other silent none (waits_as old.held.items held.items e old.before [] holds);
    logged = said_logged old log e m took (own ∙ m.safe.room.number) none;
    counts = took_counts old log e m (disk_in m.journal) refl took;
    reads = reading_none (IsTold (told (disk_in m.journal))) (faults_of (disk_in m.journal)) (record old { held = held; log = log }) unread;
  }

  -- A read failed: the ask is taken, and the end by that is held.
  pub mounted_unread : (old : Back D) (log : BackLog) (held : VecDeque Held Global) (e : Entry) (counts : ℕ × ℕ) (m : IsMounted moment_of left_since told image faults_of start opening sound old)
      → LogTook old.log log e → e.incarnation ≡ old.number → comes_behind (last_of old.log.taken.items) e ≡ true → has_failed_read old.held.items ≡ false
      → IsAsk e.body → is_mend e.body ≡ false → IsSilent e.body → batches_of (said_by e.body) ≡ [] → held.items ≡ old.held.items ++ unread_held old counts ∷ []
      → AreRising 0 (counts_in (backed old.log) ++ counts ∷ []) (faults_of (disk_in m.journal)) → (IsTold (told (disk_in m.journal)) → HasRisenIn counts)
      → IsMounted moment_of left_since told image faults_of start opening sound (record old { held = held; log = log })
  mounted_unread old log held e counts m took own comes on asks other silent none items rises rose = record {
    journal = m.journal;
    safe = safe_unread told image sound old log held e (unread_held old counts) counts m.journal m.safe took own comes on asks none refl items;
    serves = λ tells. serves_silent old log held e m.journal (m.serves tells) took own other silent none (ap waiting_in items ∙ waits_more old.held.items (unread_held old counts));
    logged = said_logged old log e m took (own ∙ m.safe.room.number) none;
    counts = took_counts old log e m (disk_in m.journal) refl took;
    reads = reading_fails (IsTold (told (disk_in m.journal))) (faults_of (disk_in m.journal)) old (record old { held = held; log = log }) counts (unread_held old counts) refl
        on items (ap (λ (b : Backed). b.stops) took.taken) (ap (λ (b : Backed). b.downs) took.taken) rises rose;
  }

  pub mounted_message : (old : Back D) (log : BackLog) (held : VecDeque Held Global) (e : Entry) (sent : Message) (m : IsMounted moment_of left_since told image faults_of start opening sound old)
      → LogTook old.log log e → e.incarnation ≡ old.number → comes_behind (last_of old.log.taken.items) e ≡ true → has_failed_read old.held.items ≡ false → e.body ≡ body.Message sent
      → unread_in held.items ≡ [] → HoldsMore old.held.items held.items e old.before (record { message = sent; needs = old.needs; since = old.number } ∷ [])
      → IsMounted moment_of left_since told image faults_of start opening sound (record old { held = held; log = log })
  mounted_message old log held e sent m took own comes on says unread holds = record {
    journal = m.journal;
    safe = safe_said told image sound old log held e (record { message = sent; needs = old.needs; since = old.number } ∷ []) m.journal m.safe took own comes on (ap (λ b. batches_of (said_by b)) says) unread holds;
    serves = λ tells. serves_message old log held e sent m.journal (m.serves tells) took own says (λ front. (m.logged.placed front).reach)
        (waits_as old.held.items held.items e old.before (record { message = sent; needs = old.needs; since = old.number } ∷ []) holds);
    logged = said_logged old log e m took (own ∙ m.safe.room.number) (ap (λ b. batches_of (said_by b)) says);
    counts = took_counts old log e m (disk_in m.journal) refl took;
    reads = reading_none (IsTold (told (disk_in m.journal))) (faults_of (disk_in m.journal)) (record old { held = held; log = log }) unread;
  }

  pub mounted_bind : (old : Back D) (log : BackLog) (number : ℕ) (object : Object) (m : IsMounted moment_of left_since told image faults_of start opening sound old)
      → LogTook old.log log (bind_entry old number object) → old.identity ≡ None → comes_behind (last_of old.log.taken.items) (bind_entry old number object) ≡ true → has_failed_read old.held.items ≡ false
      → IsMounted moment_of left_since told image faults_of start opening sound (record old { identity = Some object; log = log })
  mounted_bind old log number object m took nobody comes on = record {
    journal = m.journal;
    safe = safe_bind told image sound old log number object m.journal m.safe took nobody comes on;
    serves = λ tells. serves_bind old log number object m.journal (m.serves tells) took nobody;
    logged = said_logged old log (bind_entry old number object) m took m.safe.room.number refl;
    counts = took_counts old log (bind_entry old number object) m (disk_in m.journal) refl took;
    reads = reading_none (IsTold (told (disk_in m.journal))) (faults_of (disk_in m.journal)) (record old { identity = Some object; log = log }) (unread_none old.held.items on);
  }

  pub mounted_same : (out : Bool) (old : Back D) (log : BackLog) (held : VecDeque Held Global) (later : Journal D) (cache : Cached) (stuck : Bool) (m : IsMounted moment_of left_since told image faults_of start opening sound old)
      → LogSame old.log log → held.items ≡ old.held.items
      → ((object : Object) (batches : List (List Op)) → IsStaged m.journal object batches → IsStaged later object batches)
      → ((frames : List Frame) → IsAtRest told image m.journal frames → IsAtRest told image later frames)
      → disk_in later ≡ disk_in m.journal → (out ≡ true → (sound ≡ true) × KeepsStored told image m.journal old.cache cache)
      → IsMounted moment_of left_since told image faults_of start opening out (record old { store = store.Journal later; cache = cache; held = held; stuck = stuck; log = log })
  mounted_same out old log held later cache stuck m same items staged frames disk keeps = record {
    journal = later;
    safe = safe_same told image sound out old log held m.journal later cache stuck m.safe same items staged frames keeps;
    serves = λ tells.
        let was = subst (λ (d : D). IsTold (told d)) disk tells in
        serves_same out old log held m.journal later cache stuck (m.serves was) same items staged frames disk was keeps;
    logged = subst (λ (b : Backed). IsLogged (IsTold (told (disk_in later))) b (marks_of old) old.own old.before old.durable) (sym same.same)
        (logged_same (IsTold (told (disk_in m.journal))) (IsTold (told (disk_in later))) (λ tells. subst (λ (d : D). IsTold (told d)) disk tells) (backed old.log) (marks_of old) old.own old.before old.durable
        (backed old.log) refl refl refl (λ front. refl) m.logged);
    counts = counts_stay told faults_of (disk_in m.journal) (disk_in later) (backed old.log) (backed log) disk (ap (λ (b : Backed). b.stops) same.same) (ap (λ (b : Backed). b.downs) same.same) m.counts;
    reads = reading_stays (IsTold (told (disk_in m.journal))) (IsTold (told (disk_in later))) (λ tells. subst (λ (d : D). IsTold (told d)) disk tells) (faults_of (disk_in m.journal)) (faults_of (disk_in later))
        (omega (arith, ap faults_of disk)) old (record old { store = store.Journal later; cache = cache; held = held; stuck = stuck; log = log }) (ap (λ (b : Backed). b.stops) same.same)
        (ap (λ (b : Backed). b.downs) same.same) (ap unread_in items) m.reads;
  }

  -- Memory was wanting, and what was staged stays.
  pub kept_fails : (old new : Back D) (cache : Cached) (held : VecDeque Held Global) (log : BackLog) → new ≡ record old { cache = cache; held = held; log = log }
      → LogSame old.log log → held.items ≡ old.held.items
      → IsMounted moment_of left_since told image faults_of start opening sound old → IsMounted moment_of left_since told image faults_of start opening false new
  kept_fails old new cache held log is same items m =
      subst (IsMounted moment_of left_since told image faults_of start opening false)
      (ap (λ (s : Store D). record old { store = s; cache = cache; held = held; log = log }) (sym m.safe.store) ∙ sym is)
      (mounted_same false old log held m.journal cache old.stuck m same items (λ object batches staged. staged) (λ frames rest. rest) refl (λ yes. absurd (true_false (sym yes))))

  pub same_log : (log : BackLog) → LogSame log log
  same_log log = record { same = refl; flights = λ room. room; stops = λ room. room }

-- What holds of a back holds of it with another note of whether memory was wanting.
use Rattle.std.proofs.Common.{◌≡◌, ◌∙◌, ap, sym, subst, inl, inr, ⊎_elim, ℕ, List, Option, Ok, Err, Result, OnOk, OnErr, is_err}
use Rattle.std.specs.Prelude.{◌⊎◌, Bool, true, false, not}
use Rattle.batch_journal.specs.declared.journal.Journal.{Journal}
use Rattle.do_value.specs.declared.fault.NoMemory.{NoMemory}
use Rattle.storage_map.specs.declared.op.Op.{Op}
use Rattle.timeline.specs.declared.entry.Entry.{Entry}
use Rattle.timeline.specs.declared.notice.Notice.{Notice}
use Rattle.output_gate.specs.Entering.{Enters, Failed, LosesEntry, Takes}
use Rattle.output_gate.specs.Mending.{Remounts, LosesMend}
use Rattle.output_gate.specs.Serving.{HasRoom, IsSafe, IsServing, IsMounted, IsSafeEnded, IsEnded, IsUnmounted, IsBackAs, IsBack, KeepsBack, KeepsBackAs, is_stopped, IsAsBefore}
use Rattle.output_gate.specs.declared.back.Back.{Back}
use Rattle.output_gate.specs.declared.back.Ending.{Ending}

-- a back with this note
abbrev pub noted : {D : Type 0} → Back D → Bool → Back D
noted back s = record back { stopped = s }

room_noted : {D : Type 0} (b : Back D) (s : Bool) → HasRoom b → HasRoom (noted b s)
room_noted b s h = record {
  logs = h.logs;
  flights = h.flights;
  stops = h.stops;
  number = h.number;
  own = h.own;
  few = h.few;
  own_few = h.own_few;
  followed = h.followed;
}

module _ {D : Type 0} (moment_of : D → ℕ) (left_since : D → ℕ → List ℕ → Type 0) (told : D → Option (List ℕ)) (image : D → List ℕ → Type 0) (faults_of : D → ℕ)
    (start : List (List Op)) (opening : ℕ) where
  safe_noted : (sound : Bool) (journal : Journal D) (b : Back D) (s : Bool) → IsSafe told image sound journal b → IsSafe told image sound journal (noted b s)
  safe_noted sound journal b s h = record {
    store = h.store;
    mode = h.mode;
    room = room_noted b s h.room;
    frames = h.frames;
    staged = h.staged;
    at_rest = h.at_rest;
    named = h.named;
    unflown = h.unflown;
    own = h.own;
    unflushed = h.unflushed;
    staged_for = h.staged_for;
    nameless = h.nameless;
    halts = h.halts;
    halted = h.halted;
    stored = h.stored;
  }

  serves_noted : (sound : Bool) (journal : Journal D) (b : Back D) (s : Bool) → IsServing moment_of left_since told image start opening sound journal b
      → IsServing moment_of left_since told image start opening sound journal (noted b s)
  serves_noted sound journal b s h = record {
    room = room_noted b s h.room;
    frames = h.frames;
    left = h.left;
    flown = h.flown;
    staged = h.staged;
    gate = h.gate;
    at_rest = h.at_rest;
    named = h.named;
    batches = h.batches;
    unflown = h.unflown;
    unflushed = h.unflushed;
    staged_for = h.staged_for;
    nameless = h.nameless;
    stored = h.stored;
    kept = h.kept;
  }

  mounted_noted : (sound : Bool) (b : Back D) (s : Bool) → IsMounted moment_of left_since told image faults_of start opening sound b
      → IsMounted moment_of left_since told image faults_of start opening sound (noted b s)
  mounted_noted sound b s m = record {
    journal = m.journal;
    safe = safe_noted sound m.journal b s m.safe;
    serves = λ tells. serves_noted sound m.journal b s (m.serves tells);
    logged = m.logged;
    counts = m.counts;
    reads = λ counts is. let u = m.reads counts is in record { rising = u.rising; rose = u.rose };
  }

  safe_ended_noted : (disk : D) (ending : Ending) (b : Back D) (s : Bool) → IsSafeEnded disk ending b → IsSafeEnded disk ending (noted b s)
  safe_ended_noted disk ending b s h = record {
    store = h.store;
    mode = h.mode;
    logs = h.logs;
    number = h.number;
    gone = h.gone;
    even = h.even;
    own = h.own;
    none = h.none;
    unflushed = h.unflushed;
    more = h.more;
    few = h.few;
    halts = h.halts;
  }

  ended_noted : (disk : D) (ending : Ending) (b : Back D) (s : Bool) → IsEnded moment_of left_since image start opening disk ending b
      → IsEnded moment_of left_since image start opening disk ending (noted b s)
  ended_noted disk ending b s h = record {
    frames = h.frames;
    flight = h.flight;
    ended = h.ended;
    taken = h.taken;
    left = h.left;
    flown = h.flown;
    last = h.last;
    rest = h.rest;
    end = h.end;
    is_flown = h.is_flown;
    is_whole = h.is_whole;
    logs = h.logs;
    place = h.place;
    down = h.down;
    object = h.object;
    named = h.named;
    batches = h.batches;
    outcomes = h.outcomes;
    mended = h.mended;
    gone = h.gone;
    number = h.number;
    full = h.full;
  }

  unmounted_noted : (b : Back D) (s : Bool) → IsUnmounted moment_of left_since told image faults_of start opening b
      → IsUnmounted moment_of left_since told image faults_of start opening (noted b s)
  unmounted_noted b s u = record {
    disk = u.disk;
    ending = u.ending;
    safe = safe_ended_noted u.disk u.ending b s u.safe;
    ended = λ tells. ended_noted u.disk u.ending b s (u.ended tells);
    logged = u.logged;
    counts = u.counts;
  }

  pub back_noted : (sound : Bool) (b : Back D) (s : Bool) → IsBackAs moment_of left_since told image faults_of start opening sound b
      → IsBackAs moment_of left_since told image faults_of start opening sound (noted b s)
  back_noted sound b s (inl m) = inl (mounted_noted sound b s m)
  back_noted sound b s (inr u) = inr (unmounted_noted b s u)

module _ {D : Type 0} (moment_of : D → ℕ) (left_since : D → ℕ → List ℕ → Type 0) (told : D → Option (List ℕ)) (image : D → List ℕ → Type 0) (faults_of : D → ℕ) where
  -- a back that isn't stopped is sound
  pub sound_as : (start : List (List Op)) (opening : ℕ) (old : Back D) → is_stopped old ≡ false → IsBack moment_of left_since told image faults_of start opening old
      → IsBackAs moment_of left_since told image faults_of start opening true old
  sound_as start opening old on b = subst (λ s. IsBackAs moment_of left_since told image faults_of start opening (not s) old) on b

  keeps_both : {A : Type 0} (r : Result A NoMemory) (old mid : Back D) (s : Bool) → s ≡ is_err r
      → OnOk r (KeepsBackAs moment_of left_since told image faults_of true true old mid) → OnErr r (KeepsBackAs moment_of left_since told image faults_of true false old mid)
      → (start : List (List Op)) (opening : ℕ) → IsBackAs moment_of left_since told image faults_of start opening true old
      → IsBackAs moment_of left_since told image faults_of start opening (not s) mid
  keeps_both (Ok x) old mid s is good wanting start opening b =
      subst (λ n. IsBackAs moment_of left_since told image faults_of start opening (not n) mid) (sym is) (good start opening b)
  keeps_both (Err e) old mid s is good wanting start opening b =
      subst (λ n. IsBackAs moment_of left_since told image faults_of start opening (not n) mid) (sym is) (wanting start opening b)

  -- A step of a back that isn't stopped, and the note of its answer.
  pub keeps_noted : {A : Type 0} (r : Result A NoMemory) (old mid : Back D) (s : Bool) → s ≡ is_err r → is_stopped old ≡ false
      → OnOk r (KeepsBackAs moment_of left_since told image faults_of true true old mid) → OnErr r (KeepsBackAs moment_of left_since told image faults_of true false old mid)
      → KeepsBack moment_of left_since told image faults_of old (noted mid s)
  keeps_noted r old mid s is on good wanting start opening b =
      back_noted moment_of left_since told image faults_of start opening (not s) mid s
      (keeps_both r old mid s is good wanting start opening (sound_as start opening old on b))

-- A step that leaves the note as it was.
pub keeps_note : {D : Type 0} (moment_of : D → ℕ) (left_since : D → ℕ → List ℕ → Type 0) (told : D → Option (List ℕ)) (image : D → List ℕ → Type 0) (faults_of : D → ℕ)
    (start : List (List Op)) (opening : ℕ) (old new : Back D) → is_stopped new ≡ is_stopped old
    → IsBackAs moment_of left_since told image faults_of start opening (not (is_stopped old)) new → IsBack moment_of left_since told image faults_of start opening new
keeps_note moment_of left_since told image faults_of start opening old new same b =
    subst (λ s. IsBackAs moment_of left_since told image faults_of start opening (not s) new) (sym same) b

-- What was done or wasn't, with the note.
pub before_noted : {D : Type 0} (old mid : Back D) (s : Bool) → IsAsBefore old mid → IsAsBefore old (noted mid s)
before_noted old mid s h = record { log = h.log; held = h.held; stuck = h.stuck; identity = h.identity; mode = h.mode; before = h.before; durable = h.durable; limit = h.limit }

entered_noted : {D : Type 0} (old mid : Back D) (e : Entry) (s : Bool) → IsAsBefore old mid ⊎ ((failed : Failed) × Enters failed old mid e)
    → IsAsBefore old (noted mid s) ⊎ ((failed : Failed) × Enters failed old (noted mid s) e)
entered_noted old mid e s (inl h) = inl (before_noted old mid s h)
entered_noted old mid e s (inr (failed, h)) = inr (
  failed,
  record {
    may = h.may;
    log = h.log;
    stuck = h.stuck;
    held = h.held;
    identity = h.identity;
    mode = h.mode;
    before = h.before;
    needs = h.needs;
    durable = h.durable;
    limit = h.limit;
  },
)

-- An entry is taken, with the note.
pub takes_noted : {D : Type 0} (told : D → Option (List ℕ)) (image : D → List ℕ → Type 0) (old mid : Back D) (got0 got : List Entry) (sent0 sent : List Notice) (s : Bool) → Takes told image old mid got0 got sent0 sent
    → Takes told image old (noted mid s) got0 got sent0 sent
takes_noted told image old mid got0 got sent0 sent s t = record {
  entry = t.entry;
  took = t.took;
  failed = t.failed;
  enters = record {
    may = t.enters.may;
    log = t.enters.log;
    stuck = t.enters.stuck;
    held = t.enters.held;
    mode = t.enters.mode;
    before = t.enters.before;
    needs = t.enters.needs;
    identity = t.enters.identity;
    durable = t.enters.durable;
    limit = t.enters.limit;
  };
  answer = t.answer;
  sends = t.sends;
  answers = t.answers;
  unfit = t.unfit;
  rose = t.rose;
}

-- An entry is lost, with the note.
pub loses_noted : {D A : Type 0} (r : Result A NoMemory) (old mid : Back D) (got0 got : List Entry) (sent0 sent : List Notice) (s : Bool) → OnErr r (LosesEntry old mid got0 got sent0 sent)
    → OnErr r (LosesEntry old (noted mid s) got0 got sent0 sent)
loses_noted (Ok x) old mid got0 got sent0 sent s h = tt
loses_noted (Err e) old mid got0 got sent0 sent s h = record { entry = h.entry; took = h.took; told = h.told; log = h.log; entered = entered_noted old mid h.entry s h.entered }

-- A mounting is lost, or wasn't done, with the note.
pub mend_noted : {D A : Type 0} (faults_of : D → ℕ) (r : Result A NoMemory) (old mid : Back D) (sent0 sent : List Notice) (s : Bool) → OnErr r (LosesMend faults_of old mid sent0 sent)
    → OnErr r (LosesMend faults_of old (noted mid s) sent0 sent)
mend_noted faults_of (Ok x) old mid sent0 sent s h = tt
mend_noted faults_of (Err e) old mid sent0 sent s h =
    record { told = h.told; log = ⊎_elim (λ same. inl (before_noted old mid s same)) (λ lost. inr lost) h.log }

-- What a mounting left, with the note.
remounted_note : {D : Type 0} (faults_of : D → ℕ) (old mid : Back D) (ending : Ending) (told : Notice) → Remounts faults_of old mid ending told → is_stopped mid ≡ is_stopped old
remounted_note faults_of old mid ending told (inl begun) = ap is_stopped begun.begins.same
remounted_note faults_of old mid ending told (inr missed) = ap is_stopped missed.misses.same

pub remounts_noted : {D : Type 0} (faults_of : D → ℕ) (old mid : Back D) (ending : Ending) (told : Notice) (s : Bool) → is_stopped old ≡ s → Remounts faults_of old mid ending told
    → Remounts faults_of old (noted mid s) ending told
remounts_noted faults_of old mid ending told s is h =
    subst (λ b. Remounts faults_of old b ending told) (ap (noted mid) (remounted_note faults_of old mid ending told h ∙ is)) h

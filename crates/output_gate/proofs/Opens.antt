-- A back that begins.
use Rattle.std.proofs.Common.{◌≡◌, ◌∙◌, ap, sym, refl, subst, inl, ⊎_elim, ℕ, suc, ◌≤◌, List, [], ◌++◌, append-nil, length, arith, Option, Some, None}
use Rattle.std.proofs.lemmas.List.Elements.{All-nil}
use Rattle.batch_journal.specs.Frames.{Frame, batches_in, operations_in, NamesAs}
use Rattle.batch_journal.specs.Recovery.{RecoversAlike}
use Rattle.storage_map.specs.Limits.{Object}
use Rattle.std.proofs.Common.{Global}
use Rattle.std.specs.declared.collections.VecDeque.{VecDeque}
use Rattle.std.specs.List.{flat_map}
use Rattle.batch_journal.proofs.Held.{all_named}
use Rattle.batch_journal.specs.Mounting.{IsMountOf}
use Rattle.batch_journal.specs.Rest.{IsStaged, disk_in}
use Rattle.batch_journal.specs.declared.mount.Mounted.{Mounted}
use Rattle.do_disk.specs.Disk.{next_count}
use Rattle.storage_cache.specs.Cached.{Cached, of_index}
use Rattle.storage_cache.proofs.Standing.{kept_index}
use Rattle.storage_map.specs.Contents.{nothing, apply}
use Rattle.storage_map.specs.declared.op.Op.{Op}
use Rattle.batch_journal.specs.Places.{IsPlaceIn}
use Rattle.object_storage.specs.Stored.{HasStored, HasKept}
use Rattle.object_storage.proofs.Going.{mounted as stored_mounted}
use Rattle.timeline.specs.History.{batches_in as batches_taken}
use Rattle.timeline.specs.Logs.{Fronted, Backed, backed}
use Rattle.timeline.specs.declared.back_log.BackLog.{BackLog}
use Rattle.timeline.specs.declared.back_log.Stop.{Stop}
use Rattle.timeline.specs.declared.entry.Entry.{Entry}
use Rattle.output_gate.specs.Held.{waiting_in}
use Rattle.output_gate.specs.Serving.{IsSafe, IsServing}
use Rattle.std.specs.Prelude.{true, false}
use Rattle.output_gate.specs.declared.back.Back.{Back}
use Rattle.output_gate.specs.declared.store.Store.TheVariants as store
use Rattle.output_gate.specs.Held.{has_halt, HaltsLast}
use Rattle.output_gate.proofs.Helds.{true_false}
use Rattle.output_gate.specs.Standing.{AreLogs, own_entries}
use Rattle.output_gate.specs.declared.back.Mode.TheVariants.{Mounted as IsMountedMode}
use Rattle.output_gate.specs.declared.held.Held.{Held}
use Rattle.timeline.specs.Passed.{Passed}
use Rattle.output_gate.specs.Gate.{Place, place_of, Lists, IsGate}
use Rattle.output_gate.specs.Kept.{NameOnly}
use Rattle.output_gate.specs.Logs.{no_log}
use Rattle.output_gate.proofs.Kept.{first_of}

abbrev none_held : List Held
none_held = []

abbrev is_none : Option Stop → Type 0
is_none None = Unit {0}
is_none (Some stop) = ⊥

no_stop : {stop : Stop} → None ≡ Some stop → ⊥
no_stop same = subst is_none same tt

abbrev pub first_place : Place
first_place = record { ended = 0; taken = []; flights = []; older = [] }

abbrev pub no_lists : Lists
no_lists = record { released = []; left = []; waiting = []; flown = []; staged = [] }

module _ {D : Type 0} (moment_of : D → ℕ) (left_since : D → ℕ → List ℕ → Type 0) (object : Option Object) (frames : List Frame) (opening : ℕ) (front : Fronted) where
  pub opens : (disk : D) → NameOnly object frames → opening ≤ moment_of disk → ((c : List ℕ) → left_since disk opening c → RecoversAlike c frames)
      → IsGate moment_of left_since object (batches_in frames) opening front first_place disk no_lists 0 0
  opens disk named later images = record {
    mounted = refl;
    deep = refl;
    passes = refl;
    since_left = All-nil (λ (q : Passed). q.since ≤ 1);
    since_waiting = All-nil (λ (q : Passed). q.since ≤ 1);
    needs_left = All-nil (λ (q : Passed). q.needs ≤ 0);
    settled = All-nil (λ (q : Passed). q.needs ≤ 0);
    known = omega arith;
    counted = refl;
    flown = refl;
    line = refl;
    long = refl;
    opened = later;
    images = λ c left. inl (
      omega arith,
      ⊎_elim (λ same. first_of object (batches_in frames) [] [] frames c same named (sym (append-nil (batches_in frames))))
          (λ alone. first_of object (batches_in frames) [] [] [] c alone.1 (All-nil (NamesAs object)) (sym (ap (λ (fs : List Frame). batches_in fs ++ []) alone.0)))
          (images c left),
    );
    released = tt;
  }

-- the back of a slot that was just mounted
abbrev pub fresh : {D : Type 0} → Global → Mounted D → (limit : ℕ) → Cached → VecDeque Held Global → BackLog → Back D
fresh alloc mounted limit cache held log = record {
  alloc = alloc;
  store = store.Journal mounted.journal;
  limit = limit;
  cache = cache;
  identity = mounted.identity;
  held = held;
  mode = IsMountedMode;
  stuck = false;
  stopped = false;
  before = 0;
  durable = 0;
  own = 0;
  needs = 0;
  settled = 0;
  late = None;
  unflushed = 0;
  number = 1;
  log = log;
}

module _ {D : Type 0} (moment_of : D → ℕ) (left_since : D → ℕ → List ℕ → Type 0) (told : D → Option (List ℕ)) (image : D → List ℕ → Type 0) where
  pub serves_new : (disk : D) (mounted : Mounted D) (is : IsMountOf told image moment_of left_since disk mounted) → ((object : Object) → IsStaged mounted.journal object [])
      → (alloc : Global) (limit : ℕ) (cache : Cached) (held : VecDeque Held Global) (log : BackLog) → cache ≡ of_index mounted.index → held.items ≡ [] → backed log ≡ no_log
      → IsServing moment_of left_since told image (batches_in is.frames) (next_count (moment_of disk)) true mounted.journal
      (fresh alloc mounted limit cache held log)
  serves_new disk mounted is staged alloc limit cache held log cache_is none empty =
      let names : NameOnly mounted.identity is.frames = all_named mounted.identity is.frames is.object in
      let fits : AreLogs no_log = record { flown = λ index stop some. absurd (no_stop some); begun = All-nil (λ (e : Entry). e.incarnation ≤ 1); ends = omega arith } in
      record {
        room = record {
          logs = subst AreLogs (sym empty) fits;
          flights = λ other. absurd (other refl);
          stops = λ other. absurd (other refl);
          number = ap (λ (b : Backed). suc (length b.stops)) (sym empty);
          own = ap (λ (b : Backed). length (batches_taken (own_entries b))) (sym empty);
          few = omega arith;
          own_few = omega arith;
          followed = ap (λ (b : Backed). length b.ends) empty ∙ ap (λ (b : Backed). length b.stops) (sym empty);
        };
        frames = is.frames;
        left = [];
        flown = [];
        staged = [];
        gate = λ front.
            subst (λ (x : Backed × List Held). IsGate moment_of left_since mounted.identity (batches_in is.frames) (next_count (moment_of disk)) front (place_of front x.0) (disk_in mounted.journal)
            (record { released = x.0.released; left = []; waiting = waiting_in x.1; flown = []; staged = [] }) 0 0)
            (ap (λ (b : Backed). (b, none_held)) (sym empty) ∙ ap (λ (hs : List Held). (backed log, hs)) (sym none))
            (opens moment_of left_since mounted.identity is.frames (next_count (moment_of disk)) front (disk_in mounted.journal) names is.later is.images);
        at_rest = is.at_rest;
        named = names;
        batches = sym (append-nil (batches_in is.frames));
        unflown = omega arith;
        unflushed = refl;
        staged_for = λ object named. staged object;
        nameless = λ named. (refl, staged);
        stored = λ sound object may.
            subst (λ (x : Cached × List (List Op)). HasStored is.frames object [] x.0 (apply nothing (flat_map (λ ops. ops) x.1)))
            (ap (λ (c : Cached). (c, batches_in is.frames)) (sym cache_is)
            ∙ ap (λ bs. (cache, bs)) (sym (append-nil (batches_in is.frames)) ∙ sym (append-nil (batches_in is.frames ++ []))))
            (stored_mounted is.frames object mounted.index is.index);
        kept = λ sound. subst (HasKept is.frames) (sym cache_is) (kept_index (IsPlaceIn is.frames) mounted.index);
      }

  pub safe_new : (disk : D) (mounted : Mounted D) (is : IsMountOf told image moment_of left_since disk mounted) → ((object : Object) → IsStaged mounted.journal object [])
      → (alloc : Global) (limit : ℕ) (cache : Cached) (held : VecDeque Held Global) (log : BackLog) → cache ≡ of_index mounted.index → held.items ≡ [] → backed log ≡ no_log
      → IsSafe told image true mounted.journal (fresh alloc mounted limit cache held log)
  safe_new disk mounted is staged alloc limit cache held log cache_is nobody empty =
      let fits : AreLogs no_log = record { flown = λ index stop some. absurd (no_stop some); begun = All-nil (λ (e : Entry). e.incarnation ≤ 1); ends = omega arith } in
      record {
        store = refl;
        mode = refl;
        room = record {
          logs = subst AreLogs (sym empty) fits;
          flights = λ other. absurd (other refl);
          stops = λ other. absurd (other refl);
          number = ap (λ (b : Backed). suc (length b.stops)) (sym empty);
          own = ap (λ (b : Backed). length (batches_taken (own_entries b))) (sym empty);
          few = omega arith;
          own_few = omega arith;
          followed = ap (λ (b : Backed). length b.ends) empty ∙ ap (λ (b : Backed). length b.stops) (sym empty);
        };
        frames = is.frames;
        staged = [];
        at_rest = is.at_rest;
        named = all_named mounted.identity is.frames is.object;
        unflown = omega arith;
        own = omega arith;
        unflushed = refl;
        staged_for = λ object named. staged object;
        nameless = λ named. (refl, staged);
        halts = subst (HaltsLast 0) (sym nobody) tt;
        halted = λ has. absurd (true_false (sym has ∙ ap has_halt nobody));
        stored = λ sound. (
          apply nothing (operations_in is.frames),
          λ object may. subst (λ (c : Cached). HasStored is.frames object [] c (apply nothing (operations_in is.frames))) (sym cache_is) (stored_mounted is.frames object mounted.index is.index),
        );
      }

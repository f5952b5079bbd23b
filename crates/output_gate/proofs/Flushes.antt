-- What a flush does to a back that serves.
use Rattle.std.proofs.Common.{◌≡◌, ◌≢◌, ◌∙◌, ap, sym, refl, subst, ⊎_elim, ℕ, suc, pred, ◌+◌, ◌-◌, ◌≤◌, List, [], ◌∷◌, ◌++◌, append-nil, append_assoc, length, length-append, sum, arith, Option, Some, None, Ok}
use Rattle.std.proofs.lemmas.Grind.{flat_map-append}
use Rattle.std.proofs.lemmas.List.{length_push}
use Rattle.std.proofs.lemmas.List.Elements.{All-nil, All-push, All-weaker}
use Rattle.std.specs.Prelude.{Bool, true, false, nat_lt}
use Rattle.output_gate.specs.Ended.{late_if}
use Rattle.std.specs.List.{flat_map}
use Rattle.batch_codec.specs.Frames as codec
use Rattle.batch_journal.specs.Frames.{Frame, holds, marker, Name, Names, batches_of, batches_in, NamesAs}
use Rattle.batch_journal.specs.Moments.{LeavesOnly}
use Rattle.batch_journal.specs.Rest.{IsAtRest, IsStaged, RecoversToOneOf, disk_in}
use Rattle.batch_journal.specs.Staged.{frame_of}
use Rattle.batch_journal.specs.declared.journal.Journal.{Journal}
use Rattle.storage_cache.specs.Cached.{Cached}
use Rattle.storage_map.specs.Contents.{Contents, nothing, apply}
use Rattle.storage_map.specs.Limits.{Object}
use Rattle.storage_map.specs.declared.op.Op.{Op}
use Rattle.timeline.specs.History.{Incarnation, History, line, history, batches_in as batches_taken}
use Rattle.timeline.specs.Logs.{Fronted, Backed, backed}
use Rattle.timeline.specs.Passed.{Passed, Held}
use Rattle.timeline.specs.declared.back_log.BackLog.{BackLog}
use Rattle.timeline.specs.declared.back_log.Release.{Release}
use Rattle.timeline.specs.declared.back_log.Stop.{Stop}
use Rattle.timeline.specs.declared.caller.Cause.{Cause}
use Rattle.timeline.specs.declared.caller.Cause.TheVariants as cause
use Rattle.timeline.specs.Passed.{discards, bound_if, bound_by}
use Rattle.output_gate.specs.Gate.{Place, place_of, history_at, Lists, IsGate}
use Rattle.output_gate.specs.Held.{waiting_in}
use Rattle.object_storage.specs.Stored.{HasStored}
use Rattle.output_gate.specs.Kept.{MayBe, NameOnly, RecoversToPrefix}
use Rattle.output_gate.specs.Storing.{Stores}
use Rattle.output_gate.specs.Down.{place_down, IsDown}
use Rattle.output_gate.specs.declared.back.Mode.TheVariants.{Wanted}
use Rattle.output_gate.specs.declared.store.Fault.{Fault}
use Rattle.output_gate.specs.declared.store.Store.TheVariants as store
use Rattle.output_gate.proofs.Helds.{waiting_stays}
use Rattle.output_gate.specs.Passing.{discarded}
use Rattle.output_gate.specs.Serving.{IsServing, IsEnded, Lands, Stops, ending_of}
use Rattle.output_gate.specs.Standing.{AreLogs, own_entries, own_flights, older_of, going_on}
use Rattle.output_gate.specs.declared.back.Back.{Back}
use Rattle.output_gate.proofs.Gates.{calls, flies}
use Rattle.output_gate.proofs.Histories.{stands, flies as history_flies, stops as history_stops, flies_fit, stops_fit}
use Rattle.output_gate.proofs.Downs.{fails}
use Rattle.batch_journal.proofs.Marking.{recovers_journal}
use Rattle.output_gate.proofs.Resting.{rests}
use Rattle.output_gate.proofs.Kept.{first_of, fewer}

pub front_none : Fronted
front_none = record { delivered = []; downed = []; dropped = []; sent = []; ends = [] }

-- a place from its history
abbrev place_in : History → Place
place_in [] = record { ended = 0; taken = []; flights = []; older = [] }
place_in (i ∷ older) = record { ended = pred i.number; taken = i.taken; flights = i.flights; older = older }

pub placed : (front : Fronted) (back : Backed) (p : Place) → AreLogs back → history front back ≡ history_at front p → place_of front back ≡ p
placed front back p logs is = ap place_in (sym (stands front back logs) ∙ is)

-- the object that a name is
abbrev named : Option Object → Object → Object
named None other = other
named (Some object) other = object

names_it : (object : Object) (identity : Option Object) → identity ≡ Some object → (frame : Frame) → NamesAs identity frame → Names object frame
names_it object identity is (holds frame) name = ap (λ (o : Option Object). named o object) (sym name ∙ is)
names_it object identity is marker name = tt

pub name_all : (object : Object) (frames : List Frame) (identity : Option Object) → identity ≡ Some object → NameOnly identity frames → Name object frames
name_all object frames identity is names = All-weaker (NamesAs identity) (Names object) (names_it object identity is) frames names

-- the slot's object
pub may_be : (identity : Option Object) (object : Object) → identity ≡ Some object → MayBe identity object
may_be identity object is = subst (λ (i : Option Object). MayBe i object) (sym is) refl

pub be_same : (identity : Option Object) (object other : Object) → identity ≡ Some object → MayBe identity other → object ≡ other
be_same identity object other is may = subst (λ (i : Option Object). MayBe i other) is may

-- a failed disk isn't a full journal
abbrev is_full : Cause → Type 0
is_full (cause.Full needed limit) = Unit {0}
is_full c = ⊥

pub never_full : {before after needed limit : ℕ} → cause.Disk before after ≡ cause.Full needed limit → ⊥
never_full same = subst is_full (sym same) tt

-- the back behind a stop
abbrev pub stopped : {D : Type 0} → Back D → Journal D → Cached → Back D → Fault → Back D
stopped old journal cache new fault = record old {
  store = store.Journal journal;
  cache = cache;
  log = new.log;
  held = new.held;
  mode = Wanted (ending_of old fault);
  before = old.durable;
  own = 0;
  needs = old.durable;
  settled = old.durable;
  late = late_if (nat_lt old.durable old.needs) old.needs;
  unflushed = 0;
  number = old.number + 1;
}

module _ {D : Type 0} (moment_of : D → ℕ) (left_since : D → ℕ → List ℕ → Type 0) (told : D → Option (List ℕ)) (image : D → List ℕ → Type 0)
    (counts_now : (disk : D) (t : ℕ) (c : List ℕ) → t ≤ moment_of disk → image disk c → left_since disk t c) (start : List (List Op)) (opening : ℕ) (sound : Bool) where
  some_staged : (journal : Journal D) (back : Back D) (s : IsServing moment_of left_since told image start opening sound journal back) → back.before ≢ back.durable → s.staged ≢ []
  some_staged journal back s more none = more (omega (arith, s.unflown, ap length none))

  object_if : (journal : Journal D) (back : Back D) (s : IsServing moment_of left_since told image start opening sound journal back) → s.staged ≢ [] → (o : Option Object) → back.identity ≡ o → (object : Object) × (back.identity ≡ Some object)
  object_if journal back s some None is = absurd (some (s.nameless is).0)
  object_if journal back s some (Some object) is = (object, is)

  pub object_of : (journal : Journal D) (back : Back D) (s : IsServing moment_of left_since told image start opening sound journal back) → back.before ≢ back.durable → (object : Object) × (back.identity ≡ Some object)
  object_of journal back s more = object_if journal back s (some_staged journal back s more) back.identity refl

  -- what a crash of an append leaves is a prefix of the line that has all that is durable
  pub one_of : (journal : Journal D) (back : Back D) (s : IsServing moment_of left_since told image start opening sound journal back) (object : Object) → back.identity ≡ Some object
      → (front : Fronted) (c : List ℕ) → RecoversToOneOf s.frames (frame_of object s.staged) c
      → RecoversToPrefix back.identity start (line (history_at front (place_of front (backed back.log)))) back.durable c
  one_of journal back s object is front c one =
      let flight : Frame = frame_of object s.staged in
      let g = s.gate front in
      let h : History = history_at front (place_of front (backed back.log)) in
      let frames : List Frame = s.frames ++ flight ∷ [] in
      let named_all : NameOnly back.identity frames = All-push (NamesAs back.identity) s.frames flight s.named is in
      let batches : batches_in frames ≡ start ++ (s.flown ++ s.staged) =
      flat_map-append batches_of s.frames (flight ∷ []) ∙ ap (λ bs. bs ++ (s.staged ++ [])) s.batches ∙ ap (λ bs. (start ++ s.flown) ++ bs) (append-nil s.staged) ∙ append_assoc start s.flown s.staged in
      subst (λ (both : List (List Op) × ℕ). RecoversToPrefix back.identity start both.0 both.1 c) (ap (λ bs. (bs, length s.flown)) (sym g.line) ∙ ap (λ n. (line h, n)) g.long)
      (⊎_elim (λ past. first_of back.identity start s.flown s.staged s.frames c (recovers_journal c s.frames past) s.named s.batches)
      (λ whole. fewer back.identity start (s.flown ++ s.staged) (length s.flown) (length (s.flown ++ s.staged)) c (omega (arith, length-append s.flown s.staged))
      (subst (λ bs. RecoversToPrefix back.identity start bs (length (s.flown ++ s.staged)) c) (append-nil (s.flown ++ s.staged)) (first_of back.identity start (s.flown ++ s.staged) [] frames c (recovers_journal c frames whole) named_all batches))) one)

  -- the append was good
  pub lands : (old new : Back D) (journal later_journal : Journal D) (cache : Cached) (s : IsServing moment_of left_since told image start opening sound journal old) → old.before ≢ old.durable
      → ((frames : List Frame) (object : Object) (batches : List (List Op)) → IsAtRest told image journal frames → IsStaged journal object batches → Name object frames
      → IsAtRest told image later_journal (frames ++ frame_of object batches ∷ []))
      → ((object : Object) → IsStaged later_journal object [])
      → ((frames : List Frame) (object : Object) (batches : List (List Op)) → IsAtRest told image journal frames → IsStaged journal object batches → Name object frames
      → LeavesOnly moment_of left_since (disk_in journal) (disk_in later_journal) (RecoversToOneOf frames (frame_of object batches)))
      → Stores {A = Unit {0}} told image journal old.cache cache (Ok tt) → Lands (record old { store = store.Journal later_journal; cache = cache }) new
      → IsServing moment_of left_since told image start opening sound later_journal new
  lands old new journal later_journal cache s more appended unstaged any_moment stores done =
      let o = object_of journal old s more in
      let object : Object = o.0 in
      let flight : Frame = frame_of object s.staged in
      let names : Name object s.frames = name_all object s.frames old.identity o.1 s.named in
      let k : ℕ = old.before - old.durable in
      let all : k ≡ length s.staged = omega (arith, s.unflown) in
      let logs : backed new.log ≡ record (backed old.log) { flights = old.log.flights.items ++ k ∷ [] } =
      ap backed done.log ∙ ap (λ (fs : List ℕ). record (backed old.log) { flights = fs }) done.flights in
      let fits : AreLogs (record (backed old.log) { flights = old.log.flights.items ++ k ∷ [] }) = flies_fit front_none (backed old.log) k s.room.logs in
      let same_log : BackLog = old.log in
      let released : new.log.released.items ≡ old.log.released.items = ap (λ (log : BackLog). log.released.items) done.log in
      let frames : List Frame = s.frames ++ flight ∷ [] in
      let named_all : NameOnly old.identity frames = All-push (NamesAs old.identity) s.frames flight s.named o.1 in
      let batches : batches_in frames ≡ start ++ (s.flown ++ s.staged) =
      flat_map-append batches_of s.frames (flight ∷ []) ∙ ap (λ bs. bs ++ (s.staged ++ [])) s.batches ∙ ap (λ bs. (start ++ s.flown) ++ bs) (append-nil s.staged) ∙ append_assoc start s.flown s.staged in
      let leaves = any_moment s.frames object s.staged s.at_rest (s.staged_for object o.1) names in
      let gate : (front : Fronted) → IsGate moment_of left_since old.identity start opening front (place_of front (backed new.log)) (disk_in later_journal)
      (record { released = old.log.released.items; left = s.left; waiting = waiting_in old.held.items; flown = s.flown ++ s.staged; staged = [] }) old.before (old.durable + k) = λ front.
      let p : Place = place_of front (backed old.log) in
      let g = s.gate front in
      let l : Lists = record { released = old.log.released.items; left = s.left; waiting = waiting_in old.held.items; flown = s.flown; staged = s.staged } in
      let later : Place = record p { flights = p.flights ++ k ∷ [] } in
      let at : place_of front (backed new.log) ≡ later =
      ap (place_of front) logs ∙ placed front (record (backed old.log) { flights = old.log.flights.items ++ k ∷ [] }) later fits (history_flies front (backed old.log) k s.room.logs) in
      subst (λ (q : Place). IsGate moment_of left_since old.identity start opening front q (disk_in later_journal) (record l { flown = s.flown ++ s.staged; staged = [] }) old.before (old.durable + k)) (sym at)
      (flies moment_of left_since old.identity start opening front p l old.before old.durable (disk_in later_journal) k
      (calls moment_of left_since old.identity start opening front p l old.before old.durable (disk_in journal) (disk_in later_journal) (RecoversToOneOf s.frames flight) g leaves (one_of journal old s object o.1 front)) all) in
      let even : old.durable + k ≡ old.before = omega (arith, s.unflown) in
      let logs_fit : AreLogs (backed new.log) = subst AreLogs (sym logs) fits in
      let made : IsServing moment_of left_since told image start opening sound later_journal (record old { store = store.Journal later_journal; cache = cache; log = new.log; durable = old.before; unflushed = 0 }) = record {
        room = record {
          logs = logs_fit;
          flights = λ other. absurd (other refl);
          stops = λ other. absurd (other refl);
          number = s.room.number ∙ ap (λ (b : Backed). suc (length b.stops)) (sym logs);
          own = s.room.own ∙ ap (λ (b : Backed). length (batches_taken (own_entries b))) (sym logs);
          few = subst (λ (b : Backed). old.before ≤ length b.taken) (sym logs) s.room.few;
          own_few = subst (λ (b : Backed). old.own ≤ length b.taken) (sym logs) s.room.own_few;
          followed = ap (λ (b : Backed). length b.ends) logs ∙ s.room.followed ∙ ap (λ (b : Backed). length b.stops) (sym logs);
        };
        frames = frames;
        left = s.left;
        flown = s.flown ++ s.staged;
        staged = [];
        gate = λ front. subst (λ (both : List Release × ℕ). IsGate moment_of left_since old.identity start opening front (place_of front (backed new.log)) (disk_in later_journal)
            (record { released = both.0; left = s.left; waiting = waiting_in old.held.items; flown = s.flown ++ s.staged; staged = [] }) old.before both.1)
            (ap (λ (rs : List Release). (rs, old.durable + k)) (sym released) ∙ ap (λ (n : ℕ). (new.log.released.items, n)) even) (gate front);
        at_rest = appended s.frames object s.staged s.at_rest (s.staged_for object o.1) names;
        named = named_all;
        batches = batches;
        unflown = omega arith;
        unflushed = refl;
        staged_for = λ other is. unstaged other;
        nameless = λ is. (refl, unstaged);
        stored = λ yes other may.
            let m : Contents = apply nothing (flat_map (λ ops. ops) (start ++ s.flown ++ s.staged)) in
            subst (λ (x : Object × Contents). HasStored frames x.0 [] cache x.1)
            (ap (λ (x : Object). (x, m)) (be_same old.identity object other o.1 may)
            ∙ ap (λ bs. (other, apply nothing (flat_map (λ ops. ops) bs)))
            (append_assoc start s.flown s.staged ∙ ap (λ bs. start ++ bs) (sym (append-nil (s.flown ++ s.staged))) ∙ sym (append_assoc start (s.flown ++ s.staged) [])))
            (stores.stored s.frames object s.staged m s.at_rest (s.staged_for object o.1) names (s.stored yes object (may_be old.identity object o.1)));
        kept = λ yes. stores.kept s.frames object s.staged (s.kept yes);
      } in
      subst (IsServing moment_of left_since told image start opening sound later_journal) (sym done.same) made

  -- the append failed or was full
  pub ends : (old new : Back D) (journal later_journal : Journal D) (cache : Cached) (fault : Fault) (s : IsServing moment_of left_since told image start opening sound journal old) → old.before ≢ old.durable
      → ((frames : List Frame) (object : Object) (batches : List (List Op)) → IsAtRest told image journal frames → IsStaged journal object batches → Name object frames
      → LeavesOnly moment_of left_since (disk_in journal) (disk_in later_journal) (RecoversToOneOf frames (frame_of object batches)))
      → ((needed limit : ℕ) → fault.cause ≡ cause.Full needed limit → IsAtRest told image later_journal s.frames)
      → discards fault.cause false ≡ true → fault.end ≡ journal.end
      → Stops (record old { store = store.Journal later_journal; cache = cache }) new fault
      → IsEnded moment_of left_since image start opening (disk_in later_journal) (ending_of old fault) new
  ends old new journal later_journal cache fault s more any_moment full ended_so end_is done =
      let c : Cause = fault.cause in
      let o = object_of journal old s more in
      let object : Object = o.0 in
      let flight : Frame = frame_of object s.staged in
      let names : Name object s.frames = name_all object s.frames old.identity o.1 s.named in
      let leaves = any_moment s.frames object s.staged s.at_rest (s.staged_for object o.1) names in
      let b : Backed = backed old.log in
      let n : ℕ = length old.log.stops.items in
      let stop : Stop = record { cause = c; flights = length old.log.flights.items; batches = old.own; read = false } in
      let later : Backed = record b { stops = b.stops ++ stop ∷ [] } in
      let logs : backed new.log ≡ later = ap backed done.log ∙ ap (λ (ss : List Stop). record b { stops = ss }) done.stops in
      let fits : AreLogs later = stops_fit front_none b stop s.room.logs refl in
      let last : Fronted → Incarnation = λ front. record (going_on front n (own_entries b) (own_flights b)) { stop = Some stop } in
      let place : (front : Fronted) → place_of front (backed new.log) ≡ place_down (suc n) [] (last front) (older_of front b) =
      λ front. ap (place_of front) logs ∙ placed front later (place_down (suc n) [] (last front) (older_of front b)) fits (history_stops front b stop s.room.logs refl) in
      let released : new.log.released.items ≡ old.log.released.items = ap (λ (log : BackLog). log.released.items) done.log in
      let waits : waiting_in new.held.items ≡ flat_map (discarded old.durable (suc n) c) (waiting_in old.held.items) =
      ap waiting_in done.held ∙ waiting_stays old.durable old.number c old.held.items ∙ ap (λ k. flat_map (discarded old.durable k c) (waiting_in old.held.items)) s.room.number in
      let bound : bound_by (Some stop) (own_flights b) ≡ Some (c, sum (own_flights b)) = ap (λ yes. bound_if yes c (sum (own_flights b))) ended_so in
      let l : Lists = record { released = old.log.released.items; left = s.left; waiting = waiting_in old.held.items; flown = s.flown; staged = s.staged } in
      let down : (front : Fronted) → IsDown moment_of left_since old.identity start opening front (suc n) [] (last front) (older_of front b) (disk_in later_journal)
      (record l { waiting = flat_map (discarded old.durable (suc n) c) (waiting_in old.held.items) }) old.durable = λ front.
      let p : Place = place_of front b in
      fails moment_of left_since old.identity start opening front p (disk_in later_journal) l old.before old.durable stop
      (calls moment_of left_since old.identity start opening front p l old.before old.durable (disk_in journal) (disk_in later_journal) (RecoversToOneOf s.frames flight) (s.gate front) leaves (one_of journal old s object o.1 front))
      bound s.room.own refl in
      let made : IsEnded moment_of left_since image start opening (disk_in later_journal) (ending_of old fault) (stopped old later_journal cache new fault) = record {
        frames = s.frames;
        flight = codec.frame_of object s.staged;
        ended = suc n;
        taken = [];
        left = s.left;
        flown = s.flown;
        last = last;
        rest = λ front. older_of front b;
        end = end_is ∙ s.at_rest.end;
        is_flown = λ front. let g = s.gate front in omega (arith, g.counted, g.flown, s.room.own, s.unflown);
        is_whole = let g = s.gate front_none in omega (arith, g.counted, g.flown, s.room.own, s.unflown);
        logs = subst AreLogs (sym logs) fits;
        place = place;
        down = λ front. subst (λ (x : List Release × List Passed). IsDown moment_of left_since old.identity start opening front (suc n) [] (last front) (older_of front b) (disk_in later_journal)
            (record { released = x.0; left = s.left; waiting = x.1; flown = s.flown; staged = s.staged }) old.durable)
            (ap (λ (rs : List Release). (rs, flat_map (discarded old.durable (suc n) c) (waiting_in old.held.items))) (sym released)
            ∙ ap (λ (ws : List Passed). (new.log.released.items, ws)) (sym waits)) (down front);
        object = o.1;
        named = s.named;
        batches = s.batches;
        outcomes = λ bytes now. leaves.each bytes (counts_now (disk_in later_journal) (moment_of (disk_in journal)) bytes leaves.later now);
        mended = λ wanted. All-nil (λ (h : Held). h.mended ≡ true);
        gone = omega (arith, ap (λ (x : Backed). length x.stops) logs, length_push old.log.stops.items stop, ap (λ (x : Backed). length x.ends) logs, s.room.followed);
        number = omega (arith, s.room.number, ap (λ (x : Backed). length x.stops) logs, length_push old.log.stops.items stop);
        full = λ needed limit is. rests told image later_journal s.frames (full needed limit is);
      } in
      subst (IsEnded moment_of left_since image start opening (disk_in later_journal) (ending_of old fault)) (sym done.same) made

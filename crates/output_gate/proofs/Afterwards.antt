-- What an entry of an incarnation that has ended does to a back.
use Rattle.std.proofs.Common.{◌≡◌, ◌∙◌, ap, sym, refl, subst, inl, inr, ℕ, zero, suc, ◌+◌, List, [], ◌∷◌, ◌++◌, append-nil, length, arith, Option, Some, None, Global}
use Rattle.std.proofs.lemmas.Grind.{flat_map-append}
use Rattle.std.proofs.lemmas.List.{length_push}
use Rattle.std.proofs.lemmas.List.Elements.{All-nil}
use Rattle.std.specs.Prelude.{Bool, true, false, is_some}
use Rattle.std.specs.declared.collections.VecDeque.{VecDeque}
use Rattle.batch_journal.specs.Moments.{IsTold}
use Rattle.batch_journal.specs.Rest.{disk_in}
use Rattle.batch_journal.specs.declared.journal.Journal.{Journal}
use Rattle.storage_map.specs.declared.op.Op.{Op}
use Rattle.timeline.specs.Headline.{KeepBy}
use Rattle.timeline.specs.History.{Incarnation, History, batches_in as batches_taken, incarnation_at, incarnations}
use Rattle.timeline.specs.Logs.{Fronted, Backed, backed}
use Rattle.timeline.specs.Passed.{Passed, Held as HeldMessage, discards, is_mend}
use Rattle.timeline.specs.declared.back_log.BackLog.{BackLog}
use Rattle.timeline.specs.declared.back_log.Release.{Release}
use Rattle.timeline.specs.declared.back_log.Stop.{Stop}
use Rattle.timeline.specs.declared.entry.Body.{Body}
use Rattle.timeline.specs.declared.entry.Body.TheVariants as body
use Rattle.timeline.specs.declared.entry.Entry.{Entry}
use Rattle.timeline.specs.declared.message.Message.TheVariants as message
use Rattle.output_gate.specs.Down.{place_down, IsDown}
use Rattle.output_gate.specs.Ended.{newest_as, last_stop, AreInOrder, HasEnded, HaveEnded, IsPlaced, IsLogged, IsEnding, AreEnding, IsLoggedDown, Marks}
use Rattle.output_gate.specs.Entering.{late_after, late_by, late_held, TakesLate}
use Rattle.output_gate.specs.Gate.{Place, place_of, Lists, IsGate}
use Rattle.output_gate.specs.Held.{passed_of, waiting_in, has_halt}
use Rattle.output_gate.specs.Serving.{HasRoom, IsSafe, IsServing, IsMounted, IsEnded, IsUnmounted, IsBackAs, marks_of}
use Rattle.output_gate.specs.Standing.{AreLogs, own_entries, own_flights, older_of}
use Rattle.output_gate.specs.declared.back.Back.{Back}
use Rattle.output_gate.specs.declared.back.Ending.{Ending}
use Rattle.output_gate.specs.declared.held.Held.{Held}
use Rattle.output_gate.proofs.Reading.{failed_none, reading_none, unread_none}
use Rattle.output_gate.proofs.Counts.{counts_stay}
use Rattle.output_gate.proofs.Endings.{ended_late, ending_late, keep_late, last_of_stops, marks_late}
use Rattle.output_gate.proofs.Fitting.{LateFit, not_mend}
use Rattle.output_gate.proofs.Flushes.{front_none}
use Rattle.output_gate.proofs.Helds.{true_false, halts_none, push_none}
use Rattle.output_gate.proofs.Histories.{entries_none, takes_fit}
use Rattle.output_gate.proofs.Late.{late_passed, later, same_kept, gate_late, down_late}
use Rattle.output_gate.proofs.Ordered.{IsLate, is_late, order_late}
use Rattle.output_gate.proofs.Places.{place_late}

-- what is held of it is no halt, and waits as the failure
late_free : (hs : List Held) (o : Option Stop) (late : Option ℕ) (settled number : ℕ) (b : Body) → has_halt hs ≡ false → has_halt (hs ++ late_by o late settled number b) ≡ false
late_free hs None late settled number b none = ap has_halt (append-nil hs) ∙ none
late_free hs (Some stop) (Some needs) settled number (body.Message sent) none = push_none hs _ none refl
late_free hs (Some stop) None settled number (body.Message (message.Reply to result)) none = push_none hs _ none refl
late_free hs (Some stop) None settled number (body.Message (message.Call i n to method args depth)) none = ap has_halt (append-nil hs) ∙ none
late_free hs (Some stop) None settled number (body.Message (message.Fetch i n value)) none = ap has_halt (append-nil hs) ∙ none
late_free hs (Some stop) late settled number (body.Batch ops tail confirmed) none = ap has_halt (append-nil hs) ∙ none
late_free hs (Some stop) late settled number (body.Bind identity) none = ap has_halt (append-nil hs) ∙ none
late_free hs (Some stop) late settled number (body.Ask ask free) none = ap has_halt (append-nil hs) ∙ none
late_free hs (Some stop) late settled number body.Sync none = ap has_halt (append-nil hs) ∙ none
late_free hs (Some stop) late settled number (body.Halt cause) none = ap has_halt (append-nil hs) ∙ none
late_free hs (Some stop) late settled number body.Mend none = ap has_halt (append-nil hs) ∙ none

late_waits_by : (stop : Stop) (late : Option ℕ) (settled needs number : ℕ) (b : Body)
    → waiting_in (late_by (Some stop) late settled number b) ≡ late_passed (record { settled = settled; late = late; needs = needs }) number stop.cause b
late_waits_by stop (Some n) settled needs number (body.Message sent) = refl
late_waits_by stop None settled needs number (body.Message (message.Reply to result)) = refl
late_waits_by stop None settled needs number (body.Message (message.Call i n to method args depth)) = refl
late_waits_by stop None settled needs number (body.Message (message.Fetch i n value)) = refl
late_waits_by stop late settled needs number (body.Batch ops tail confirmed) = refl
late_waits_by stop late settled needs number (body.Bind identity) = refl
late_waits_by stop late settled needs number (body.Ask ask free) = refl
late_waits_by stop late settled needs number body.Sync = refl
late_waits_by stop late settled needs number (body.Halt cause) = refl
late_waits_by stop late settled needs number body.Mend = refl

late_waits : (stop : Stop) (marks : Marks) (number : ℕ) (b : Body) → waiting_in (late_by (Some stop) marks.late marks.settled number b) ≡ late_passed marks number stop.cause b
late_waits stop marks number b = late_waits_by stop marks.late marks.settled marks.needs number b

-- the back behind such an entry
abbrev behind_late : {D : Type 0} → Back D → BackLog → VecDeque Held Global → Entry → Back D
behind_late old log held e = record old { held = held; late = late_after e.body old.late; log = log }

abbrev LogLate : BackLog → BackLog → Entry → Type 0
LogLate old log e = backed log ≡ record (backed old) { taken = old.taken.items ++ e ∷ [] }

-- Where the history stands before such an entry, and behind it.
abbrev place_with : ℕ → List ℕ → History → Place
place_with last flights older = record { ended = suc last; taken = []; flights = flights; older = older }

module _ (back : Backed) (e : Entry) (last : ℕ) (logs : AreLogs back) (long : length back.stops ≡ suc last) (is : e.incarnation ≡ suc last) (none : own_entries back ≡ []) where
  pub place_before : (front : Fronted) → place_of front back ≡ place_with last (own_flights back) (incarnation_at front back last ∷ incarnations front back last)
  place_before front =
      ap (λ (n : ℕ). record { ended = n; taken = own_entries back; flights = own_flights back; older = incarnations front back n }) long
      ∙ ap (λ (es : List Entry). record { ended = suc last; taken = es; flights = own_flights back; older = incarnations front back (suc last) }) none

  pub place_behind : (front : Fronted) → place_of front (record back { taken = back.taken ++ e ∷ [] })
      ≡ place_with last (own_flights back) (later (incarnation_at front back last) e ∷ incarnations front back last)
  place_behind front =
      place_late front back e last logs long is
      ∙ ap (λ (es : List Entry). record { ended = suc last; taken = es; flights = own_flights back; older = later (incarnation_at front back last) e ∷ incarnations front back last }) none

-- what is known where it comes
pub record Comes (back : Backed) (e : Entry) : Type 0 where
  pub late : IsLate back.taken back.stops e
  pub last : ℕ
  pub long : length back.stops ≡ suc last
  pub own : e.incarnation ≡ suc last
  pub none : own_entries back ≡ []

comes_so : (back : Backed) (e : Entry) → AreInOrder back.taken back.stops → IsLate back.taken back.stops e → (n : ℕ) → length back.stops ≡ n → Comes back e
comes_so back e o late zero is = absurd (omega (arith, late.numbered, late.own, is))
comes_so back e o late (suc last) is = record {
  late = late;
  last = last;
  long = is;
  own = omega (arith, late.own, is);
  none = entries_none (suc (length back.stops)) back.taken (λ k d lt. omega (arith, o.sorted k d lt, late.newest, late.own));
}

pub comes : {D : Type 0} (back : Back D) (e : Entry) → LateFit back e → back.number ≡ suc (length back.log.stops.items) → AreInOrder back.log.taken.items back.log.stops.items
    → Comes (backed back.log) e
comes back e fits number o =
    comes_so (backed back.log) e o (is_late back.log.taken.items back.log.stops.items e o fits.comes (omega (arith, fits.before, number))) (length back.log.stops.items) refl

module _ (back : Backed) (e : Entry) (c : Comes back e) where
  -- the end of its incarnation is the newest, and discards
  pub ended_at : (front : Fronted) (marks : Marks) → HaveEnded marks (older_of front back) → HasEnded marks (incarnation_at front back c.last) (incarnations front back c.last)
  ended_at front marks h = subst (HaveEnded marks) (ap (incarnations front back) c.long) h

  its_stop : (front : Fronted) (marks : Marks) (h : HasEnded marks (incarnation_at front back c.last) (incarnations front back c.last)) → last_stop back.stops ≡ Some h.stop
  its_stop front marks h = last_of_stops back.stops c.last h.stop c.long h.stopped

  drops_some : (front : Fronted) (marks : Marks) (h : HasEnded marks (incarnation_at front back c.last) (incarnations front back c.last)) → discards h.stop.cause h.stop.read ≡ true
  drops_some front marks h = c.late.discards_some h.stop (its_stop front marks h)

  -- what waits for it
  waits_late : (front : Fronted) (marks : Marks) (h : HasEnded marks (incarnation_at front back c.last) (incarnations front back c.last)) (old new : List Held)
      → new ≡ old ++ late_by (last_stop back.stops) marks.late marks.settled e.incarnation e.body → waiting_in new ≡ waiting_in old ++ late_passed marks (suc c.last) h.stop.cause e.body
  waits_late front marks h old new is =
      ap waiting_in (is ∙ ap (λ (o : Option Stop). old ++ late_by o marks.late marks.settled e.incarnation e.body) (its_stop front marks h) ∙ ap (λ (n : ℕ). old ++ late_by (Some h.stop) marks.late marks.settled n e.body) c.own)
      ∙ flat_map-append passed_of old (late_by (Some h.stop) marks.late marks.settled (suc c.last) e.body)
      ∙ ap (λ ps. waiting_in old ++ ps) (late_waits h.stop marks (suc c.last) e.body)

  keeps_older : (front : Fronted) (marks : Marks) (h : HasEnded marks (incarnation_at front back c.last) (incarnations front back c.last)) → KeepBy (older_of front back)
      → KeepBy (later (incarnation_at front back c.last) e ∷ incarnations front back c.last)
  keeps_older front marks h keep =
      keep_late marks (incarnation_at front back c.last) (incarnations front back c.last) e h (drops_some front marks h) (subst KeepBy (ap (incarnations front back) c.long) keep)

  logged_late : (tells : Type 0) (marks : Marks) (own before flown : ℕ) → AreLogs back → IsLogged tells back marks own before flown
      → IsLogged tells (record back { taken = back.taken ++ e ∷ [] }) (marks_late marks e) own before flown
  logged_late tells marks own before flown logs l = record {
    ordered = order_late back.taken back.stops e l.ordered c.late;
    followed = l.followed;
    placed = λ front.
        let g = subst (IsPlaced marks own before flown) (place_before back e c.last logs c.long c.own c.none front) (l.placed front) in
        subst (IsPlaced (marks_late marks e) own before flown) (sym (place_behind back e c.last logs c.long c.own c.none front)) record {
          counted = g.counted;
          known = omega (arith, g.known, ap length (same_kept marks (incarnation_at front back c.last) (incarnations front back c.last) e g.ended));
          reach = omega (arith, g.reach, ap length (same_kept marks (incarnation_at front back c.last) (incarnations front back c.last) e g.ended));
          ended = ended_late marks (incarnation_at front back c.last) (incarnations front back c.last) e g.ended;
        };
    keep = λ yes front. subst KeepBy (sym (ap (λ (p : Place). p.older) (place_behind back e c.last logs c.long c.own c.none front)))
        (keeps_older front marks (ended_at front marks (l.placed front).ended) (l.keep yes front));
  }

  pub ending_at : (front : Fronted) (ending : Ending) (marks : Marks) → AreEnding ending marks (older_of front back) → IsEnding ending marks (incarnation_at front back c.last) (incarnations front back c.last)
  ending_at front ending marks h = subst (AreEnding ending marks) (ap (incarnations front back) c.long) h

  logged_down_late : (tells : Type 0) (ending : Ending) (marks : Marks) (flown : ℕ) → AreLogs back → IsLoggedDown tells back ending marks flown
      → IsLoggedDown tells (record back { taken = back.taken ++ e ∷ [] }) ending (marks_late marks e) flown
  logged_down_late tells ending marks flown logs l = record {
    ordered = order_late back.taken back.stops e l.ordered c.late;
    followed = l.followed;
    even = l.even;
    idle = ap (λ (p : Place). p.flights) (place_behind back e c.last logs c.long c.own c.none front_none) ∙ l.idle;
    ended = λ front.
        subst (AreEnding ending (marks_late marks e)) (sym (ap (λ (p : Place). p.older) (place_behind back e c.last logs c.long c.own c.none front)))
        (ending_late ending marks (incarnation_at front back c.last) (incarnations front back c.last) e (ending_at front ending marks (l.ended front)));
    keep = λ yes front. subst KeepBy (sym (ap (λ (p : Place). p.older) (place_behind back e c.last logs c.long c.own c.none front)))
        (keeps_older front marks (ending_at front ending marks (l.ended front)).ended (l.keep yes front));
  }

module _ {D : Type 0} (told : D → Option (List ℕ)) (image : D → List ℕ → Type 0) (sound : Bool) where
  -- no halt is held where such an entry comes
  no_halt_if : (old : Back D) (e : Entry) (journal : Journal D) (s : IsSafe told image sound journal old) (c : Comes (backed old.log) e) → (b : Bool) → has_halt old.held.items ≡ b → has_halt old.held.items ≡ false
  no_halt_if old e journal s c false is = is
  no_halt_if old e journal s c true is =
      let h = s.halted is in absurd (omega (arith, h.2, ap newest_as h.1, c.late.newest, c.late.own, s.room.number))

  late_room : (old : Back D) (log : BackLog) (held : VecDeque Held Global) (e : Entry) (c : Comes (backed old.log) e) → HasRoom old → old.before ≡ old.durable → LogLate old.log log e
      → HasRoom (behind_late old log held e)
  late_room old log held e c room even is =
      let logs : AreLogs (backed log) = subst AreLogs (sym is) (takes_fit front_none (backed old.log) e room.logs (omega (arith, c.late.own))) in
      let own : own_entries (backed log) ≡ own_entries (backed old.log) =
      ap own_entries is ∙ ap (λ (p : Place). p.taken) (place_behind (backed old.log) e c.last room.logs c.long c.own c.none front_none) ∙ sym c.none in
      let long : length log.taken.items ≡ length old.log.taken.items + 1 = ap (λ (b : Backed). length b.taken) is ∙ length_push old.log.taken.items e in
      record {
        logs = logs;
        flights = λ other. absurd (other even);
        stops = λ other. absurd (other even);
        number = room.number ∙ ap (λ (b : Backed). suc (length b.stops)) (sym is);
        own = room.own ∙ ap (λ es. length (batches_taken es)) (sym own);
        few = omega (arith, room.few, long);
        own_few = omega (arith, room.own_few, long);
        followed = ap (λ (b : Backed). length b.ends) is ∙ room.followed ∙ ap (λ (b : Backed). length b.stops) (sym is);
      }

  -- nothing of the newest incarnation was taken, so all is durable
  late_even : (old : Back D) (e : Entry) (journal : Journal D) (s : IsSafe told image sound journal old) (c : Comes (backed old.log) e) → old.before ≡ old.durable
  late_even old e journal s c = omega (arith, s.unflown, s.own, s.room.own, ap (λ es. length (batches_taken es)) c.none)

  safe_late : (old : Back D) (log : BackLog) (held : VecDeque Held Global) (e : Entry) (journal : Journal D) (s : IsSafe told image sound journal old) (c : Comes (backed old.log) e)
      → LogLate old.log log e → held.items ≡ old.held.items ++ late_held old e → IsSafe told image sound journal (behind_late old log held e)
  safe_late old log held e journal s c is items =
      let none : has_halt held.items ≡ false =
      ap has_halt items ∙ late_free old.held.items (last_stop old.log.stops.items) old.late old.settled e.incarnation e.body (no_halt_if old e journal s c (has_halt old.held.items) refl) in
      record {
        store = s.store;
        mode = s.mode;
        room = late_room old log held e c s.room (late_even old e journal s c) is;
        frames = s.frames;
        staged = s.staged;
        at_rest = s.at_rest;
        named = s.named;
        unflown = s.unflown;
        own = s.own;
        unflushed = s.unflushed;
        staged_for = s.staged_for;
        nameless = s.nameless;
        halts = halts_none old.before held.items none;
        halted = λ has. absurd (true_false (sym has ∙ none));
        stored = s.stored;
      }

module _ {D : Type 0} (moment_of : D → ℕ) (left_since : D → ℕ → List ℕ → Type 0) (told : D → Option (List ℕ)) (image : D → List ℕ → Type 0) (faults_of : D → ℕ) (start : List (List Op)) (opening : ℕ) (sound : Bool) where
  serves_late : (old : Back D) (log : BackLog) (held : VecDeque Held Global) (e : Entry) (m : IsMounted moment_of left_since told image faults_of start opening sound old) (c : Comes (backed old.log) e)
      → is_mend e.body ≡ false → LogLate old.log log e → held.items ≡ old.held.items ++ late_held old e
      → IsServing moment_of left_since told image start opening sound m.journal old → IsServing moment_of left_since told image start opening sound m.journal (behind_late old log held e)
  serves_late old log held e m c other is items s =
      let b : Backed = backed old.log in
      record {
        room = late_room told image sound old log held e c s.room (late_even told image sound old e m.journal m.safe c) is;
        frames = s.frames;
        left = s.left;
        flown = s.flown;
        staged = s.staged;
        gate = λ front.
            let i : Incarnation = incarnation_at front b c.last in
            let rest : History = incarnations front b c.last in
            let h = ended_at b e c front (marks_of old) (m.logged.placed front).ended in
            let l : Lists = record { released = old.log.released.items; left = s.left; waiting = waiting_in old.held.items; flown = s.flown; staged = s.staged } in
            subst (λ (x : Place × List Release × List Passed). IsGate moment_of left_since old.identity start opening front x.0 (disk_in m.journal) (record l { released = x.1; waiting = x.2 }) old.before old.durable)
            (ap (λ (p : Place). (p, old.log.released.items, waiting_in old.held.items ++ late_passed (marks_of old) (suc c.last) h.stop.cause e.body))
            (sym (ap (place_of front) is ∙ place_behind b e c.last s.room.logs c.long c.own c.none front))
            ∙ ap (λ (rs : List Release). (place_of front (backed log), rs, waiting_in old.held.items ++ late_passed (marks_of old) (suc c.last) h.stop.cause e.body)) (sym (ap (λ (x : Backed). x.released) is))
            ∙ ap (λ (ws : List Passed). (place_of front (backed log), log.released.items, ws)) (sym (waits_late b e c front (marks_of old) h old.held.items held.items items)))
            (gate_late moment_of left_since old.identity start opening front (marks_of old) i rest e h other (drops_some b e c front (marks_of old) h) (suc c.last) (own_flights b) (disk_in m.journal) l old.before old.durable
            (subst (λ (p : Place). IsGate moment_of left_since old.identity start opening front p (disk_in m.journal) l old.before old.durable)
            (place_before b e c.last s.room.logs c.long c.own c.none front) (s.gate front)));
        at_rest = s.at_rest;
        named = s.named;
        batches = s.batches;
        unflown = s.unflown;
        unflushed = s.unflushed;
        staged_for = s.staged_for;
        nameless = s.nameless;
        stored = s.stored;
        kept = s.kept;
      }

  pub mounted_late : (old : Back D) (log : BackLog) (held : VecDeque Held Global) (e : Entry) (m : IsMounted moment_of left_since told image faults_of start opening sound old) → LateFit old e
      → LogLate old.log log e → held.items ≡ old.held.items ++ late_held old e → IsMounted moment_of left_since told image faults_of start opening sound (behind_late old log held e)
  mounted_late old log held e m fits is items =
      let c = comes old e fits m.safe.room.number m.logged.ordered in
      let other = not_mend e.body (is_some old.identity) fits.fits in
      record {
        journal = m.journal;
        safe = safe_late told image sound old log held e m.journal m.safe c is items;
        serves = λ tells. serves_late old log held e m c other is items (m.serves tells);
        logged = subst (λ (b : Backed). IsLogged (IsTold (told (disk_in m.journal))) b (marks_late (marks_of old) e) old.own old.before old.durable) (sym is)
            (logged_late (backed old.log) e c (IsTold (told (disk_in m.journal))) (marks_of old) old.own old.before old.durable m.safe.room.logs m.logged);
        counts = counts_stay told faults_of (disk_in m.journal) (disk_in m.journal) (backed old.log) (backed log) refl (ap (λ (b : Backed). b.stops) is) (ap (λ (b : Backed). b.downs) is) m.counts;
        reads =
            let free = no_halt_if told image sound old e m.journal m.safe c (has_halt old.held.items) refl in
            reading_none (IsTold (told (disk_in m.journal))) (faults_of (disk_in m.journal)) (behind_late old log held e)
            (unread_none held.items (failed_none held.items (ap has_halt items ∙ late_free old.held.items (last_stop old.log.stops.items) old.late old.settled e.incarnation e.body free)));
      }

  -- The same while it isn't mounted.
  abbrev DownIn : Back D → Fronted → D → Lists → ℕ → List Entry → History → Type 0
  DownIn old front disk l ended taken [] = ⊥
  DownIn old front disk l ended taken (i ∷ rest) = IsDown moment_of left_since old.identity start opening front ended taken i rest disk l old.durable

  ended_in : (old : Back D) (log : BackLog) (held : VecDeque Held Global) (e : Entry) (u : IsUnmounted moment_of left_since told image faults_of start opening old) (c : Comes (backed old.log) e)
      → is_mend e.body ≡ false → LogLate old.log log e → held.items ≡ old.held.items ++ late_held old e
      → IsEnded moment_of left_since image start opening u.disk u.ending old → IsEnded moment_of left_since image start opening u.disk u.ending (behind_late old log held e)
  ended_in old log held e u c other is items s =
      let b : Backed = backed old.log in
      let flights : (front : Fronted) → place_with c.last (own_flights b) (later (incarnation_at front b c.last) e ∷ incarnations front b c.last) ≡ place_down (suc c.last) [] (later (incarnation_at front b c.last) e) (incarnations front b c.last) =
      λ front. ap (λ (fs : List ℕ). place_with c.last fs (later (incarnation_at front b c.last) e ∷ incarnations front b c.last)) u.logged.idle in
      record {
        frames = s.frames;
        flight = s.flight;
        ended = suc c.last;
        taken = [];
        left = s.left;
        flown = s.flown;
        last = λ front. later (incarnation_at front b c.last) e;
        rest = λ front. incarnations front b c.last;
        end = s.end;
        is_flown = λ front. (ending_at b e c front u.ending (marks_of old) (u.logged.ended front)).is_flown;
        is_whole = s.is_whole;
        logs = subst AreLogs (sym is) (takes_fit front_none b e s.logs (omega (arith, c.late.own)));
        place = λ front. ap (place_of front) is ∙ place_behind b e c.last s.logs c.long c.own c.none front ∙ flights front;
        down = λ front.
            let i : Incarnation = incarnation_at front b c.last in
            let rest : History = incarnations front b c.last in
            let g = ending_at b e c front u.ending (marks_of old) (u.logged.ended front) in
            let l : Lists = record { released = old.log.released.items; left = s.left; waiting = waiting_in old.held.items; flown = s.flown; staged = s.flight.batches } in
            subst (λ (x : List Release × List Passed). IsDown moment_of left_since old.identity start opening front (suc c.last) [] (later i e) rest u.disk (record l { released = x.0; waiting = x.1 }) old.durable)
            (ap (λ (rs : List Release). (rs, waiting_in old.held.items ++ late_passed (marks_of old) (suc c.last) g.ended.stop.cause e.body)) (sym (ap (λ (x : Backed). x.released) is))
            ∙ ap (λ (ws : List Passed). (log.released.items, ws)) (sym (waits_late b e c front (marks_of old) g.ended old.held.items held.items items)))
            (down_late moment_of left_since old.identity start opening front (marks_of old) i rest e g.ended other (drops_some b e c front (marks_of old) g.ended) (suc c.last) u.disk l old.durable
            (omega (arith, s.is_whole, g.is_flown, g.is_whole, g.ended.within))
            (subst (λ (p : Place). DownIn old front u.disk l p.ended p.taken p.older) (sym (s.place front) ∙ place_before b e c.last s.logs c.long c.own c.none front) (s.down front)));
        object = s.object;
        named = s.named;
        batches = s.batches;
        outcomes = s.outcomes;
        mended = λ wanted. All-nil (λ (h : HeldMessage). h.mended ≡ true);
        gone = ap (λ (x : Backed). length x.stops) is ∙ s.gone ∙ ap (λ (x : Backed). suc (length x.ends)) (sym is);
        number = s.number ∙ ap (λ (x : Backed). suc (length x.stops)) (sym is);
        full = s.full;
      }

  pub unmounted_late : (old : Back D) (log : BackLog) (held : VecDeque Held Global) (e : Entry) (u : IsUnmounted moment_of left_since told image faults_of start opening old) → LateFit old e
      → LogLate old.log log e → held.items ≡ old.held.items ++ late_held old e → IsUnmounted moment_of left_since told image faults_of start opening (behind_late old log held e)
  unmounted_late old log held e u fits is items =
      let c = comes old e fits u.safe.number u.logged.ordered in
      let own : own_entries (backed log) ≡ own_entries (backed old.log) =
      ap own_entries is ∙ ap (λ (p : Place). p.taken) (place_behind (backed old.log) e c.last u.safe.logs c.long c.own c.none front_none) ∙ sym c.none in
      record {
        disk = u.disk;
        ending = u.ending;
        safe = let s = u.safe in record {
          store = s.store;
          mode = s.mode;
          logs = subst AreLogs (sym is) (takes_fit front_none (backed old.log) e s.logs (omega (arith, c.late.own)));
          number = s.number ∙ ap (λ (b : Backed). suc (length b.stops)) (sym is);
          gone = ap (λ (b : Backed). length b.stops) is ∙ s.gone ∙ ap (λ (b : Backed). suc (length b.ends)) (sym is);
          even = s.even;
          own = s.own ∙ ap (λ es. length (batches_taken es)) (sym own);
          none = s.none;
          unflushed = s.unflushed;
          more = s.more;
          few = omega (arith, s.few, ap (λ (b : Backed). length b.taken) is, length_push old.log.taken.items e);
          halts = ap has_halt items ∙ late_free old.held.items (last_stop old.log.stops.items) old.late old.settled e.incarnation e.body s.halts;
        };
        ended = λ tells. ended_in old log held e u c (not_mend e.body (is_some old.identity) fits.fits) is items (u.ended tells);
        logged = subst (λ (b : Backed). IsLoggedDown (IsTold (told u.disk)) b u.ending (marks_late (marks_of old) e) old.durable) (sym is)
            (logged_down_late (backed old.log) e c (IsTold (told u.disk)) u.ending (marks_of old) old.durable u.safe.logs u.logged);
        counts = counts_stay told faults_of u.disk u.disk (backed old.log) (backed log) refl (ap (λ (b : Backed). b.stops) is) (ap (λ (b : Backed). b.downs) is) u.counts;
      }

  pub back_late : (old new : Back D) (e : Entry) → LateFit old e → TakesLate old new e → IsBackAs moment_of left_since told image faults_of start opening sound old
      → IsBackAs moment_of left_since told image faults_of start opening sound new
  back_late old new e fits t (inl m) =
      inl (subst (IsMounted moment_of left_since told image faults_of start opening sound) (sym t.same) (mounted_late old new.log new.held e m fits t.log t.holds))
  back_late old new e fits t (inr u) =
      inr (subst (IsUnmounted moment_of left_since told image faults_of start opening) (sym t.same) (unmounted_late old new.log new.held e u fits t.log t.holds))

-- The cell of a front is kept by its turns.
use Rattle.std.proofs.Common.{◌≡◌, ◌∙◌, ap, sym, refl, subst, inl, inr, ⊎_elim, true≢false, ℕ, ℤ, ◌≤◌, arith, List, [], ◌∷◌, ◌++◌, length, append-nil, append_assoc, Option}
use Rattle.std.specs.Prelude.{Bool, true, false, Result, Ok, Err, OnOk, OnErr}
use Rattle.do_tree.specs.Tree.{Script}
use Rattle.do_value.specs.declared.fault.NoMemory.{NoMemory}
use Rattle.timeline.specs.Intake.{Kind, Front, Taken, delivered, noticed, wanted, opened, events_in}
use Rattle.timeline.specs.Logs.{Fronted, fronted}
use Rattle.timeline.specs.declared.entry.Entry.{Entry}
use Rattle.timeline.specs.declared.event.Event.{Event}
use Rattle.timeline.specs.declared.notice.Notice.{Notice}
use Rattle.front_half.proofs.Items.{IsItemOf, takes_none, delivers_it, wants_it, event_item}
use Rattle.front_half.proofs.Sent.{sent_more}
use Rattle.object_front.specs.Came.{events, HasGot, EventsCome}
use Rattle.object_front.specs.Classed.{class_behind, class_by, ClassComes}
use Rattle.object_front.specs.Evaluated.{seen}
use Rattle.front_half.specs.Sending.{AreSentToo}
use Rattle.front_half.specs.Standing.{Stood, IsClass, IsCutShort, IsHalf, IsTakenBy, fresh, is_stopped, kind_in, nothing_logged}
use Rattle.front_half.specs.Taking.{Led, IsLedBy, fits, sticks_at, on_event, without}
use Rattle.front_half.specs.Turning.{CanTurn, IsStill, IsTaken, IsEntered, Turns, Halts}
use Rattle.object_front.specs.declared.evaluated.Evaluated.{Evaluated}
use Rattle.front_half.specs.declared.half.Half.{Half}
use Rattle.front_half.specs.declared.turning.Turned.{Turned}
use Rattle.front_half.specs.declared.turning.Turned.TheVariants.{Ran, Idle}
use Rattle.front_history.specs.Turns.{TurnSteps}
use Rattle.object_core.proofs.Alike.{class_for}
use Rattle.object_core.proofs.FitTaken.{events_logged, fit_more, taken_fit}
use Rattle.object_core.specs.Apart.{FrontRuns, is_made, turns as turns_on, halts as halts_at}
use Rattle.object_core.specs.Fitting.{IsFitIntake}
use Rattle.host_workers.specs.Fronts.{HasTaken, IsFrontOver, notices_in}

none_is_few : 0 ≤ 1
none_is_few = omega arith

one_is_few : 1 ≤ 1
one_is_few = omega arith

-- More behind what was taken.
notices_more : (taken more : List Taken) → notices_in (taken ++ more) ≡ notices_in taken ++ notices_in more
notices_more [] more = refl
notices_more (noticed n ∷ taken) more = ap (λ (l : List Notice). n ∷ l) (notices_more taken more)
notices_more (delivered e ∷ taken) more = notices_more taken more
notices_more (wanted e ∷ taken) more = notices_more taken more

-- What a turn got of the notices is what its item has of them, and what it missed.
pub record Hears (before got : List Notice) (led : Led) : Type 0 where
  pub missed : List Notice
  pub few : length missed ≤ 1
  pub none_missed : led.stood.stuck ≡ false → missed ≡ []
  pub heard : got ≡ before ++ (notices_in led.item ++ missed)
  pub one : length (notices_in led.item ++ missed) ≤ 1

item_silent : (e : Event) (item : List Taken) → IsItemOf e item → notices_in item ≡ []
item_silent e _ takes_none = refl
item_silent e _ delivers_it = refl
item_silent e _ (wants_it call) = refl

led_silent : (script : Script) (st : Stood) (e : Event) (led : Led) → led ≡ on_event script st e → notices_in led.item ≡ []
led_silent script st e led leads =
    ap (λ (l : Led). notices_in l.item) leads ∙ item_silent e (on_event script st e).item (event_item script st e)

entered_silent : (script : Script) (st : Stood) (before events : List Event) (led : Led) → IsEntered script st before events led → notices_in led.item ≡ []
entered_silent script st before events led (inl deferred) = led_silent script (without st deferred.place) deferred.event led deferred.leads
entered_silent script st before events led (inr come) = led_silent script st come.event led come.leads

notice_hears : (script : Script) (st : Stood) (n : Notice) (led : Led) → IsLedBy script st n led → (before got : List Notice) → got ≡ before ++ n ∷ [] → Hears before got led
notice_hears script st n led (fits so) before got took = record { missed = []; few = none_is_few; none_missed = λ _. refl; heard = took; one = one_is_few }
notice_hears script st n led (sticks_at unfit) before got took = record {
  missed = n ∷ [];
  few = one_is_few;
  none_missed = λ goes. absurd (true≢false goes);
  heard = took;
  one = one_is_few;
}

hears : (script : Script) (st : Stood) (events_before events : List Event) (before got told : List Notice) (led : Led)
    → IsTaken script st events_before events before got told led → Hears before got led
hears script st events_before events before got told led (inl t) = notice_hears script st t.notice led t.leads before got t.took
hears script st events_before events before got told led (inr t) = record {
  missed = [];
  few = none_is_few;
  none_missed = λ _. refl;
  heard = t.no_notice ∙ sym (append-nil before) ∙ ap (λ (l : List Notice). before ++ (l ++ [])) (sym (entered_silent script st events_before events led t.entered));
  one = subst (λ (l : List Notice). length (l ++ []) ≤ 1) (sym (entered_silent script st events_before events led t.entered)) none_is_few;
}

-- What is whole is cut nowhere.
uncut : (k : Kind) (alarm : Option (ℤ × ℕ)) (taken : List Taken) (front : Front) (log : Fronted) → IsTakenBy k (opened alarm) taken front log
    → IsCutShort k (opened alarm) taken log
uncut k alarm taken front log by = record {
  gate = by.gate;
  sent = ([], append-nil log.sent ∙ by.sent);
  delivered = by.delivered;
  downed = by.downed;
  ends = by.ends;
}

module _ (script : Script) (first : Option ℕ) (alarm : Option (ℤ × ℕ)) where
  abbrev Over : Half Evaluated → List Event → List Notice → List Entry → Type 0
  Over = IsFrontOver script first alarm

  -- A front that has taken nothing.
  pub begins_front : (come : EventsCome) (half : Half Evaluated) → fronted half.log ≡ nothing_logged → IsHalf seen script half (fresh first alarm)
      → (inbox : List Event) (notices : List Notice) (line : List Entry) → inbox ≡ [] → notices ≡ [] → line ≡ [] → Over half inbox notices line
  begins_front come half log stands inbox notices line no_event no_notice no_entry =
      let none : (class : ℕ) → IsTakenBy (kind_in script class) (opened alarm) [] (opened alarm) (fronted half.log) = λ class. record {
        at = refl;
        gate = tt;
        sent = ap (λ (x : Fronted). x.sent) log;
        delivered = ap (λ (x : Fronted). x.delivered) log;
        downed = ap (λ (x : Fronted). x.downed) log;
        ends = ap (λ (x : Fronted). x.ends) log;
      } in
      record {
        st = fresh first alarm;
        stands = λ on. stands;
        has_taken = λ class is. record {
          taken = [];
          cut = uncut (kind_in script class) alarm [] (opened alarm) (fronted half.log) (none class);
          by = λ on. none class;
          fit = tt;
          missed = [];
          few = none_is_few;
          none_missed = λ on goes. refl;
          notices = no_notice;
        };
        classed = record {
          now = λ on. ap (λ (x : Fronted). class_by script first x) (sym log);
          stays = λ class is. ap (λ (x : Fronted). class_by script first x) (sym log) ∙ is;
        };
        has_got = subst (λ (got : List Event). HasGot half (fresh first alarm) got) (sym no_event) (come.begins half first alarm log);
        sent = ap (λ (x : Fronted). x.sent) log ∙ sym no_entry;
        runs = subst (λ (x : List Event × List Notice × List Entry). FrontRuns script first alarm half (fresh first alarm) x.0 x.1 x.2)
            (λ i. (sym no_event i, sym no_notice i, sym no_entry i)) (is_made half stands log);
      }

  module _ (old new : Half Evaluated) (inbox later_inbox : List Event) (notices later told : List Notice) (line later_line : List Entry)
      (one : Over old inbox notices line) where
    abbrev After : Type 0
    After = Over new later_inbox later later_line

    -- It can turn.
    can_as : (off : Bool) → is_stopped old ≡ off → CanTurn seen script old
    can_as true off = inl off
    can_as false on = inr (one.st, one.stands on)

    pub can_turn : CanTurn seen script old
    can_turn = can_as (is_stopped old) refl

    rests : IsStill old new (inbox, notices, line) (later_inbox, later, later_line) → After
    rests still =
        subst (λ (x : Half Evaluated × List Event × List Notice × List Entry). Over x.0 x.1 x.2 x.3)
        (λ i. (sym still.half i, sym still.no_event i, sym still.no_notice i, sym still.no_entry i)) one

    -- What is sent is logged.
    same_sent : AreSentToo line later_line old.log.sent.items new.log.sent.items → new.log.sent.items ≡ later_line
    same_sent too =
        let alike = sent_more line later_line old.log.sent.items new.log.sent.items too in
        alike.is_logged ∙ ap (λ (l : List Entry). l ++ alike.more) one.sent ∙ sym alike.is_sent

    module _ (laws : TurnSteps) (come : EventsCome) (classes : ClassComes) (too : AreSentToo line later_line old.log.sent.items new.log.sent.items)
        (on : is_stopped old ≡ false) where
      -- what it had taken before
      had : (led : Led) → IsTaken script one.st inbox later_inbox notices later told led → (class : ℕ) → IsClass led.stood.class class
          → HasTaken script first alarm class old one.st notices
      had led taken class is = one.has_taken class (laws.class script class one.st inbox later_inbox notices later told led taken is)

      -- its class is that behind what it had taken
      behind : (class : ℕ) (was : HasTaken script first alarm class old one.st notices) → one.st.class ≡ class_behind script first (events_in was.taken)
      behind class was =
          one.classed.now on ∙ ap (λ (es : List Event). class_behind script first es)
          (ap events (was.by on).delivered ∙ events_logged (kind_in script class) (opened alarm) was.taken)

      fit_then : (led : Led) → IsTaken script one.st inbox later_inbox notices later told led → (class : ℕ) (was : HasTaken script first alarm class old one.st notices)
          → IsFitIntake script first (was.taken ++ led.item)
      fit_then led taken class was =
          fit_more script first was.taken led.item was.fit
          (subst (λ (c : Option ℕ). IsFitIntake script c led.item) (behind class was) (taken_fit script one.st inbox later_inbox notices later told led taken))

      -- the notices, where the item is logged
      heard_then : (class : ℕ) (was : HasTaken script first alarm class old one.st notices) → one.st.stuck ≡ false → (led : Led) (h : Hears notices later led)
          → later ≡ notices_in (was.taken ++ led.item) ++ h.missed
      heard_then class was goes led h =
          h.heard
          ∙ ap (λ (l : List Notice). l ++ (notices_in led.item ++ h.missed))
          (was.notices ∙ ap (λ (l : List Notice). notices_in was.taken ++ l) (was.none_missed on goes) ∙ append-nil (notices_in was.taken))
          ∙ sym (append_assoc (notices_in was.taken) (notices_in led.item) h.missed)
          ∙ ap (λ (l : List Notice). l ++ h.missed) (sym (notices_more was.taken led.item))

      goes_on : Turns seen script old new one.st inbox later_inbox notices later told → After
      goes_on turns =
          let led = turns.led in
          let k = class_for led.stood.class in
          let was = had led turns.taken k.0 k.1 in
          let h = hears script one.st inbox later_inbox notices later told led turns.taken in
          record {
            st = led.stood;
            stands = λ on_then. turns.moves.half;
            has_taken = λ class is.
                let before = had led turns.taken class is in
                let now = turns.moves.taken class (opened alarm) before.taken is (before.by on) in
                record {
                  taken = before.taken ++ led.item;
                  cut = uncut (kind_in script class) alarm (before.taken ++ led.item) led.stood.front (fronted new.log) now;
                  by = λ on_then. now;
                  fit = fit_then led turns.taken class before;
                  missed = h.missed;
                  few = h.few;
                  none_missed = λ on_then free. h.none_missed free;
                  notices = heard_then class before turns.goes led h;
                };
            classed = classes.goes_on script k.0 first (opened alarm) was.taken old new one.st inbox later_inbox notices later told on one.classed (was.by on) turns k.1;
            has_got = come.goes_on script k.0 (opened alarm) was.taken old new one.st inbox later_inbox notices later told on one.has_got (was.by on) turns k.1;
            sent = same_sent too;
            runs =
                let alike = sent_more line later_line old.log.sent.items new.log.sent.items too in
                subst (λ (l : List Entry). FrontRuns script first alarm new led.stood later_inbox later l) (sym alike.is_sent)
                (turns_on old new one.st inbox later_inbox notices later told line alike.more one.runs on turns alike.is_logged);
          }

      -- The turn at which memory was wanting: its item was logged, or nothing of it.
      stopped_has : (halts : Halts script old new one.st inbox later_inbox notices later told) → (class : ℕ) → IsClass halts.led.stood.class class
          → HasTaken script first alarm class new halts.led.stood later
      stopped_has halts class is =
          let led = halts.led in
          let before = had led halts.taken class is in
          let h = hears script one.st inbox later_inbox notices later told led halts.taken in
          ⊎_elim
          (λ (same : fronted new.log ≡ fronted old.log). record {
            taken = before.taken;
            cut = subst (λ (log : Fronted). IsCutShort (kind_in script class) (opened alarm) before.taken log) (sym same) before.cut;
            by = λ on_then. absurd (true≢false (sym halts.stops.stopped ∙ on_then));
            fit = before.fit;
            missed = notices_in led.item ++ h.missed;
            few = h.one;
            none_missed = λ on_then free. absurd (true≢false (sym halts.stops.stopped ∙ on_then));
            notices = h.heard ∙ ap (λ (l : List Notice). l ++ (notices_in led.item ++ h.missed))
                (before.notices ∙ ap (λ (l : List Notice). notices_in before.taken ++ l) (before.none_missed on halts.goes) ∙ append-nil (notices_in before.taken));
          })
          (λ cut. record {
            taken = before.taken ++ led.item;
            cut = cut.1 class (opened alarm) before.taken is (before.by on);
            by = λ on_then. absurd (true≢false (sym halts.stops.stopped ∙ on_then));
            fit = fit_then led halts.taken class before;
            missed = h.missed;
            few = h.few;
            none_missed = λ on_then free. absurd (true≢false (sym halts.stops.stopped ∙ on_then));
            notices = heard_then class before halts.goes led h;
          })
          halts.stops.cut

      halts_so : Halts script old new one.st inbox later_inbox notices later told → After
      halts_so halts =
          let led = halts.led in
          let k = class_for led.stood.class in
          let was = had led halts.taken k.0 k.1 in
          record {
            st = led.stood;
            stands = λ on_then. absurd (true≢false (sym halts.stops.stopped ∙ on_then));
            has_taken = stopped_has halts;
            classed = classes.halts script k.0 first (opened alarm) was.taken old new one.st inbox later_inbox notices later told on one.classed (was.by on) halts k.1;
            has_got = come.halts script k.0 (opened alarm) was.taken old new one.st inbox later_inbox notices later told on one.has_got (was.by on) halts k.1;
            sent = same_sent too;
            runs =
                let alike = sent_more line later_line old.log.sent.items new.log.sent.items too in
                subst (λ (l : List Entry). FrontRuns script first alarm new led.stood later_inbox later l) (sym alike.is_sent)
                (halts_at old new one.st inbox later_inbox notices later told line alike.more one.runs on halts alike.is_logged);
          }

    -- What the front's own contract says of a turn.
    pub record TurnsBy (result : Result Turned NoMemory) : Type 0 where
      pub stopped : is_stopped old ≡ true → OnOk result ⊥ × IsStill old new (inbox, notices, line) (later_inbox, later, later_line)
      pub still : result ≡ Ok Idle → IsStill old new (inbox, notices, line) (later_inbox, later, later_line)
      pub ran : result ≡ Ok Ran → (st : Stood) → IsHalf seen script old st → Turns seen script old new st inbox later_inbox notices later told
      pub lost : OnErr result ((st : Stood) → IsHalf seen script old st → Halts script old new st inbox later_inbox notices later told)
      pub too : AreSentToo line later_line old.log.sent.items new.log.sent.items

    module _ (laws : TurnSteps) (come : EventsCome) (classes : ClassComes) where
      ran : is_stopped old ≡ false → (result : Result Turned NoMemory) → TurnsBy result → After
      ran on (Ok Ran) by = goes_on laws come classes by.too on (by.ran refl one.st (one.stands on))
      ran on (Ok Idle) by = rests (by.still refl)
      ran on (Err fault) by = halts_so laws come classes by.too on (by.lost one.st (one.stands on))

      turn_as : (off : Bool) → is_stopped old ≡ off → (result : Result Turned NoMemory) → TurnsBy result → After
      turn_as true off result by = rests (by.stopped off).1
      turn_as false on result by = ran on result by

      pub turn_keeps : (result : Result Turned NoMemory) → TurnsBy result → After
      turn_keeps result by = turn_as (is_stopped old) refl result by

-- A turn accounts for the events that a front gets.
use Rattle.std.proofs.Common.{◌≡◌, ◌∙◌, sym, ap, subst, refl, ⊎_elim, inl, inr, true≢false, ℕ, ◌+◌, ◌≤◌, arith, ℤ, Bool, true, false, List, [], ◌∷◌, ◌++◌, length, length-append, append_assoc, append-nil, Option, Some, None}
use Rattle.std.specs.Prelude.{IsPermutation, ◌⊎◌}
use Rattle.std.proofs.lemmas.List.Elements.{filter-append}
use Rattle.std.proofs.lemmas.List.Sorted.{IsPermutation-refl, IsPermutation-trans}
use Rattle.do_tree.specs.Tree.{Script}
use Rattle.timeline.specs.Intake as intake
use Rattle.timeline.specs.Intake.{Kind, Front, Mode, serves, down, Taken, delivered, noticed, wanted, takes, front_after, logged, delivered_by, delivered_in, downed_by, downed_in, on_notice}
use Rattle.timeline.specs.Logs.{Fronted, fronted}
use Rattle.timeline.specs.Object.{Life, idle, waiting, ended}
use Rattle.timeline.specs.declared.entry.Body.{Body}
use Rattle.timeline.specs.declared.event.Event.{Event}
use Rattle.timeline.specs.declared.notice.Notice.{Notice}
use Rattle.timeline.specs.declared.notice.Notice.TheVariants as notice
use Rattle.front_turns.specs.Paused.{Paused}
use Rattle.object_front.specs.Evaluated.{seen}
use Rattle.front_half.specs.Kinds.{is_call}
use Rattle.front_half.specs.Standing.{Stood, IsClass, IsMode, IsTakenBy, IsCutShort, kind_in, fresh, is_stopped, is_stopped_mode, nothing_logged}
use Rattle.front_half.specs.Taking.{Led, IsLedBy, fits, sticks_at, doing, does, due_at, without}
use Rattle.front_half.specs.Turning.{Lanes, IsStill, IsTaken, TakesDeferred, TakesEvent, TakesNone, TakesNotice, Turns, Halts}
use Rattle.object_front.specs.declared.evaluated.Evaluated.{Evaluated}
use Rattle.front_half.specs.declared.half.Half.{Half}
use Rattle.front_half.specs.declared.half.Mode.{Mode as HeldMode}
use Rattle.front_half.specs.declared.half.Mode.TheVariants as held
use Rattle.front_half.specs.declared.testing.Doing.{Doing}
use Rattle.front_half.specs.declared.testing.Doing.TheVariants.{Delivers, Wants, Defers, Drops, Sticks}
use Rattle.object_front.proofs.Arriving.{Arrives, arrives_new, arrives_deferred, out_call}
use Rattle.object_front.proofs.Accounted.{all_of, to_first, to_second, to_third, to_kept, to_last_kept, to_lost, out_of_kept, all_aside, part_around, part_trans}
use Rattle.object_front.specs.Came.{IsPartOf, nothing, AreCome, HasGot, EventsCome, events, calls, wanting, kept}

-- What is logged of more items stands behind what was logged.
logged_more : {X : Type 0} (by : Front → Taken → List X) (k : Kind) (f : Front) (taken more : List Taken)
    → logged by k f (taken ++ more) ≡ logged by k f taken ++ logged by k (front_after k f taken) more
logged_more {X} by k f [] more = refl
logged_more {X} by k f (t ∷ taken) more =
    ap (λ (rest : List X). by f t ++ rest) (logged_more by k (takes k f t) taken more)
    ∙ sym (append_assoc (by f t) (logged by k (takes k f t) taken) (logged by k (front_after k (takes k f t) taken) more))

pub events_more : (items more : List (ℕ × Event)) → events (items ++ more) ≡ events items ++ events more
events_more [] more = refl
events_more (item ∷ items) more = ap (λ (l : List Event). item.1 ∷ l) (events_more items more)

-- What a turn adds to the logs of events.
record Grown (k : Kind) (f : Front) (led : Led) (old new : Fronted) : Type 0 where
  delivers : events new.delivered ≡ events old.delivered ++ events (delivered_in k f led.item)
  downs : events new.downed ≡ events old.downed ++ events (downed_in k f led.item)
  drops : new.dropped ≡ old.dropped ++ led.dropped

pub grown_by : (by : Front → Taken → List (ℕ × Event)) (k : Kind) (from f : Front) (taken item : List Taken) (old new : List (ℕ × Event)) → front_after k from taken ≡ f
    → old ≡ logged by k from taken → new ≡ logged by k from (taken ++ item) → events new ≡ events old ++ events (logged by k f item)
grown_by by k from f taken item old new at before after =
    ap events (after ∙ logged_more by k from taken item)
    ∙ events_more (logged by k from taken) (logged by k (front_after k from taken) item)
    ∙ (λ i. events (sym before i) ++ events (logged by k (at i) item))

-- What is accounted for where a front stands so, and what of it is new in the log or lost: at most one event.
record Accounts (k : Kind) (f : Front) (led : Led) (got : List Event) (new : Fronted) : Type 0 where
  lost : List Event
  few : length (((lost ++ events (delivered_in k f led.item)) ++ events (downed_in k f led.item)) ++ led.dropped) ≤ 1
  none_lost : led.stood.stuck ≡ false → lost ≡ []
  come : AreCome got new (kept led.stood) lost

come_as : (got : List Event) (new : Fronted) (d w x k keeps lost : List Event) → events new.delivered ≡ d → events new.downed ≡ w → new.dropped ≡ x → keeps ≡ k
    → IsPermutation got (all_of d w x k lost) → IsPartOf (calls d ++ calls k) (calls got) → AreCome got new keeps lost
come_as got new d w x k keeps lost at_d at_w at_x at_k each order = record {
  each = subst (IsPermutation got) (λ i. all_of (sym at_d i) (sym at_w i) (sym at_x i) (sym at_k i) lost) each;
  order = subst (λ (l : List Event). IsPartOf l (calls got)) (λ i. calls (sym at_d i) ++ calls (sym at_k i)) order;
}

-- What is taken without a notice downs no call, and an event that is delivered leaves the call that waits.
no_downed : (k : Kind) (i : ℕ) (es : List Event) (said : List Body) (m : Mode) (e : Event) (wants : Bool)
    → let f : Front = record { incarnation = i; events = es; said = said; mode = m } in
    (downed_in k f (delivered e ∷ []) ≡ []) × (downed_in k f (wanted e ∷ []) ≡ [])
no_downed k i es said (serves state) e wants = (refl, refl)
no_downed k i es said (down None) e wants = (refl, refl)
no_downed k i es said (down (Some call)) e wants = (refl, refl)

wants_after : (k : Kind) (i : ℕ) (es : List Event) (said : List Body) (m : Mode) (e : Event)
    → wanting (takes k (record { incarnation = i; events = es; said = said; mode = m }) (delivered e)).mode ≡ wanting m
wants_after k i es said (serves (idle o)) e = refl
wants_after k i es said (serves (waiting o t b)) e = refl
wants_after k i es said (serves (ended c)) e = refl
wants_after k i es said (down call) e = refl

-- A notice downs the call that waits, or lets it go first, or leaves it.
notice_goes : (k kind : Kind) (i : ℕ) (es : List Event) (said : List Body) (m : Mode) (n : Notice)
    → let f : Front = record { incarnation = i; events = es; said = said; mode = m } in
    ((events (downed_in k f (noticed n ∷ [])) ≡ []) × (wanting (on_notice kind f n).mode ++ due_at m n ≡ wanting m))
    ⊎ ((call : Event) × (events (downed_in k f (noticed n ∷ [])) ≡ call ∷ []) × (wanting m ≡ call ∷ []) × (wanting (on_notice kind f n).mode ++ due_at m n ≡ []))
notice_goes k kind i es said (serves (idle o)) (notice.Read number r) = inl (refl, refl)
notice_goes k kind i es said (serves (idle o)) (notice.Taken number count) = inl (refl, refl)
notice_goes k kind i es said (serves (idle o)) (notice.Synced number) = inl (refl, refl)
notice_goes k kind i es said (serves (waiting o t b)) (notice.Read number r) = inl (refl, refl)
notice_goes k kind i es said (serves (waiting o t b)) (notice.Taken number count) = inl (refl, refl)
notice_goes k kind i es said (serves (waiting o t b)) (notice.Synced number) = inl (refl, refl)
notice_goes k kind i es said (serves (ended c)) (notice.Read number r) = inl (refl, refl)
notice_goes k kind i es said (serves (ended c)) (notice.Taken number count) = inl (refl, refl)
notice_goes k kind i es said (serves (ended c)) (notice.Synced number) = inl (refl, refl)
notice_goes k kind i es said (serves state) (notice.Fresh incarnation alarm cause) = inl (refl, refl)
notice_goes k kind i es said (serves state) (notice.Down cause before after) = inl (refl, refl)
notice_goes k kind i es said (down None) (notice.Read number r) = inl (refl, refl)
notice_goes k kind i es said (down None) (notice.Taken number count) = inl (refl, refl)
notice_goes k kind i es said (down None) (notice.Synced number) = inl (refl, refl)
notice_goes k kind i es said (down None) (notice.Fresh incarnation alarm cause) = inl (refl, refl)
notice_goes k kind i es said (down None) (notice.Down cause before after) = inl (refl, refl)
notice_goes k kind i es said (down (Some call)) (notice.Read number r) = inl (refl, refl)
notice_goes k kind i es said (down (Some call)) (notice.Taken number count) = inl (refl, refl)
notice_goes k kind i es said (down (Some call)) (notice.Synced number) = inl (refl, refl)
notice_goes k kind i es said (down (Some call)) (notice.Fresh incarnation alarm cause) = inl (refl, refl)
notice_goes k kind i es said (down (Some call)) (notice.Down cause before after) = inr (call, refl, refl, refl)

-- None, and one, are at most one.
none_is_few : 0 ≤ 1
none_is_few = omega arith

one_is_few : 1 ≤ 1
one_is_few = omega arith

module _ (script : Script) (k : Kind) (old new : Fronted) where
  abbrev d : List Event
  d = events old.delivered

  abbrev w : List Event
  w = events old.downed

  event_accounts : (st : Stood) (e : Event) (got : List Event) (case : Doing) → Arrives script st e got d w old.dropped [] → doing script st e ≡ case
      → st.stuck ≡ false → Grown k st.front (does script st e case) old new → Accounts k st.front (does script st e case) got new
  event_accounts st e got Delivers arrives is goes grown =
      let none : downed_in k st.front (delivered e ∷ []) ≡ [] = (no_downed k st.front.incarnation st.front.events st.front.said st.front.mode e true).0 in
      record {
        lost = [];
        few = subst (λ (l : List (ℕ × Event)). length ((e ∷ events l) ++ []) ≤ 1) (sym none) one_is_few;
        none_lost = λ _. refl;
        come = come_as got new (d ++ e ∷ []) w old.dropped (kept st) (kept (does script st e Delivers).stood) []
            grown.delivers
            (grown.downs ∙ ap (λ (l : List (ℕ × Event)). w ++ events l) none ∙ append-nil w)
            (grown.drops ∙ append-nil old.dropped)
            (ap (λ (l : List Event). l ++ st.deferred) (wants_after (kind_in script _) st.front.incarnation st.front.events st.front.said st.front.mode e))
            (IsPermutation-trans _ _ _ arrives.each (to_first d w old.dropped (kept st) [] e))
            (arrives.delivers is);
      }
  event_accounts st e got Wants arrives is goes grown =
      let none : downed_in k st.front (wanted e ∷ []) ≡ [] = (no_downed k st.front.incarnation st.front.events st.front.said st.front.mode e true).1 in
      record {
        lost = [];
        few = subst (λ (l : List (ℕ × Event)). length (events l ++ []) ≤ 1) (sym none) none_is_few;
        none_lost = λ _. refl;
        come = come_as got new d w old.dropped (e ∷ st.deferred) (kept (does script st e Wants).stood) []
            (grown.delivers ∙ append-nil d)
            (grown.downs ∙ ap (λ (l : List (ℕ × Event)). w ++ events l) none ∙ append-nil w)
            (grown.drops ∙ append-nil old.dropped)
            refl
            (subst (λ (l : List Event). IsPermutation got (all_of d w old.dropped (e ∷ (l ++ st.deferred)) [])) arrives.none_waits
            (IsPermutation-trans _ _ _ arrives.each (to_kept d w old.dropped (kept st) [] e)))
            (arrives.wants is);
      }
  event_accounts st e got Defers arrives is goes grown = record {
    lost = [];
    few = none_is_few;
    none_lost = λ _. refl;
    come = come_as got new d w old.dropped (kept st ++ e ∷ []) (kept (does script st e Defers).stood) []
        (grown.delivers ∙ append-nil d)
        (grown.downs ∙ append-nil w)
        (grown.drops ∙ append-nil old.dropped)
        (sym (append_assoc (wanting st.front.mode) st.deferred (e ∷ [])))
        (IsPermutation-trans _ _ _ arrives.each (to_last_kept d w old.dropped (kept st) [] e))
        (arrives.defers is);
  }
  event_accounts st e got Drops arrives is goes grown = record {
    lost = [];
    few = one_is_few;
    none_lost = λ _. refl;
    come = come_as got new d w (old.dropped ++ e ∷ []) (kept st) (kept st) []
        (grown.delivers ∙ append-nil d)
        (grown.downs ∙ append-nil w)
        grown.drops
        refl
        (IsPermutation-trans _ _ _ arrives.each (to_third d w old.dropped (kept st) [] e))
        arrives.order;
  }
  event_accounts st e got Sticks arrives is goes grown = record {
    lost = e ∷ [];
    few = one_is_few;
    none_lost = λ stuck. absurd (true≢false stuck);
    come = come_as got new d w old.dropped (kept st) (kept st) (e ∷ [])
        (grown.delivers ∙ append-nil d)
        (grown.downs ∙ append-nil w)
        (grown.drops ∙ append-nil old.dropped)
        refl
        (IsPermutation-trans _ _ _ arrives.each (to_lost d w old.dropped (kept st) [] e))
        arrives.order;
  }

  module _ (st : Stood) (before : List Event) (goes : st.stuck ≡ false) (each : IsPermutation before (all_of d w old.dropped (kept st) []))
      (order : IsPartOf (calls d ++ calls (kept st)) (calls before)) where
    notice_accounts : (n : Notice) (led : Led) → IsLedBy script st n led → Grown k st.front led old new → Accounts k st.front led before new
    notice_accounts n _ (sticks_at unfit) grown = record {
      lost = [];
      few = none_is_few;
      none_lost = λ _. refl;
      come = come_as before new d w old.dropped (kept st) (kept st) [] (grown.delivers ∙ append-nil d) (grown.downs ∙ append-nil w) (grown.drops ∙ append-nil old.dropped) refl each order;
    }
    notice_accounts n _ (fits fit) grown =
        let kind : Kind = kind_in script _ in
        let after : List Event = wanting (on_notice kind st.front n).mode in
        let joined : after ++ (due_at st.front.mode n ++ st.deferred) ≡ (after ++ due_at st.front.mode n) ++ st.deferred =
        sym (append_assoc after (due_at st.front.mode n) st.deferred) in
        ⊎_elim
        (λ leaves. record {
          lost = [];
          few = subst (λ (l : List Event). length (l ++ []) ≤ 1) (sym leaves.0) none_is_few;
          none_lost = λ _. refl;
          come = come_as before new d w old.dropped (kept st) _ []
              (grown.delivers ∙ append-nil d)
              (grown.downs ∙ ap (λ (l : List Event). w ++ l) leaves.0 ∙ append-nil w)
              (grown.drops ∙ append-nil old.dropped)
              (joined ∙ ap (λ (l : List Event). l ++ st.deferred) leaves.1)
              each order;
        })
        (λ downs.
        let call : Event = downs.0 in
        let was : kept st ≡ call ∷ st.deferred = ap (λ (l : List Event). l ++ st.deferred) downs.2 in
        record {
          lost = [];
          few = subst (λ (l : List Event). length (l ++ []) ≤ 1) (sym downs.1) one_is_few;
          none_lost = λ _. refl;
          come = come_as before new d (w ++ call ∷ []) old.dropped st.deferred _ []
              (grown.delivers ∙ append-nil d)
              (grown.downs ∙ ap (λ (l : List Event). w ++ l) downs.1)
              (grown.drops ∙ append-nil old.dropped)
              (joined ∙ ap (λ (l : List Event). l ++ st.deferred) downs.3)
              (IsPermutation-trans _ _ _ (subst (λ (l : List Event). IsPermutation before (all_of d w old.dropped l [])) was each)
              (IsPermutation-trans _ _ _ (out_of_kept d w old.dropped st.deferred [] call) (to_second d w old.dropped st.deferred [] call)))
              (part_trans _ _ _ (out_call (is_call call) (calls d) (calls st.deferred) call)
              (subst (λ (l : List Event). IsPartOf (calls d ++ calls l) (calls before)) was order));
        })
        (notice_goes k kind st.front.incarnation st.front.events st.front.said st.front.mode n)

    turn_accounts : (got : List Event) (notices_before notices told : List Notice) (led : Led) → IsTaken script st before got notices_before notices told led
        → Grown k st.front led old new → Accounts k st.front led got new
    turn_accounts got notices_before notices told led taken grown =
        ⊎_elim
        (λ (by : TakesNotice script st before got notices_before notices led).
        subst (λ (l : List Event). Accounts k st.front led l new) (sym by.no_event) (notice_accounts by.notice led by.leads grown))
        (λ (by : TakesNone script st before got notices_before notices told led). ⊎_elim
        (λ (enters : TakesDeferred script st before got led).
        subst (λ (l : List Event). Accounts k st.front led l new) (sym enters.no_event)
        (subst (λ (other : Led). Accounts k st.front other before new) (sym enters.leads)
        (event_accounts (without st enters.place) enters.event before _
        (arrives_deferred script st enters.event before d w old.dropped [] each order enters.free enters.place enters.first) refl goes
        (subst (λ (other : Led). Grown k st.front other old new) enters.leads grown))))
        (λ (enters : TakesEvent script st before got led).
        subst (λ (l : List Event). Accounts k st.front led l new) (sym enters.took)
        (subst (λ (other : Led). Accounts k st.front other (before ++ enters.event ∷ []) new) (sym enters.leads)
        (event_accounts st enters.event (before ++ enters.event ∷ []) _
        (arrives_new script st enters.event before d w old.dropped [] each order enters.free enters.none) refl goes
        (subst (λ (other : Led). Grown k st.front other old new) enters.leads grown))))
        by.entered)
        taken

few_of : (first rest : List Event) → length (first ++ rest) ≤ 1 → length first ≤ 1
few_of first rest few = let both : length first + length rest ≤ 1 = subst (λ (n : ℕ). n ≤ 1) (length-append first rest) few in omega arith

few_lost : (k : Kind) (f : Front) (led : Led) (got : List Event) (new : Fronted) (accounts : Accounts k f led got new) → length accounts.lost ≤ 1
few_lost k f led got new accounts =
    few_of accounts.lost (events (delivered_in k f led.item)) (few_of _ (events (downed_in k f led.item)) (few_of _ led.dropped accounts.few))

-- An account by which at most one event is lost.
abbrev Closed : List Event → Fronted → Led → Type 0
Closed got log led = (lost : List Event) × (length lost ≤ 1) × AreCome got log (kept led.stood) lost

-- What a turn accounts for where it was logged; and where nothing of it was, so that the event that would have been is lost.
module _ (script : Script) (k : Kind) (old : Fronted) (st : Stood) (before : List Event) (goes : st.stuck ≡ false)
    (start : AreCome before old (kept st) []) (got : List Event) (notices_before notices told : List Notice) (led : Led)
    (taken : IsTaken script st before got notices_before notices told led) where
  by_turn : (new : Fronted) → Grown k st.front led old new → Accounts k st.front led got new
  by_turn new grown = turn_accounts script k old new st before goes start.each start.order got notices_before notices told led taken grown

  -- The log as it would be.
  abbrev whole : Fronted
  whole = record old {
    delivered = old.delivered ++ delivered_in k st.front led.item;
    downed = old.downed ++ downed_in k st.front led.item;
    dropped = old.dropped ++ led.dropped;
  }

  as_whole : Grown k st.front led old whole
  as_whole = record { delivers = events_more old.delivered _; downs = events_more old.downed _; drops = refl }

  where_unlogged : Closed got old led
  where_unlogged =
      let a : Accounts k st.front led got whole = by_turn whole as_whole in
      let was : List Event = events old.delivered in
      let more : List Event = events (delivered_in k st.front led.item) in
      let was_downed : List Event = events old.downed in
      let downs : List Event = events (downed_in k st.front led.item) in
      let keeps : List Event = kept led.stood in (
        ((a.lost ++ more) ++ downs) ++ led.dropped,
        a.few,
        record {
          each = IsPermutation-trans _ _ _
              (subst (IsPermutation got) (λ i. all_of (as_whole.delivers i) (as_whole.downs i) (old.dropped ++ led.dropped) keeps a.lost) a.come.each)
              (all_aside was more was_downed downs old.dropped led.dropped keeps a.lost);
          order = part_trans _ _ _ (part_around (calls was) (calls more) (calls keeps))
              (subst (λ (l : List Event). IsPartOf (l ++ calls keeps) (calls got)) (ap calls as_whole.delivers ∙ filter-append is_call was more) a.come.order);
        },
      )

-- A front that stands at what it has taken isn't stopped.
pub mode_goes : {T : Type 0} (see : T → Paused) (l : Life) (m : HeldMode T) (mode : Mode) → IsMode see l m mode → is_stopped_mode m ≡ false
mode_goes {T} see l (held.Serves s) mode is = refl
mode_goes {T} see l (held.Down call) mode is = refl
mode_goes {T} see l held.Stopped (serves state) is = absurd is
mode_goes {T} see l held.Stopped (down call) is = absurd is

-- What was accounted for before a turn.
module _ (old : Half Evaluated) (st : Stood) (before : List Event) (runs : is_stopped old ≡ false) (has : HasGot old st before) (goes : st.stuck ≡ false) where
  come_before : AreCome before (fronted old.log) (kept st) []
  come_before = subst (AreCome before (fronted old.log) (kept st)) (has.none_lost runs goes) has.come

begins : (half : Half Evaluated) (class : Option ℕ) (alarm : Option (ℤ × ℕ)) → fronted half.log ≡ nothing_logged → HasGot half (fresh class alarm) []
begins half class alarm unlogged = record {
  lost = [];
  few = none_is_few;
  none_lost = λ _ _. refl;
  come = subst (λ (log : Fronted). AreCome [] log [] []) (sym unlogged) (record { each = IsPermutation-refl []; order = nothing });
}

goes_on : (script : Script) (class : ℕ) (from : intake.Front) (taken : List Taken) (old new : Half Evaluated) (st : Stood)
    (before got : List Event) (notices_before notices told : List Notice) → is_stopped old ≡ false → HasGot old st before
    → IsTakenBy (kind_in script class) from taken st.front (fronted old.log)
    → (turns : Turns seen script old new st before got notices_before notices told) → IsClass turns.led.stood.class class
    → HasGot new turns.led.stood got
goes_on script class from taken old new st before got notices_before notices told runs has by turns is =
    let k : Kind = kind_in script class in
    let led : Led = turns.led in
    let now : IsTakenBy k from (taken ++ led.item) led.stood.front (fronted new.log) = turns.moves.taken class from taken is by in
    let start : AreCome before (fronted old.log) (kept st) [] = come_before old st before runs has turns.goes in
    let a : Accounts k st.front led got (fronted new.log) =
    by_turn script k (fronted old.log) st before turns.goes start got notices_before notices told led turns.taken (fronted new.log) (record {
      delivers = grown_by (λ f t. delivered_by f.incarnation t) k from st.front taken led.item _ _ by.at by.delivered now.delivered;
      downs = grown_by (λ f t. downed_by f.incarnation f.mode t) k from st.front taken led.item _ _ by.at by.downed now.downed;
      drops = turns.moves.dropped;
    }) in
    record { lost = a.lost; few = few_lost k st.front led got (fronted new.log) a; none_lost = λ _ stuck. a.none_lost stuck; come = a.come }

halts : (script : Script) (class : ℕ) (from : intake.Front) (taken : List Taken) (old new : Half Evaluated) (st : Stood)
    (before got : List Event) (notices_before notices told : List Notice) → is_stopped old ≡ false → HasGot old st before
    → IsTakenBy (kind_in script class) from taken st.front (fronted old.log)
    → (stops : Halts script old new st before got notices_before notices told) → IsClass stops.led.stood.class class
    → HasGot new stops.led.stood got
halts script class from taken old new st before got notices_before notices told runs has by stops is =
    let k : Kind = kind_in script class in
    let led : Led = stops.led in
    let start : AreCome before (fronted old.log) (kept st) [] = come_before old st before runs has stops.goes in
    let ends : Closed got (fronted new.log) led → HasGot new led.stood got = λ closed. record {
      lost = closed.0;
      few = closed.1;
      none_lost = λ goes _. absurd (true≢false (sym stops.stops.stopped ∙ goes));
      come = closed.2;
    } in
    ⊎_elim
    (λ same. ends (subst (λ (log : Fronted). Closed got log led) (sym same)
    (where_unlogged script k (fronted old.log) st before stops.goes start got notices_before notices told led stops.taken)))
    (λ cut.
    let now : IsCutShort k from (taken ++ led.item) (fronted new.log) = cut.1 class from taken is by in
    let a : Accounts k st.front led got (fronted new.log) =
    by_turn script k (fronted old.log) st before stops.goes start got notices_before notices told led stops.taken (fronted new.log) (record {
      delivers = grown_by (λ f t. delivered_by f.incarnation t) k from st.front taken led.item _ _ by.at by.delivered now.delivered;
      downs = grown_by (λ f t. downed_by f.incarnation f.mode t) k from st.front taken led.item _ _ by.at by.downed now.downed;
      drops = cut.0;
    }) in
    ends (a.lost, few_lost k st.front led got (fronted new.log) a, a.come))
    stops.stops.cut

rests : (old new : Half Evaluated) (st : Stood) (before after : Lanes) → HasGot old st before.0 → IsStill old new before after → HasGot new st after.0
rests old new st before after has still = subst (λ (x : Half Evaluated × List Event). HasGot x.0 st x.1) (λ i. (sym still.half i, sym still.no_event i)) has

pub events_come : EventsCome
events_come = record { begins = begins; goes_on = goes_on; halts = halts; rests = rests }

-- What a front sends from here on is of its incarnation or of a later one.
use Rattle.std.proofs.Common.{◌≡◌, ◌∙◌, ap, sym, refl, subst, inl, inr, ⊎_elim, true≢false, ◌⊎◌, ℕ, suc, ◌≤◌, List, [], ◌∷◌, ◌++◌, append-nil, append_assoc, arith}
use Rattle.std.proofs.lemmas.List.{append_cancel_left}
use Rattle.std.specs.Prelude.{Bool, true, false}
use Rattle.do_tree.specs.Tree.{Script}
use Rattle.timeline.specs.Intake.{Kind, Front, FitsMode, Taken, noticed, front_after, numbered, takes, sent_by, delivered_in, downed_in, ends_in}
use Rattle.timeline.specs.Logs.{Fronted, fronted}
use Rattle.timeline.specs.declared.entry.Body.{Body}
use Rattle.timeline.specs.declared.entry.Entry.{Entry}
use Rattle.timeline.specs.declared.event.Event.{Event}
use Rattle.timeline.specs.declared.notice.Notice.{Notice}
use Rattle.front_half.proofs.Items.{IsItemOf, takes_none, delivers_it, wants_it, event_item}
use Rattle.front_half.specs.Moving.{Stops}
use Rattle.front_half.specs.Standing.{Stood, IsClass, IsCutShort, IsTakenBy, is_stopped, kind_in}
use Rattle.front_half.specs.Taking.{Led, IsLedBy, fits, sticks_at, on_event, without}
use Rattle.front_half.specs.Turning.{IsEntered, IsTaken}
use Rattle.object_front.specs.declared.evaluated.Evaluated.{Evaluated}
use Rattle.front_half.specs.declared.half.Half.{Half}
use Rattle.object_history.proofs.Growing.{logs_grow}
use Rattle.front_history.proofs.Items.{turn_class}
use Rattle.object_core.proofs.Forward.{FrontGoes, stays, moves, FrontSteps, turned, halted}
use Rattle.object_core.proofs.Freeing.{same_first}
use Rattle.object_core.proofs.Hearing.{not_none}
use Rattle.object_core.proofs.Serving.{after_on}

-- Each is of this incarnation or of a later one.
abbrev pub AreFrom : ℕ → List Entry → Type 0
AreFrom least [] = Unit {0}
AreFrom least (e ∷ entries) = (least ≤ e.incarnation) × AreFrom least entries

-- Such entries, and others.
from_more : (least : ℕ) (xs ys : List Entry) → AreFrom least xs → AreFrom least ys → AreFrom least (xs ++ ys)
from_more least [] ys one other = other
from_more least (x ∷ xs) ys one other = (one.0, from_more least xs ys one.1 other)

-- The first of such entries.
from_first : (least : ℕ) (xs ys : List Entry) → AreFrom least (xs ++ ys) → AreFrom least xs
from_first least [] ys all = tt
from_first least (x ∷ xs) ys all = (all.0, from_first least xs ys all.1)

-- Entries that are numbered on.
from_numbered : (least i number : ℕ) (bodies : List Body) → least ≤ i → AreFrom least (numbered i number bodies)
from_numbered least i number [] less = tt
from_numbered least i number (b ∷ bodies) less = (less, from_numbered least i (suc number) bodies less)

-- Entries of a later incarnation are of this one or of a later one too.
from_weaker : (less least : ℕ) (xs : List Entry) → less ≤ least → AreFrom least xs → AreFrom less xs
from_weaker less least [] is all = tt
from_weaker less least (x ∷ xs) is all = (omega (arith, is, all.0), from_weaker less least xs is all.1)

-- The first of nothing is nothing.
none_of : {X : Type 0} (xs ys : List X) → xs ++ ys ≡ [] → xs ≡ []
none_of [] ys is = refl
none_of (x ∷ xs) ys is = absurd (not_none x (xs ++ ys) is)

-- ---- the item of a turn
data OneItem : List Taken → Type 0 where
  no_item : OneItem []
  an_item : (t : Taken) → OneItem (t ∷ [])

-- A turn takes one item, or none.
of_event : (e : Event) (item : List Taken) → IsItemOf e item → OneItem item
of_event e _ takes_none = no_item
of_event e _ delivers_it = an_item _
of_event e _ (wants_it call) = an_item _

of_led : (script : Script) (st : Stood) (e : Event) (led : Led) → led ≡ on_event script st e → OneItem led.item
of_led script st e led is = subst (λ (l : Led). OneItem l.item) (sym is) (of_event e (on_event script st e).item (event_item script st e))

of_entered : (script : Script) (st : Stood) (events later : List Event) (led : Led) → IsEntered script st events later led → OneItem led.item
of_entered script st events later led (inl t) = of_led script (without st t.place) t.event led t.leads
of_entered script st events later led (inr t) = of_led script st t.event led t.leads

of_notice : (script : Script) (st : Stood) (n : Notice) (led : Led) → IsLedBy script st n led → OneItem led.item
of_notice script st n _ (fits so) = an_item (noticed n)
of_notice script st n _ (sticks_at unfit) = no_item

of_taken : (script : Script) (st : Stood) (events later : List Event) (before got told : List Notice) (led : Led)
    → IsTaken script st events later before got told led → OneItem led.item
of_taken script st events later before got told led (inl t) = of_notice script st t.notice led t.leads
of_taken script st events later before got told led (inr t) = of_entered script st events later led t.entered

-- What is sent of an item more, behind what was sent.
record SaysMore (k : Kind) (from : Front) (taken item : List Taken) : Type 0 where
  more : List Entry
  sent : sent_by k from (taken ++ item) ≡ sent_by k from taken ++ more
  own : AreFrom (front_after k (front_after k from taken) item).incarnation more
  none : item ≡ [] → more ≡ []

-- So much an item makes a front send.
says_more : (k : Kind) (from : Front) (taken item : List Taken) → OneItem item → SaysMore k from taken item
says_more k from taken _ no_item = record {
  more = [];
  sent = ap (λ (ts : List Taken). sent_by k from ts) (append-nil taken) ∙ sym (append-nil (sent_by k from taken));
  own = tt;
  none = λ is. refl;
}
says_more k from taken _ (an_item t) =
    let log : List Taken → Fronted = λ ts. record {
      delivered = delivered_in k from ts;
      downed = downed_in k from ts;
      dropped = [];
      sent = sent_by k from ts;
      ends = ends_in k from ts;
    } in
    let grows = logs_grow k from taken t (log taken) (log (taken ++ t ∷ [])) (record { sent = refl; delivered = refl; downed = refl; ends = refl })
    (record { sent = refl; delivered = refl; downed = refl; ends = refl }) in
    record {
      more = numbered (takes k (front_after k from taken) t).incarnation _ grows.more;
      sent = grows.sent;
      own = from_numbered _ _ _ grows.more (omega arith);
      none = λ is. absurd (not_none t [] is);
    }

module _ (script : Script) (class : ℕ) (from : Front) where
  abbrev k : Kind
  k = kind_in script class

  -- What a turn makes of a front, as far as its incarnation goes.
  pub record Sends (f : Front) (heard : List Notice) (sent : List Entry) (new : Half Evaluated) (next : Stood) : Type 0 where
    pub item : List Taken
    pub own : AreFrom (front_after k f item).incarnation sent
    pub goes : is_stopped new ≡ false → (after : List Taken) × IsTakenBy k from after next.front (fronted new.log)
    pub at : is_stopped new ≡ false → front_after k f item ≡ next.front
    pub by_notice : (n : Notice) → heard ≡ n ∷ [] → ((item ≡ noticed n ∷ []) × FitsMode f.said f.mode n) ⊎ ((sent ≡ []) × (next.stuck ≡ true))

  module _ (old new : Half Evaluated) (st : Stood) (events later : List Event) (heard : List Notice) (sent : List Entry)
      (logged : new.log.sent.items ≡ old.log.sent.items ++ sent) (taken : List Taken) (by : IsTakenBy k from taken st.front (fronted old.log))
      (before got told : List Notice) (came : got ≡ before ++ heard) (led : Led) (took : IsTaken script st events later before got told led) where
    says : SaysMore k from taken led.item
    says = says_more k from taken led.item (of_taken script st events later before got told led took)

    -- Of what it says so much wasn't sent.
    all_sent : (unsent : List Entry) → new.log.sent.items ++ unsent ≡ sent_by k from (taken ++ led.item) → sent ++ unsent ≡ says.more
    all_sent unsent is =
        append_cancel_left old.log.sent.items (sent ++ unsent) says.more
        (sym (append_assoc old.log.sent.items sent unsent) ∙ ap (λ (l : List Entry). l ++ unsent) (sym logged) ∙ is ∙ says.sent
        ∙ ap (λ (l : List Entry). l ++ says.more) (sym by.sent))

    -- What was sent of it is of the incarnation to which the item leads.
    own_sent : (unsent : List Entry) → sent ++ unsent ≡ says.more → AreFrom (front_after k st.front led.item).incarnation sent
    own_sent unsent is =
        from_first _ sent unsent
        (subst (λ (l : List Entry). AreFrom (front_after k st.front led.item).incarnation l) (sym is)
        (subst (λ (f : Front). AreFrom (front_after k f led.item).incarnation says.more) by.at says.own))

    -- Without an item nothing is sent.
    none_sent : (unsent : List Entry) → sent ++ unsent ≡ says.more → led.item ≡ [] → sent ≡ []
    none_sent unsent is none = none_of sent unsent (is ∙ says.none none)

    -- A notice that fits is the item; else the front stands still.
    notice_by : (n m : Notice) → m ≡ n → IsLedBy script st m led → (led.item ≡ [] → sent ≡ [])
        → ((led.item ≡ noticed n ∷ []) × FitsMode st.front.said st.front.mode n) ⊎ ((sent ≡ []) × (led.stood.stuck ≡ true))
    notice_by n m same leads none = of led leads none
      where
        of : (l : Led) → IsLedBy script st m l → (l.item ≡ [] → sent ≡ [])
            → ((l.item ≡ noticed n ∷ []) × FitsMode st.front.said st.front.mode n) ⊎ ((sent ≡ []) × (l.stood.stuck ≡ true))
        of _ (fits so) none = inl (ap (λ (x : Notice). noticed x ∷ []) same, subst (λ (x : Notice). FitsMode st.front.said st.front.mode x) same so)
        of _ (sticks_at unfit) none = inr (none refl, refl)

    by_notice_of : (n : Notice) → heard ≡ n ∷ [] → (led.item ≡ [] → sent ≡ []) → IsTaken script st events later before got told led
        → ((led.item ≡ noticed n ∷ []) × FitsMode st.front.said st.front.mode n) ⊎ ((sent ≡ []) × (led.stood.stuck ≡ true))
    by_notice_of n is none (inl t) =
        let same : t.notice ∷ [] ≡ n ∷ [] = append_cancel_left before (t.notice ∷ []) (n ∷ []) (sym t.took ∙ came ∙ ap (λ (l : List Notice). before ++ l) is) in
        notice_by n t.notice (same_first t.notice n [] [] same) t.leads none
    by_notice_of n is none (inr t) =
        absurd (not_none n [] (sym is ∙ append_cancel_left before heard [] (sym came ∙ t.no_notice ∙ sym (append-nil before))))

    -- The front goes on.
    turn_sends : IsTakenBy k from (taken ++ led.item) led.stood.front (fronted new.log) → Sends st.front heard sent new led.stood
    turn_sends now =
        let all = all_sent [] (append-nil new.log.sent.items ∙ now.sent) in
        record {
          item = led.item;
          own = own_sent [] all;
          goes = λ on. (taken ++ led.item, now);
          at = λ on. at_item led.item led.stood.front now.at;
          by_notice = λ n is. by_notice_of n is (none_sent [] all) took;
        }
      where
        at_item : (item : List Taken) (g : Front) → front_after k from (taken ++ item) ≡ g → front_after k st.front item ≡ g
        at_item item g is = ap (λ (f : Front). front_after k f item) (sym by.at) ∙ after_more from taken item ∙ is
          where
            after_more : (f : Front) (ts more : List Taken) → front_after k (front_after k f ts) more ≡ front_after k f (ts ++ more)
            after_more f [] more = refl
            after_more f (t ∷ ts) more = after_more (takes k f t) ts more

    -- Memory was wanting.
    halt_sends : IsClass led.stood.class class → Stops script old new led st → Sends st.front heard sent new led.stood
    halt_sends is_class stops =
        let off : is_stopped new ≡ false → ⊥ = λ on. true≢false (sym stops.stopped ∙ on) in
        ⊎_elim
        (λ (same : fronted new.log ≡ fronted old.log).
        let none : sent ≡ [] = append_cancel_left old.log.sent.items sent [] (sym logged ∙ ap (λ (x : Fronted). x.sent) same ∙ sym (append-nil old.log.sent.items)) in
        record {
          item = led.item;
          own = subst (λ (l : List Entry). AreFrom (front_after k st.front led.item).incarnation l) (sym none) tt;
          goes = λ on. absurd (off on);
          at = λ on. absurd (off on);
          by_notice = λ n is. by_notice_of n is (λ _. none) took;
        })
        (λ cut.
        let short : IsCutShort k from (taken ++ led.item) (fronted new.log) = cut.1 class from taken is_class by in
        let all = all_sent short.sent.0 short.sent.1 in
        record {
          item = led.item;
          own = own_sent short.sent.0 all;
          goes = λ on. absurd (off on);
          at = λ on. absurd (off on);
          by_notice = λ n is. by_notice_of n is (none_sent short.sent.0 all) took;
        })
        stops.cut

  -- So each turn is.
  pub step_sends : (old new : Half Evaluated) (st next : Stood) (events later : List Event) (heard : List Notice) (sent : List Entry)
      → FrontSteps script old new st events later heard next → new.log.sent.items ≡ old.log.sent.items ++ sent → IsClass next.class class
      → (taken : List Taken) → IsTakenBy k from taken st.front (fronted old.log) → Sends st.front heard sent new next
  step_sends old new st _ events later heard sent (turned before got told came turns) logged is_class taken by =
      turn_sends old new st events later heard sent logged taken by before got told came turns.led turns.taken (turns.moves.taken class from taken is_class by)
  step_sends old new st _ events later heard sent (halted before got told came halts) logged is_class taken by =
      halt_sends old new st events later heard sent logged taken by before got told came halts.led halts.taken is_class halts.stops

  -- Its class was the same before.
  pub step_class : (old new : Half Evaluated) (st next : Stood) (events later : List Event) (heard : List Notice)
      → FrontSteps script old new st events later heard next → IsClass next.class class → IsClass st.class class
  step_class old new st _ events later heard (turned before got told came turns) is =
      turn_class script class st events later before got told turns.led turns.taken is
  step_class old new st _ events later heard (halted before got told came halts) is =
      turn_class script class st events later before got told halts.led halts.taken is

  -- It did not stand still before.
  step_goes : (old new : Half Evaluated) (st next : Stood) (events later : List Event) (heard : List Notice)
      → FrontSteps script old new st events later heard next → st.stuck ≡ false
  step_goes old new st _ events later heard (turned before got told came turns) = turns.goes
  step_goes old new st _ events later heard (halted before got told came halts) = halts.goes

  module _ (last : Half Evaluated) (end : Stood) (all : List Event) (is_class : IsClass end.class class) where
    abbrev Goes : ℕ → Half Evaluated → Stood → List Event → List Notice → List Entry → Type 0
    Goes = FrontGoes script last end all

    -- So it was from the first turn on.
    pub goes_class : (n : ℕ) (half : Half Evaluated) (st : Stood) (events : List Event) (heard : List Notice) (sent : List Entry)
        → Goes n half st events heard sent → IsClass st.class class
    goes_class _ _ _ _ _ _ stays = is_class
    goes_class _ _ _ _ _ _ (moves n old new st next events later heard more sent after on logged step goes) =
        step_class old new st next events later heard step (goes_class n new next later more after goes)

    -- One that is stopped, or stands still, sends nothing.
    rests_off : (n : ℕ) (half : Half Evaluated) (st : Stood) (events : List Event) (heard : List Notice) (sent : List Entry)
        → Goes n half st events heard sent → is_stopped half ≡ true → sent ≡ []
    rests_off _ _ _ _ _ _ stays off = refl
    rests_off _ _ _ _ _ _ (moves n old new st next events later heard more sent after on logged step goes) off = absurd (true≢false (sym off ∙ on))

    rests_stuck : (n : ℕ) (half : Half Evaluated) (st : Stood) (events : List Event) (heard : List Notice) (sent : List Entry)
        → Goes n half st events heard sent → st.stuck ≡ true → sent ≡ []
    rests_stuck _ _ _ _ _ _ stays stuck = refl
    rests_stuck _ _ _ _ _ _ (moves n old new st next events later heard more sent after on logged step goes) stuck =
        absurd (true≢false (sym stuck ∙ step_goes old new st next events later heard step))

    -- What it sends behind a turn is of where this leads.
    then_from : (n : ℕ) (new : Half Evaluated) (st next : Stood) (later : List Event) (more : List Notice) (after : List Entry) (heard : List Notice)
        (sent : List Entry) → Goes n new next later more after → (s : Sends st.front heard sent new next)
        → ((ts : List Taken) → IsTakenBy k from ts next.front (fronted new.log) → AreFrom next.front.incarnation after)
        → AreFrom (front_after k st.front s.item).incarnation after
    then_from n new st next later more after heard sent goes s on = by (is_stopped new) refl
      where
        by : (off : Bool) → is_stopped new ≡ off → AreFrom (front_after k st.front s.item).incarnation after
        by true off = subst (λ (l : List Entry). AreFrom (front_after k st.front s.item).incarnation l) (sym (rests_off n new next later more after goes off)) tt
        by false goes_on =
            let t = s.goes goes_on in
            subst (λ (f : Front). AreFrom f.incarnation after) (sym (s.at goes_on)) (on t.0 t.1)

    -- All that it sends is of its incarnation or of a later one.
    goes_from : (n : ℕ) (half : Half Evaluated) (st : Stood) (events : List Event) (heard : List Notice) (sent : List Entry)
        → Goes n half st events heard sent → (taken : List Taken) → IsTakenBy k from taken st.front (fronted half.log)
        → AreFrom st.front.incarnation sent
    goes_from _ _ _ _ _ _ stays taken by = tt
    goes_from _ _ _ _ _ _ (moves n old new st next events later heard more sent after on logged step goes) taken by =
        let s = step_sends old new st next events later heard sent step logged (goes_class n new next later more after goes) taken by in
        let more_of : st.front.incarnation ≤ (front_after k st.front s.item).incarnation = after_on k s.item st.front in
        from_more st.front.incarnation sent after (from_weaker _ _ sent more_of s.own)
        (from_weaker _ _ after more_of (then_from n new st next later more after heard sent goes s (λ ts was. goes_from n new next later more after goes ts was)))

    -- Where it takes a notice first, it sends from there on, or nothing.
    pub first_from : (n : ℕ) (old new : Half Evaluated) (st next : Stood) (events later : List Event) (heard more : List Notice) (sent after : List Entry)
        → new.log.sent.items ≡ old.log.sent.items ++ sent → FrontSteps script old new st events later heard next → Goes n new next later more after
        → (taken : List Taken) → IsTakenBy k from taken st.front (fronted old.log) → (m : Notice) → heard ≡ m ∷ []
        → (FitsMode st.front.said st.front.mode m × AreFrom (takes k st.front (noticed m)).incarnation (sent ++ after)) ⊎ (sent ++ after ≡ [])
    first_from n old new st next events later heard more sent after logged step goes taken by m is = of (s.by_notice m is)
      where
        s : Sends st.front heard sent new next
        s = step_sends old new st next events later heard sent step logged (goes_class n new next later more after goes) taken by

        from_there : AreFrom (front_after k st.front s.item).incarnation (sent ++ after)
        from_there = from_more _ sent after s.own (then_from n new st next later more after heard sent goes s (λ ts was. goes_from n new next later more after goes ts was))

        of : ((s.item ≡ noticed m ∷ []) × FitsMode st.front.said st.front.mode m) ⊎ ((sent ≡ []) × (next.stuck ≡ true))
            → (FitsMode st.front.said st.front.mode m × AreFrom (takes k st.front (noticed m)).incarnation (sent ++ after)) ⊎ (sent ++ after ≡ [])
        of (inl took) = inl (took.1, subst (λ (ts : List Taken). AreFrom (front_after k st.front ts).incarnation (sent ++ after)) took.0 from_there)
        of (inr stuck) = inr (ap (λ (l : List Entry). l ++ after) stuck.0 ∙ rests_stuck n new next later more after goes stuck.1)

-- What a turn takes is one item of an intake, or none, and its class stays what it was.
use Rattle.std.proofs.Common.{◌≡◌, ◌∙◌, ap, sym, subst, inl, inr, ℕ, true, List, [], ◌∷◌, ◌++◌, append_assoc, true≢false}
use Rattle.std.proofs.lemmas.List.{append_cancel_left}
use Rattle.do_tree.specs.Tree.{Script}
use Rattle.timeline.specs.Intake.{FitsMode, Taken, noticed, delivered, wanted}
use Rattle.timeline.specs.declared.event.Event.{Event}
use Rattle.timeline.specs.declared.event.Event.TheVariants as event
use Rattle.timeline.specs.declared.notice.Notice.{Notice}
use Rattle.front_half.proofs.Items.{IsItemOf, takes_none, delivers_it, wants_it, event_item, event_class}
use Rattle.front_half.specs.Kinds.{is_call}
use Rattle.front_half.specs.Standing.{Stood, IsClass}
use Rattle.front_half.specs.Taking.{Led, IsLedBy, fits, sticks_at, on_event, without}
use Rattle.front_half.specs.Turning.{IsTaken, IsEntered}
use Rattle.object_history.specs.Pair.{IsCall}
use Rattle.front_history.proofs.Keeping.{TakesOf, no_item, an_item}

-- What asks for a mounting is a call.
is_a_call : (e : Event) → is_call e ≡ true → IsCall e
is_a_call (event.Call from method args depth at) is = tt
is_a_call (event.Bind identity) is = absurd (true≢false (sym is))
is_a_call (event.Answer incarnation number result at) is = absurd (true≢false (sym is))
is_a_call (event.Tick at) is = absurd (true≢false (sym is))
is_a_call (event.Evict at) is = absurd (true≢false (sym is))

-- What an event leads to takes no notice.
item_takes : (e : Event) (item : List Taken) (notices later : List Notice) → notices ≡ later → IsItemOf e item → TakesOf notices later item
item_takes e item notices later same takes_none = no_item same
item_takes e item notices later same delivers_it = an_item (delivered e) tt same
item_takes e item notices later same (wants_it call) = an_item (wanted e) (is_a_call e call) same

event_takes : (script : Script) (st : Stood) (e : Event) (led : Led) (notices later : List Notice) → notices ≡ later → led ≡ on_event script st e
    → TakesOf notices later led.item
event_takes script st e led notices later same is =
    subst (λ (l : Led). TakesOf notices later l.item) (sym is) (item_takes e (on_event script st e).item notices later same (event_item script st e))

entered_takes : (script : Script) (st : Stood) (before events : List Event) (led : Led) (notices later : List Notice) → notices ≡ later
    → IsEntered script st before events led → TakesOf notices later led.item
entered_takes script st before events led notices later same (inl deferred) =
    event_takes script (without st deferred.place) deferred.event led notices later same deferred.leads
entered_takes script st before events led notices later same (inr come) = event_takes script st come.event led notices later same come.leads

-- A notice that fits is an item; another one isn't under way.
notice_takes : (script : Script) (st : Stood) (n : Notice) (led : Led) (notices later : List Notice) → FitsMode st.front.said st.front.mode n
    → notices ≡ n ∷ later → IsLedBy script st n led → TakesOf notices later led.item
notice_takes script st n led notices later fit same (fits so) = an_item (noticed n) tt same
notice_takes script st n led notices later fit same (sticks_at unfit) = absurd (unfit fit)

pub turn_takes : (script : Script) (st : Stood) (events_before events : List Event) (got_before got told : List Notice) (led : Led) (notices later : List Notice)
    → ((n : Notice) → notices ≡ n ∷ later → FitsMode st.front.said st.front.mode n) → got_before ++ notices ≡ got ++ later
    → IsTaken script st events_before events got_before got told led → TakesOf notices later led.item
turn_takes script st events_before events got_before got told led notices later fit way (inl t) =
    let same : notices ≡ t.notice ∷ later =
    append_cancel_left got_before notices (t.notice ∷ later) (way ∙ ap (λ (x : List Notice). x ++ later) t.took ∙ append_assoc got_before (t.notice ∷ []) later) in
    notice_takes script st t.notice led notices later (fit t.notice same) same t.leads
turn_takes script st events_before events got_before got told led notices later fit way (inr t) =
    let same : notices ≡ later = append_cancel_left got_before notices later (way ∙ ap (λ (x : List Notice). x ++ later) t.no_notice) in
    entered_takes script st events_before events led notices later same t.entered

-- The class is what it was.
led_class : (script : Script) (st : Stood) (e : Event) (led : Led) (c : ℕ) → led ≡ on_event script st e → IsClass led.stood.class c → IsClass st.class c
led_class script st e led c leads is = event_class script st e c (subst (λ (l : Led). IsClass l.stood.class c) leads is)

notice_class : (script : Script) (st : Stood) (n : Notice) (led : Led) (c : ℕ) → IsLedBy script st n led → IsClass led.stood.class c → IsClass st.class c
notice_class script st n led c (fits so) is = is
notice_class script st n led c (sticks_at unfit) is = is

entered_class : (script : Script) (st : Stood) (before events : List Event) (led : Led) (c : ℕ) → IsEntered script st before events led
    → IsClass led.stood.class c → IsClass st.class c
entered_class script st before events led c (inl deferred) is = led_class script (without st deferred.place) deferred.event led c deferred.leads is
entered_class script st before events led c (inr come) is = led_class script st come.event led c come.leads is

pub turn_class : (script : Script) (c : ℕ) (st : Stood) (events_before events : List Event) (got_before got told : List Notice) (led : Led)
    → IsTaken script st events_before events got_before got told led → IsClass led.stood.class c → IsClass st.class c
turn_class script c st events_before events got_before got told led (inl t) is = notice_class script st t.notice led c t.leads is
turn_class script c st events_before events got_before got told led (inr t) is = entered_class script st events_before events led c t.entered is

-- A front that a turn leaves standing still was given an answer to a call or a fetch that it didn't make.
use Rattle.std.proofs.Common.{◌≡◌, ◌∙◌, ap, sym, refl, subst, inl, inr, true≢false, ℕ, ℤ, List, [], ◌∷◌, ◌++◌, append_assoc, Option, None}
use Rattle.std.proofs.lemmas.List.{append_cancel_left}
use Rattle.std.proofs.lemmas.List.Elements.{All-nil, All-cons, All-contains, All-weaker, Contains-append_left, Contains-append_right, Contains-push}
use Rattle.std.proofs.lemmas.List.Sorted.{Contains-permutation, IsPermutation-sym}
use Rattle.std.proofs.lemmas.Option.{get_or_from_slice_get, slice_get_within}
use Rattle.std.specs.Prelude.{Bool, true, false, pos, if◌then◌else◌}
use Rattle.std.specs.List.{All, Contains, flat_map}
use Rattle.do_tree.specs.Tree.{Script}
use Rattle.storage_map.specs.Contents.{Contents}
use Rattle.timeline.specs.Eligible.{is_early, is_eligible, is_fit, is_stale}
use Rattle.timeline.specs.Intake as intake
use Rattle.timeline.specs.Intake.{FitsMode, Front, Kind, Mode, serves, down, Taken, sent_by}
use Rattle.timeline.specs.Logs.{Fronted, fronted}
use Rattle.timeline.specs.Object.{idle, waiting, ended, begun}
use Rattle.timeline.specs.declared.caller.Cause.TheVariants as cause
use Rattle.timeline.specs.declared.entry.Entry.{Entry}
use Rattle.timeline.specs.declared.event.Event.{Event}
use Rattle.timeline.specs.declared.event.Event.TheVariants as event
use Rattle.timeline.specs.declared.notice.Notice.{Notice}
use Rattle.object_front.specs.Came.{events, wanting, kept, HasGot}
use Rattle.object_front.specs.Evaluated.{seen}
use Rattle.front_half.specs.Standing.{Stood, IsTakenBy, is_stopped, kind_in}
use Rattle.front_half.specs.Taking.{Led, IsFirst, IsLedBy, fits, sticks_at, at_down, at_mode, does, on_event, stale, without}
use Rattle.front_half.specs.Turning.{IsEntered, IsTaken, Turns}
use Rattle.object_front.specs.declared.evaluated.Evaluated.{Evaluated}
use Rattle.front_half.specs.declared.half.Half.{Half}
use Rattle.object_history.proofs.Fitting.{notices_fit}
use Rattle.object_history.specs.Pair.{Rear, IsPair}
use Rattle.front_history.specs.Paired.{ArePaired}
use Rattle.object_messages.specs.Laws.{EarlyIsUnasked, early_in}
use Rattle.object_messages.specs.Naming.{answered_by, asked_in, messages_of}
use Rattle.object_core.proofs.Pairing.{pair_now}
use Rattle.object_core.specs.One.{IsGivenUnasked}

-- What one of these gives is among what all of them give.
module _ {X A : Type 0} (f : X → List A) where
  abbrev GivesIn : List X → X → Type 0
  GivesIn xs x = (a : A) → Contains (f x) a → Contains (flat_map f xs) a

  all_give : (xs : List X) → All (GivesIn xs) xs
  all_give [] = All-nil (GivesIn [])
  all_give (x ∷ xs) =
      All-cons (GivesIn (x ∷ xs)) x xs (λ a has. Contains-append_left (f x) (flat_map f xs) a has)
      (All-weaker (GivesIn xs) (GivesIn (x ∷ xs)) (λ y gives a has. Contains-append_right (f x) (flat_map f xs) a (gives a has)) xs (all_give xs))

  given_in : (xs : List X) (x : X) (a : A) → Contains xs x → Contains (f x) a → Contains (flat_map f xs) a
  given_in xs x a has = All-contains (GivesIn xs) xs x (all_give xs) has a

-- An event that comes too early is an answer.
early_answers : (now made : ℕ) (e : Event) → is_early now made e ≡ true → (asked : ℕ × ℕ) × Contains (answered_by e) asked
early_answers now made (event.Answer incarnation number result at) is = ((incarnation, number), Contains-push [] (incarnation, number))
early_answers now made (event.Call from method args depth at) is = absurd (true≢false (sym is))
early_answers now made (event.Bind identity) is = absurd (true≢false (sym is))
early_answers now made (event.Tick at) is = absurd (true≢false (sym is))
early_answers now made (event.Evict at) is = absurd (true≢false (sym is))

-- However the front stands.
early_answered : (now : ℕ) (m : Mode) (e : Event) → early_in now m e ≡ true → (asked : ℕ × ℕ) × Contains (answered_by e) asked
early_answered now (serves (idle o)) e is = early_answers now o.made e is
early_answered now (serves (waiting o t b)) e is = absurd (true≢false (sym is))
early_answered now (serves (ended c)) e is = absurd (true≢false (sym is))
early_answered now (down call) e is = early_answers now 0 e is

abbrev IsEarlyAt : Front → Event → Type 0
IsEarlyAt f e = early_in f.incarnation f.mode e ≡ true

module _ (script : Script) (st : Stood) (goes : st.stuck ≡ false) where
  -- A front sticks only at one that does, and then stands as before.
  abbrev StuckEarly : Led → Bool → Type 0
  StuckEarly led early = (early ≡ true) × (led.stood.front ≡ st.front)

  old_early : (e : Event) (early : Bool) → (does script st e (stale early)).stood.stuck ≡ true → StuckEarly (does script st e (stale early)) early
  old_early e true is = (refl, refl)
  old_early e false is = absurd (true≢false (sym is ∙ goes))

  down_early : (now : ℕ) (e : Event) → (does script st e (at_down now e)).stood.stuck ≡ true → StuckEarly (does script st e (at_down now e)) (is_early now 0 e)
  down_early now (event.Call from method args depth at) is = absurd (true≢false (sym is ∙ goes))
  down_early now (event.Answer incarnation number result at) is =
      old_early (event.Answer incarnation number result at) (is_early now 0 (event.Answer incarnation number result at)) is
  down_early now (event.Bind identity) is = absurd (true≢false (sym is ∙ goes))
  down_early now (event.Tick at) is = absurd (true≢false (sym is ∙ goes))
  down_early now (event.Evict at) is = absurd (true≢false (sym is ∙ goes))

  -- One that is eligible is delivered, as an eviction at the beginning is; another one is deferred, as each is at an end.
  abbrev LeadsTo : Event → (old may early : Bool) → Led
  LeadsTo e old may early =
      does script st e (if old then stale early
      else (if may then at_mode 1 (serves (idle (begun None))) (event.Evict (pos 0)) else at_mode 1 (serves (ended cause.Exceeded)) e))

  idle_early : (e : Event) (old may early : Bool) → (LeadsTo e old may early).stood.stuck ≡ true → StuckEarly (LeadsTo e old may early) early
  idle_early e true may early is = old_early e early is
  idle_early e false true early is = absurd (true≢false (sym is ∙ goes))
  idle_early e false false early is = absurd (true≢false (sym is ∙ goes))

  mode_early : (now : ℕ) (m : Mode) (e : Event) → (does script st e (at_mode now m e)).stood.stuck ≡ true
      → StuckEarly (does script st e (at_mode now m e)) (early_in now m e)
  mode_early now (serves (idle o)) e is = idle_early e (is_stale now o e) (is_eligible o e) (is_early now o.made e) is
  mode_early now (serves (waiting o t b)) e is = absurd (true≢false (sym is ∙ goes))
  mode_early now (serves (ended c)) e is = absurd (true≢false (sym is ∙ goes))
  mode_early now (down call) e is = down_early now e is

  abbrev FitLeads : Event → Bool → Led
  FitLeads e fit = does script st e (if fit then at_mode st.front.incarnation st.front.mode e else stale false)

  fit_early : (e : Event) (fit : Bool) → (FitLeads e fit).stood.stuck ≡ true → StuckEarly (FitLeads e fit) (early_in st.front.incarnation st.front.mode e)
  fit_early e true is = mode_early st.front.incarnation st.front.mode e is
  fit_early e false is = absurd (true≢false (sym is ∙ goes))

  event_sticks : (e : Event) → (on_event script st e).stood.stuck ≡ true → IsEarlyAt (on_event script st e).stood.front e
  event_sticks e is =
      let early = fit_early e (is_fit script st.class e) is in
      subst (λ (f : Front). IsEarlyAt f e) (sym early.1) early.0

-- The event at which a front of these has stuck, and that it was got.
pub record SticksAt (f : Front) (got : List Event) : Type 0 where
  pub answer : Event
  pub early : IsEarlyAt f answer
  pub was_got : Contains got answer

-- Where an event led it.
led_sticks : (script : Script) (st : Stood) (e : Event) (led : Led) (got : List Event) → st.stuck ≡ false → led ≡ on_event script st e → Contains got e
    → led.stood.stuck ≡ true → SticksAt led.stood.front got
led_sticks script st e led got goes leads has is = record {
  answer = e;
  early =
      subst (λ (l : Led). IsEarlyAt l.stood.front e) (sym leads)
      (event_sticks script st goes e (subst (λ (l : Led). l.stood.stuck ≡ true) leads is));
  was_got = has;
}

-- At one that fits it doesn't.
notice_sticks : (script : Script) (st : Stood) (n : Notice) (led : Led) (got : List Event) → st.stuck ≡ false → FitsMode st.front.said st.front.mode n
    → IsLedBy script st n led → led.stood.stuck ≡ true → SticksAt led.stood.front got
notice_sticks script st n led got goes fit (fits so) is = absurd (true≢false (sym is ∙ goes))
notice_sticks script st n led got goes fit (sticks_at unfit) is = absurd (unfit fit)

-- The first deferred event that may be taken is among the deferred ones.
pub first_there : (st : Stood) (place : ℕ) (e : Event) → IsFirst st place e → Contains st.deferred e
first_there st place e first =
    (place, slice_get_within st.deferred place e first.there, get_or_from_slice_get st.deferred place e e first.there)

module _ (script : Script) (st : Stood) (before got : List Event) (led : Led) (goes : st.stuck ≡ false)
    (were_got : (e : Event) → Contains st.deferred e → Contains before e) (is : led.stood.stuck ≡ true) where
  entered_sticks : IsEntered script st before got led → SticksAt led.stood.front got
  entered_sticks (inl d) =
      led_sticks script (without st d.place) d.event led got goes d.leads
      (subst (λ (es : List Event). Contains es d.event) (sym d.no_event) (were_got d.event (first_there st d.place d.event d.first))) is
  entered_sticks (inr t) =
      led_sticks script st t.event led got goes t.leads (subst (λ (es : List Event). Contains es t.event) (sym t.took) (Contains-push before t.event)) is

  -- A notice that comes is one that is waited for.
  taken_sticks : (got_before got_now told notices later : List Notice) → ((n : Notice) → notices ≡ n ∷ later → FitsMode st.front.said st.front.mode n)
      → got_before ++ notices ≡ got_now ++ later → IsTaken script st before got got_before got_now told led → SticksAt led.stood.front got
  taken_sticks got_before got_now told notices later fit way (inl t) =
      notice_sticks script st t.notice led got goes
      (fit t.notice
      (append_cancel_left got_before notices (t.notice ∷ later)
      (way ∙ ap (λ (x : List Notice). x ++ later) t.took ∙ append_assoc got_before (t.notice ∷ []) later))) t.leads is
  taken_sticks got_before got_now told notices later fit way (inr t) = entered_sticks t.entered

-- What is deferred was got.
deferred_got : (half : Half Evaluated) (st : Stood) (got : List Event) → HasGot half st got → (e : Event) → Contains st.deferred e → Contains got e
deferred_got half st got has e is =
    let log = fronted half.log in
    let keeps : List Event = kept st in
    let last : List Event = log.dropped ++ (keeps ++ has.lost) in
    let behind : List Event = events log.downed ++ last in
    Contains-permutation (events log.delivered ++ behind) got e (IsPermutation-sym got (events log.delivered ++ behind) has.come.each)
    (Contains-append_right (events log.delivered) behind e
    (Contains-append_right (events log.downed) last e
    (Contains-append_right log.dropped (keeps ++ has.lost) e
    (Contains-append_left keeps has.lost e (Contains-append_right (wanting st.front.mode) st.deferred e is)))))

-- A front sticks at what comes too early.
module _ (script : Script) (class : ℕ) (opened : Contents) (old new : Half Evaluated) (st : Stood) (before got : List Event)
    (got_before got_now told : List Notice) (rear : Rear) (line : List Entry) (notices later : List Notice) where
  pub turn_sticks : is_stopped old ≡ false → ArePaired (kind_in script class) opened st old rear line notices → got_before ++ notices ≡ got_now ++ later
      → HasGot old st before → (turns : Turns seen script old new st before got got_before got_now told) → new.stuck ≡ true
      → SticksAt turns.led.stood.front got
  turn_sticks on paired way has turns is =
      let pair : IsPair (kind_in script class) opened st.front (fronted old.log) rear line notices = pair_now (kind_in script class) opened st old rear line notices on paired in
      taken_sticks script st before got turns.led turns.goes (deferred_got old st before has) (sym turns.moves.half.stuck ∙ is) got_before got_now told notices later
      (λ n same. notices_fit (kind_in script class) opened st.front (fronted old.log) rear line n later
      (subst (λ (ns : List Notice). IsPair (kind_in script class) opened st.front (fronted old.log) rear line ns) same pair)) way turns.taken

-- That answers nothing that was sent.
pub given_unasked : (unasked : EarlyIsUnasked) (script : Script) (class : ℕ) (alarm : Option (ℤ × ℕ)) (taken : List Taken) (f : Front) (log : Fronted) (got : List Event)
    → IsTakenBy (kind_in script class) (intake.opened alarm) taken f log → SticksAt f got → IsGivenUnasked log got
given_unasked unasked script class alarm taken f log got by sticks =
    let k : Kind = kind_in script class in
    let answered = early_answered f.incarnation f.mode sticks.answer sticks.early in
    let asked_none = unasked k alarm taken sticks.answer by.gate (subst (λ (g : Front). IsEarlyAt g sticks.answer) (sym by.at) sticks.early) in
    record {
      asked = answered.0;
      given = given_in answered_by got sticks.answer answered.0 sticks.was_got answered.1;
      unasked = λ has.
          All-contains (λ (asked : ℕ × ℕ). Contains (asked_in (messages_of (sent_by k (intake.opened alarm) taken))) asked → ⊥) (answered_by sticks.answer) answered.0
          asked_none answered.1 (subst (λ (entries : List Entry). Contains (asked_in (messages_of entries)) answered.0) by.sent has);
    }

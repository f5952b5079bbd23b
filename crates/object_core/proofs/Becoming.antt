-- What becomes of an event that a front takes, and why it is dropped.
use Rattle.std.proofs.Common.{◌≡◌, ◌≢◌, ◌≤◌, ◌<◌, ◌∙◌, ap, sym, refl, subst, ◌⊎◌, inl, inr, ⊎_elim, true≢false, ℕ, ℤ, suc, List, [], ◌∷◌, ◌++◌, length, take, drop, append_assoc, length-append, arith, Option, Some, None}
use Rattle.std.proofs.lemmas.List.{append_cancel_left, length-map, length-take-le, map-append, take-append-drop}
use Rattle.std.proofs.lemmas.Grind.{flat_map-append}
use Rattle.std.proofs.lemmas.List.Elements.{All-nil, All-cons, All-head, All-tail, All-append, All-take, All-drop, All-contains, Contains-append_left, Contains-append_right}
use Rattle.std.specs.Prelude.{Bool, pos, true, false, not, ◌&&◌, if◌then◌else◌, is_some, slice_get, unwrap_or}
use Rattle.std.specs.List.{All, Contains}
use Rattle.do_tree.specs.Lookup.{class_named}
use Rattle.do_tree.specs.Tree.{Script}
use Rattle.storage_map.specs.Contents.{Contents}
use Rattle.timeline.specs.Eligible.{is_early, is_eligible, is_fit, is_stale}
use Rattle.timeline.specs.Headline.{missed_of}
use Rattle.timeline.specs.Intake as intake
use Rattle.timeline.specs.Intake.{Front, Kind, Mode, Taken, delivered, drops_in, down, ends_in, on_notice, opened, serves, takes, wanted}
use Rattle.timeline.specs.Logs.{Backed, Fronted, fronted}
use Rattle.timeline.specs.Object.{State, begun, idle, waiting, ended}
use Rattle.timeline.specs.declared.back_log.Missed.{Missed}
use Rattle.timeline.specs.declared.back_log.Stop.{Stop}
use Rattle.timeline.specs.declared.caller.Cause.{Cause}
use Rattle.timeline.specs.declared.caller.Cause.TheVariants as cause
use Rattle.timeline.specs.declared.entry.Body.{Body}
use Rattle.timeline.specs.declared.entry.Entry.{Entry}
use Rattle.timeline.specs.declared.event.Event.{Event}
use Rattle.timeline.specs.declared.event.Event.TheVariants as event
use Rattle.timeline.specs.declared.notice.Notice.{Notice}
use Rattle.timeline.specs.declared.notice.Notice.TheVariants as notice
use Rattle.object_front.specs.Came.{events, kept, wanting}
use Rattle.object_front.specs.Classed.{class_behind}
use Rattle.object_front.specs.Evaluated.{seen}
use Rattle.front_half.specs.Standing.{Stood, IsHalf, IsTakenBy, fresh, kind_in}
use Rattle.front_half.specs.Taking.{Led, IsLedBy, fits, sticks_at, at_down, at_mode, class_after, delivers_to, does, due_at, leads, on_event, stale, waits, without}
use Rattle.front_half.specs.Turning.{IsEntered, IsTaken}
use Rattle.object_front.specs.declared.evaluated.Evaluated.{Evaluated}
use Rattle.front_half.specs.declared.half.Half.{Half}
use Rattle.object_history.proofs.Readings.{phase_now}
use Rattle.object_history.specs.Pair.{Held, IsPair, IsSilentAt, Rear, Stand, Together, answered, falls, halts, mends, misses, read_fails, silent, syncs, unreached, wants}
use Rattle.front_half.specs.Kinds.{is_call}
use Rattle.object_core.proofs.Sticking.{first_there}
use Rattle.object_messages.specs.Dropped.{DropsAreAnswered}
use Rattle.object_messages.specs.Naming.{answered_by, answered_in}
use Rattle.object_core.specs.Dropping.{AreFitting, IsFitFor, MayDrop}

-- Of events that fit the first ones do, and the last one fits the class behind these.
pub fitting_first : (script : Script) (class : Option ℕ) (es more : List Event) → AreFitting script class (es ++ more) → AreFitting script class es
fitting_first script class [] more fit = tt
fitting_first script class (e ∷ es) more fit = (fit.0, fitting_first script (class_after script class e) es more fit.1)

pub fitting_last : (script : Script) (class : Option ℕ) (es : List Event) (e : Event) → AreFitting script class (es ++ e ∷ [])
    → is_fit script (class_behind script class es) e ≡ true
fitting_last script class [] e fit = fit.0
fitting_last script class (x ∷ es) e fit = fitting_last script (class_after script class x) es e fit.1

pub behind_last : (script : Script) (class : Option ℕ) (es : List Event) (e : Event)
    → class_behind script class (es ++ e ∷ []) ≡ class_after script (class_behind script class es) e
behind_last script class [] e = refl
behind_last script class (x ∷ es) e = behind_last script (class_after script class x) es e

-- What fits a class leaves it.
pub class_stays : (script : Script) (c : ℕ) (e : Event) → IsFitFor script c e → class_after script (Some c) e ≡ Some c
class_stays script c (event.Bind identity) is = absurd (true≢false (sym is))
class_stays script c (event.Call from method args depth at) is = refl
class_stays script c (event.Answer incarnation number result at) is = refl
class_stays script c (event.Tick at) is = refl
class_stays script c (event.Evict at) is = refl

-- What is known to be dropped stays so in a longer log.
pub may_more : (old new : Fronted) (downs : List Missed) (more : List Event) → events new.delivered ≡ events old.delivered ++ more → length old.ends ≤ length new.ends
    → (e : Event) → MayDrop old downs e → MayDrop new downs e
may_more old new downs more same ends (event.Bind identity) may = may
may_more old new downs more same ends (event.Call from method args depth at) may = may
may_more old new downs more same ends (event.Answer incarnation number result at) (inl less) = inl (omega (arith, less, ends))
may_more old new downs more same ends (event.Answer incarnation number result at) (inr was) =
    inr (subst (λ (xs : List (ℕ × ℕ)). Contains xs (incarnation, number)) (sym (flat_map-append answered_by (events old.delivered) more) ∙ ap answered_in (sym same))
    (Contains-append_left (answered_in (events old.delivered)) (answered_in more) (incarnation, number) was))
may_more old new downs more same ends (event.Tick at) may = may
may_more old new downs more same ends (event.Evict at) may = may

-- Over a back whose mountings that failed are more.
pub may_downs : (log : Fronted) (old new : List Missed) → (old ≢ [] → new ≢ []) → (e : Event) → MayDrop log old e → MayDrop log new e
may_downs log old new more (event.Bind identity) may = may
may_downs log old new more (event.Call from method args depth at) may = may
may_downs log old new more (event.Answer incarnation number result at) may = may
may_downs log old new more (event.Tick at) may = more may
may_downs log old new more (event.Evict at) may = more may

-- The ends that are logged of more items stand behind those that were.
pub ends_more : (k : Kind) (f : Front) (taken more : List Taken) → length (ends_in k f taken) ≤ length (ends_in k f (taken ++ more))
ends_more k f [] more = omega arith
ends_more k f (t ∷ taken) more =
    let by = intake.ends_by f.mode t in
    omega (arith, ends_more k (takes k f t) taken more, length-append by (ends_in k (takes k f t) taken), length-append by (ends_in k (takes k f t) (taken ++ more)))

-- What becomes of an event that is taken: it is delivered, asks for a mounting or is deferred only where it fits; it is dropped where it doesn't, or as
-- one that is out of date, or by an object that is down; or the front stands still at it.
data Becomes (script : Script) (st : Stood) (e : Event) : Led → Type 0 where
  delivers_e : is_fit script st.class e ≡ true → Becomes script st e (delivers_to script st (class_after script st.class e) e)
  wants_e : is_fit script st.class e ≡ true
      → Becomes script st e (leads (record st { front = takes (kind_in script (unwrap_or st.class 0)) st.front (wanted e) }) (wanted e ∷ []) [])
  defers_e : is_fit script st.class e ≡ true → Becomes script st e (leads (record st { deferred = st.deferred ++ e ∷ [] }) [] [])
  drops_e : (is_fit script st.class e ≡ true → drops_in st.front.incarnation st.front.mode e ≡ true) → Becomes script st e (leads st [] (e ∷ []))
  sticks_e : Becomes script st e (leads (record st { stuck = true }) [] [])

module _ (script : Script) (st : Stood) (e : Event) where
  old_becomes : (early : Bool) → (not early ≡ true → drops_in st.front.incarnation st.front.mode e ≡ true) → Becomes script st e (does script st e (stale early))
  old_becomes true drops = sticks_e
  old_becomes false drops = drops_e (λ fit. drops refl)

  -- As an eviction at the beginning is delivered, and each event is deferred at an end.
  idle_becomes : (old may early : Bool) → is_fit script st.class e ≡ true → ((old && not early) ≡ true → drops_in st.front.incarnation st.front.mode e ≡ true)
      → Becomes script st e (does script st e (if old then stale early
      else (if may then at_mode 1 (serves (idle (begun None))) (event.Evict (pos 0)) else at_mode 1 (serves (ended cause.Exceeded)) e)))
  idle_becomes true may early fit drops = old_becomes early drops
  idle_becomes false true early fit drops = delivers_e fit
  idle_becomes false false early fit drops = defers_e fit

module _ (script : Script) (st : Stood) where
  down_becomes : (now : ℕ) (e : Event) → is_fit script st.class e ≡ true
      → ((call : Option Event) → drops_in now (down call) e ≡ true → drops_in st.front.incarnation st.front.mode e ≡ true)
      → Becomes script st e (does script st e (at_down now e))
  down_becomes now (event.Call from method args depth at) fit drops = wants_e fit
  down_becomes now (event.Bind identity) fit drops =
      old_becomes script st (event.Bind identity) (is_early now 0 (event.Bind identity)) (λ old. drops None old)
  down_becomes now (event.Answer incarnation number result at) fit drops =
      old_becomes script st (event.Answer incarnation number result at) (is_early now 0 (event.Answer incarnation number result at)) (λ old. drops None old)
  down_becomes now (event.Tick at) fit drops = old_becomes script st (event.Tick at) (is_early now 0 (event.Tick at)) (λ old. drops None old)
  down_becomes now (event.Evict at) fit drops = old_becomes script st (event.Evict at) (is_early now 0 (event.Evict at)) (λ old. drops None old)

  -- while it is down it is no matter which call waits
  down_same : (now : ℕ) (call other : Option Event) (e : Event) → drops_in now (down call) e ≡ true → drops_in now (down other) e ≡ true
  down_same now call other (event.Call from method args depth at) is = is
  down_same now call other (event.Bind identity) is = is
  down_same now call other (event.Answer incarnation number result at) is = is
  down_same now call other (event.Tick at) is = is
  down_same now call other (event.Evict at) is = is

  mode_becomes : (e : Event) (m : Mode) → st.front.mode ≡ m → is_fit script st.class e ≡ true → Becomes script st e (does script st e (at_mode st.front.incarnation m e))
  mode_becomes e (serves (idle o)) is fit =
      idle_becomes script st e (is_stale st.front.incarnation o e) (is_eligible o e) (is_early st.front.incarnation o.made e) fit
      (λ drops. subst (λ (m : Mode). drops_in st.front.incarnation m e ≡ true) (sym is) drops)
  mode_becomes e (serves (waiting o t b)) is fit = defers_e fit
  mode_becomes e (serves (ended c)) is fit = defers_e fit
  mode_becomes e (down call) is fit =
      down_becomes st.front.incarnation e fit
      (λ other drops. subst (λ (m : Mode). drops_in st.front.incarnation m e ≡ true) (sym is) (down_same st.front.incarnation other call e drops))

  event_becomes : (e : Event) → Becomes script st e (on_event script st e)
  event_becomes e = by_fit (is_fit script st.class e) refl
    where
      by_fit : (b : Bool) → is_fit script st.class e ≡ b → Becomes script st e (does script st e (if b then at_mode st.front.incarnation st.front.mode e else stale false))
      by_fit true fit = mode_becomes e st.front.mode refl fit
      by_fit false unfit = drops_e (λ fit. absurd (true≢false (sym fit ∙ unfit)))

  led_becomes : (e : Event) (led : Led) → led ≡ on_event script st e → Becomes script st e led
  led_becomes e led is = subst (λ (l : Led). Becomes script st e l) (sym is) (event_becomes e)

-- What a front keeps beside the call that waits.
module _ (P : Event → Type 0) where
  deferred_all : (m : Mode) (es : List Event) → All P (wanting m ++ es) → All P es
  deferred_all (serves state) es all = all
  deferred_all (down None) es all = all
  deferred_all (down (Some call)) es all = All-tail P call es all

  -- An event that is delivered leaves the call that waits, and a notice lets it go, or stand first.
  delivered_all : (k : Kind) (i : ℕ) (es : List Event) (said : List Body) (m : Mode) (e : Event) (kept : List Event) → All P (wanting m ++ kept)
      → All P (wanting (takes k (record { incarnation = i; events = es; said = said; mode = m }) (delivered e)).mode ++ kept)
  delivered_all k i es said (serves (idle o)) e kept all = all
  delivered_all k i es said (serves (waiting o t b)) e kept all = all
  delivered_all k i es said (serves (ended c)) e kept all = all
  delivered_all k i es said (down call) e kept all = all

  noticed_all : (k : Kind) (i : ℕ) (es : List Event) (said : List Body) (m : Mode) (n : Notice) (kept : List Event) → All P (wanting m ++ kept)
      → All P (wanting (on_notice k (record { incarnation = i; events = es; said = said; mode = m }) n).mode ++ (due_at m n ++ kept))
  noticed_all k i es said (serves (idle o)) (notice.Read number r) kept all = all
  noticed_all k i es said (serves (idle o)) (notice.Taken number count) kept all = all
  noticed_all k i es said (serves (idle o)) (notice.Synced number) kept all = all
  noticed_all k i es said (serves (waiting o t b)) (notice.Read number r) kept all = all
  noticed_all k i es said (serves (waiting o t b)) (notice.Taken number count) kept all = all
  noticed_all k i es said (serves (waiting o t b)) (notice.Synced number) kept all = all
  noticed_all k i es said (serves (ended c)) (notice.Read number r) kept all = all
  noticed_all k i es said (serves (ended c)) (notice.Taken number count) kept all = all
  noticed_all k i es said (serves (ended c)) (notice.Synced number) kept all = all
  noticed_all k i es said (serves state) (notice.Fresh incarnation alarm cause) kept all = all
  noticed_all k i es said (serves state) (notice.Down cause before after) kept all = all
  noticed_all k i es said (down None) (notice.Read number r) kept all = all
  noticed_all k i es said (down None) (notice.Taken number count) kept all = all
  noticed_all k i es said (down None) (notice.Synced number) kept all = all
  noticed_all k i es said (down None) (notice.Fresh incarnation alarm cause) kept all = all
  noticed_all k i es said (down None) (notice.Down cause before after) kept all = all
  noticed_all k i es said (down (Some call)) (notice.Read number r) kept all = all
  noticed_all k i es said (down (Some call)) (notice.Taken number count) kept all = all
  noticed_all k i es said (down (Some call)) (notice.Synced number) kept all = all
  noticed_all k i es said (down (Some call)) (notice.Fresh incarnation alarm cause) kept all = all
  noticed_all k i es said (down (Some call)) (notice.Down cause before after) kept all = All-tail P call kept all

-- A front of a class: what it keeps fits it.
module _ (script : Script) (c : ℕ) where
  becomes_keeps : (st : Stood) (e : Event) (led : Led) → Becomes script st e led → st.class ≡ Some c → All (IsFitFor script c) (kept st)
      → All (IsFitFor script c) (kept led.stood)
  becomes_keeps st e _ (delivers_e fit) class all =
      delivered_all (IsFitFor script c) (kind_in script (unwrap_or (class_after script st.class e) 0)) st.front.incarnation st.front.events st.front.said st.front.mode e st.deferred all
  becomes_keeps st e _ (wants_e fit) class all =
      All-cons (IsFitFor script c) e st.deferred (subst (λ (x : Option ℕ). is_fit script x e ≡ true) class fit)
      (deferred_all (IsFitFor script c) st.front.mode st.deferred all)
  becomes_keeps st e _ (defers_e fit) class all =
      subst (All (IsFitFor script c)) (append_assoc (wanting st.front.mode) st.deferred (e ∷ []))
      (All-append (IsFitFor script c) (kept st) (e ∷ []) all
      (All-cons (IsFitFor script c) e [] (subst (λ (x : Option ℕ). is_fit script x e ≡ true) class fit) (All-nil (IsFitFor script c))))
  becomes_keeps st e _ (drops_e drops) class all = all
  becomes_keeps st e _ sticks_e class all = all

  event_keeps : (st : Stood) (e : Event) (led : Led) → led ≡ on_event script st e → st.class ≡ Some c → All (IsFitFor script c) (kept st)
      → All (IsFitFor script c) (kept led.stood)
  event_keeps st e led is class all = becomes_keeps st e led (led_becomes script st e led is) class all

  -- Without one that is taken out.
  without_keeps : (st : Stood) (place : ℕ) → All (IsFitFor script c) (kept st) → waits st.front.mode ≡ false → All (IsFitFor script c) (kept (without st place))
  without_keeps st place all free =
      subst (λ (es : List Event). All (IsFitFor script c) (es ++ (take place st.deferred ++ drop (suc place) st.deferred))) (sym (none_wants st.front.mode free))
      (All-append (IsFitFor script c) (take place st.deferred) (drop (suc place) st.deferred)
      (All-take (IsFitFor script c) place st.deferred (deferred_all (IsFitFor script c) st.front.mode st.deferred all))
      (All-drop (IsFitFor script c) (suc place) st.deferred (deferred_all (IsFitFor script c) st.front.mode st.deferred all)))
    where
      none_wants : (m : Mode) → waits m ≡ false → wanting m ≡ []
      none_wants (serves state) free = refl
      none_wants (down None) free = refl
      none_wants (down (Some call)) free = absurd (true≢false free)

  notice_keeps : (st : Stood) (n : Notice) (led : Led) → IsLedBy script st n led → All (IsFitFor script c) (kept st) → All (IsFitFor script c) (kept led.stood)
  notice_keeps st n led (fits so) all =
      noticed_all (IsFitFor script c) (kind_in script (unwrap_or st.class 0)) st.front.incarnation st.front.events st.front.said st.front.mode n st.deferred all
  notice_keeps st n led (sticks_at unfit) all = all

  entered_keeps : (st : Stood) (before got : List Event) (led : Led) → IsEntered script st before got led → st.class ≡ Some c → All (IsFitFor script c) (kept st)
      → All (IsFitFor script c) (kept led.stood)
  entered_keeps st before got led (inl t) class all = event_keeps (without st t.place) t.event led t.leads class (without_keeps st t.place all t.free)
  entered_keeps st before got led (inr t) class all = event_keeps st t.event led t.leads class all

  pub taken_keeps : (st : Stood) (before got : List Event) (got_before got_now told : List Notice) (led : Led) → IsTaken script st before got got_before got_now told led
      → st.class ≡ Some c → All (IsFitFor script c) (kept st) → All (IsFitFor script c) (kept led.stood)
  taken_keeps st before got got_before got_now told led (inl t) class all = notice_keeps st t.notice led t.leads all
  taken_keeps st before got got_before got_now told led (inr t) class all = entered_keeps st before got led t.entered class all

  -- The class stays.
  becomes_class : (st : Stood) (e : Event) (led : Led) → Becomes script st e led → st.class ≡ Some c → led.stood.class ≡ Some c
  becomes_class st e _ (delivers_e fit) class =
      ap (λ (x : Option ℕ). class_after script x e) class ∙ class_stays script c e (subst (λ (x : Option ℕ). is_fit script x e ≡ true) class fit)
  becomes_class st e _ (wants_e fit) class = class
  becomes_class st e _ (defers_e fit) class = class
  becomes_class st e _ (drops_e drops) class = class
  becomes_class st e _ sticks_e class = class

  notice_class : (st : Stood) (n : Notice) (led : Led) → IsLedBy script st n led → st.class ≡ Some c → led.stood.class ≡ Some c
  notice_class st n led (fits so) class = class
  notice_class st n led (sticks_at unfit) class = class

  entered_class : (st : Stood) (before got : List Event) (led : Led) → IsEntered script st before got led → st.class ≡ Some c → led.stood.class ≡ Some c
  entered_class st before got led (inl t) class =
      becomes_class (without st t.place) t.event led (led_becomes script (without st t.place) t.event led t.leads) class
  entered_class st before got led (inr t) class = becomes_class st t.event led (led_becomes script st t.event led t.leads) class

  pub taken_class : (st : Stood) (before got : List Event) (got_before got_now told : List Notice) (led : Led) → IsTaken script st before got got_before got_now told led
      → st.class ≡ Some c → led.stood.class ≡ Some c
  taken_class st before got got_before got_now told led (inl t) class = notice_class st t.notice led t.leads class
  taken_class st before got got_before got_now told led (inr t) class = entered_class st before got led t.entered class

-- What a front does with an event that has no class and has taken nothing: it drops what doesn't fit, or is bound.
module _ (script : Script) (alarm : Option (ℤ × ℕ)) where
  abbrev unbound : Stood
  unbound = fresh None alarm

  pub record StartsBy (e : Event) (led : Led) : Type 0 where
    pub rests : led.stood.class ≡ None → (led.stood ≡ unbound) × (led.item ≡ [])
    pub keeps : kept led.stood ≡ []
    pub class : is_fit script None e ≡ true → led.stood.class ≡ class_after script None e
    pub dropped : is_fit script None e ≡ true → led.dropped ≡ []

  bound_none : (x : Option ℕ) → is_some x ≡ true → x ≡ None → ⊥
  bound_none x is none = true≢false (sym is ∙ ap is_some none)

  unfit_starts : (e : Event) → is_fit script None e ≡ false → StartsBy e (leads unbound [] (e ∷ []))
  unfit_starts e unfit = record {
    rests = λ none. (refl, refl);
    keeps = refl;
    class = λ fit. absurd (true≢false (sym fit ∙ unfit));
    dropped = λ fit. absurd (true≢false (sym fit ∙ unfit));
  }

  fit_starts : (e : Event) → is_some (class_after script None e) ≡ true → StartsBy e (delivers_to script unbound (class_after script None e) e)
  fit_starts e bound = record {
    rests = λ none. absurd (bound_none (class_after script None e) bound none);
    keeps = refl;
    class = λ fit. refl;
    dropped = λ fit. refl;
  }

  event_starts : (e : Event) → StartsBy e (on_event script unbound e)
  event_starts (event.Bind identity) = by_class (is_some (class_named script identity.0)) refl
    where
      by_class : (b : Bool) → is_some (class_named script identity.0) ≡ b
          → StartsBy (event.Bind identity) (does script unbound (event.Bind identity) (if b then at_mode 1 (serves (idle (begun alarm))) (event.Bind identity) else stale false))
      by_class true is = fit_starts (event.Bind identity) is
      by_class false is = unfit_starts (event.Bind identity) is
  event_starts (event.Call from method args depth at) = unfit_starts (event.Call from method args depth at) refl
  event_starts (event.Answer incarnation number result at) = unfit_starts (event.Answer incarnation number result at) refl
  event_starts (event.Tick at) = unfit_starts (event.Tick at) refl
  event_starts (event.Evict at) = unfit_starts (event.Evict at) refl

  led_starts : (st : Stood) (e : Event) (led : Led) → st ≡ unbound → led ≡ on_event script st e → StartsBy e led
  led_starts st e led is leads = subst (λ (l : Led). StartsBy e l) (sym (leads ∙ ap (λ (s : Stood). on_event script s e) is)) (event_starts e)

-- A front that serves and has said nothing is told nothing by a back of which nothing has ended; and one that is down, and of which no call
-- waits, is behind a mounting that failed.
serves_not : {A : Type 0} (s : State) (call : Option Event) → serves s ≡ down call → A
serves_not s call is = absurd cc

waits_not : {A : Type 0} (call : Event) → down (Some call) ≡ down None → A
waits_not call is = absurd cc

said_not : {A : Type 0} (first : List Body) (b : Body) → [] ≡ first ++ b ∷ [] → A
said_not [] b is = absurd cc
said_not (x ∷ first) b is = absurd cc

module _ (start : Contents) (f : Front) (front : Fronted) (back : Backed) where
  together_silent : (unread : List Body) (before : ℕ) (stand : Stand) (held : List Held) (notices : List Notice) (s : State)
      → f.mode ≡ serves s → f.said ≡ [] → Together start f front back unread before stand held notices → notices ≡ []
  together_silent unread before _ _ _ s mode said (unreached state m u) = refl
  together_silent unread before _ _ _ s mode said (answered n is u) = said_not is.first is.asked (sym said ∙ is.said)
  together_silent unread before _ _ _ s mode said (syncs o t m u) = refl
  together_silent unread before _ _ _ s mode said (halts c m u some) = refl
  together_silent unread before _ _ _ s mode said (read_fails o t a free counts_before counts_after m u) = refl
  together_silent unread before _ _ _ s mode said (falls call c m u count) = refl
  together_silent unread before _ _ _ s mode said (wants call c m u count) = refl
  together_silent unread before _ _ _ s mode said (mends call c i m u) = serves_not s (Some call) (sym mode ∙ m)
  together_silent unread before _ _ _ s mode said (misses call c again counts_before counts_after older m u missed count) = serves_not s (Some call) (sym mode ∙ m)
  together_silent unread before stand _ _ s mode said (silent _ u is) = refl

  none_missed : (count : ℕ) → length (missed_of f.incarnation back.downs) ≡ suc count → back.downs ≢ []
  none_missed count is none =
      let zero_missed : length (missed_of f.incarnation back.downs) ≡ 0 = ap (λ (downs : List Missed). length (missed_of f.incarnation downs)) none in
      omega (arith, is, zero_missed)

  together_missed : (unread : List Body) (before : ℕ) (stand : Stand) (held : List Held) (notices : List Notice)
      → f.mode ≡ down None → Together start f front back unread before stand held notices → back.downs ≢ []
  together_missed unread before _ _ _ mode (unreached state m u) = serves_not state None (sym m ∙ mode)
  together_missed unread before _ _ _ mode (answered n is u) = serves_not is.state None (sym is.mode ∙ mode)
  together_missed unread before _ _ _ mode (syncs o t m u) = serves_not _ None (sym m ∙ mode)
  together_missed unread before _ _ _ mode (halts c m u some) = serves_not _ None (sym m ∙ mode)
  together_missed unread before _ _ _ mode (read_fails o t a free counts_before counts_after m u) = serves_not _ None (sym m ∙ mode)
  together_missed unread before _ _ _ mode (falls call c m u count) = none_missed _ count
  together_missed unread before _ _ _ mode (wants call c m u count) = none_missed _ count
  together_missed unread before _ _ _ mode (mends call c i m u) = waits_not call (sym m ∙ mode)
  together_missed unread before _ _ _ mode (misses call c again counts_before counts_after older m u missed count) = waits_not call (sym m ∙ mode)
  together_missed unread before stand _ _ mode (silent _ u is) = absurd (subst (λ (m : Mode). IsSilentAt m stand) mode is)

module _ (k : Kind) (opened_map : Contents) (f : Front) (front : Fronted) (rear : Rear) (line : List Entry) (notices : List Notice)
    (pair : IsPair k opened_map f front rear line notices) where
  pub pair_silent : (s : State) → f.mode ≡ serves s → f.said ≡ [] → rear.log.stops ≡ [] → notices ≡ []
  pair_silent s mode said none =
      ⊎_elim (λ t. together_silent pair.start f front rear.log pair.lined.unread rear.before rear.stand rear.held notices s mode said t.1)
      (λ b. absurd (no_stops (length rear.log.stops) pair.below (ap (λ (stops : List Stop). length stops) none) b.0)) (phase_now pair)
    where
      no_stops : (n below : ℕ) → n ≡ 0 → n ≡ suc below → ⊥
      no_stops n below zero_n more = omega (arith, zero_n, more)

  pair_missed : f.mode ≡ down None → rear.log.downs ≢ []
  pair_missed mode =
      ⊎_elim (λ t. together_missed pair.start f front rear.log pair.lined.unread rear.before rear.stand rear.held notices mode t.1)
      (λ b. serves_not b.1.state None (sym b.1.mode ∙ mode)) (phase_now pair)

  -- As many ends are known to it as there are incarnations before its own.
  pub pair_ends : suc (length front.ends) ≡ f.incarnation
  pair_ends =
      let below : pair.below ≤ length rear.log.stops = ⊎_elim (λ t. omega (arith, t.0)) (λ b. omega (arith, b.0)) (phase_now pair) in
      ap (λ (n : ℕ). suc n) (ap (λ (ends : List Cause). length ends) pair.ends ∙ length-map (take pair.below rear.log.stops) (λ (stop : Stop). stop.cause)
      ∙ length-take-le pair.below rear.log.stops below) ∙ sym pair.number

-- Of an event that fits: what is dropped may be.
call_enters : (now : ℕ) (m : Mode) (e : Event) → is_call e ≡ true → drops_in now m e ≡ true → ⊥
call_enters now (serves (idle o)) (event.Call from method args depth at) is drops = true≢false (sym drops)
call_enters now (serves (waiting o t b)) (event.Call from method args depth at) is drops = true≢false (sym drops)
call_enters now (serves (ended c)) (event.Call from method args depth at) is drops = true≢false (sym drops)
call_enters now (down call) (event.Call from method args depth at) is drops = true≢false (sym drops)
call_enters now m (event.Bind identity) is drops = true≢false (sym is)
call_enters now m (event.Answer incarnation number result at) is drops = true≢false (sym is)
call_enters now m (event.Tick at) is drops = true≢false (sym is)
call_enters now m (event.Evict at) is drops = true≢false (sym is)

tick_down : (now : ℕ) (m : Mode) (at : ℤ) → waits m ≡ false → drops_in now m (event.Tick at) ≡ true → m ≡ down None
tick_down now (serves (idle o)) at free drops = absurd (true≢false (sym drops))
tick_down now (serves (waiting o t b)) at free drops = absurd (true≢false (sym drops))
tick_down now (serves (ended c)) at free drops = absurd (true≢false (sym drops))
tick_down now (down None) at free drops = refl
tick_down now (down (Some call)) at free drops = absurd (true≢false free)

evict_down : (now : ℕ) (m : Mode) (at : ℤ) → waits m ≡ false → drops_in now m (event.Evict at) ≡ true → m ≡ down None
evict_down now (serves (idle o)) at free drops = absurd (true≢false (sym drops))
evict_down now (serves (waiting o t b)) at free drops = absurd (true≢false (sym drops))
evict_down now (serves (ended c)) at free drops = absurd (true≢false (sym drops))
evict_down now (down None) at free drops = refl
evict_down now (down (Some call)) at free drops = absurd (true≢false free)

module _ (laws : DropsAreAnswered) (script : Script) (class : ℕ) (opened_map : Contents) (alarm : Option (ℤ × ℕ)) (old : Half Evaluated) (st : Stood) (rear : Rear)
    (line : List Entry) (notices : List Notice) (taken : List Taken) (half : IsHalf seen script old st)
    (pair : IsPair (kind_in script class) opened_map st.front (fronted old.log) rear line notices)
    (by : IsTakenBy (kind_in script class) (opened alarm) taken st.front (fronted old.log)) where
  abbrev log : Fronted
  log = fronted old.log

  -- What its incarnation was delivered is logged.
  answer_logged : (asked : ℕ × ℕ) → Contains (answered_in st.front.events) asked → Contains (answered_in (events log.delivered)) asked
  answer_logged asked has =
      let first = take old.first_delivered log.delivered in
      let own = drop old.first_delivered log.delivered in
      subst (λ (es : List Event). Contains (answered_in es) asked)
      (sym (map-append (λ (item : ℕ × Event). item.1) first own) ∙ ap events (take-append-drop old.first_delivered log.delivered))
      (subst (λ (xs : List (ℕ × ℕ)). Contains xs asked) (sym (flat_map-append answered_by (events first) (events own)))
      (Contains-append_right (answered_in (events first)) (answered_in (events own)) asked
      (subst (λ (es : List Event). Contains (answered_in es) asked) (sym half.events) has)))

  abbrev IsAnswered : Front → ℕ × ℕ → Type 0
  IsAnswered f asked = (asked.0 < f.incarnation) ⊎ Contains (answered_in f.events) asked

  answer_may : (e : Event) (incarnation number : ℕ) → answered_by e ≡ (incarnation, number) ∷ [] → drops_in st.front.incarnation st.front.mode e ≡ true
      → (incarnation ≤ length log.ends) ⊎ Contains (answered_in (events log.delivered)) (incarnation, number)
  answer_may e incarnation number answers drops =
      let all = laws (kind_in script class) alarm taken e by.gate (subst (λ (f : Front). drops_in f.incarnation f.mode e ≡ true) (sym by.at) drops) in
      let here : All (IsAnswered st.front) ((incarnation, number) ∷ []) =
      subst (λ (asked : List (ℕ × ℕ)). All (IsAnswered st.front) asked) answers (subst (λ (f : Front). All (IsAnswered f) (answered_by e)) by.at all) in
      let ends = pair_ends (kind_in script class) opened_map st.front log rear line notices pair in
      ⊎_elim (λ less. inl (omega (arith, less, ends))) (λ was. inr (answer_logged (incarnation, number) was)) (All-head (IsAnswered st.front) (incarnation, number) [] here)

  may_drop : (c : ℕ) (e : Event) → IsFitFor script c e → waits st.front.mode ≡ false → drops_in st.front.incarnation st.front.mode e ≡ true
      → MayDrop log rear.log.downs e
  may_drop c (event.Bind identity) fit free drops = true≢false (sym fit)
  may_drop c (event.Call from method args depth at) fit free drops =
      call_enters st.front.incarnation st.front.mode (event.Call from method args depth at) refl drops
  may_drop c (event.Answer incarnation number result at) fit free drops = answer_may (event.Answer incarnation number result at) incarnation number refl drops
  may_drop c (event.Tick at) fit free drops =
      pair_missed (kind_in script class) opened_map st.front log rear line notices pair (tick_down st.front.incarnation st.front.mode at free drops)
  may_drop c (event.Evict at) fit free drops =
      pair_missed (kind_in script class) opened_map st.front log rear line notices pair (evict_down st.front.incarnation st.front.mode at free drops)

  abbrev AllMay : List Event → Type 0
  AllMay es = All (MayDrop log rear.log.downs) es

  -- So it is by what becomes of an event.
  becomes_may : (now : Stood) (e : Event) (led : Led) → (drops_in now.front.incarnation now.front.mode e ≡ true → MayDrop log rear.log.downs e)
      → is_fit script now.class e ≡ true → Becomes script now e led → AllMay led.dropped
  becomes_may now e _ may fit (delivers_e is) = All-nil (MayDrop log rear.log.downs)
  becomes_may now e _ may fit (wants_e is) = All-nil (MayDrop log rear.log.downs)
  becomes_may now e _ may fit (defers_e is) = All-nil (MayDrop log rear.log.downs)
  becomes_may now e _ may fit (drops_e drops) = All-cons (MayDrop log rear.log.downs) e [] (may (drops fit)) (All-nil (MayDrop log rear.log.downs))
  becomes_may now e _ may fit sticks_e = All-nil (MayDrop log rear.log.downs)

  notice_may : (n : Notice) (led : Led) → IsLedBy script st n led → AllMay led.dropped
  notice_may n led (fits so) = All-nil (MayDrop log rear.log.downs)
  notice_may n led (sticks_at unfit) = All-nil (MayDrop log rear.log.downs)

  module _ (c : ℕ) (is : st.class ≡ Some c) (keeps : All (IsFitFor script c) (kept st)) (before got : List Event) (led : Led) where
    entered_may : IsEntered script st before got led → ((e : Event) → got ≡ before ++ e ∷ [] → IsFitFor script c e) → AllMay led.dropped
    entered_may (inl t) fit =
        let own : IsFitFor script c t.event =
        All-contains (IsFitFor script c) st.deferred t.event (deferred_all (IsFitFor script c) st.front.mode st.deferred keeps) (first_there st t.place t.event t.first) in
        becomes_may (without st t.place) t.event led (λ drops. may_drop c t.event own t.free drops)
        (subst (λ (x : Option ℕ). is_fit script x t.event ≡ true) (sym is) own) (led_becomes script (without st t.place) t.event led t.leads)
    entered_may (inr t) fit =
        let own : IsFitFor script c t.event = fit t.event t.took in
        becomes_may st t.event led (λ drops. may_drop c t.event own t.free drops)
        (subst (λ (x : Option ℕ). is_fit script x t.event ≡ true) (sym is) own) (led_becomes script st t.event led t.leads)

    pub taken_may : (got_before got_now told : List Notice) → IsTaken script st before got got_before got_now told led
        → ((e : Event) → got ≡ before ++ e ∷ [] → IsFitFor script c e) → AllMay led.dropped
    taken_may got_before got_now told (inl t) fit = notice_may t.notice led t.leads
    taken_may got_before got_now told (inr t) fit = entered_may t.entered fit

-- The event that comes.
no_more : {X A : Type 0} (x : X) (rest : List X) → [] ≡ x ∷ rest → A
no_more x rest is = absurd cc

none_deferred : {A : Type 0} (place : ℕ) (e : Event) → slice_get [] place ≡ Some e → A
none_deferred place e is = absurd cc

module _ (script : Script) (alarm : Option (ℤ × ℕ)) (st : Stood) (is : st ≡ fresh None alarm) (before got : List Event) (led : Led) where
  -- A front without a class takes an event that has just come, where no notice has.
  entered_starts : IsEntered script st before got led → (e : Event) × (got ≡ before ++ e ∷ []) × StartsBy script alarm e led
  entered_starts (inl t) =
      none_deferred t.place t.event (subst (λ (s : Stood). slice_get s.deferred t.place ≡ Some t.event) is t.first.there)
  entered_starts (inr t) = (t.event, t.took, led_starts script alarm st t.event led is t.leads)

  pub taken_starts : (got_before got_now told notices later : List Notice) → notices ≡ [] → got_before ++ notices ≡ got_now ++ later
      → IsTaken script st before got got_before got_now told led → (e : Event) × (got ≡ before ++ e ∷ []) × StartsBy script alarm e led
  taken_starts got_before got_now told notices later none way (inl t) =
      let come : notices ≡ t.notice ∷ later =
      append_cancel_left got_before notices (t.notice ∷ later)
      (way ∙ ap (λ (x : List Notice). x ++ later) t.took ∙ append_assoc got_before (t.notice ∷ []) later) in
      no_more t.notice later (sym none ∙ come)
  taken_starts got_before got_now told notices later none way (inr t) = entered_starts t.entered

-- An object in which nothing is to be done has let go all that passes; and it is quiet, unless its front stands still.
use Rattle.std.proofs.Common.{◌≡◌, ◌∙◌, ap, sym, refl, subst, inl, inr, ⊎_elim, true≢false, ℕ, suc, List, [], ◌∷◌, ◌++◌, length, map, append-nil, append_assoc, arith, Option, Some, None}
use Rattle.std.proofs.lemmas.Bool.{cases_eq, lt-ltb}
use Rattle.std.proofs.lemmas.List.{take_all}
use Rattle.std.proofs.lemmas.List.Elements.{All-nil, All-cons, All-contains, All-contains_itself, All-weaker, Contains-append_cases}
use Rattle.std.proofs.lemmas.List.Sorted.{Contains-permutation}
use Rattle.std.specs.Prelude.{Bool, true, false, not, ◌&&◌, ◌||◌, ◌⊎◌, nat_lt}
use Rattle.std.specs.List.{All, Contains, flat_map, list_any}
use Rattle.do_tree.specs.Tree.{Script}
use Rattle.lane.specs.Lanes.{sent_on}
use Rattle.storage_map.specs.Contents.{Contents}
use Rattle.timeline.specs.Headline.{AreDurable, IsQuiet, IsDeferred, IsDeferredIn, pass_of, release_of, state_of}
use Rattle.timeline.specs.History.{history, incarnation_at, incarnations, entries_of, of_number, said_in}
use Rattle.timeline.specs.Intake as intake
use Rattle.timeline.specs.Intake.{Kind, Front, Mode, serves, down, events_in}
use Rattle.timeline.specs.Laws.{IsAtRest}
use Rattle.timeline.specs.Left.{left}
use Rattle.timeline.specs.Logs.{Fronted, Backed, fronted, backed}
use Rattle.timeline.specs.Object.{Object, State, idle, waiting, ended}
use Rattle.timeline.specs.Passed.{passed}
use Rattle.timeline.specs.declared.back_log.Release.{Release}
use Rattle.timeline.specs.declared.back_log.Stop.{Stop}
use Rattle.timeline.specs.declared.entry.Body.{Body}
use Rattle.timeline.specs.declared.entry.Entry.{Entry}
use Rattle.timeline.specs.declared.event.Event.{Event}
use Rattle.timeline.specs.declared.message.Message.{Message as Sent}
use Rattle.timeline.specs.declared.notice.Notice.{Notice}
use Rattle.front_turns.specs.Held.{life_in}
use Rattle.object_front.specs.Came.{events, wanting, kept}
use Rattle.object_front.specs.Classed.{class_behind}
use Rattle.object_front.specs.Evaluated.{seen}
use Rattle.front_half.specs.Remaining.{left_at, object_in}
use Rattle.front_half.specs.Standing as standing
use Rattle.front_half.specs.Standing.{Stood, IsClass, IsHalf, kind_in}
use Rattle.front_half.specs.Taking.{may_enter, waits}
use Rattle.output_gate.proofs.Stored.{head_same}
use Rattle.output_gate.specs.Releasing.{is_ready}
use Rattle.output_gate.specs.Serving.{is_stopped}
use Rattle.output_gate.specs.Held.{has_failed_read}
use Rattle.output_gate.specs.Taking.{is_wanted, may_take, most_unflushed}
use Rattle.output_gate.specs.Telling.{opened_map}
use Rattle.output_gate.specs.declared.back.Back.{Back}
use Rattle.output_gate.specs.declared.back.Mode.{Mode as BackMode}
use Rattle.output_gate.specs.declared.back.Mode.TheVariants.{Mounted, Wanted, Down}
use Rattle.output_gate.specs.declared.held.Held.{Held as BackHeld}
use Rattle.object_history.proofs.Entries.{said_numbered}
use Rattle.object_history.proofs.SaidSoFar.{entries_now, events_now}
use Rattle.object_history.proofs.StateAtRest.{pair_state}
use Rattle.object_history.proofs.Readings.{phase_now}
use Rattle.object_history.specs.Pair.{Held, Stand, Rear, Together, unreached, answered, syncs, halts, read_fails, falls, wants, mends, misses, silent, IsPair, IsPhase, newest}
use Rattle.object_history.specs.Seen.{held_of, stand_of}
use Rattle.front_history.specs.Turns.{HalvesAreWhole}
use Rattle.object_core.proofs.Alike.{stuck_alike, waits_alike, enters_alike}
use Rattle.object_core.proofs.Becoming.{pair_ends}
use Rattle.object_core.proofs.Emptied.{NeedsAll, holds_nothing, all_released, all_durable, all_flushed}
use Rattle.object_core.proofs.FitTaken.{events_logged}
use Rattle.object_core.proofs.Hearing.{not_none}
use Rattle.object_core.proofs.Leaving.{down_delivered, none_delivered, none_logged, rests_leave}
use Rattle.object_core.proofs.Pairing.{pair_now}
use Rattle.object_core.proofs.Telling.{is_whole}
use Rattle.object_core.specs.Heard.{is_news, IsWanted, IsUnderWay, by_notice, by_hold, by_mounting, by_entry, IsHeard}
use Rattle.object_core.specs.Laws.{HasLetGo, HasNothingToDo}
use Rattle.object_core.specs.Leaving.{left_of}
use Rattle.object_core.specs.One.{HasItsClass, IsOne, Origin, TellsNow, class_in}
use Rattle.object_core.specs.Seen.{seen_of}
use Rattle.object_core.specs.Stepping.{IsIdleAt}
use Rattle.object_core.specs.declared.object.Core.{Core}

-- What bars a step of a back that isn't stuck.
and_free : (a b : Bool) → a ≡ false → (not a && b) ≡ false → b ≡ false
and_free true b free is = absurd (true≢false free)
and_free false b free is = is

all_free : (stuck wanted failed few : Bool) → stuck ≡ false → wanted ≡ false → failed ≡ false → few ≡ true → (not stuck && not wanted && not failed && few) ≡ true
all_free true wanted failed few free none fails so = absurd (true≢false free)
all_free false true failed few free none fails so = absurd (true≢false none)
all_free false false true few free none fails so = absurd (true≢false fails)
all_free false false false few free none fails so = so

none_wanted : (m : BackMode) → is_wanted m ≡ false → IsWanted (stand_of m) → ⊥
none_wanted Mounted none want = want
none_wanted (Wanted ending) none want = true≢false none
none_wanted (Down ending) none want = want

-- What is held for a front needs all that was taken.
together_needs : (start : Contents) (f : Front) (front : Fronted) (back : Backed) (unread : List Body) (before : ℕ) (stand : Stand) (held : List Held) (notices : List Notice)
    → Together start f front back unread before stand held notices → NeedsAll before held
together_needs start f front back unread before stand held notices (unreached state mode u) x xs is = absurd (not_none x xs (sym is))
together_needs start f front back unread before stand held notices (answered n answer none) x xs is = absurd (not_none x xs (sym is))
together_needs start f front back unread before stand held notices (syncs o t mode none) x xs is =
    sym (ap (λ (h : Held). h.needs) (head_same _ x [] xs is))
together_needs start f front back unread before stand held notices (halts c mode none some) x xs is =
    sym (ap (λ (h : Held). h.needs) (head_same _ x [] xs is))
together_needs start f front back unread before stand held notices (read_fails o t a free counts_before counts_after mode none) x xs is =
    sym (ap (λ (h : Held). h.needs) (head_same _ x [] xs is))
together_needs start f front back unread before stand held notices (falls call c mode u length_is) x xs is = absurd (not_none x xs (sym is))
together_needs start f front back unread before stand held notices (wants call c mode none length_is) x xs is = absurd (not_none x xs (sym is))
together_needs start f front back unread before stand held notices (mends call c i mode none) x xs is = absurd (not_none x xs (sym is))
together_needs start f front back unread before stand held notices (misses call c again counts_before counts_after older mode none missed length_is) x xs is =
    absurd (not_none x xs (sym is))
together_needs start f front back unread before stand held notices (silent other none may) x xs is = absurd (not_none x xs (sym is))

pair_needs : (k : Kind) (opened : Contents) (f : Front) (front : Fronted) (rear : Rear) (line : List Entry) (notices : List Notice)
    (pair : IsPair k opened f front rear line notices) → IsPhase opened pair.below pair.start f front rear pair.lined.unread pair.lined.late notices
    → NeedsAll rear.before rear.held
pair_needs k opened f front rear line notices pair (inl together) =
    together_needs pair.start f front rear.log pair.lined.unread rear.before rear.stand rear.held notices together.1
pair_needs k opened f front rear line notices pair (inr behind) = λ x xs is. absurd (not_none x xs (sym is ∙ behind.1.none_held))

-- None of these passes the test.
or_false : (a b : Bool) → (a || b) ≡ false → (a ≡ false) × (b ≡ false)
or_false true b is = absurd (true≢false is)
or_false false b is = (refl, is)

none_passes : {X : Type 0} (p : X → Bool) (xs : List X) → list_any p xs ≡ false → All (λ (x : X). p x ≡ false) xs
none_passes {X} p [] none = All-nil (λ (x : X). p x ≡ false)
none_passes {X} p (x ∷ xs) none =
    let both = or_false (p x) (list_any p xs) none in
    All-cons (λ (y : X). p y ≡ false) x xs both.0 (none_passes p xs both.1)

-- A front that doesn't wait is at rest, and no call waits for a mounting.
rests : (m : Mode) → waits m ≡ false → IsAtRest m
rests (serves (idle o)) none = tt
rests (serves (waiting o t b)) none = absurd (true≢false none)
rests (serves (ended c)) none = tt
rests (down call) none = tt

pub none_wanting : (m : Mode) → waits m ≡ false → wanting m ≡ []
none_wanting (serves state) none = refl
none_wanting (down None) none = refl
none_wanting (down (Some call)) none = absurd (true≢false none)

module _ {D : Type 0} (moment_of : D → ℕ) (left_since : D → ℕ → List ℕ → Type 0) (told : D → Option (List ℕ)) (image : D → List ℕ → Type 0) (faults_of : D → ℕ)
    (core : Core D) (script : Script) (origin : Origin) (one : IsOne moment_of left_since told image faults_of script origin core)
    (tells : TellsNow told core.back) (class : ℕ) (is : IsClass one.st.class class) (has : HasItsClass script origin.object)
    (front_goes : standing.is_stopped core.front.half ≡ false) (back_goes : is_stopped core.back ≡ false) (nothing : HasNothingToDo script core) where
  abbrev back : Back D
  back = core.back

  abbrev front : Fronted
  front = fronted core.front.half.log

  abbrev log : Backed
  log = backed back.log

  abbrev opened : Contents
  opened = opened_map origin.start

  abbrev rear : Rear
  rear = seen_of opened back

  abbrev mode : Mode
  mode = one.st.front.mode

  -- The back isn't stuck.
  fits_back : back.stuck ≡ false
  fits_back = (one.fits has tells front_goes back_goes).0

  even : back.before ≡ back.durable
  even = nothing.flush

  -- What the halves are, as they stand.
  is_pair : IsPair (kind_in script class) opened one.st.front front rear (one.lost ++ core.line.waiting) core.notices.waiting
  is_pair = pair_now (kind_in script class) opened one.st core.front.half rear (one.lost ++ core.line.waiting) core.notices.waiting front_goes (one.pair tells class is)

  -- As many ends are logged as there are incarnations before its own.
  pub one_ends : suc (length front.ends) ≡ one.st.front.incarnation
  one_ends = pair_ends (kind_in script class) opened one.st.front front rear (one.lost ++ core.line.waiting) core.notices.waiting is_pair

  no_mounting : is_wanted back.mode ≡ false
  no_mounting = and_free back.stuck (is_wanted back.mode) fits_back nothing.mend

  -- Nothing is held.
  held_none : back.held.items ≡ []
  held_none =
      holds_nothing moment_of left_since told image faults_of origin.start origin.opening (not (is_stopped back)) front back tells.0 tells.1 tells.2 one.back_stands even
      (pair_needs (kind_in script class) opened one.st.front front rear (one.lost ++ core.line.waiting) core.notices.waiting is_pair (phase_now is_pair))
      (and_free back.stuck (is_ready back.held.items back.durable) fits_back nothing.release)

  -- All that was sent was taken.
  takes_all : may_take back ≡ true
  takes_all =
      all_free back.stuck (is_wanted back.mode) (has_failed_read back.held.items) (nat_lt back.unflushed most_unflushed) fits_back no_mounting (ap has_failed_read held_none)
      (lt-ltb back.unflushed most_unflushed
      (omega (arith, all_flushed moment_of left_since told image faults_of origin.start origin.opening (not (is_stopped back)) front back one.back_stands even)))

  line_none : core.line.waiting ≡ []
  line_none = ⊎_elim (λ barred. absurd (true≢false (sym takes_all ∙ barred))) (λ none. none) nothing.take

  nothing_under_way : one.lost ++ core.line.waiting ≡ []
  nothing_under_way = ap (λ (lost : List Entry). lost ++ core.line.waiting) (one.none_lost fits_back back_goes) ∙ line_none

  taken_is_sent : log.taken ≡ front.sent
  taken_is_sent =
      sym (append-nil log.taken) ∙ ap (λ (entries : List Entry). log.taken ++ entries) (sym nothing_under_way)
      ∙ sym (append_assoc log.taken one.lost core.line.waiting) ∙ sym one.is_line

  is_durable : AreDurable (history front log)
  is_durable = all_durable moment_of left_since told image faults_of origin.start origin.opening (not (is_stopped back)) front back one.back_stands even

  is_released : map release_of log.released ≡ map pass_of (passed (history front log))
  is_released = all_released moment_of left_since told image faults_of origin.start origin.opening (not (is_stopped back)) front back tells.0 tells.1 tells.2 one.back_stands held_none

  has_left : origin.left ≡ [] → sent_on core.out ≡ map (λ (release : Release). release.message) log.released
  has_left none = sym (one.left ∙ ap (λ (left : List Sent). left ++ sent_on core.out) none)

  pub has_let_go : origin.left ≡ [] → HasLetGo front log (sent_on core.out)
  has_let_go none = record { taken = taken_is_sent; durable = is_durable; released = is_released; left = has_left none }

  module _ (laws : HalvesAreWhole) (fits : core.front.half.stuck ≡ false) where
    -- The front has nothing to take.
    front_free : one.st.stuck ≡ false
    front_free = sym (one.front_stands front_goes).stuck ∙ fits

    abbrev Rests : Type 0
    Rests = (core.notices.waiting ≡ []) × ((waits mode ≡ true) ⊎ ((list_any (may_enter mode) one.st.deferred ≡ false) × (core.inbox.waiting ≡ [])))

    rests_as : (st : Stood) → IsHalf seen script core.front.half st → IsIdleAt st core → Rests
    rests_as st half (inl stuck) =
        absurd (true≢false (sym stuck ∙ stuck_alike seen script core.front.half st one.st half (one.front_stands front_goes) ∙ front_free))
    rests_as st half (inr so) = (so.0, either so.1)
      where
        either : (waits st.front.mode ≡ true) ⊎ ((list_any (may_enter st.front.mode) st.deferred ≡ false) × (core.inbox.waiting ≡ []))
            → (waits mode ≡ true) ⊎ ((list_any (may_enter mode) one.st.deferred ≡ false) × (core.inbox.waiting ≡ []))
        either (inl waiting_so) = inl (sym (waits_alike seen script core.front.half st one.st half (one.front_stands front_goes)) ∙ waiting_so)
        either (inr none) = inr (sym (enters_alike seen script core.front.half st one.st half (one.front_stands front_goes)) ∙ none.0, none.1)

    front_rests : Rests
    front_rests = rests_as nothing.turn.0 nothing.turn.1 nothing.turn.2

    hears : IsHeard one.st.front rear (one.lost ++ core.line.waiting) core.notices.waiting
    hears = one.heard tells front_goes back_goes

    -- It waits for nothing, since nothing is under way to it.
    nothing_comes : IsUnderWay one.st.front rear (one.lost ++ core.line.waiting) core.notices.waiting → ⊥
    nothing_comes (by_notice some) = some front_rests.0
    nothing_comes (by_hold some) = some (ap (λ (items : List BackHeld). flat_map held_of items) held_none)
    nothing_comes (by_mounting want) = none_wanted back.mode no_mounting want
    nothing_comes (by_entry some) = some (ap (λ (entries : List Entry). entries_of one.st.front.incarnation entries) nothing_under_way)

    waits_as : (so : Bool) → waits mode ≡ so → waits mode ≡ false
    waits_as true so = absurd (nothing_comes (hears.answer so))
    waits_as false so = so

    pub waits_not : waits mode ≡ false
    waits_not = waits_as (waits mode) refl

    none_takes : (list_any (may_enter mode) one.st.deferred ≡ false) × (core.inbox.waiting ≡ [])
    none_takes = ⊎_elim (λ so. absurd (true≢false (sym so ∙ waits_not))) (λ none. none) front_rests.1

    none_enters : list_any (may_enter mode) one.st.deferred ≡ false
    none_enters = none_takes.0

    -- Its incarnation is the back's newest.
    no_news : (list_any is_news core.notices.waiting ≡ true) ⊎ IsWanted rear.stand → ⊥
    no_news (inl has) = true≢false (sym has ∙ ap (λ (ns : List Notice). list_any is_news ns) front_rests.0)
    no_news (inr want) = none_wanted back.mode no_mounting want

    pub is_newest : one.st.front.incarnation ≡ suc (length log.stops)
    is_newest = ⊎_elim (λ same. sym same) (λ differs. absurd (no_news (hears.news differs))) (cases_eq (newest log) one.st.front.incarnation)

    same_below : is_pair.below ≡ length log.stops
    same_below = omega (arith, is_pair.number, is_newest)

    -- So its front knows of each end.
    knows_ends : front.ends ≡ map (λ (stop : Stop). stop.cause) log.stops
    knows_ends =
        is_pair.ends
        ∙ ap (λ (stops : List Stop). map (λ (stop : Stop). stop.cause) stops) (take_all is_pair.below log.stops (omega (arith, same_below)))

    -- Where it serves, the object of the definition stands as the front does.
    state_is : (o : Object) → mode ≡ serves (idle o) → state_of script class opened (incarnation_at front log (length log.stops)) (incarnations front log (length log.stops)) ≡ idle o
    state_is o so =
        subst (λ (n : ℕ). state_of script class opened (incarnation_at front log n) (incarnations front log n) ≡ idle o) same_below
        (pair_state (kind_in script class) opened one.st.front front rear (one.lost ++ core.line.waiting) core.notices.waiting is_pair (idle o) so tt)

    -- What its newest incarnation was delivered and has said is logged.
    pub was_delivered : of_number (suc (length log.stops)) front.delivered ≡ one.st.front.events
    was_delivered = ap (λ (n : ℕ). of_number n front.delivered) (sym is_newest) ∙ events_now one.st.front front is_pair.logged

    pub has_said : said_in (entries_of (suc (length log.stops)) front.sent) ≡ one.st.front.said
    has_said =
        ap (λ (n : ℕ). said_in (entries_of n front.sent)) (sym is_newest) ∙ ap said_in (entries_now one.st.front front is_pair.logged)
        ∙ said_numbered one.st.front.incarnation 1 one.st.front.said

    -- Nothing was delivered to it while its class isn't known.
    unknown_none : one.st.class ≡ None → one.st.front.events ≡ []
    unknown_none unknown =
        let first : Option ℕ = class_in script origin.object in
        let t = one.has_taken front_goes class is in
        let logged : events front.delivered ≡ events_in t.0 = ap events t.1.delivered ∙ events_logged (kind_in script class) (intake.opened one.alarm) t.0 in
        let behind : class_behind script first (events_in t.0) ≡ None =
        ap (λ (es : List Event). class_behind script first es) (sym logged) ∙ sym (one.classed.now front_goes) ∙ unknown in
        sym (events_now one.st.front front is_pair.logged)
        ∙ ap (λ (items : List (ℕ × Event)). of_number one.st.front.incarnation items)
        (none_logged front.delivered (logged ∙ none_delivered script first t.0 t.2 behind))

    keeps_deferred : kept one.st ≡ one.st.deferred
    keeps_deferred = ap (λ (es : List Event). es ++ one.st.deferred) (none_wanting mode waits_not)

    -- What it leaves is what its logs show.
    pub leaves : left_at script one.st ≡ left_of script class opened front log (kept one.st)
    leaves =
        let n : ℕ = length log.stops in
        let st = one.st in
        let o : Object = object_in (state_of script class opened (incarnation_at front log n) (incarnations front log n)) in
        rests_leave script class st (state_of script class opened (incarnation_at front log n) (incarnations front log n)) is unknown_none waits_not state_is
        (λ call so. down_delivered (kind_in script class) (incarnations front log is_pair.below) is_pair.start st.front front log is_pair.newest_said call so)
        ∙ ap (λ (i : ℕ). left (life_in script class i) o st.front.events st.front.said st.deferred) is_newest
        ∙ ap (λ (es : List Event). left (life_in script class (suc n)) o es st.front.said st.deferred) (sym was_delivered)
        ∙ ap (λ (said : List Body). left (life_in script class (suc n)) o (of_number (suc n) front.delivered) said st.deferred) (sym has_said)
        ∙ ap (λ (keeps : List Event). left (life_in script class (suc n)) o (of_number (suc n) front.delivered) (said_in (entries_of (suc n) front.sent)) keeps)
        (sym keeps_deferred)

    deferred_as : (m : Mode) → mode ≡ m → waits m ≡ false → (e : Event) → may_enter m e ≡ false → IsDeferredIn script class opened (history front log) e
    deferred_as (serves (idle o)) so rest e may = subst (λ (s : State). IsDeferred s e) (sym (state_is o so)) may
    deferred_as (serves (waiting o t b)) so rest e may = absurd (true≢false rest)
    deferred_as (serves (ended c)) so rest e may = absurd (true≢false rest)
    deferred_as (down call) so rest e may = absurd (true≢false may)

    deferred_is : (e : Event) → Contains one.st.deferred e → IsDeferredIn script class opened (history front log) e
    deferred_is e has =
        deferred_as mode refl waits_not e
        (All-contains (λ (x : Event). may_enter mode x ≡ false) one.st.deferred e (none_passes (may_enter mode) one.st.deferred none_enters) has)

    -- What became of each event that was got.
    abbrev Came : Event → Type 0
    Came e = Contains (events front.delivered) e ⊎ Contains (events front.downed) e ⊎ Contains front.dropped e ⊎ IsDeferredIn script class opened (history front log) e

    abbrev lost_events : List Event
    lost_events = one.has_got.lost

    nowhere : (e : Event) → Contains (kept one.st ++ lost_events) e → Contains one.st.deferred e
    nowhere e has =
        let none : lost_events ≡ [] = one.has_got.none_lost front_goes front_free in
        subst (λ (es : List Event). Contains es e)
        (ap (λ (es : List Event). (es ++ one.st.deferred) ++ lost_events) (none_wanting mode waits_not)
        ∙ ap (λ (es : List Event). one.st.deferred ++ es) none ∙ append-nil one.st.deferred) has

    came_last : (e : Event) → Contains front.dropped e ⊎ Contains (kept one.st ++ lost_events) e → Came e
    came_last e (inl has) = inr (inr (inl has))
    came_last e (inr has) = inr (inr (inr (deferred_is e (nowhere e has))))

    came_behind : (e : Event) → Contains (events front.downed) e ⊎ Contains (front.dropped ++ (kept one.st ++ lost_events)) e → Came e
    came_behind e (inl has) = inr (inl has)
    came_behind e (inr has) = came_last e (Contains-append_cases front.dropped (kept one.st ++ lost_events) e has)

    came_so : (e : Event) → Contains (events front.delivered) e ⊎ Contains (events front.downed ++ (front.dropped ++ (kept one.st ++ lost_events))) e → Came e
    came_so e (inl has) = inl has
    came_so e (inr has) = came_behind e (Contains-append_cases (events front.downed) (front.dropped ++ (kept one.st ++ lost_events)) e has)

    all_came : All Came core.inbox.got
    all_came =
        All-weaker (Contains core.inbox.got) Came
        (λ e has. came_so e (Contains-append_cases (events front.delivered) (events front.downed ++ (front.dropped ++ (kept one.st ++ lost_events))) e
        (Contains-permutation core.inbox.got (events front.delivered ++ (events front.downed ++ (front.dropped ++ (kept one.st ++ lost_events)))) e one.has_got.come.each has)))
        core.inbox.got (All-contains_itself core.inbox.got)

    pub is_quiet : origin.left ≡ [] → (core.inbox.waiting ≡ []) × IsQuiet script class opened front log core.inbox.got (sent_on core.out)
    is_quiet none = (
      none_takes.1,
      record {
        ends = knows_ends;
        taken = taken_is_sent;
        said = (is_whole moment_of left_since told image faults_of core script origin one laws tells class is front_goes (length log.stops) is_newest).whole (rests mode waits_not);
        durable = is_durable;
        released = is_released;
        routed = has_left none;
        posts = all_came;
      },
    )

-- Each fetch at which an object in which nothing is to be done leaves a call was let go, and no answer to it was given.
use Rattle.std.proofs.Common.{◌≡◌, ◌∙◌, ap, sym, refl, subst, ◌⊎◌, inl, inr, ⊎_elim, true≢false, ℕ, suc, ◌≤◌, List, [], ◌∷◌, ◌++◌, length, map, arith, Option, Some, None, unwrap_or}
use Rattle.std.proofs.lemmas.Bool.Decides.{nat_tests}
use Rattle.std.proofs.lemmas.Grind.{flat_map-append}
use Rattle.std.proofs.lemmas.List.Elements.{All-append, All-cons, All-contains, All-head, All-nil, All-tail, Contains-append_cases, Contains-append_left, Contains-append_right}
use Rattle.std.proofs.lemmas.List.Sorted.{Contains-permutation}
use Rattle.std.specs.List.{All, Contains, flat_map}
use Rattle.std.specs.Prelude.{Bool, true, false, ◌==◌, if◌then◌else◌}
use Rattle.do_tree.specs.Tree.{Script}
use Rattle.lane.specs.Lanes.{sent_on}
use Rattle.timeline.specs.History.{entries_of, history, of_number, said_in}
use Rattle.timeline.specs.Intake.{Front, Kind, Mode, Taken, delivered, down, downed_by, downed_in, noticed, opened, serves, takes, wanted}
use Rattle.timeline.specs.Left.{left, left_call, left_event}
use Rattle.timeline.specs.Logs.{Backed, Fronted, backed, fronted}
use Rattle.timeline.specs.Object.{Life, begun, ended, idle, waiting}
use Rattle.timeline.specs.Passed.{passed}
use Rattle.timeline.specs.Replies.{unanswered}
use Rattle.timeline.specs.declared.back_log.Missed.{Missed}
use Rattle.timeline.specs.declared.caller.Caller.{Caller}
use Rattle.timeline.specs.declared.entry.Body.{Body}
use Rattle.timeline.specs.declared.entry.Entry.{Entry}
use Rattle.timeline.specs.declared.event.Event.{Event}
use Rattle.timeline.specs.declared.event.Event.TheVariants as event
use Rattle.timeline.specs.declared.message.Message.{Message as Sent}
use Rattle.timeline.specs.declared.notice.Notice.TheVariants as notice
use Rattle.timeline.specs.declared.notice.Waits.{Waits}
use Rattle.timeline.specs.declared.notice.Waits.TheVariants as waits
use Rattle.front_history.specs.Turns.{HalvesAreWhole}
use Rattle.front_turns.specs.Held.{life_in}
use Rattle.object_front.specs.Came.{AreCome, events, kept}
use Rattle.object_front.specs.Evaluated.{seen}
use Rattle.front_half.specs.Kinds.{is_call}
use Rattle.front_half.specs.Remaining.{left_at, object_at}
use Rattle.front_half.specs.Standing.{IsHalf, IsTakenBy, Stood, kind_in}
use Rattle.front_half.specs.Taking.{class_after, waits as stays}
use Rattle.object_messages.proofs.FrontsFetching.{IsOwn, answers_own, left_open}
use Rattle.object_messages.proofs.PassedWhole.{newest_whole}
use Rattle.object_messages.specs.Fetches.{IsOpenFetch, sent_in}
use Rattle.object_messages.specs.Laws.{gone}
use Rattle.object_messages.specs.Naming.{answered_by, answered_in, fetched_by, fetched_in, message_of, messages_of}
use Rattle.object_core.proofs.Drops.{names_one}
use Rattle.object_core.proofs.Once.{class_is}
use Rattle.object_core.proofs.Owing.{first_of, passed_first, released_first}
use Rattle.object_core.proofs.Quiet.{has_let_go, has_said, is_newest, none_wanting, one_ends, waits_not, was_delivered}
use Rattle.object_core.proofs.Serving.{named_by, names_by}
use Rattle.object_core.specs.Dropping.{AreFitting, MayDrop}
use Rattle.object_core.specs.Fetches.{IsUnanswered}
use Rattle.object_core.specs.Fitting.{IsFitIntake}
use Rattle.object_core.specs.Laws.{GoesOn, HasLetGo, HasNothingToDo}
use Rattle.object_core.specs.One.{HasItsClass, IsOne, Origin, TellsNow, class_in}
use Rattle.object_core.specs.declared.object.Core.{Core}

-- While it isn't mounted, an object leaves no call at a fetch.
abbrev IsNoFetch : Waits → Type 0
IsNoFetch (waits.Fetch incarnation number) = ⊥
IsNoFetch wait = Unit {0}

abbrev NoFetch : Caller × Waits → Type 0
NoFetch item = IsNoFetch item.1

calls_none : (l : Life) (deferred : List Event) (calling : List Caller) → All NoFetch (flat_map (left_call l (begun None) deferred) calling)
calls_none l deferred [] = All-nil NoFetch
calls_none l deferred (from ∷ calling) =
    All-cons NoFetch (from, waits.Block) (flat_map (left_call l (begun None) deferred) calling) tt (calls_none l deferred calling)

events_none : (es : List Event) → All NoFetch (flat_map left_event es)
events_none [] = All-nil NoFetch
events_none (event.Call from method args depth at ∷ es) = All-cons NoFetch (from, waits.Block) (flat_map left_event es) tt (events_none es)
events_none (event.Bind identity ∷ es) = events_none es
events_none (event.Answer incarnation number result at ∷ es) = events_none es
events_none (event.Tick at ∷ es) = events_none es
events_none (event.Evict at ∷ es) = events_none es

-- Only a call asks for a mounting, so that only calls are answered by `Down`.
abbrev ModeCalls : Mode → Type 0
ModeCalls (serves state) = Unit {0}
ModeCalls (down None) = Unit {0}
ModeCalls (down (Some e)) = is_call e ≡ true

abbrev WantsCall : Taken → Type 0
WantsCall (wanted e) = is_call e ≡ true
WantsCall t = Unit {0}

takes_calls : (k : Kind) (i : ℕ) (es : List Event) (said : List Body) (mode : Mode) (t : Taken) → ModeCalls mode → WantsCall t
    → ModeCalls (takes k (record { incarnation = i; events = es; said = said; mode = mode }) t).mode
takes_calls k i es said (serves (idle o)) (delivered e) is wants = tt
takes_calls k i es said (serves (waiting o t b)) (noticed (notice.Read number r)) is wants = tt
takes_calls k i es said (serves (waiting o t b)) (noticed (notice.Taken number count)) is wants = tt
takes_calls k i es said (serves (waiting o t b)) (noticed (notice.Synced number)) is wants = tt
takes_calls k i es said (serves state) (noticed (notice.Fresh incarnation alarm cause)) is wants = tt
takes_calls k i es said (serves state) (noticed (notice.Down cause before after)) is wants = tt
takes_calls k i es said (down call) (noticed (notice.Fresh incarnation alarm cause)) is wants = tt
takes_calls k i es said (down call) (noticed (notice.Down cause before after)) is wants = tt
takes_calls k i es said mode (wanted e) is wants = wants
takes_calls k i es said mode t is wants = is

first_fit : (script : Script) (class : Option ℕ) (t : Taken) (taken : List Taken) → IsFitIntake script class (t ∷ taken)
    → WantsCall t × ((c : Option ℕ) × IsFitIntake script c taken)
first_fit script class (delivered e) taken fit = (tt, (class_after script class e, fit.1))
first_fit script class (noticed n) taken fit = (tt, (class, fit))
first_fit script class (wanted e) taken fit = (fit.0, (class, fit.1))

abbrev IsOfCall : ℕ × Event → Type 0
IsOfCall item = is_call item.1 ≡ true

item_calls : (now : ℕ) (mode : Mode) (t : Taken) → ModeCalls mode → All IsOfCall (downed_by now mode t)
item_calls now (down (Some call)) (noticed (notice.Down cause before after)) is = All-cons IsOfCall (now, call) [] is (All-nil IsOfCall)
item_calls now mode t is = All-nil IsOfCall

downed_calls : (k : Kind) (script : Script) (class : Option ℕ) (taken : List Taken) (f : Front) → ModeCalls f.mode → IsFitIntake script class taken
    → All IsOfCall (downed_in k f taken)
downed_calls k script class [] f is fit = All-nil IsOfCall
downed_calls k script class (t ∷ taken) f is fit =
    let both = first_fit script class t taken fit in
    All-append IsOfCall (downed_by f.incarnation f.mode t) (downed_in k (takes k f t) taken) (item_calls f.incarnation f.mode t is)
    (downed_calls k script both.1.0 taken (takes k f t) (takes_calls k f.incarnation f.events f.said f.mode t is both.0) both.1.1)

-- A call answers nothing.
no_call_answers : (e : Event) (asked : ℕ × ℕ) → is_call e ≡ true → Contains (answered_by e) asked → ⊥
no_call_answers (event.Call from method args depth at) asked is has = omega (arith, has.1)
no_call_answers (event.Bind identity) asked is has = omega (arith, has.1)
no_call_answers (event.Answer incarnation number result at) asked is has = true≢false (sym is)
no_call_answers (event.Tick at) asked is has = omega (arith, has.1)
no_call_answers (event.Evict at) asked is has = omega (arith, has.1)

-- No call among the items of a log answers.
none_downed : (items : List (ℕ × Event)) (asked : ℕ × ℕ) → All IsOfCall items → Contains (answered_in (events items)) asked → ⊥
none_downed [] asked all has = omega (arith, has.1)
none_downed (item ∷ items) asked all has =
    elim (Contains-append_cases (answered_by item.1) (answered_in (events items)) asked has) [
      | inl here ↦ no_call_answers item.1 asked (All-head IsOfCall item items all) here
      | inr later ↦ none_downed items asked (All-tail IsOfCall item items all) later
    ]

-- What answers a call or a fetch of an incarnation was delivered to it.
same_number : (i n : ℕ) → i ≡ n → (i == n) ≡ true
same_number i n is = grind (arith, nat_tests)

own_among : (i : ℕ) (items : List (ℕ × Event)) (asked : ℕ × ℕ) → All IsOwn items → asked.0 ≡ i → Contains (answered_in (events items)) asked
    → Contains (answered_in (of_number i items)) asked
own_among i [] asked all own has = has
own_among i (item ∷ items) asked all own has =
    elim (Contains-append_cases (answered_by item.1) (answered_in (events items)) asked has) [
      | inl here ↦
          let of_item : asked.0 ≡ item.0 = All-contains (λ (x : ℕ × ℕ). x.0 ≡ item.0) (answered_by item.1) asked (All-head IsOwn item items all) here in
          by_first (item.0 == i) (same_number item.0 i (sym of_item ∙ own)) here
      | inr later ↦ with_first (item.0 == i) (own_among i items asked (All-tail IsOwn item items all) own later)
    ]
  where
    by_first : (b : Bool) → b ≡ true → Contains (answered_by item.1) asked
        → Contains (answered_in (if b then item.1 ∷ of_number i items else of_number i items)) asked
    by_first true is here = Contains-append_left (answered_by item.1) (answered_in (of_number i items)) asked here
    by_first false is here = absurd (true≢false (sym is))

    with_first : (b : Bool) → Contains (answered_in (of_number i items)) asked
        → Contains (answered_in (if b then item.1 ∷ of_number i items else of_number i items)) asked
    with_first true rest = Contains-append_right (answered_by item.1) (answered_in (of_number i items)) asked rest
    with_first false rest = rest

-- The messages of entries are those of what was said in them.
said_messages : (entries : List Entry) → sent_in (said_in entries) ≡ messages_of entries
said_messages [] = refl
said_messages (entry ∷ entries) = ap (λ (ms : List Sent). message_of entry.body ++ ms) (said_messages entries)

-- An event that may be dropped is no answer of this incarnation, unless another was delivered.
dropped_answers : (log : Fronted) (downs : List Missed) (e : Event) (asked : ℕ × ℕ) → MayDrop log downs e → Contains (answered_by e) asked
    → (asked.0 ≤ length log.ends) ⊎ Contains (answered_in (events log.delivered)) asked
dropped_answers log downs (event.Answer incarnation number result at) asked may has =
    subst (λ (x : ℕ × ℕ). (x.0 ≤ length log.ends) ⊎ Contains (answered_in (events log.delivered)) x) (names_one asked.0 asked.1 incarnation number has) may
dropped_answers log downs (event.Bind identity) asked may has = absurd may
dropped_answers log downs (event.Call from method args depth at) asked may has = absurd may
dropped_answers log downs (event.Tick at) asked may has = absurd (omega (arith, has.1))
dropped_answers log downs (event.Evict at) asked may has = absurd (omega (arith, has.1))

module _ {D : Type 0} (moment_of : D → ℕ) (left_since : D → ℕ → List ℕ → Type 0) (told : D → Option (List ℕ)) (image : D → List ℕ → Type 0) (faults_of : D → ℕ)
    (core : Core D) (script : Script) (origin : Origin) (one : IsOne moment_of left_since told image faults_of script origin core)
    (laws : HalvesAreWhole) (tells : TellsNow told core.back) (has : HasItsClass script origin.object) (goes : GoesOn core) (nothing : HasNothingToDo script core)
    (none_left : origin.left ≡ []) (fit : AreFitting script (class_in script origin.object) core.inbox.got) where
  abbrev st : Stood
  st = one.st

  abbrev class : ℕ
  class = unwrap_or one.st.class 0

  abbrev log : Fronted
  log = fronted core.front.half.log

  abbrev back : Backed
  back = backed core.back.log

  abbrev kind : Kind
  kind = kind_in script class

  half : IsHalf seen script core.front.half st
  half = one.front_stands goes.front

  rests : stays st.front.mode ≡ false
  rests = waits_not moment_of left_since told image faults_of core script origin one tells class (class_is one.st.class) has goes.front goes.back nothing laws goes.fits

  let_go : HasLetGo log back (sent_on core.out)
  let_go = has_let_go moment_of left_since told image faults_of core script origin one tells class (class_is one.st.class) has goes.front goes.back nothing none_left

  newest : st.front.incarnation ≡ suc (length back.stops)
  newest = is_newest moment_of left_since told image faults_of core script origin one tells class (class_is one.st.class) has goes.front goes.back nothing laws goes.fits

  delivered_is : of_number (suc (length back.stops)) log.delivered ≡ st.front.events
  delivered_is =
      was_delivered moment_of left_since told image faults_of core script origin one tells class (class_is one.st.class) has goes.front goes.back nothing laws goes.fits

  said_is : said_in (entries_of (suc (length back.stops)) log.sent) ≡ st.front.said
  said_is = has_said moment_of left_since told image faults_of core script origin one tells class (class_is one.st.class) has goes.front goes.back nothing laws goes.fits

  ends_known : suc (length log.ends) ≡ st.front.incarnation
  ends_known = one_ends moment_of left_since told image faults_of core script origin one tells class (class_is one.st.class) has goes.front goes.back nothing

  took : (taken : List Taken) × IsTakenBy kind (opened one.alarm) taken st.front log × IsFitIntake script (class_in script origin.object) taken
  took = one.has_taken goes.front class (class_is one.st.class)

  gone_is : sent_on core.out ≡ gone (passed (history log back))
  gone_is =
      let_go.left ∙ sym (released_first core.back.log.released.items) ∙ ap (λ (both : List (Sent × ℕ)). map first_of both) let_go.released
      ∙ passed_first (passed (history log back))

  come : AreCome core.inbox.got log st.deferred []
  come =
      subst (λ (keeps : List Event). AreCome core.inbox.got log keeps []) (ap (λ (es : List Event). es ++ st.deferred) (none_wanting st.front.mode rests))
      (subst (λ (lost : List Event). AreCome core.inbox.got log (kept st) lost) (one.has_got.none_lost goes.front (sym half.stuck ∙ goes.fits)) one.has_got.come)

  -- What its newest incarnation fetched was let go.
  fetched_gone : (asked : ℕ × ℕ) → Contains (fetched_in (sent_in st.front.said)) asked → Contains (fetched_in (sent_on core.out)) asked
  fetched_gone asked is =
      let whole = newest_whole log back in
      let own : List Sent = messages_of (entries_of (suc (length back.stops)) back.taken) in
      let own_is : sent_in st.front.said ≡ own =
      ap sent_in (sym said_is) ∙ said_messages (entries_of (suc (length back.stops)) log.sent)
      ∙ ap (λ (entries : List Entry). messages_of (entries_of (suc (length back.stops)) entries)) (sym let_go.taken) in
      subst (λ (ms : List Sent). Contains (fetched_in ms) asked) (sym (gone_is ∙ whole.1))
      (subst (λ (xs : List (ℕ × ℕ)). Contains xs asked) (sym (flat_map-append fetched_by whole.0 own))
      (Contains-append_right (fetched_in whole.0) (fetched_in own) asked (subst (λ (ms : List Sent). Contains (fetched_in ms) asked) own_is is)))

  module _ (asked : ℕ × ℕ) (opened_so : IsOpenFetch st.front.incarnation st.front.events st.front.said st.deferred asked) where
    none_delivered : Contains (answered_in (events log.delivered)) asked → ⊥
    none_delivered is =
        let all : All IsOwn log.delivered =
        subst (All IsOwn) (sym took.1.delivered) (answers_own kind one.alarm took.0 took.1.gate) in
        opened_so.unanswered
        (subst (λ (es : List Event). Contains (answered_in es) asked) (ap (λ (n : ℕ). of_number n log.delivered) newest ∙ delivered_is)
        (own_among st.front.incarnation log.delivered asked all opened_so.own is))

    none_dropped : (e : Event) → Contains log.dropped e → Contains (answered_by e) asked → ⊥
    none_dropped e there is =
        let may : MayDrop log core.back.log.downs.items e =
        All-contains (MayDrop log core.back.log.downs.items) log.dropped e ((one.drops tells).dropped fit) there in
        ⊎_elim (λ less. omega (arith, less, opened_so.own, ends_known)) (λ was. none_delivered was) (dropped_answers log core.back.log.downs.items e asked may is)

    none_answered_down : Contains (answered_in (events log.downed)) asked → ⊥
    none_answered_down is =
        none_downed log.downed asked
        (subst (All IsOfCall) (sym took.1.downed) (downed_calls kind script (class_in script origin.object) took.0 (opened one.alarm) tt took.2)) is

    none_given : Contains (answered_in core.inbox.got) asked → ⊥
    none_given is =
        let found = named_by answered_by core.inbox.got asked is in
        let e : Event = found.0 in
        let all : List Event = events log.delivered ++ (events log.downed ++ (log.dropped ++ (st.deferred ++ []))) in
        elim (Contains-append_cases (events log.delivered) (events log.downed ++ (log.dropped ++ (st.deferred ++ []))) e
        (Contains-permutation core.inbox.got all e come.each found.1)) [
          | inl delivered_so ↦ none_delivered (names_by answered_by (events log.delivered) e asked delivered_so found.2)
          | inr rest ↦ elim (Contains-append_cases (events log.downed) (log.dropped ++ (st.deferred ++ [])) e rest) [
            | inl downed_so ↦ none_answered_down (names_by answered_by (events log.downed) e asked downed_so found.2)
            | inr later ↦ elim (Contains-append_cases log.dropped (st.deferred ++ []) e later) [
              | inl dropped_so ↦ none_dropped e dropped_so found.2
              | inr kept_so ↦ elim (Contains-append_cases st.deferred [] e kept_so) [
                | inl deferred_so ↦ opened_so.undeferred (names_by answered_by st.deferred e asked deferred_so found.2)
                | inr none ↦ omega (arith, none.1)
              ]
            ]
          ]
        ]

  -- A front that stands so leaves calls at open fetches alone.
  left_as : (from : Caller) (incarnation number : ℕ) (m : Mode) → st.front.mode ≡ m → stays m ≡ false
      → Contains (left (life_in script class st.front.incarnation) (object_at m) st.front.events st.front.said st.deferred) (from, waits.Fetch incarnation number)
      → IsOpenFetch st.front.incarnation st.front.events st.front.said st.deferred (incarnation, number)
  left_as from incarnation number (serves (idle o)) is rest there =
      subst
      (λ (f : Front). Contains (left (life_in script class f.incarnation) o f.events f.said st.deferred) (from, waits.Fetch incarnation number)
      → IsOpenFetch f.incarnation f.events f.said st.deferred (incarnation, number)) took.1.at
      (left_open kind one.alarm took.0 o st.deferred took.1.gate (ap (λ (f : Front). f.mode) took.1.at ∙ is) from incarnation number) there
  left_as from incarnation number (serves (waiting o t b)) is rest there = absurd (true≢false rest)
  left_as from incarnation number (serves (ended cause)) is rest there = absurd (true≢false rest)
  left_as from incarnation number (down call) is rest there =
      let l : Life = life_in script class st.front.incarnation in
      let calling : List Caller = unanswered st.front.events st.front.said in
      absurd (All-contains NoFetch (left l (begun None) st.front.events st.front.said st.deferred) (from, waits.Fetch incarnation number)
      (All-append NoFetch (flat_map (left_call l (begun None) st.deferred) calling) (flat_map left_event st.deferred)
      (calls_none l st.deferred calling) (events_none st.deferred)) there)

  pub waits_for_fetches : (from : Caller) (incarnation number : ℕ) → Contains (left_at script st) (from, waits.Fetch incarnation number)
      → IsUnanswered core.inbox.got (sent_on core.out) (incarnation, number)
  waits_for_fetches from incarnation number there =
      let open_so = left_as from incarnation number st.front.mode refl rests there in
      record { let_go = fetched_gone (incarnation, number) open_so.fetched; none_given = none_given (incarnation, number) open_so }

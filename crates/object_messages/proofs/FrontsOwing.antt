-- A front replies to a caller no more often than he called.
use Rattle.std.proofs.Common.{◌≡◌, ◌∙◌, sym, refl, ap, true≢false, ℕ, suc, ◌+◌, ◌≤◌, List, [], ◌∷◌, ◌++◌, length, arith}
use Rattle.std.proofs.lemmas.Bool.{eqb-true, and_parts}
use Rattle.std.proofs.lemmas.List.Sums.{sum_by-cons, sum_by-append, sum_by_push}
use Rattle.std.specs.List.{filter, flat_map, list_any, sum_by}
use Rattle.std.specs.Prelude.{Bool, true, false, not, ◌&&◌, ◌||◌, ◌==◌, cond, Some, None}
use Rattle.do_value.specs.declared.value.Value.TheVariants as value
use Rattle.storage_map.specs.declared.answer.Reading.TheVariants as reading
use Rattle.script_mean.specs.declared.answer.Answer.{Answer}
use Rattle.script_mean.specs.declared.answer.Answer.TheVariants as answer
use Rattle.timeline.specs.Intake.{Front, Kind, Mode, Taken, delivered, noticed, wanted, closed_by, delivered_by, delivered_in, down, down_replies, downed_by, downed_in, entries_of, life, opened, resets, sent_by, serves, steps_to, takes}
use Rattle.timeline.specs.Object.{Object, OpenTask, State, Step, begun, idle, waiting, ended}
use Rattle.timeline.specs.Replies.{answered_by, caller_of, same_caller, reset_of, resets_of, unanswered}
use Rattle.timeline.specs.Steps.{delivers, answers}
use Rattle.timeline.specs.Told.{asking}
use Rattle.timeline.specs.declared.caller.Caller.{Caller}
use Rattle.timeline.specs.declared.caller.Caller.TheVariants.{Request as Line, Object as Other}
use Rattle.timeline.specs.declared.caller.Cause.{Cause}
use Rattle.timeline.specs.declared.entry.Body.{Body}
use Rattle.timeline.specs.declared.entry.Body.TheVariants as body
use Rattle.timeline.specs.declared.entry.Entry.{Entry}
use Rattle.timeline.specs.declared.event.Event.{Event}
use Rattle.timeline.specs.declared.event.Event.TheVariants as event
use Rattle.timeline.specs.declared.notice.Notice.TheVariants as notice
use Rattle.object_messages.proofs.Counts.{told, calls, times-append, times-flat_map, replies_are_told, numbered_told}
use Rattle.object_messages.proofs.Owing.{Owes, state_owes, object_owes, task_owes, delivers_owes, answers_owes}
use Rattle.object_messages.specs.Laws.{events, RepliesAreOwed}
use Rattle.object_messages.specs.Naming.{times}

-- Callers that are one are alike to a third.
alike : (a b x : Caller) → same_caller a b ≡ true → same_caller a x ≡ same_caller b x
alike (Line line number) (Line other_line other) (Line third_line third) same = ap (λ (n : ℕ). n == third_line) (eqb-true line other_line same)
alike (Line line number) (Line other_line other) (Other slot incarnation third) same = refl
alike (Line line number) (Other slot incarnation other) x same = absurd (true≢false (sym same))
alike (Other slot incarnation number) (Line line other) x same = absurd (true≢false (sym same))
alike (Other slot incarnation number) (Other other_slot other_incarnation other) (Line line third) same = refl
alike (Other slot incarnation number) (Other other_slot other_incarnation other) (Other third_slot third_incarnation third) same =
    let both = and_parts (slot == other_slot && incarnation == other_incarnation) (number == other) same in
    let first = and_parts (slot == other_slot) (incarnation == other_incarnation) both.0 in
    cc (eqb-true slot other_slot first.0, eqb-true incarnation other_incarnation first.1, eqb-true number other both.1)

-- So where one of them stands in a list, the other does.
pub any_alike : (a b : Caller) (xs : List Caller) → same_caller a b ≡ true → list_any (same_caller a) xs ≡ list_any (same_caller b) xs
any_alike a b [] same = refl
any_alike a b (x ∷ xs) same = cc (alike a b x same, any_alike a b xs same)

-- The first one, and the others.
pub times-cons : (from x : Caller) (xs : List Caller) → times from (x ∷ xs) ≡ times from (x ∷ []) + times from xs
times-cons from x xs = times-append from (x ∷ []) xs

-- Another caller stands there no time.
pub one_other : (from x : Caller) → same_caller from x ≡ false → times from (x ∷ []) ≡ 0
one_other from x other = ap (λ (b : Bool). length (cond b (x ∷ []) [])) other

-- Who isn't among callers stands there no time.
pub not_there : (from : Caller) (xs : List Caller) → list_any (same_caller from) xs ≡ false → times from xs ≡ 0
not_there from [] none = refl
not_there from (x ∷ xs) none = by_first (same_caller from x) refl (not_there from xs)
  where
    by_first : (b : Bool) → same_caller from x ≡ b → (list_any (same_caller from) xs ≡ false → times from xs ≡ 0) → times from (x ∷ xs) ≡ 0
    by_first true is rest = absurd (true≢false (sym (ap (λ (b : Bool). b || list_any (same_caller from) xs) is) ∙ none))
    by_first false other rest =
        let further = rest (sym (ap (λ (b : Bool). b || list_any (same_caller from) xs) other) ∙ none) in
        omega (arith, times-cons from x xs, one_other from x other, further)

-- Who was answered at all is none of those that are left,
pub left_none : (from : Caller) (answered callers : List Caller) → list_any (same_caller from) answered ≡ true
    → times from (filter (λ x. not (list_any (same_caller x) answered)) callers) ≡ 0
left_none from answered [] there = refl
left_none from answered (x ∷ callers) there = by_kept (list_any (same_caller x) answered) refl (left_none from answered callers there)
  where
    rest : List Caller
    rest = filter (λ y. not (list_any (same_caller y) answered)) callers

    is_other : (b : Bool) → same_caller from x ≡ b → list_any (same_caller x) answered ≡ false → same_caller from x ≡ false
    is_other true same isnt = absurd (true≢false (sym there ∙ any_alike from x answered same ∙ isnt))
    is_other false other isnt = other

    by_kept : (b : Bool) → list_any (same_caller x) answered ≡ b → times from rest ≡ 0
        → times from (filter (λ y. not (list_any (same_caller y) answered)) (x ∷ callers)) ≡ 0
    by_kept true is none = rw is none
    by_kept false isnt none =
        rw isnt (omega (arith, times-cons from x rest, one_other from x (is_other (same_caller from x) refl isnt), none))

-- and another is left no more often than he called.
left_few : (from : Caller) (p : Caller → Bool) (callers : List Caller) → times from (filter p callers) ≤ times from callers
left_few from p [] = omega arith
left_few from p (x ∷ callers) = by_kept (p x) refl (left_few from p callers)
  where
    by_kept : (b : Bool) → p x ≡ b → times from (filter p callers) ≤ times from callers
        → times from (filter p (x ∷ callers)) ≤ times from (x ∷ callers)
    by_kept true is rest = rw is (omega (arith, times-cons from x (filter p callers), times-cons from x callers, rest))
    by_kept false isnt rest = rw isnt (omega (arith, times-cons from x callers, rest))

-- So the answers and the failures of those that are left are within what both are within.
left_within : (from : Caller) (answered callers : List Caller) (n : ℕ) → times from answered ≤ n → times from callers ≤ n
    → times from answered + times from (filter (λ x. not (list_any (same_caller x) answered)) callers) ≤ n
left_within from answered callers n some all = by_any (list_any (same_caller from) answered) refl
  where
    by_any : (b : Bool) → list_any (same_caller from) answered ≡ b
        → times from answered + times from (filter (λ x. not (list_any (same_caller x) answered)) callers) ≤ n
    by_any true there = omega (arith, some, left_none from answered callers there)
    by_any false none = omega (arith, all, not_there from answered none, left_few from (λ x. not (list_any (same_caller x) answered)) callers)

-- The failures of callers.
pub resets_told : (from : Caller) (cause : Cause) (callers : List Caller) → sum_by (told from) (resets_of cause callers) ≡ times from callers
resets_told from cause [] = refl
resets_told from cause (x ∷ callers) =
    omega (arith, sum_by-cons (told from) (reset_of cause x) (resets_of cause callers), times-cons from x callers, resets_told from cause callers)

-- What a front may still say to a caller beside what it has said.
abbrev pub open_owes : Caller → Mode → ℕ
open_owes from (serves (idle o)) = object_owes from o
open_owes from (serves (waiting o t b)) = object_owes from o + task_owes from t
open_owes from (serves (ended c)) = 0
open_owes from (down call) = 0

-- What it has said and may still say is within what the incarnations before it owed, and the calls of its own.
abbrev pub IsOwing : Caller → ℕ → Front → Type 0
IsOwing from d f = sum_by (told from) f.said + open_owes from f.mode ≤ d + sum_by (calls from) f.events

-- A state owes what it has said and may still say.
state_opens : (from : Caller) (s : State) → sum_by (told from) (asking s) + open_owes from (serves s) ≡ state_owes from s
state_opens from (idle o) = omega arith
state_opens from (waiting o t b) = omega (arith, sum_by-cons (told from) b [])
state_opens from (ended c) = refl

-- A step of a front that owes leaves one that does.
steps_owe : (from : Caller) (d n : ℕ) (f : Front) (s : Step) → Owes from n s → sum_by (told from) f.said + n ≤ d + sum_by (calls from) f.events
    → IsOwing from d (steps_to f s)
steps_owe from d n f s owes within =
    let said : sum_by (told from) (steps_to f s).said ≡ sum_by (told from) (f.said ++ s.says) + sum_by (told from) (asking s.state) =
    sum_by-append (told from) (f.said ++ s.says) (asking s.state) in
    omega (arith, owes, within, state_opens from s.state, said, sum_by-append (told from) f.said s.says)

-- An incarnation that ends: what it said, and the failures of those that it left.
ends_within : (from : Caller) (d : ℕ) (f : Front) (cause : Cause) → sum_by (told from) f.said ≤ d + sum_by (calls from) f.events
    → sum_by (told from) f.said + sum_by (told from) (resets f cause) ≤ d + sum_by (calls from) f.events
ends_within from d f cause within =
    let said = times-flat_map from answered_by f.said in
    let called = times-flat_map from caller_of f.events in
    let both = left_within from (flat_map answered_by f.said) (flat_map caller_of f.events) (d + sum_by (calls from) f.events)
    (omega (arith, said, within)) (omega (arith, called)) in
    omega (arith, both, said, resets_told from cause (unanswered f.events f.said))

-- The call that waited for a mounting.
pub down_told : (from : Caller) (e : Event) (before after : ℕ) → sum_by (told from) (down_replies (Some e) before after) ≡ calls from e
down_told from (event.Call caller method args depth at) before after = omega arith
down_told from (event.Bind identity) before after = refl
down_told from (event.Answer incarnation number result at) before after = refl
down_told from (event.Tick at) before after = refl
down_told from (event.Evict at) before after = refl

-- The replies of entries, and the calls of logged events.
abbrev pub sent : Caller → List Entry → ℕ
sent from entries = sum_by (λ (entry : Entry). told from entry.body) entries

abbrev pub logged_calls : Caller → List (ℕ × Event) → ℕ
logged_calls from items = sum_by (λ (item : ℕ × Event). calls from item.1) items

-- Taking an item leaves a front that owes, by what was owed, what the item closes, and what it logs.
abbrev TakesOwing : Caller → Kind → ℕ → Front → Taken → Type 0
TakesOwing from k d f t = (later : ℕ) × IsOwing from later (takes k f t)
    × (sent from (closed_by f f.mode t) + later + sum_by (calls from) (takes k f t).events
    ≤ d + sum_by (calls from) f.events + logged_calls from (delivered_by f.incarnation t) + logged_calls from (downed_by f.incarnation f.mode t))

-- An event that is delivered.
delivered_owes : (from : Caller) (k : Kind) (d i : ℕ) (events : List Event) (said : List Body) (o : Object) (e : Event)
    → sum_by (told from) said + object_owes from o ≤ d + sum_by (calls from) events
    → TakesOwing from k d (record { incarnation = i; events = events; said = said; mode = serves (idle o) }) (delivered e)
delivered_owes from k d i events said o e owing =
    let more : sum_by (calls from) (events ++ e ∷ []) ≡ sum_by (calls from) events + calls from e = sum_by_push (calls from) events e in
    let now : Front = record { incarnation = i; events = events ++ e ∷ []; said = said; mode = serves (idle o) } in
    let step = delivers (life k i) o e in (
      d,
      steps_owe from d (object_owes from o + calls from e) now step (delivers_owes from (life k i) o e) (omega (arith, owing, more)),
      omega (arith, more, sum_by-cons (λ (item : ℕ × Event). calls from item.1) (i, e) []),
    )

-- An answer of the storage that its task waits for.
stored_owes : (from : Caller) (k : Kind) (d i : ℕ) (events : List Event) (said : List Body) (o : Object) (t : OpenTask) (b : Body) (a : Answer)
    → sum_by (told from) said + (object_owes from o + task_owes from t) ≤ d + sum_by (calls from) events
    → IsOwing from d (steps_to (record { incarnation = i; events = events; said = said; mode = serves (waiting o t b) }) (answers (life k i) o t a))
stored_owes from k d i events said o t b a owing =
    steps_owe from d (object_owes from o + task_owes from t) (record { incarnation = i; events = events; said = said; mode = serves (waiting o t b) })
    (answers (life k i) o t a) (answers_owes from (life k i) o t a) owing

-- The end of an incarnation.
ended_owes : (from : Caller) (k : Kind) (d i : ℕ) (events : List Event) (said : List Body) (state : State) (cause : Cause)
    → sum_by (told from) said ≤ d + sum_by (calls from) events
    → (mode : Mode) → open_owes from mode ≡ 0
    → let f : Front = record { incarnation = i; events = events; said = said; mode = serves state } in
    (later : ℕ) × IsOwing from later (record { incarnation = suc i; events = []; said = resets f cause; mode = mode })
    × (sent from (entries_of f) + later ≤ d + sum_by (calls from) events)
ended_owes from k d i events said state cause within mode none =
    let f : Front = record { incarnation = i; events = events; said = said; mode = serves state } in (
      sum_by (told from) (resets f cause),
      omega (arith, none),
      omega (arith, ends_within from d f cause within, numbered_told from i 1 said),
    )

-- Each item.
pub takes_owe : (from : Caller) (k : Kind) (d i : ℕ) (events : List Event) (said : List Body) (mode : Mode) (t : Taken)
    → sum_by (told from) said + open_owes from mode ≤ d + sum_by (calls from) events
    → TakesOwing from k d (record { incarnation = i; events = events; said = said; mode = mode }) t
takes_owe from k d i events said (serves (idle o)) (delivered e) owing = delivered_owes from k d i events said o e owing
takes_owe from k d i events said (serves (waiting o t b)) (noticed (notice.Read number r)) owing =
    (d, stored_owes from k d i events said o t b (answer.Read r) owing, omega arith)
takes_owe from k d i events said (serves (waiting o t b)) (noticed (notice.Taken number count)) owing =
    (d, stored_owes from k d i events said o t b (answer.Read (reading.Count count)) owing, omega arith)
takes_owe from k d i events said (serves (waiting o t b)) (noticed (notice.Synced number)) owing =
    (d, stored_owes from k d i events said o t b (answer.Value value.Undefined) owing, omega arith)
takes_owe from k d i events said (serves state) (noticed (notice.Fresh incarnation alarm cause)) owing =
    let ends = ended_owes from k d i events said state cause (omega (arith, owing)) (serves (idle (begun alarm))) refl in
    (ends.0, ends.1, omega (arith, ends.2))
takes_owe from k d i events said (serves state) (noticed (notice.Down cause before after)) owing =
    let ends = ended_owes from k d i events said state cause (omega (arith, owing)) (down None) refl in
    (ends.0, ends.1, omega (arith, ends.2))
takes_owe from k d i events said (down (Some e)) (noticed (notice.Down cause before after)) owing =
    let more : ℕ = calls from e in (
      d + more,
      omega (arith, owing, down_told from e before after, sum_by-append (told from) said (down_replies (Some e) before after)),
      omega (arith, sum_by-cons (λ (item : ℕ × Event). calls from item.1) (i, e) []),
    )
takes_owe from k d i events said (down None) (noticed (notice.Down cause before after)) owing =
    (d, omega (arith, owing, sum_by-append (told from) said []), omega arith)
takes_owe from k d i events said (serves state) (wanted e) owing = (d, omega (arith, owing, sum_by_push (told from) said body.Mend), omega arith)
takes_owe from k d i events said (down call) (wanted e) owing = (d, omega (arith, owing, sum_by_push (told from) said body.Mend), omega arith)
takes_owe from k d i events said mode t owing = (d, owing, omega arith)

-- So all that a front sends to a caller.
pub sends_owed : (from : Caller) (k : Kind) (taken : List Taken) (d : ℕ) (f : Front) → IsOwing from d f
    → sent from (sent_by k f taken)
    ≤ d + sum_by (calls from) f.events + logged_calls from (delivered_in k f taken) + logged_calls from (downed_in k f taken)
sends_owed from k [] d f owing = omega (arith, owing, numbered_told from f.incarnation 1 f.said)
sends_owed from k (t ∷ taken) d f owing =
    let next = takes_owe from k d f.incarnation f.events f.said f.mode t owing in
    let rest = sends_owed from k taken next.0 (takes k f t) next.1 in
    let call : ℕ × Event → ℕ = λ (item : ℕ × Event). calls from item.1 in
    omega (
      arith,
      next.2,
      rest,
      sum_by-append (λ (entry : Entry). told from entry.body) (closed_by f f.mode t) (sent_by k (takes k f t) taken),
      sum_by-append call (delivered_by f.incarnation t) (delivered_in k (takes k f t) taken),
      sum_by-append call (downed_by f.incarnation f.mode t) (downed_in k (takes k f t) taken),
    )

-- The calls among logged events.
pub events_called : (from : Caller) (items : List (ℕ × Event)) → sum_by (calls from) (events items) ≡ logged_calls from items
events_called from [] = refl
events_called from (item ∷ items) =
    omega (arith, events_called from items, sum_by-cons (calls from) item.1 (events items), sum_by-cons (λ (x : ℕ × Event). calls from x.1) item items)

-- So from the beginning on.
pub replies_owed : RepliesAreOwed
replies_owed k alarm taken intake from =
    let delivered_events : List (ℕ × Event) = delivered_in k (opened alarm) taken in
    let downed_events : List (ℕ × Event) = downed_in k (opened alarm) taken in
    omega (
      arith,
      replies_are_told from (sent_by k (opened alarm) taken),
      sends_owed from k taken 0 (opened alarm) (omega arith),
      times-flat_map from caller_of (events delivered_events ++ events downed_events),
      sum_by-append (calls from) (events delivered_events) (events downed_events),
      events_called from delivered_events,
      events_called from downed_events,
    )

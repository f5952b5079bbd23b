-- Who called once gets one reply, or is left.
use Rattle.std.proofs.Common.{◌≡◌, ◌∙◌, sym, refl, ap, ℕ, zero, suc, ◌+◌, ◌≤◌, List, [], ◌∷◌, ◌++◌, length, arith}
use Rattle.std.proofs.lemmas.List.Sums.{sum_by-cons, sum_by-append, sum_by_push}
use Rattle.std.specs.List.{filter, flat_map, list_any, sum_by}
use Rattle.std.specs.Prelude.{Bool, true, false, not, ◌||◌, cond, Some, None}
use Rattle.do_value.specs.declared.value.Value.TheVariants as value
use Rattle.storage_map.specs.declared.answer.Reading.TheVariants as reading
use Rattle.script_mean.specs.declared.answer.Answer.TheVariants as answer
use Rattle.timeline.specs.Intake.{Front, IsIntake, Kind, MayTake, Mode, Taken, delivered, noticed, wanted, closed_by, delivered_by, delivered_in, down, down_replies, downed_by, downed_in, entries_of, front_after, life, opened, resets, sent_by, serves, steps_to, takes}
use Rattle.timeline.specs.Object.{Step, begun, idle, waiting, ended}
use Rattle.timeline.specs.Replies.{answered_by, caller_of, same_caller, unanswered}
use Rattle.timeline.specs.Steps.{delivers, answers}
use Rattle.timeline.specs.Told.{asking}
use Rattle.timeline.specs.declared.caller.Caller.{Caller}
use Rattle.timeline.specs.declared.caller.Cause.{Cause}
use Rattle.timeline.specs.declared.entry.Body.{Body}
use Rattle.timeline.specs.declared.entry.Body.TheVariants as body
use Rattle.timeline.specs.declared.entry.Entry.{Entry}
use Rattle.timeline.specs.declared.event.Event.{Event}
use Rattle.timeline.specs.declared.notice.Notice.TheVariants as notice
use Rattle.object_messages.proofs.Counts.{told, calls, times-flat_map, replies_are_told, numbered_told}
use Rattle.object_messages.proofs.FrontsOwing.{IsOwing, any_alike, down_told, events_called, left_none, logged_calls, not_there, one_other, resets_told, sent, takes_owe, times-cons}
use Rattle.object_messages.specs.Exact.{RepliesAreExact}
use Rattle.object_messages.specs.Laws.{events}
use Rattle.object_messages.specs.Naming.{called_in, times}

-- Who is among callers stands there once at least.
there_once : (from : Caller) (xs : List Caller) → list_any (same_caller from) xs ≡ true → 1 ≤ times from xs
there_once from [] there = cc
there_once from (x ∷ xs) there = by_first (same_caller from x) refl (there_once from xs)
  where
    by_first : (b : Bool) → same_caller from x ≡ b → (list_any (same_caller from) xs ≡ true → 1 ≤ times from xs) → 1 ≤ times from (x ∷ xs)
    by_first true is rest = omega (arith, times-cons from x xs, ap (λ (b : Bool). length (cond b (x ∷ []) [])) is)
    by_first false other rest =
        let further = rest (sym (ap (λ (b : Bool). b || list_any (same_caller from) xs) other) ∙ there) in
        omega (arith, times-cons from x xs, further)

-- Who isn't among the answered is left as often as he called.
left_all : (from : Caller) (answered callers : List Caller) → list_any (same_caller from) answered ≡ false
    → times from (filter (λ x. not (list_any (same_caller x) answered)) callers) ≡ times from callers
left_all from answered [] none = refl
left_all from answered (x ∷ callers) none = by_kept (list_any (same_caller x) answered) refl (left_all from answered callers none)
  where
    rest : List Caller
    rest = filter (λ y. not (list_any (same_caller y) answered)) callers

    is_other : (b : Bool) → same_caller from x ≡ b → list_any (same_caller x) answered ≡ true → same_caller from x ≡ false
    is_other true same there = cc (any_alike from x answered same, there, none)
    is_other false other there = other

    by_kept : (b : Bool) → list_any (same_caller x) answered ≡ b → times from rest ≡ times from callers
        → times from (filter (λ y. not (list_any (same_caller y) answered)) (x ∷ callers)) ≡ times from (x ∷ callers)
    by_kept true there all =
        rw there (omega (arith, times-cons from x callers, one_other from x (is_other (same_caller from x) refl there), all))
    by_kept false isnt all = rw isnt (omega (arith, times-cons from x rest, times-cons from x callers, all))

-- An incarnation that replied to him so often, and was called by him so often, leaves him so often.
abbrev Left : ℕ → ℕ → ℕ → Type 0
Left replied called left = (replied ≡ 0 → left ≡ called) × (1 ≤ replied → left ≡ 0)

-- So an incarnation leaves whom it didn't reply to.
front_leaves : (from : Caller) (events : List Event) (said : List Body)
    → Left (sum_by (told from) said) (sum_by (calls from) events) (times from (unanswered events said))
front_leaves from events said = by_any (list_any (same_caller from) answered) refl
  where
    answered : List Caller
    answered = flat_map answered_by said

    callers : List Caller
    callers = flat_map caller_of events

    by_any : (b : Bool) → list_any (same_caller from) answered ≡ b
        → Left (sum_by (told from) said) (sum_by (calls from) events) (times from (unanswered events said))
    by_any true there = (
      λ zero. let impossible : ⊥ = omega (arith, zero, there_once from answered there, times-flat_map from answered_by said) in absurd impossible,
      λ some. left_none from answered callers there,
    )
    by_any false none = (
      λ zero. left_all from answered callers none ∙ times-flat_map from caller_of events,
      λ some. let impossible : ⊥ = omega (arith, some, not_there from answered none, times-flat_map from answered_by said) in absurd impossible,
    )

-- What was replied before, what a front has said, and whom it leaves, are all calls of a caller.
abbrev IsExact : Caller → ℕ → ℕ → Front → Type 0
IsExact from replied called f = replied + sum_by (told from) f.said + times from (unanswered f.events f.said) ≡ called

-- A front that says and was delivered more, where all calls are at most one.
more_exact : (from : Caller) (replied called debts more extra : ℕ) (f next : Front)
    → sum_by (calls from) next.events + extra ≡ sum_by (calls from) f.events + more
    → sum_by (told from) f.said + extra ≤ sum_by (told from) next.said
    → sum_by (told from) next.said ≤ debts + sum_by (calls from) next.events
    → replied + debts + sum_by (calls from) next.events ≤ called + more → called + more ≤ 1
    → IsExact from replied called f → IsExact from replied (called + more) next
more_exact from replied called debts more extra f next calling saying within counted once exact =
    by_told (sum_by (told from) next.said) refl
  where
    by_told : (n : ℕ) → sum_by (told from) next.said ≡ n → IsExact from replied (called + more) next
    by_told zero none =
        let before = (front_leaves from f.events f.said).0 (omega (arith, none, saying)) in
        let after = (front_leaves from next.events next.said).0 none in omega (arith, none, calling, saying, exact, before, after)
    by_told (suc n) some =
        let after = (front_leaves from next.events next.said).1 (omega (arith, some)) in omega (arith, some, within, counted, once, after)

-- An incarnation that ends: it leaves nobody who isn't told so.
ended_exact : (from : Caller) (replied called i : ℕ) (events : List Event) (said : List Body) (mode later : Mode) (cause : Cause)
    → let f : Front = record { incarnation = i; events = events; said = said; mode = mode } in
    IsExact from replied called f
    → IsExact from (replied + sent from (entries_of f)) called (record { incarnation = suc i; events = []; said = resets f cause; mode = later })
ended_exact from replied called i events said mode later cause exact =
    omega (arith, exact, numbered_told from i 1 said, resets_told from cause (unanswered events said))

-- How many calls of his an item logs.
abbrev logs : Caller → Front → Taken → ℕ
logs from f t = logged_calls from (delivered_by f.incarnation t) + logged_calls from (downed_by f.incarnation f.mode t)

-- What is known of a caller: what an incarnation owes, that his calls are counted, and that the count is exact.
abbrev Known : Caller → ℕ → ℕ → ℕ → Front → Type 0
Known from debts replied called f =
    IsOwing from debts f × (replied + debts + sum_by (calls from) f.events ≤ called) × IsExact from replied called f

-- An item that closes nothing.
open_exact : (from : Caller) (k : Kind) (debts replied called extra : ℕ) (f : Front) (t : Taken)
    → sent from (closed_by f f.mode t) ≡ 0
    → sum_by (calls from) (takes k f t).events + extra ≡ sum_by (calls from) f.events + logs from f t
    → sum_by (told from) f.said + extra ≤ sum_by (told from) (takes k f t).said
    → Known from debts replied called f → called + logs from f t ≤ 1
    → IsExact from (replied + sent from (closed_by f f.mode t)) (called + logs from f t) (takes k f t)
open_exact from k debts replied called extra f t silent calling saying known once =
    let owing = takes_owe from k debts f.incarnation f.events f.said f.mode t known.0 in
    let exact = more_exact from replied called owing.0 (logs from f t) extra f (takes k f t) calling saying (omega (arith, owing.1))
    (omega (arith, silent, owing.2, known.1)) once known.2 in omega (arith, silent, exact)

-- A step adds to what was said.
says_more : (from : Caller) (f : Front) (s : Step) → sum_by (told from) f.said ≤ sum_by (told from) (steps_to f s).said
says_more from f s = omega (arith, sum_by-append (told from) (f.said ++ s.says) (asking s.state), sum_by-append (told from) f.said s.says)

-- Each item.
takes_exact : (from : Caller) (k : Kind) (d replied called i : ℕ) (listed : List Event) (said : List Body) (mode : Mode) (t : Taken)
    → let f : Front = record { incarnation = i; events = listed; said = said; mode = mode } in
    Known from d replied called f → called + logs from f t ≤ 1 → MayTake f t
    → IsExact from (replied + sent from (closed_by f mode t)) (called + logs from f t) (takes k f t)
takes_exact from k d replied called i listed said (serves (idle o)) (delivered e) known once may =
    let f : Front = record { incarnation = i; events = listed; said = said; mode = serves (idle o) } in
    open_exact from k d replied called 0 f (delivered e) refl
    (omega (arith, sum_by_push (calls from) listed e, sum_by-cons (λ (item : ℕ × Event). calls from item.1) (i, e) []))
    (omega (arith, says_more from f (delivers (life k i) o e))) known once
takes_exact from k d replied called i listed said (serves (waiting o t b)) (noticed (notice.Read number r)) known once may =
    let f : Front = record { incarnation = i; events = listed; said = said; mode = serves (waiting o t b) } in
    open_exact from k d replied called 0 f (noticed (notice.Read number r)) refl refl
    (omega (arith, says_more from f (answers (life k i) o t (answer.Read r)))) known once
takes_exact from k d replied called i listed said (serves (waiting o t b)) (noticed (notice.Taken number count)) known once may =
    let f : Front = record { incarnation = i; events = listed; said = said; mode = serves (waiting o t b) } in
    open_exact from k d replied called 0 f (noticed (notice.Taken number count)) refl refl
    (omega (arith, says_more from f (answers (life k i) o t (answer.Read (reading.Count count))))) known once
takes_exact from k d replied called i listed said (serves (waiting o t b)) (noticed (notice.Synced number)) known once may =
    let f : Front = record { incarnation = i; events = listed; said = said; mode = serves (waiting o t b) } in
    open_exact from k d replied called 0 f (noticed (notice.Synced number)) refl refl
    (omega (arith, says_more from f (answers (life k i) o t (answer.Value value.Undefined)))) known once
takes_exact from k d replied called i listed said (serves state) (noticed (notice.Fresh incarnation alarm cause)) known once may =
    omega (arith, ended_exact from replied called i listed said (serves state) (serves (idle (begun alarm))) cause known.2)
takes_exact from k d replied called i listed said (serves state) (noticed (notice.Down cause before after)) known once may =
    omega (arith, ended_exact from replied called i listed said (serves state) (down None) cause known.2)
takes_exact from k d replied called i listed said (down (Some e)) (noticed (notice.Down cause before after)) known once may =
    let f : Front = record { incarnation = i; events = listed; said = said; mode = down (Some e) } in
    open_exact from k d replied called (calls from e) f (noticed (notice.Down cause before after)) refl
    (omega (arith, sum_by-cons (λ (item : ℕ × Event). calls from item.1) (i, e) []))
    (omega (arith, down_told from e before after, sum_by-append (told from) said (down_replies (Some e) before after))) known once
takes_exact from k d replied called i listed said (down None) (noticed (notice.Down cause before after)) known once may =
    let f : Front = record { incarnation = i; events = listed; said = said; mode = down None } in
    open_exact from k d replied called 0 f (noticed (notice.Down cause before after)) refl refl
    (omega (arith, sum_by-append (told from) said [])) known once
takes_exact from k d replied called i listed said (serves state) (wanted e) known once may =
    let f : Front = record { incarnation = i; events = listed; said = said; mode = serves state } in
    open_exact from k d replied called 0 f (wanted e) refl refl (omega (arith, sum_by_push (told from) said body.Mend)) known once
takes_exact from k d replied called i listed said (down call) (wanted e) known once may =
    let f : Front = record { incarnation = i; events = listed; said = said; mode = down call } in
    open_exact from k d replied called 0 f (wanted e) refl refl (omega (arith, sum_by_push (told from) said body.Mend)) known once
takes_exact from k d replied called i listed said (serves (waiting o t b)) (delivered e) known once may = absurd may
takes_exact from k d replied called i listed said (serves (ended c)) (delivered e) known once may = absurd may
takes_exact from k d replied called i listed said (down call) (delivered e) known once may = absurd may
takes_exact from k d replied called i listed said mode t known once may = omega (arith, known.2)

-- So all that a front sends to a caller, and whom it leaves in the end.
sends_exact : (from : Caller) (k : Kind) (taken : List Taken) (d replied called : ℕ) (f : Front) → IsIntake k f taken → Known from d replied called f
    → called + logged_calls from (delivered_in k f taken) + logged_calls from (downed_in k f taken) ≤ 1
    → replied + sent from (sent_by k f taken) + times from (unanswered (front_after k f taken).events (front_after k f taken).said)
    ≡ called + logged_calls from (delivered_in k f taken) + logged_calls from (downed_in k f taken)
sends_exact from k [] d replied called f intake known once = omega (arith, known.2, numbered_told from f.incarnation 1 f.said)
sends_exact from k (t ∷ taken) d replied called f intake known once =
    let call : ℕ × Event → ℕ = λ (item : ℕ × Event). calls from item.1 in
    let delivered_both = sum_by-append call (delivered_by f.incarnation t) (delivered_in k (takes k f t) taken) in
    let downed_both = sum_by-append call (downed_by f.incarnation f.mode t) (downed_in k (takes k f t) taken) in
    let owing = takes_owe from k d f.incarnation f.events f.said f.mode t known.0 in
    let exact = takes_exact from k d replied called f.incarnation f.events f.said f.mode t known
    (omega (arith, once, delivered_both, downed_both)) intake.0 in
    let closed : ℕ = sent from (closed_by f f.mode t) in
    let rest = sends_exact from k taken owing.0 (replied + closed) (called + logs from f t) (takes k f t) intake.1
    (owing.1, omega (arith, owing.2, known.1), exact) (omega (arith, once, delivered_both, downed_both)) in
    omega (
      arith,
      rest,
      sum_by-append (λ (entry : Entry). told from entry.body) (closed_by f f.mode t) (sent_by k (takes k f t) taken),
      delivered_both,
      downed_both,
    )

-- So from the beginning on.
pub replies_exact : RepliesAreExact
replies_exact k alarm taken intake from once =
    let delivered_events : List (ℕ × Event) = delivered_in k (opened alarm) taken in
    let downed_events : List (ℕ × Event) = downed_in k (opened alarm) taken in
    let called : times from (called_in (events delivered_events ++ events downed_events))
    ≡ logged_calls from delivered_events + logged_calls from downed_events =
    omega (
      arith,
      times-flat_map from caller_of (events delivered_events ++ events downed_events),
      sum_by-append (calls from) (events delivered_events) (events downed_events),
      events_called from delivered_events,
      events_called from downed_events,
    ) in
    let exact = sends_exact from k taken 0 0 0 (opened alarm) intake (omega arith, omega arith, refl) (omega (arith, once, called)) in
    omega (arith, replies_are_told from (sent_by k (opened alarm) taken), exact, called)

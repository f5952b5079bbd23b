-- What is said while an object is down, and what tells its modes apart.
use Rattle.std.proofs.Common.{◌≡◌, ◌∙◌, ap, sym, subst, refl, true, ℕ, suc, List, [], ◌∷◌, ◌++◌, length, drop, arith, Option, Some, None}
use Rattle.std.proofs.lemmas.List.{length_push}
use Rattle.std.proofs.lemmas.List.Elements.{All-nil, All-cons, All-head, All-tail, All-map}
use Rattle.std.specs.Prelude.{ℤ, Err}
use Rattle.std.specs.List.{All}
use Rattle.storage_map.specs.Contents.{Contents}
use Rattle.timeline.specs.Headline.{down_said}
use Rattle.timeline.specs.Intake.{Mode, serves, down, down_replies}
use Rattle.timeline.specs.Object.{State}
use Rattle.timeline.specs.Passed.{is_said_down}
use Rattle.timeline.specs.Replies.{reset_of, resets_of}
use Rattle.timeline.specs.Told.{Said, message, spoken_in, written, written_by}
use Rattle.timeline.specs.declared.back_log.Missed.{Missed}
use Rattle.timeline.specs.declared.caller.Caller.{Caller}
use Rattle.timeline.specs.declared.caller.Cause.{Cause}
use Rattle.timeline.specs.declared.caller.Failure.TheVariants as failure
use Rattle.timeline.specs.declared.entry.Body.{Body}
use Rattle.timeline.specs.declared.event.Event.{Event}
use Rattle.timeline.specs.declared.event.Event.TheVariants as event
use Rattle.timeline.specs.declared.message.Message.TheVariants as sent
use Rattle.timeline.specs.declared.notice.Notice.{Notice}
use Rattle.timeline.specs.declared.notice.Notice.TheVariants as notice
use Rattle.object_history.proofs.Ready.{IsServing, IsPlain}
use Rattle.object_history.specs.Pair.{IsCall}
use Rattle.object_history.specs.Saying.{ArePlain}

-- ---- modes
-- the call that waits
abbrev pub call_or : Option Event → Mode → Option Event
call_or other (serves state) = other
call_or other (down call) = call

-- no call waits
abbrev IsNone : Option Event → Type 0
IsNone None = Unit {0}
IsNone (Some call) = ⊥

-- a front that is down doesn't serve
pub is_down : (m : Mode) (state : State) (call : Option Event) → m ≡ serves state → m ≡ down call → ⊥
is_down m state call serving is = subst IsServing (sym serving ∙ is) tt

-- the call that waits is one
pub same_call : (m : Mode) (call other : Option Event) → m ≡ down call → m ≡ down other → call ≡ other
same_call m call other is same = ap (λ (x : Mode). call_or call x) (sym is ∙ same)

-- none waits, or one does
pub none_waits : (m : Mode) (call : Event) → m ≡ down None → m ≡ down (Some call) → ⊥
none_waits m call is same = subst IsNone (same_call m None (Some call) is same) tt

-- ---- notices
abbrev pub IsFresh : Notice → Type 0
IsFresh (notice.Fresh incarnation alarm cause) = Unit {0}
IsFresh (notice.Down cause before after) = ⊥
IsFresh (notice.Read number r) = ⊥
IsFresh (notice.Taken number count) = ⊥
IsFresh (notice.Synced number) = ⊥

-- the alarm of a mounting
abbrev pub alarm_in : Option (ℤ × ℕ) → Notice → Option (ℤ × ℕ)
alarm_in other (notice.Fresh incarnation alarm cause) = alarm
alarm_in other (notice.Down cause before after) = other
alarm_in other (notice.Read number r) = other
alarm_in other (notice.Taken number count) = other
alarm_in other (notice.Synced number) = other

-- the counts of a failure
abbrev pub counts_in : ℕ × ℕ → Notice → ℕ × ℕ
counts_in other (notice.Down cause before after) = (before, after)
counts_in other (notice.Fresh incarnation alarm cause) = other
counts_in other (notice.Read number r) = other
counts_in other (notice.Taken number count) = other
counts_in other (notice.Synced number) = other

-- ---- failures
-- the failures of calls write nothing, and nothing is waited for among them
pub written_both : (m : Contents) (xs ys : List Body) → written m (xs ++ ys) ≡ written (written m xs) ys
written_both m [] ys = refl
written_both m (x ∷ xs) ys = written_both (written_by m x) xs ys

-- those of an end write nothing
pub resets_silent : (cause : Cause) (callers : List Caller) (m : Contents) → written m (resets_of cause callers) ≡ m
resets_silent cause [] m = refl
resets_silent cause (from ∷ callers) m = resets_silent cause callers m

-- those of an end are messages
pub resets_plain : (cause : Cause) (callers : List Caller) → ArePlain (resets_of cause callers)
resets_plain cause callers = All-map IsPlain (reset_of cause) callers (λ k from less. refl)

-- which an incarnation may say that isn't mounted
pub resets_down : (cause : Cause) (callers : List Caller) → All (λ (b : Body). is_said_down b ≡ true) (resets_of cause callers)
resets_down cause callers = All-map (λ (b : Body). is_said_down b ≡ true) (reset_of cause) callers (λ k from less. refl)

-- so is that of a call
pub replies_plain : (call : Event) (before after : ℕ) → IsCall call → ArePlain (down_replies (Some call) before after)
replies_plain (event.Call from method args depth at) before after is = All-cons IsPlain _ [] refl (All-nil IsPlain)
replies_plain (event.Answer incarnation number result at) before after is = absurd is
replies_plain (event.Tick at) before after is = absurd is
replies_plain (event.Evict at) before after is = absurd is
replies_plain (event.Bind identity) before after is = absurd is

pub replies_down : (call : Event) (before after : ℕ) → IsCall call → All (λ (b : Body). is_said_down b ≡ true) (down_replies (Some call) before after)
replies_down (event.Call from method args depth at) before after is =
    All-cons (λ (b : Body). is_said_down b ≡ true) _ [] refl (All-nil (λ (b : Body). is_said_down b ≡ true))
replies_down (event.Answer incarnation number result at) before after is = absurd is
replies_down (event.Tick at) before after is = absurd is
replies_down (event.Evict at) before after is = absurd is
replies_down (event.Bind identity) before after is = absurd is

-- which writes nothing either
pub replies_silent : (call : Event) (before after : ℕ) (m : Contents) → IsCall call → written m (down_replies (Some call) before after) ≡ m
replies_silent (event.Call from method args depth at) before after m is = refl
replies_silent (event.Answer incarnation number result at) before after m is = absurd is
replies_silent (event.Tick at) before after m is = absurd is
replies_silent (event.Evict at) before after m is = absurd is
replies_silent (event.Bind identity) before after m is = absurd is

-- a mounting more fails, for a call more
abbrev failed : ℕ → ℕ → ℕ → Missed
failed number before after = record { incarnation = number; before = before; after = after }

-- the first call with the first failure
says_one : (m : Missed) (call : Event) → IsCall call → down_said (call ∷ []) (m ∷ []) ≡ spoken_in (down_replies (Some call) m.before m.after)
says_one m (event.Call from method args depth at) is = refl
says_one m (event.Answer incarnation number result at) is = absurd is
says_one m (event.Tick at) is = absurd is
says_one m (event.Evict at) is = absurd is
says_one m (event.Bind identity) is = absurd is

-- a call before others
says_next : (x : Missed) (later later_more : List Missed) (first : Event) (calls calls_more : List Event) (rest : List Said) → IsCall first
    → down_said calls_more later_more ≡ down_said calls later ++ rest
    → down_said (first ∷ calls_more) (x ∷ later_more) ≡ down_said (first ∷ calls) (x ∷ later) ++ rest
says_next x later later_more (event.Call from method args depth at) calls calls_more rest is same =
    ap (λ (said : List Said). message (sent.Reply from (Err (failure.Down x.before x.after))) ∷ said) same
says_next x later later_more (event.Answer incarnation number result at) calls calls_more rest is same = absurd is
says_next x later later_more (event.Tick at) calls calls_more rest is same = absurd is
says_next x later later_more (event.Evict at) calls calls_more rest is same = absurd is
says_next x later later_more (event.Bind identity) calls calls_more rest is same = absurd is

-- one more behind others
says_more : (calls : List Event) (call : Event) (older : List Missed) (m : Missed) → All IsCall calls → IsCall call → length older ≡ length calls
    → down_said (calls ++ call ∷ []) (older ++ m ∷ []) ≡ down_said calls (older ++ m ∷ []) ++ spoken_in (down_replies (Some call) m.before m.after)
says_more [] call [] m are is same = says_one m call is
says_more [] call (x ∷ older) m are is same = absurd (omega (arith, same))
says_more (first ∷ calls) call [] m are is same = absurd (omega (arith, same))
says_more (first ∷ calls) call (x ∷ older) m are is same =
    says_next x (older ++ m ∷ []) (older ++ m ∷ []) first calls (calls ++ call ∷ []) (spoken_in (down_replies (Some call) m.before m.after))
    (All-head IsCall first calls are) (says_more calls call older m (All-tail IsCall first calls are) is (omega (arith, same)))

-- one more, the first mounting having had no call
pub down_more : (calls : List Event) (call : Event) (missed older : List Missed) (m : Missed) → All IsCall calls → IsCall call
    → missed ≡ older ++ m ∷ [] → length older ≡ suc (length calls)
    → down_said (calls ++ call ∷ []) (drop 1 missed) ≡ down_said calls (drop 1 missed) ++ spoken_in (down_replies (Some call) m.before m.after)
down_more calls call missed [] m are is_call is same = absurd (omega (arith, same))
down_more calls call missed (x ∷ older) m are is_call is same =
    let reply : List Said = spoken_in (down_replies (Some call) m.before m.after) in
    subst (λ (all : List Missed). down_said (calls ++ call ∷ []) (drop 1 all) ≡ down_said calls (drop 1 all) ++ reply)
    (sym is) (says_more calls call older m are is_call (omega (arith, same)))

-- the failures for calls are one more
pub failures_more : (count : ℕ) (missed older : List Missed) (m : Missed) → missed ≡ older ++ m ∷ [] → length older ≡ suc count
    → length (drop 1 missed) ≡ suc count
failures_more count missed [] m is same = absurd (omega (arith, same))
failures_more count missed (x ∷ older) m is same =
    ap (λ (all : List Missed). length (drop 1 all)) is ∙ omega (arith, length_push older m, same)

-- A front that was delivered nothing, or nothing but answers, waits for nothing and has nothing to answer, so that it sends no message.
use Rattle.std.proofs.Common.{◌≡◌, ◌∙◌, sym, refl, ap, subst, true≢false, ℕ, suc, List, [], ◌∷◌, ◌++◌, append-nil, Some, None}
use Rattle.std.proofs.lemmas.List.Concat.{flat_map-append}
use Rattle.std.proofs.lemmas.List.Elements.{All-nil, recursion_from_All}
use Rattle.std.specs.List.{AllByRecursion}
use Rattle.std.specs.Prelude.{Bool, true, false, not, ◌&&◌, ◌==◌}
use Rattle.timeline.specs.Eligible.{is_stale}
use Rattle.timeline.specs.Intake.{Front, IsIntake, Kind, MayTake, Mode, Taken, delivered, noticed, wanted, closed_by, delivered_by, delivered_in, down, down_replies, downed_by, downed_in, numbered, opened, sent_by, serves, takes}
use Rattle.timeline.specs.Object.{Object, OpenTask, idle, waiting, ended, is_open, task_under}
use Rattle.timeline.specs.declared.entry.Body.{Body}
use Rattle.timeline.specs.declared.entry.Body.TheVariants as body
use Rattle.timeline.specs.declared.entry.Entry.{Entry}
use Rattle.timeline.specs.declared.event.Event.{Event}
use Rattle.timeline.specs.declared.event.Event.TheVariants as event
use Rattle.timeline.specs.declared.message.Message.{Message}
use Rattle.timeline.specs.declared.notice.Notice.TheVariants as notice
use Rattle.object_messages.specs.Laws.{events}
use Rattle.object_messages.specs.Naming.{message_of, messages_of}
use Rattle.object_messages.specs.Unmoved.{AnswersMoveNothing, AreAnswers, UnmovedSaysNothing, is_answer}

-- It waits for nothing, and has no task.
abbrev IsRestingIn : Mode → Type 0
IsRestingIn (serves (idle o)) = o.tasks ≡ []
IsRestingIn (serves state) = ⊥
IsRestingIn (down call) = Unit {0}

abbrev SaysNothing : List Body → Type 0
SaysNothing [] = Unit {0}
SaysNothing (b ∷ bodies) = (message_of b ≡ []) × SaysNothing bodies

record IsUnmoved (f : Front) : Type 0 where
  resting : IsRestingIn f.mode
  given : f.events ≡ []
  says : SaysNothing f.said

nothing_more : (said : List Body) → SaysNothing said → SaysNothing (said ++ body.Mend ∷ [])
nothing_more [] is = (refl, tt)
nothing_more (b ∷ said) is = (is.0, nothing_more said is.1)

numbered_none : (i number : ℕ) (bodies : List Body) → SaysNothing bodies → messages_of (numbered i number bodies) ≡ []
numbered_none i number [] is = refl
numbered_none i number (b ∷ bodies) is =
    ap (λ (ms : List Message). ms ++ messages_of (numbered i (suc number) bodies)) is.0 ∙ numbered_none i (suc number) bodies is.1

-- Each event of these items is an answer.
abbrev Answer : List (ℕ × Event) → Type 0
Answer items = AllByRecursion (λ (e : Event). is_answer e ≡ true) (events items)

first_answer : (xs ys : List (ℕ × Event)) → Answer (xs ++ ys) → Answer xs
first_answer [] ys all = tt
first_answer (x ∷ xs) ys all = (all.0, first_answer xs ys all.1)

second_answer : (xs ys : List (ℕ × Event)) → Answer (xs ++ ys) → Answer ys
second_answer [] ys all = all
second_answer (x ∷ xs) ys all = second_answer xs ys all.1

-- None is delivered where no task is open,
pub stale_then : (here : Bool) → not (here && false) ≡ false → ⊥
stale_then true is = true≢false is
stale_then false is = true≢false is

none_delivered : (i : ℕ) (o : Object) (e : Event) → o.tasks ≡ [] → is_answer e ≡ true → is_stale i o e ≡ false → ⊥
none_delivered i o (event.Answer incarnation number result at) none is fresh =
    stale_then (incarnation == i)
    (subst (λ (ts : List OpenTask). not (incarnation == i && is_open (task_under number ts)) ≡ false) none fresh)
none_delivered i o (event.Bind identity) none is fresh = true≢false (sym is)
none_delivered i o (event.Call from method args depth at) none is fresh = true≢false (sym is)
none_delivered i o (event.Tick at) none is fresh = true≢false (sym is)
none_delivered i o (event.Evict at) none is fresh = true≢false (sym is)

-- and none gets a reply by a mounting that failed.
down_none : (e : Event) (before after : ℕ) → is_answer e ≡ true → down_replies (Some e) before after ≡ []
down_none (event.Answer incarnation number result at) before after is = refl
down_none (event.Bind identity) before after is = refl
down_none (event.Call from method args depth at) before after is = absurd (true≢false (sym is))
down_none (event.Tick at) before after is = refl
down_none (event.Evict at) before after is = refl

-- A front by its parts.
abbrev front : ℕ → List Event → List Body → Mode → Front
front i events said mode = record { incarnation = i; events = events; said = said; mode = mode }

unmoved : (i : ℕ) (said : List Body) (mode : Mode) → IsRestingIn mode → SaysNothing said → IsUnmoved (front i [] said mode)
unmoved i said mode resting says = record { resting = resting; given = refl; says = says }

-- What it then takes leaves it so, and what this closes has no message.
takes_unmoved : (k : Kind) (i : ℕ) (said : List Body) (mode : Mode) (t : Taken) → IsRestingIn mode → SaysNothing said
    → MayTake (front i [] said mode) t → Answer (delivered_by i t) → Answer (downed_by i mode t)
    → IsUnmoved (takes k (front i [] said mode) t) × (messages_of (closed_by (front i [] said mode) mode t) ≡ [])
takes_unmoved k i said (serves (idle o)) (delivered e) rests says may answer downed = absurd (none_delivered i o e rests answer.0 may.1)
takes_unmoved k i said (down call) (delivered e) rests says may answer downed = absurd may
takes_unmoved k i said (serves (idle o)) (noticed (notice.Fresh incarnation alarm cause)) rests says may answer downed =
    (unmoved (suc i) [] _ refl tt, numbered_none i 1 said says)
takes_unmoved k i said (serves (idle o)) (noticed (notice.Down cause before after)) rests says may answer downed =
    (unmoved (suc i) [] _ tt tt, numbered_none i 1 said says)
takes_unmoved k i said (serves (idle o)) (noticed (notice.Read number r)) rests says may answer downed = absurd may
takes_unmoved k i said (serves (idle o)) (noticed (notice.Taken number count)) rests says may answer downed = absurd may
takes_unmoved k i said (serves (idle o)) (noticed (notice.Synced number)) rests says may answer downed = absurd may
takes_unmoved k i said (serves (idle o)) (wanted e) rests says may answer downed = let impossible : ⊥ = cc in absurd impossible
takes_unmoved k i said (serves (waiting o t b)) item rests says may answer downed = absurd rests
takes_unmoved k i said (serves (ended c)) item rests says may answer downed = absurd rests
takes_unmoved k i said (down call) (wanted e) rests says may answer downed = (unmoved i (said ++ body.Mend ∷ []) _ tt (nothing_more said says), refl)
takes_unmoved k i said (down None) (noticed n) rests says may answer downed = absurd may
takes_unmoved k i said (down (Some call)) (noticed (notice.Fresh incarnation alarm cause)) rests says may answer downed = (unmoved i said _ refl says, refl)
takes_unmoved k i said (down (Some call)) (noticed (notice.Down cause before after)) rests says may answer downed = (
  unmoved i (said ++ down_replies (Some call) before after) _ tt
      (subst SaysNothing (sym (ap (λ (bodies : List Body). said ++ bodies) (down_none call before after downed.0) ∙ append-nil said)) says),
  refl,
)
takes_unmoved k i said (down (Some call)) (noticed (notice.Read number r)) rests says may answer downed = absurd may
takes_unmoved k i said (down (Some call)) (noticed (notice.Taken number count)) rests says may answer downed = absurd may
takes_unmoved k i said (down (Some call)) (noticed (notice.Synced number)) rests says may answer downed = absurd may

-- A front is one of its parts.
takes_so : (k : Kind) (f : Front) (t : Taken) → IsUnmoved f → MayTake f t → Answer (delivered_by f.incarnation t) → Answer (downed_by f.incarnation f.mode t)
    → IsUnmoved (takes k f t) × (messages_of (closed_by f f.mode t) ≡ [])
takes_so k f t is may answer downed =
    let same : front f.incarnation [] f.said f.mode ≡ f = ap (λ (es : List Event). front f.incarnation es f.said f.mode) (sym is.given) in
    subst (λ (g : Front). IsUnmoved (takes k g t) × (messages_of (closed_by g f.mode t) ≡ [])) same
    (takes_unmoved k f.incarnation f.said f.mode t is.resting is.says (subst (λ (g : Front). MayTake g t) (sym same) may) answer downed)

sends_none : (k : Kind) (taken : List Taken) (f : Front) → IsUnmoved f → IsIntake k f taken → Answer (delivered_in k f taken) → Answer (downed_in k f taken)
    → messages_of (sent_by k f taken) ≡ []
sends_none k [] f is intake answer downed = numbered_none f.incarnation 1 f.said is.says
sends_none k (t ∷ taken) f is intake answer downed =
    let next = takes k f t in
    let step = takes_so k f t is intake.0 (first_answer (delivered_by f.incarnation t) (delivered_in k next taken) answer)
    (first_answer (downed_by f.incarnation f.mode t) (downed_in k next taken) downed) in
    let rest = sends_none k taken next step.0 intake.1 (second_answer (delivered_by f.incarnation t) (delivered_in k next taken) answer)
    (second_answer (downed_by f.incarnation f.mode t) (downed_in k next taken) downed) in
    flat_map-append (λ (entry : Entry). message_of entry.body) (closed_by f f.mode t) (sent_by k next taken)
    ∙ ap (λ (ms : List Message). ms ++ messages_of (sent_by k next taken)) step.1 ∙ rest

pub answers_move_nothing : AnswersMoveNothing
answers_move_nothing k alarm taken intake delivered_so downed_so =
    sends_none k taken (opened alarm) (record { resting = refl; given = refl; says = tt }) intake
    (recursion_from_All (λ (e : Event). is_answer e ≡ true) (events (delivered_in k (opened alarm) taken)) delivered_so)
    (recursion_from_All (λ (e : Event). is_answer e ≡ true) (events (downed_in k (opened alarm) taken)) downed_so)

-- So nothing moves it where there is none.
none_answer : (items : List (ℕ × Event)) → items ≡ [] → AreAnswers (events items)
none_answer items none = subst (λ (xs : List (ℕ × Event)). AreAnswers (events xs)) (sym none) (All-nil (λ (e : Event). is_answer e ≡ true))

pub says_nothing : UnmovedSaysNothing
says_nothing k alarm taken intake none downed =
    answers_move_nothing k alarm taken intake (none_answer (delivered_in k (opened alarm) taken) none) (none_answer (downed_in k (opened alarm) taken) downed)

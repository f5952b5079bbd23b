-- An answer that a front drops is one of an ended incarnation, or one to what was answered.
use Rattle.std.proofs.Common.{◌≡◌, ◌∙◌, sym, refl, ap, subst, ◌⊎◌, inl, inr, ⊎_elim, true≢false, cond, ℕ, suc, ◌<◌, ◌≤◌, List, [], ◌∷◌, ◌++◌, arith}
use Rattle.std.proofs.lemmas.Bool.Decides.{nat_tests}
use Rattle.std.proofs.lemmas.Grind.{flat_map-append}
use Rattle.std.proofs.lemmas.List.Elements.{All-nil, All-cons, Contains-append_left, Contains-push}
use Rattle.std.specs.List.{All, Contains}
use Rattle.std.specs.Prelude.{Bool, true, false, not, nat_lt, ◌&&◌, ◌||◌, ◌==◌, ℤ, unwrap_or, Option, Some}
use Rattle.do_value.specs.declared.value.Value.TheVariants as value
use Rattle.storage_map.specs.declared.answer.Reading.TheVariants as reading
use Rattle.script_mean.specs.declared.answer.Answer.TheVariants as answer
use Rattle.timeline.specs.Eligible.{is_stale}
use Rattle.timeline.specs.Intake.{Front, IsIntake, Kind, MayTake, Mode, Taken, delivered, noticed, wanted, down, drops_in, front_after, life, opened, serves, takes}
use Rattle.timeline.specs.Object.{Object, OpenTask, idle, waiting, ended, begun, is_open, task_under}
use Rattle.timeline.specs.declared.entry.Body.{Body}
use Rattle.timeline.specs.declared.event.Event.{Event}
use Rattle.timeline.specs.declared.event.Event.TheVariants as event
use Rattle.timeline.specs.declared.notice.Notice.TheVariants as notice
use Rattle.object_messages.proofs.Covering.{Covers, StateCovers, resumed_by, delivers_covers, answers_cover}
use Rattle.object_messages.specs.Dropped.{DropsAreAnswered}
use Rattle.object_messages.specs.Naming.{answered_by, answered_in}

-- Of the numbers that a front's incarnation has given each is open or answered.
abbrev ModeCovers : ℕ → List (ℕ × ℕ) → Mode → Type 0
ModeCovers i answered (serves state) = StateCovers i answered state
ModeCovers i answered (down call) = Unit {0}

abbrev IsCovered : Front → Type 0
IsCovered f = ModeCovers f.incarnation (answered_in f.events) f.mode

-- What has begun has given none.
begun_covers : (i : ℕ) (answered : List (ℕ × ℕ)) (alarm : Option (ℤ × ℕ)) → Covers i answered (begun alarm)
begun_covers i answered alarm number least most = absurd (omega (arith, least, most))

-- More that was answered.
more_answered : (i : ℕ) (answered more : List (ℕ × ℕ)) (o : Object) → Covers i answered o → Covers i (answered ++ more) o
more_answered i answered more o all number least most =
    ⊎_elim (λ still. inl still) (λ was. inr (Contains-append_left answered more (i, number) was)) (all number least most)

-- Numbers that are told equal are so.
pub equal_so : (m n : ℕ) → (m == n) ≡ true → m ≡ n
equal_so m n is = grind (arith, nat_tests)

-- The task that stands under a number waits under it.
pub under_number : (number : ℕ) (tasks : List OpenTask) (u : OpenTask) → task_under number tasks ≡ Some u → u.number ≡ number
under_number number [] u is = absurd cc
under_number number (t ∷ tasks) u is = by_first (t.number == number) refl is (under_number number tasks u)
  where
    by_first : (b : Bool) → (t.number == number) ≡ b → cond b (Some t) (task_under number tasks) ≡ Some u → (task_under number tasks ≡ Some u → u.number ≡ number) → u.number ≡ number
    by_first true same found more = sym (ap (λ (x : Option OpenTask). (unwrap_or x t).number) found) ∙ equal_so t.number number same
    by_first false other found more = more found

-- An answer that isn't out of date is one to this incarnation.
pub fresh_answer : (now i : ℕ) (waits : Bool) → not (i == now && waits) ≡ false → i ≡ now
fresh_answer now i waits is = grind (arith, nat_tests)

resumes_answered : (now : ℕ) (o : Object) (events : List Event) (e : Event) → is_stale now o e ≡ false → (u : OpenTask) → resumed_by e o.tasks ≡ Some u
    → Contains (answered_in (events ++ e ∷ [])) (now, u.number)
resumes_answered now o events (event.Answer i number result at) fresh u is =
    let same : (i, number) ≡ (now, u.number) =
    ap (λ (n : ℕ). (n, number)) (fresh_answer now i (is_open (task_under number o.tasks)) fresh) ∙ ap (λ (n : ℕ). (now, n)) (sym (under_number number o.tasks u is)) in
    subst (λ (xs : List (ℕ × ℕ)). Contains xs (now, u.number)) (sym (flat_map-append answered_by events (event.Answer i number result at ∷ [])))
    (subst (λ (x : ℕ × ℕ). Contains (answered_in events ++ x ∷ []) (now, u.number)) (sym same) (Contains-push (answered_in events) (now, u.number)))
resumes_answered now o events (event.Bind identity) fresh u is = absurd cc
resumes_answered now o events (event.Call from method args depth at) fresh u is = absurd cc
resumes_answered now o events (event.Tick at) fresh u is = absurd cc
resumes_answered now o events (event.Evict at) fresh u is = absurd cc

-- A front by its parts.
abbrev front : ℕ → List Event → List Body → Mode → Front
front i events said mode = record { incarnation = i; events = events; said = said; mode = mode }

-- So it is at what it takes,
takes_covers : (k : Kind) (i : ℕ) (events : List Event) (said : List Body) (mode : Mode) (t : Taken) → ModeCovers i (answered_in events) mode
    → MayTake (front i events said mode) t → IsCovered (takes k (front i events said mode) t)
takes_covers k i events said (serves (idle o)) (delivered e) is may =
    delivers_covers i (answered_in (events ++ e ∷ [])) (life k i) o e
    (subst (λ (xs : List (ℕ × ℕ)). Covers i xs o) (sym (flat_map-append answered_by events (e ∷ [])))
    (more_answered i (answered_in events) (answered_in (e ∷ [])) o is))
    (resumes_answered i o events e may.1)
takes_covers k i events said (serves (waiting o t b)) (noticed (notice.Read number r)) is may =
    answers_cover i (answered_in events) (life k i) o t (answer.Read r) is
takes_covers k i events said (serves (waiting o t b)) (noticed (notice.Taken number count)) is may =
    answers_cover i (answered_in events) (life k i) o t (answer.Read (reading.Count count)) is
takes_covers k i events said (serves (waiting o t b)) (noticed (notice.Synced number)) is may =
    answers_cover i (answered_in events) (life k i) o t (answer.Value value.Undefined) is
takes_covers k i events said (serves state) (noticed (notice.Fresh incarnation alarm cause)) is may = begun_covers (suc i) [] alarm
takes_covers k i events said (serves state) (noticed (notice.Down cause before after)) is may = tt
takes_covers k i events said (down call) (noticed (notice.Fresh incarnation alarm cause)) is may = begun_covers i (answered_in events) alarm
takes_covers k i events said (down call) (noticed (notice.Down cause before after)) is may = tt
takes_covers k i events said (serves state) (wanted e) is may = let impossible : ⊥ = cc in absurd impossible
takes_covers k i events said (down call) (wanted e) is may = tt
takes_covers k i events said mode t is may = is

-- and from item to item.
covers_after : (k : Kind) (taken : List Taken) (f : Front) → IsCovered f → IsIntake k f taken → IsCovered (front_after k f taken)
covers_after k [] f is intake = is
covers_after k (t ∷ taken) f is intake =
    covers_after k taken (takes k f t) (takes_covers k f.incarnation f.events f.said f.mode t is intake.0) intake.1

-- An answer that is dropped was given out, and isn't open.
by_number : (i now made number : ℕ) (waits : Bool) → (not (i == now && waits) && not (nat_lt now i || (i == now && (number == 0 || nat_lt made number)))) ≡ true
    → (i < now) ⊎ ((i ≡ now) × (1 ≤ number) × (number ≤ made) × (waits ≡ false))
by_number i now made number true is = inl (grind (arith, nat_tests))
by_number i now made number false is = grind (arith, nat_tests)

at_idle : (f : Front) (o : Object) (i number : ℕ) → Covers f.incarnation (answered_in f.events) o
    → (i < f.incarnation) ⊎ ((i ≡ f.incarnation) × (1 ≤ number) × (number ≤ o.made) × (is_open (task_under number o.tasks) ≡ false))
    → (i < f.incarnation) ⊎ Contains (answered_in f.events) (i, number)
at_idle f o i number all (inl less) = inl less
at_idle f o i number all (inr same) =
    ⊎_elim (λ still. absurd (true≢false (sym still ∙ same.3)))
    (λ was. inr (subst (λ (n : ℕ). Contains (answered_in f.events) (n, number)) (sym same.0) was)) (all number same.1 same.2)

at_down : (i now number : ℕ) → not (nat_lt now i || (i == now && (number == 0 || nat_lt 0 number))) ≡ true → i < now
at_down i now number is = grind (arith, nat_tests)

dropped_answered : (f : Front) (mode : Mode) (e : Event) → ModeCovers f.incarnation (answered_in f.events) mode → drops_in f.incarnation mode e ≡ true
    → All (λ (asked : ℕ × ℕ). (asked.0 < f.incarnation) ⊎ Contains (answered_in f.events) asked) (answered_by e)
dropped_answered f (serves (idle o)) (event.Answer i number result at) is drops =
    All-cons (λ (asked : ℕ × ℕ). (asked.0 < f.incarnation) ⊎ Contains (answered_in f.events) asked) (i, number) []
    (at_idle f o i number is (by_number i f.incarnation o.made number (is_open (task_under number o.tasks)) drops)) (All-nil _)
dropped_answered f (serves (waiting o t b)) (event.Answer i number result at) is drops = absurd (true≢false (sym drops))
dropped_answered f (serves (ended c)) (event.Answer i number result at) is drops = absurd (true≢false (sym drops))
dropped_answered f (down call) (event.Answer i number result at) is drops =
    All-cons (λ (asked : ℕ × ℕ). (asked.0 < f.incarnation) ⊎ Contains (answered_in f.events) asked) (i, number) []
    (inl (at_down i f.incarnation number drops)) (All-nil _)
dropped_answered f mode (event.Bind identity) is drops = All-nil _
dropped_answered f mode (event.Call from method args depth at) is drops = All-nil _
dropped_answered f mode (event.Tick at) is drops = All-nil _
dropped_answered f mode (event.Evict at) is drops = All-nil _

pub drops_answered : DropsAreAnswered
drops_answered k alarm taken e intake drops =
    let f : Front = front_after k (opened alarm) taken in
    dropped_answered f f.mode e (covers_after k taken (opened alarm) (begun_covers 1 [] alarm) intake) drops

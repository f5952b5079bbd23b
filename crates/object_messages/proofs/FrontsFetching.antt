-- At an idle front each call that is left at a fetch is left at one that is open; and an answer is delivered to the incarnation that it names.
use Rattle.std.proofs.Common.{◌≡◌, ◌∙◌, sym, refl, ap, subst, ⊎_elim, true≢false, ℕ, suc, ℤ, ◌≤◌, List, [], ◌∷◌, ◌++◌, map, append-nil, arith, Option, Some, None}
use Rattle.std.proofs.lemmas.Bool.Decides.{nat_tests}
use Rattle.std.proofs.lemmas.List.Concat.{flat_map-append}
use Rattle.std.proofs.lemmas.List.Elements.{All-append, All-cons, All-contains, All-nil, Contains-append_cases, Contains-append_left, Contains-append_right, Contains-push_cases}
use Rattle.std.specs.List.{All, Contains, flat_map, list_any}
use Rattle.std.specs.Prelude.{Bool, true, false, not, ◌&&◌, ◌||◌, ◌==◌, if◌then◌else◌}
use Rattle.do_value.specs.declared.value.Value.TheVariants as value
use Rattle.storage_map.specs.declared.answer.Reading.TheVariants as reading
use Rattle.script_mean.specs.Task as task
use Rattle.script_mean.specs.Task.{Segment}
use Rattle.script_mean.specs.declared.answer.Answer.{Answer}
use Rattle.script_mean.specs.declared.answer.Answer.TheVariants as answer
use Rattle.script_mean.specs.declared.ask.Ask.TheVariants as ask
use Rattle.timeline.specs.Eligible.{is_stale}
use Rattle.timeline.specs.Intake.{Front, IsIntake, Kind, MayDeliver, MayTake, Mode, Taken, delivered, delivered_by, delivered_in, noticed, wanted, down, front_after, life, opened, serves, takes}
use Rattle.timeline.specs.Left.{call_waits, is_answer_to, is_for, left, left_call, left_event, task_of, wait_of}
use Rattle.timeline.specs.Object.{Life, Object, OpenTask, begun, idle, is_open, task_under, tasks_but, waiting}
use Rattle.timeline.specs.Replies.{resets_of, unanswered}
use Rattle.timeline.specs.Steps.{answers, delivers, latest_turn}
use Rattle.timeline.specs.Told.{asking}
use Rattle.timeline.specs.declared.caller.Caller.{Caller}
use Rattle.timeline.specs.declared.entry.Body.{Body}
use Rattle.timeline.specs.declared.event.Event.{Event}
use Rattle.timeline.specs.declared.event.Event.TheVariants as event
use Rattle.timeline.specs.declared.notice.Notice.TheVariants as notice
use Rattle.timeline.specs.declared.notice.Waits.{Waits}
use Rattle.timeline.specs.declared.notice.Waits.TheVariants as waits
use Rattle.object_messages.proofs.Dropped.{equal_so, fresh_answer, under_number}
use Rattle.object_messages.proofs.Fetching.{AreOpen, IsOpenTask, IsSaid, Meets, MeetsBy, Opens, StateOpens, answers_open, delivers_opens, fetched, fetched_of, low_made}
use Rattle.object_messages.proofs.Passing.{Within}
use Rattle.object_messages.proofs.Unmoved.{stale_then}
use Rattle.object_messages.specs.Fetches.{AnswersAreOwn, IsOpenFetch, LeftFetchesAreOpen, sent_in}
use Rattle.object_messages.specs.Naming.{answered_by, answered_in, fetched_by, fetched_in, message_of}

-- More that was said leaves what was said of a turn,
said_more : (l : Life) (all more : List (ℕ × ℕ)) (number : ℕ) (turn : Option Segment) → Within all more → IsSaid l all number turn → IsSaid l more number turn
said_more l all more number (Some (task.asked batches fs (ask.Fetch value) block)) within is = within (l.incarnation, number) is
said_more l all more number turn within is = tt

-- and so of open tasks, and of an object.
open_more : (l : Life) (answered all more : List (ℕ × ℕ)) (made low : ℕ) (ts : List OpenTask) → Within all more → AreOpen l answered all made low ts
    → AreOpen l answered more made low ts
open_more l answered all more made low [] within is = is
open_more l answered all more made low (t ∷ ts) within is =
    (is.0, (is.1.0, said_more l all more t.number (latest_turn l t) within is.1.1), open_more l answered all more made t.number ts within is.2)

opens_more : (l : Life) (answered all more : List (ℕ × ℕ)) (o : Object) → Within all more → Opens l answered all o → Opens l answered more o
opens_more l answered all more o within is = (open_more l answered all more o.made 0 o.tasks within is.0, is.1)

-- What has begun has no task, and has given no number.
begun_opens : (l : Life) (answered all : List (ℕ × ℕ)) (alarm : Option (ℤ × ℕ)) → ((x : ℕ × ℕ) → Contains answered x → ⊥) → Opens l answered all (begun alarm)
begun_opens l answered all alarm none = (omega arith, λ x was. absurd (none x was))

none_answered : (x : ℕ × ℕ) → Contains [] x → ⊥
none_answered x was = omega (arith, was.1)

not_equal : (m n : ℕ) → (m == n) ≡ false → m ≡ n → ⊥
not_equal m n other same = grind (arith, nat_tests)

-- What an answer does to the open tasks: the one that it resumes is gone, and the others aren't answered.
module _ (l : Life) (answered all : List (ℕ × ℕ)) (x : ℕ × ℕ) where
  still_open : (t : OpenTask) → IsOpenTask l answered all t → (x.1 ≡ t.number → ⊥) → IsOpenTask l (answered ++ x ∷ []) all t
  still_open t is other = (
    λ was. ⊎_elim (λ before. is.0 before) (λ (same : x ≡ (l.incarnation, t.number)). other (ap (λ (y : ℕ × ℕ). y.1) same))
        (Contains-push_cases answered x (l.incarnation, t.number) was),
    is.1,
  )

  past_open : (made low : ℕ) (ts : List OpenTask) → x.1 ≤ low → AreOpen l answered all made low ts → AreOpen l (answered ++ x ∷ []) all made low ts
  past_open made low [] less is = is
  past_open made low (t ∷ ts) less is =
      (is.0, still_open t is.1 (λ same. omega (arith, same, less, is.0)), past_open made t.number ts (omega (arith, less, is.0)) is.2)

  lower_open : (made low less : ℕ) (ts : List OpenTask) → less ≤ low → AreOpen l (answered ++ x ∷ []) all made low ts
      → AreOpen l (answered ++ x ∷ []) all made less ts
  lower_open made low less [] below is = omega (arith, below, is)
  lower_open made low less (t ∷ ts) below is = (omega (arith, below, is.0), is.1, is.2)

  others_open : (made low : ℕ) (ts : List OpenTask) → AreOpen l answered all made low ts → AreOpen l (answered ++ x ∷ []) all made low (tasks_but x.1 ts)
  others_open made low [] is = is
  others_open made low (t ∷ ts) is = by_first (t.number == x.1) refl (others_open made t.number ts is.2)
    where
      by_first : (b : Bool) → (t.number == x.1) ≡ b → AreOpen l (answered ++ x ∷ []) all made t.number (tasks_but x.1 ts)
          → AreOpen l (answered ++ x ∷ []) all made low (if b then ts else t ∷ tasks_but x.1 ts)
      by_first true here rest =
          lower_open made t.number low ts (omega (arith, is.0)) (past_open made t.number ts (omega (arith, equal_so t.number x.1 here)) is.2)
      by_first false other rest = (is.0, still_open t is.1 (λ same. not_equal t.number x.1 other (sym same)), rest)

-- A number under which a task waits was given.
found_made : (l : Life) (answered all : List (ℕ × ℕ)) (made low number : ℕ) (ts : List OpenTask) → AreOpen l answered all made low ts
    → is_open (task_under number ts) ≡ true → number ≤ made
found_made l answered all made low number [] is found = absurd (true≢false (sym found))
found_made l answered all made low number (t ∷ ts) is found = by_first (t.number == number) refl found (found_made l answered all made t.number number ts is.2)
  where
    by_first : (b : Bool) → (t.number == number) ≡ b → is_open (if b then Some t else task_under number ts) ≡ true
        → (is_open (task_under number ts) ≡ true → number ≤ made) → number ≤ made
    by_first true here there rest = omega (arith, equal_so t.number number here, low_made l answered all made t.number ts is.2)
    by_first false other there rest = rest there

-- An object meets an event that isn't out of date with the tasks that stay open.
meets : (k : Kind) (i : ℕ) (events : List Event) (all : List (ℕ × ℕ)) (o : Object) (e : Event) → Opens (life k i) (answered_in events) all o
    → is_stale i o e ≡ false → Meets (life k i) (answered_in (events ++ e ∷ [])) all o e
meets k i events all o (event.Answer j number result at) is fresh = by_task (task_under number o.tasks) refl
  where
    by_task : (found : Option OpenTask) → task_under number o.tasks ≡ found
        → MeetsBy (life k i) (answered_in (events ++ event.Answer j number result at ∷ [])) all o found
    by_task None found =
        absurd (stale_then (j == i) (subst (λ (x : Option OpenTask). not (j == i && is_open x) ≡ false) found fresh))
    by_task (Some t) found =
        let x : ℕ × ℕ = (j, number) in
        let most : number ≤ o.made = found_made (life k i) (answered_in events) all o.made 0 number o.tasks is.0 (ap is_open found) in
        subst (λ (xs : List (ℕ × ℕ)). Opens (life k i) xs all (record o { tasks = tasks_but t.number o.tasks }))
        (sym (flat_map-append answered_by events (event.Answer j number result at ∷ []))) (
          subst (λ (n : ℕ). AreOpen (life k i) (answered_in events ++ x ∷ []) all o.made 0 (tasks_but n o.tasks)) (sym (under_number number o.tasks t found))
              (others_open (life k i) (answered_in events) all x o.made 0 o.tasks is.0),
          λ y was. ⊎_elim (λ before. is.1 y before) (λ (same : x ≡ y). omega (arith, most, ap (λ (z : ℕ × ℕ). z.1) same))
              (Contains-push_cases (answered_in events) x y was),
        )
meets k i events all o (event.Bind identity) is fresh = subst (λ (xs : List (ℕ × ℕ)). Opens (life k i) xs all o)
    (sym (flat_map-append answered_by events (event.Bind identity ∷ []) ∙ append-nil (answered_in events))) is
meets k i events all o (event.Call from method args depth at) is fresh = subst (λ (xs : List (ℕ × ℕ)). Opens (life k i) xs all o)
    (sym (flat_map-append answered_by events (event.Call from method args depth at ∷ []) ∙ append-nil (answered_in events))) is
meets k i events all o (event.Tick at) is fresh = subst (λ (xs : List (ℕ × ℕ)). Opens (life k i) xs all o)
    (sym (flat_map-append answered_by events (event.Tick at ∷ []) ∙ append-nil (answered_in events))) is
meets k i events all o (event.Evict at) is fresh = subst (λ (xs : List (ℕ × ℕ)). Opens (life k i) xs all o)
    (sym (flat_map-append answered_by events (event.Evict at ∷ []) ∙ append-nil (answered_in events))) is

-- The tasks of a front's object are open so. One that is down was delivered no answer.
abbrev ModeOpens : Kind → ℕ → (answered all : List (ℕ × ℕ)) → Mode → Type 0
ModeOpens k i answered all (serves state) = StateOpens (life k i) answered all state
ModeOpens k i answered all (down call) = (x : ℕ × ℕ) → Contains answered x → ⊥

abbrev IsOpened : Kind → Front → Type 0
IsOpened k f = ModeOpens k f.incarnation (answered_in f.events) (fetched f.said) f.mode

-- What was said, and what a step says, is among what was then said.
first_said : (xs ys zs : List Body) → Within (fetched xs) (fetched ((xs ++ ys) ++ zs))
first_said xs ys zs x there =
    subst (λ (all : List (ℕ × ℕ)). Contains all x) (sym (flat_map-append fetched_of (xs ++ ys) zs))
    (Contains-append_left (fetched (xs ++ ys)) (fetched zs) x
    (subst (λ (all : List (ℕ × ℕ)). Contains all x) (sym (flat_map-append fetched_of xs ys)) (Contains-append_left (fetched xs) (fetched ys) x there)))

then_said : (xs ys zs : List Body) → Within (fetched ys) (fetched ((xs ++ ys) ++ zs))
then_said xs ys zs x there =
    subst (λ (all : List (ℕ × ℕ)). Contains all x) (sym (flat_map-append fetched_of (xs ++ ys) zs))
    (Contains-append_left (fetched (xs ++ ys)) (fetched zs) x
    (subst (λ (all : List (ℕ × ℕ)). Contains all x) (sym (flat_map-append fetched_of xs ys)) (Contains-append_right (fetched xs) (fetched ys) x there)))

-- A front by its parts.
abbrev front : ℕ → List Event → List Body → Mode → Front
front i events said mode = record { incarnation = i; events = events; said = said; mode = mode }

-- An answer of the storage.
stored : (k : Kind) (i : ℕ) (events : List Event) (said : List Body) (o : Object) (t : OpenTask) (a : Answer)
    → Opens (life k i) (answered_in events) (fetched said) o
    → let s = answers (life k i) o t a in StateOpens (life k i) (answered_in events) (fetched ((said ++ s.says) ++ asking s.state)) s.state
stored k i events said o t a is =
    let s = answers (life k i) o t a in
    let all : List (ℕ × ℕ) = fetched ((said ++ s.says) ++ asking s.state) in
    answers_open (life k i) (answered_in events) all o t a
    (opens_more (life k i) (answered_in events) (fetched said) all o (first_said said s.says (asking s.state)) is) (then_said said s.says (asking s.state))

-- So it is at what it takes,
takes_opens : (k : Kind) (i : ℕ) (events : List Event) (said : List Body) (mode : Mode) (t : Taken) → ModeOpens k i (answered_in events) (fetched said) mode
    → MayTake (front i events said mode) t → IsOpened k (takes k (front i events said mode) t)
takes_opens k i events said (serves (idle o)) (delivered e) is may =
    let s = delivers (life k i) o e in
    let all : List (ℕ × ℕ) = fetched ((said ++ s.says) ++ asking s.state) in
    delivers_opens (life k i) (answered_in (events ++ e ∷ [])) all o e
    (meets k i events all o e (opens_more (life k i) (answered_in events) (fetched said) all o (first_said said s.says (asking s.state)) is) may.1)
    (then_said said s.says (asking s.state))
takes_opens k i events said (serves (waiting o t b)) (noticed (notice.Read number r)) is may = stored k i events said o t (answer.Read r) is
takes_opens k i events said (serves (waiting o t b)) (noticed (notice.Taken number count)) is may =
    stored k i events said o t (answer.Read (reading.Count count)) is
takes_opens k i events said (serves (waiting o t b)) (noticed (notice.Synced number)) is may = stored k i events said o t (answer.Value value.Undefined) is
takes_opens k i events said (serves state) (noticed (notice.Fresh incarnation alarm cause)) is may =
    begun_opens (life k (suc i)) [] (fetched (resets_of cause (unanswered events said))) alarm none_answered
takes_opens k i events said (serves state) (noticed (notice.Down cause before after)) is may = none_answered
takes_opens k i events said (down call) (noticed (notice.Fresh incarnation alarm cause)) is may =
    begun_opens (life k i) (answered_in events) (fetched said) alarm is
takes_opens k i events said (down call) (noticed (notice.Down cause before after)) is may = is
takes_opens k i events said (serves state) (wanted e) is may = let impossible : ⊥ = cc in absurd impossible
takes_opens k i events said (down call) (wanted e) is may = is
takes_opens k i events said mode t is may = is

-- and from item to item.
opens_after : (k : Kind) (taken : List Taken) (f : Front) → IsOpened k f → IsIntake k f taken → IsOpened k (front_after k f taken)
opens_after k [] f is intake = is
opens_after k (t ∷ taken) f is intake =
    opens_after k taken (takes k f t) (takes_opens k f.incarnation f.events f.said f.mode t is intake.0) intake.1

-- The task that is found is open.
found_open : (l : Life) (answered all : List (ℕ × ℕ)) (from : Caller) (made low : ℕ) (ts : List OpenTask) (t : OpenTask) → AreOpen l answered all made low ts
    → task_of from ts ≡ Some t → IsOpenTask l answered all t
found_open l answered all from made low [] t is found = cc
found_open l answered all from made low (u ∷ ts) t is found =
    by_first (is_for from u.purpose) refl (found_open l answered all from made u.number ts t is.2)
  where
    by_first : (b : Bool) → is_for from u.purpose ≡ b → (task_of from ts ≡ Some t → IsOpenTask l answered all t) → IsOpenTask l answered all t
    by_first true here rest =
        let one : Some u ≡ Some t = sym (ap (λ (c : Bool). if c then Some u else task_of from ts) here) ∙ found in
        let same : u ≡ t = cc in subst (IsOpenTask l answered all) same is.1
    by_first false other rest = rest (sym (ap (λ (c : Bool). if c then Some u else task_of from ts) other) ∙ found)

-- None of these events answers what none of them is told to answer.
no_answer : (i n : ℕ) (deferred : List Event) → list_any (is_answer_to i n) deferred ≡ false → Contains (answered_in deferred) (i, n) → ⊥
no_answer i n [] none was = none_answered (i, n) was
no_answer i n (event.Answer j m result at ∷ deferred) none was =
    ⊎_elim
    (λ here. ⊎_elim (λ nothing. none_answered (i, n) nothing)
    (λ (same : (j, m) ≡ (i, n)). is_it j m (ap (λ (y : ℕ × ℕ). y.0) same) (ap (λ (y : ℕ × ℕ). y.1) same) (list_any (is_answer_to i n) deferred) none)
    (Contains-push_cases [] (j, m) (i, n) here))
    (λ later. no_answer i n deferred (is_not (j == i && m == n) (list_any (is_answer_to i n) deferred) none) later)
    (Contains-append_cases ((j, m) ∷ []) (answered_in deferred) (i, n) was)
  where
    is_it : (j m : ℕ) → j ≡ i → m ≡ n → (rest : Bool) → ((j == i && m == n) || rest) ≡ false → ⊥
    is_it j m own number rest none = grind (arith, nat_tests)

    is_not : (first rest : Bool) → (first || rest) ≡ false → rest ≡ false
    is_not true rest is = cc
    is_not false rest is = is
no_answer i n (event.Bind identity ∷ deferred) none was = no_answer i n deferred none was
no_answer i n (event.Call from method args depth at ∷ deferred) none was = no_answer i n deferred none was
no_answer i n (event.Tick at ∷ deferred) none was = no_answer i n deferred none was
no_answer i n (event.Evict at ∷ deferred) none was = no_answer i n deferred none was

-- The fetches among what was said are those of its messages.
fetched_sent : (said : List Body) → fetched_in (sent_in said) ≡ fetched said
fetched_sent [] = refl
fetched_sent (b ∷ said) =
    flat_map-append fetched_by (message_of b) (sent_in said) ∙ ap (λ (xs : List (ℕ × ℕ)). fetched_of b ++ xs) (fetched_sent said)

-- What a call waits for: a fetch only where that is open.
abbrev IsOpenWait : ℕ → (events : List Event) → (said : List Body) → (deferred : List Event) → Waits → Type 0
IsOpenWait now events said deferred (waits.Fetch incarnation number) = IsOpenFetch now events said deferred (incarnation, number)
IsOpenWait now events said deferred wait = Unit {0}

module _ (l : Life) (events : List Event) (said : List Body) (deferred : List Event) where
  abbrev IsOpenItem : Caller × Waits → Type 0
  IsOpenItem item = IsOpenWait l.incarnation events said deferred item.1

  abbrev AllOpen : List (Caller × Waits) → Type 0
  AllOpen items = All IsOpenItem items

  -- A task that waits,
  turn_open : (from : Caller) (t : OpenTask) (turn : Option Segment) → (Contains (answered_in events) (l.incarnation, t.number) → ⊥)
      → IsSaid l (fetched said) t.number turn → list_any (is_answer_to l.incarnation t.number) deferred ≡ false
      → AllOpen (map (λ wait. (from, wait)) (wait_of l t turn))
  turn_open from t (Some (task.asked batches fs (ask.Fetch value) block)) none is undeferred =
      All-cons IsOpenItem (from, waits.Fetch l.incarnation t.number) [] (record {
        own = refl;
        fetched = subst (λ (xs : List (ℕ × ℕ)). Contains xs (l.incarnation, t.number)) (sym (fetched_sent said)) is;
        unanswered = none;
        undeferred = no_answer l.incarnation t.number deferred undeferred;
      }) (All-nil IsOpenItem)
  turn_open from t (Some (task.asked batches fs (ask.Call to method args) block)) none is undeferred =
      All-cons IsOpenItem (from, waits.Call to.0 to.1) [] tt (All-nil IsOpenItem)
  turn_open from t turn none is undeferred = All-nil IsOpenItem

  -- also where its answer is deferred,
  task_open : (from : Caller) (t : OpenTask) (b : Bool) → list_any (is_answer_to l.incarnation t.number) deferred ≡ b
      → IsOpenTask l (answered_in events) (fetched said) t
      → AllOpen (map (λ wait. (from, wait)) (if b then waits.Block ∷ [] else wait_of l t (latest_turn l t)))
  task_open from t true here is = All-cons IsOpenItem (from, waits.Block) [] tt (All-nil IsOpenItem)
  task_open from t false none is = turn_open from t (latest_turn l t) is.0 is.1 none

  -- a call with a task or without,
  call_open : (o : Object) (from : Caller) (found : Option OpenTask) → task_of from o.tasks ≡ found → Opens l (answered_in events) (fetched said) o
      → AllOpen (map (λ wait. (from, wait)) (call_waits l deferred found))
  call_open o from None there is = All-cons IsOpenItem (from, waits.Block) [] tt (All-nil IsOpenItem)
  call_open o from (Some t) there is =
      task_open from t (list_any (is_answer_to l.incarnation t.number) deferred) refl
      (found_open l (answered_in events) (fetched said) from o.made 0 o.tasks t is.0 there)

  -- those that are left,
  calls_open : (o : Object) (calling : List Caller) → Opens l (answered_in events) (fetched said) o → AllOpen (flat_map (left_call l o deferred) calling)
  calls_open o [] is = All-nil IsOpenItem
  calls_open o (from ∷ calling) is =
      All-append IsOpenItem (left_call l o deferred from) (flat_map (left_call l o deferred) calling)
      (call_open o from (task_of from o.tasks) refl is) (calls_open o calling is)

  -- and the deferred ones.
  events_open : (es : List Event) → AllOpen (flat_map left_event es)
  events_open [] = All-nil IsOpenItem
  events_open (event.Call from method args depth at ∷ es) = All-cons IsOpenItem (from, waits.Block) (flat_map left_event es) tt (events_open es)
  events_open (event.Bind identity ∷ es) = events_open es
  events_open (event.Answer incarnation number result at ∷ es) = events_open es
  events_open (event.Tick at ∷ es) = events_open es
  events_open (event.Evict at ∷ es) = events_open es

  pub all_open : (o : Object) → Opens l (answered_in events) (fetched said) o → AllOpen (left l o events said deferred)
  all_open o is =
      All-append IsOpenItem (flat_map (left_call l o deferred) (unanswered events said)) (flat_map left_event deferred)
      (calls_open o (unanswered events said) is) (events_open deferred)

pub left_open : LeftFetchesAreOpen
left_open k alarm taken o deferred intake is from incarnation number there =
    let f : Front = front_after k (opened alarm) taken in
    let opens : Opens (life k f.incarnation) (answered_in f.events) (fetched f.said) o =
    subst (ModeOpens k f.incarnation (answered_in f.events) (fetched f.said)) is
    (opens_after k taken (opened alarm) (begun_opens (life k 1) [] [] alarm none_answered) intake) in
    All-contains (λ (item : Caller × Waits). IsOpenWait f.incarnation f.events f.said deferred item.1)
    (left (life k f.incarnation) o f.events f.said deferred) (from, waits.Fetch incarnation number)
    (all_open (life k f.incarnation) f.events f.said deferred o opens) there

-- An answer that is delivered names its incarnation.
abbrev pub IsOwn : ℕ × Event → Type 0
IsOwn item = All (λ (asked : ℕ × ℕ). asked.0 ≡ item.0) (answered_by item.1)

event_own : (now : ℕ) (o : Object) (e : Event) → is_stale now o e ≡ false → IsOwn (now, e)
event_own now o (event.Answer j number result at) fresh =
    All-cons (λ (asked : ℕ × ℕ). asked.0 ≡ now) (j, number) [] (fresh_answer now j (is_open (task_under number o.tasks)) fresh)
    (All-nil (λ (asked : ℕ × ℕ). asked.0 ≡ now))
event_own now o (event.Bind identity) fresh = All-nil _
event_own now o (event.Call from method args depth at) fresh = All-nil _
event_own now o (event.Tick at) fresh = All-nil _
event_own now o (event.Evict at) fresh = All-nil _

item_own : (f : Front) (mode : Mode) (t : Taken) → f.mode ≡ mode → MayTake f t → All IsOwn (delivered_by f.incarnation t)
item_own f mode (noticed n) is may = All-nil IsOwn
item_own f mode (wanted e) is may = All-nil IsOwn
item_own f (serves (idle o)) (delivered e) is may =
    let may_deliver = subst (λ (m : Mode). MayDeliver f.incarnation m e) is may in
    All-cons IsOwn (f.incarnation, e) [] (event_own f.incarnation o e may_deliver.1) (All-nil IsOwn)
item_own f mode (delivered e) is may = absurd (subst (λ (m : Mode). MayDeliver f.incarnation m e) is may)

all_own : (k : Kind) (taken : List Taken) (f : Front) → IsIntake k f taken → All IsOwn (delivered_in k f taken)
all_own k [] f intake = All-nil IsOwn
all_own k (t ∷ taken) f intake =
    All-append IsOwn (delivered_by f.incarnation t) (delivered_in k (takes k f t) taken) (item_own f f.mode t refl intake.0)
    (all_own k taken (takes k f t) intake.1)

pub answers_own : AnswersAreOwn
answers_own k alarm taken intake = all_own k taken (opened alarm) intake

-- How a front stands whose mode is known, and what a notice makes of it that doesn't fit, or that answers.
use Rattle.std.proofs.Common.{◌≡◌, ◌∙◌, sym, refl, ap, subst, ℕ, suc, ◌+◌, ◌≤◌, List, [], ◌∷◌, ◌++◌, length, map, drop, arith, Option, Some, None, true, false, Vec, Global, inr, append-nil, append_assoc}
use Rattle.std.proofs.lemmas.List.{drop-append-le, map-append, length-append}
use Rattle.std.proofs.lemmas.Option.{none-some}
use Rattle.std.specs.Prelude.{unwrap_or}
use Rattle.do_tree.specs.Lookup.{constructor_of}
use Rattle.do_tree.specs.Tree.{Script}
use Rattle.script_mean.specs.declared.answer.Answer.{Answer}
use Rattle.timeline.specs.Headline.{IsPrefix}
use Rattle.timeline.specs.Intake as intake
use Rattle.timeline.specs.Intake.{Kind, Mode, serves, down, Taken, noticed, life, takes, steps_to, on_stored, numbered, closed_by, downed_by, ends_by, FitsMode}
use Rattle.timeline.specs.Logs.{fronted}
use Rattle.timeline.specs.Object as seen
use Rattle.timeline.specs.Object.{Life, OpenTask, Step, State, idle, waiting, ended}
use Rattle.timeline.specs.Steps.{answers}
use Rattle.timeline.specs.Told.{asking}
use Rattle.timeline.specs.declared.caller.Cause.{Cause}
use Rattle.timeline.specs.declared.entry.Body.{Body}
use Rattle.timeline.specs.declared.entry.Entry.{Entry}
use Rattle.timeline.specs.declared.event.Event.{Event}
use Rattle.timeline.specs.declared.notice.Notice.{Notice}
use Rattle.front_turns.specs.Paused.{Paused}
use Rattle.front_turns.specs.Held.{Holds, IsPaused, IsState, asked_in, life_in, object_of}
use Rattle.front_turns.specs.declared.object.Asked.{Asked}
use Rattle.front_turns.specs.declared.object.Object.{Object}
use Rattle.front_turns.specs.declared.object.Running.{Running}
use Rattle.front_turns.specs.declared.object.State.{State as HeldState}
use Rattle.front_turns.specs.declared.object.State.TheVariants as state
use Rattle.front_half.specs.Gated.{IsGatedMode, IsGatedState}
use Rattle.front_half.specs.Moving.{Moves, Stops, Speaks, said_by}
use Rattle.front_half.specs.Noticing.{GoesOn, answer_to, in_mode, in_wait, is_end}
use Rattle.front_half.specs.Standing.{Stood, IsClass, IsHalf, IsMode, IsTakenBy, kind_in, is_stopped}
use Rattle.front_half.specs.Taking.{Led, IsLedBy, fits, sticks_at, leads, takes_notice, due_at}
use Rattle.front_half.specs.declared.half.Half.{Half}
use Rattle.front_half.specs.declared.half.Mode.{Mode as HeldMode}
use Rattle.front_half.specs.declared.half.Mode.TheVariants as held
use Rattle.front_half.proofs.Held.{some_class}
use Rattle.front_half.proofs.Blocks.{answers_gated}
use Rattle.front_half.proofs.Fits.{Answers, answers_by, answers_fit, others_fit_not, idle_fits_not, ended_fits_not}
use Rattle.front_half.proofs.Stepping.{Adds, adds_on, takes_one, cuts_one}

-- Where the class is known, it is that.
class_is : (o : Option ℕ) (class c : ℕ) → o ≡ Some class → IsClass o c → class ≡ c
class_is None class c is of = absurd (none-some class is)
class_is (Some d) class c is of = sym (ap (λ (x : Option ℕ). unwrap_or x 0) is) ∙ of

known_class : (o : Option ℕ) (class : ℕ) → o ≡ Some class → IsClass o class
known_class None class is = absurd (none-some class is)
known_class (Some d) class is = ap (λ (x : Option ℕ). unwrap_or x 0) is

-- A front of a held task that waits: the definitions' waits too, for what was asked.
pub record Waits {T : Type 0} (see : T → Paused) (l : Life) (m : Mode) (o : Object T) (r : Running) (task : T) (a : Asked) : Type 0 where
  pub tasks : List OpenTask
  pub goes : OpenTask
  pub asks : Body
  pub at : m ≡ serves (waiting (object_of o tasks) goes asks)
  pub held : Holds see l o tasks
  pub paused : IsPaused l (see task) r goes
  pub asked : asked_in asks ≡ Some a

module _ {T : Type 0} (see : T → Paused) where
  waits_so : (l : Life) (m : Mode) (o : Object T) (r : Running) (task : T) (a : Asked) → IsMode see l (held.Serves (state.Waiting o r task a)) m → Waits see l m o r task a
  waits_so l (serves (waiting ob t b)) o r task a is = record {
    tasks = is.0.0;
    goes = t;
    asks = b;
    at = ap (λ (x : seen.Object). serves (waiting x t b)) is.0.1;
    held = is.0.2;
    paused = is.1;
    asked = is.2;
  }
  waits_so l (serves (idle ob)) o r task a is = absurd is
  waits_so l (serves (ended c)) o r task a is = absurd is
  waits_so l (down call) o r task a is = absurd is

  idles_so : (l : Life) (m : Mode) (o : Object T) → IsMode see l (held.Serves (state.Idle o)) m → (ob : seen.Object) × (m ≡ serves (idle ob))
  idles_so l (serves (idle ob)) o is = (ob, refl)
  idles_so l (serves (waiting ob t b)) o is = absurd is
  idles_so l (serves (ended c)) o is = absurd is
  idles_so l (down call) o is = absurd is

  ended_so : (l : Life) (m : Mode) (c : Cause) → IsMode see l (held.Serves (state.Ended c)) m → (e : Cause) × (m ≡ serves (ended e))
  ended_so l (serves (ended e)) c is = (e, refl)
  ended_so l (serves (idle ob)) c is = absurd is
  ended_so l (serves (waiting ob t b)) c is = absurd is
  ended_so l (down call) c is = absurd is

  pub serves_so : (l : Life) (m : Mode) (s : HeldState T) → IsMode see l (held.Serves s) m → (st : State) × (m ≡ serves st)
  serves_so l (serves st) s is = (st, refl)
  serves_so l (down call) s is = absurd is

  pub down_so : (l : Life) (m : Mode) (call : Option Event) → IsMode see l (held.Down call) m → m ≡ down call
  down_so l (down waits) call is = ap down (sym is)
  down_so l (serves st) call is = absurd is

  -- What isn't waited for leaves the front stuck.
  pub sticks : (script : Script) (h : Half T) (mode : HeldMode T) (n : Notice) (st : Stood) → IsHalf see script (in_mode h mode) st → (FitsMode st.front.said st.front.mode n → ⊥)
      → (led : Led) × IsLedBy script st n led × Moves see script (in_mode h mode) (record h { mode = mode; stuck = true }) led st
  sticks script h mode n st is unfit = (
    leads (record st { stuck = true }) [] [],
    sticks_at unfit,
    record {
      half = record {
        class = is.class;
        known = is.known;
        incarnation = is.incarnation;
        count = is.count;
        mode = is.mode;
        gate = is.gate;
        deferred = is.deferred;
        stuck = refl;
        delivered_from = is.delivered_from;
        sent_from = is.sent_from;
        events = is.events;
        said = is.said;
      };
      dropped = sym (append-nil h.log.dropped.items);
      taken = λ c from taken of took. subst (λ (ts : List Taken). IsTakenBy (kind_in script c) from ts st.front (fronted h.log)) (sym (append-nil taken)) took;
    },
  )

  -- A held mode that stands for this one, whatever the class.
  pub mode_at : (script : Script) (h : Half T) (mode : HeldMode T) (st : Stood) → IsHalf see script (in_mode h mode) st
      → (l : Life) × IsMode see l mode st.front.mode
  mode_at script h mode st is = let some : (c : ℕ) × IsClass st.class c = some_class st.class in (life_in script some.0 st.front.incarnation, is.mode some.0 some.1)

  pub idle_sticks : (script : Script) (h : Half T) (o : Object T) (n : Notice) → is_end n ≡ false
      → GoesOn see script (in_mode h (held.Serves (state.Idle o))) (record h { mode = held.Serves (state.Idle o); stuck = true }) n
  idle_sticks script h o n stored st is = let at : (l : Life) × IsMode see l (held.Serves (state.Idle o)) st.front.mode = mode_at script h (held.Serves (state.Idle o)) st is in
      let m : (ob : seen.Object) × (st.front.mode ≡ serves (idle ob)) = idles_so at.0 st.front.mode o at.1 in
      sticks script h (held.Serves (state.Idle o)) n st is (λ fit. idle_fits_not n m.0 st.front.said stored (subst (λ (x : Mode). FitsMode st.front.said x n) m.1 fit))

  pub ended_sticks : (script : Script) (h : Half T) (e : Cause) (n : Notice) → is_end n ≡ false
      → GoesOn see script (in_mode h (held.Serves (state.Ended e))) (record h { mode = held.Serves (state.Ended e); stuck = true }) n
  ended_sticks script h e n stored st is = let at : (l : Life) × IsMode see l (held.Serves (state.Ended e)) st.front.mode = mode_at script h (held.Serves (state.Ended e)) st is in
      let m : (d : Cause) × (st.front.mode ≡ serves (ended d)) = ended_so at.0 st.front.mode e at.1 in
      sticks script h (held.Serves (state.Ended e)) n st is (λ fit. ended_fits_not n st.front.said m.0 stored (subst (λ (x : Mode). FitsMode st.front.said x n) m.1 fit))

  pub wait_sticks : (script : Script) (h : Half T) (o : Object T) (r : Running) (task : T) (a : Asked) (n : Notice) → is_end n ≡ false → answer_to h.count a n ≡ None
      → GoesOn see script (in_wait h o r task a) (record h { mode = held.Serves (state.Waiting o r task a); stuck = true }) n
  wait_sticks script h o r task a n stored none st is =
      let at : (l : Life) × IsMode see l (held.Serves (state.Waiting o r task a)) st.front.mode = mode_at script h (held.Serves (state.Waiting o r task a)) st is in
      let w : Waits see at.0 st.front.mode o r task a = waits_so at.0 st.front.mode o r task a at.1 in
      sticks script h (held.Serves (state.Waiting o r task a)) n st is
      (λ fit. others_fit_not h.count a n w.asks (object_of o w.tasks) w.goes st.front.said none w.asked stored is.count (subst (λ (x : Mode). FitsMode st.front.said x n) w.at fit))

  -- A task that waits is of a class.
  pub wait_knows : (script : Script) (h : Half T) (o : Object T) (r : Running) (task : T) (a : Asked) (st : Stood) → IsHalf see script (in_wait h o r task a) st → h.class ≡ None → ⊥
  wait_knows script h o r task a st is none =
      let any : (c : ℕ) → IsClass st.class c = λ c. subst (λ (x : Option ℕ). IsClass x c) (sym none ∙ is.class) tt in
      let class_of : (c : ℕ) → (see task).class ≡ c = λ c.
      let w : Waits see (life_in script c st.front.incarnation) st.front.mode o r task a = waits_so (life_in script c st.front.incarnation) st.front.mode o r task a (is.mode c (any c)) in
      w.paused.class in
      omega (arith, sym (class_of 0) ∙ class_of 1)

-- the bodies of entries
pub bodies_of : (i n : ℕ) (bs : List Body) → map (λ (e : Entry). e.body) (numbered i n bs) ≡ bs
bodies_of i n [] = refl
bodies_of i n (b ∷ bs) = ap (λ (xs : List Body). b ∷ xs) (bodies_of i (suc n) bs)

-- What the log has of an incarnation that says more.
pub said_more : (first : ℕ) (old new : List Entry) (i n : ℕ) (bs said : List Body) → first ≤ length old → new ≡ old ++ numbered i n bs
    → map (λ (e : Entry). e.body) (drop first old) ≡ said → map (λ (e : Entry). e.body) (drop first new) ≡ said ++ bs
said_more first old new i n bs said within sent is =
    ap (λ (es : List Entry). map (λ (e : Entry). e.body) (drop first es)) sent
    ∙ ap (λ (es : List Entry). map (λ (e : Entry). e.body) es) (drop-append-le first old (numbered i n bs) within)
    ∙ map-append (λ (e : Entry). e.body) (drop first old) (numbered i n bs)
    ∙ ap (λ (xs : List Body). xs ++ map (λ (e : Entry). e.body) (numbered i n bs)) is
    ∙ ap (λ (xs : List Body). said ++ xs) (bodies_of i n bs)

pub longer : {X : Type 0} (first : ℕ) (old new more : List X) → first ≤ length old → new ≡ old ++ more → first ≤ length new
longer first old new more within sent = subst (λ (n : ℕ). first ≤ n) (sym (ap length sent ∙ length-append old more)) (omega (arith, within))

pub counts_on : (n count : ℕ) (said bs : List Body) → n ≡ count + length bs → count ≡ length said → n ≡ length (said ++ bs)
counts_on n count said bs is was = is ∙ ap (λ (k : ℕ). k + length bs) was ∙ sym (length-append said bs)

-- The half that has said what a step says.
abbrev pub stepped : {T : Type 0} → Half T → Vec Entry Global → HeldState T → ℕ → Half T
stepped h sent s n = record h { mode = held.Serves s; count = n; log = record h.log { sent = sent } }

-- the half of which the first entries were sent
abbrev pub cut : {T : Type 0} → Half T → Vec Entry Global → Half T
cut h sent = record h { log = record h.log { sent = sent } }

module _ {T : Type 0} (see : T → Paused) (script : Script) where
  -- It holds what the step leads to.
  pub holds_on : (h : Half T) (mode : HeldMode T) (class : ℕ) (st : Stood) (step : Step) (sent : Vec Entry Global) (s : HeldState T) (n : ℕ)
      → IsHalf see script (in_mode h mode) st → h.class ≡ Some class → Speaks see (life_in script class h.incarnation) h.log.sent.items sent.items h.count s n step
      → IsGatedState (constructor_of script class) step.state → IsHalf see script (stepped h sent s n) (record st { front = steps_to st.front step })
  holds_on h mode class st step sent s n is known says gated = record {
    class = is.class;
    known = is.known;
    incarnation = is.incarnation;
    count = counts_on n h.count st.front.said (said_by step) says.count is.count ∙ ap length (sym (append_assoc st.front.said step.says (asking step.state)));
    mode = λ c of. subst (λ (i : ℕ). IsState see (life_in script c i) s step.state) is.incarnation
        (subst (λ (d : ℕ). IsState see (life_in script d h.incarnation) s step.state) (class_is st.class class c (sym is.class ∙ known) of) says.state);
    gate = λ c of. subst (λ (d : ℕ). IsGatedState (constructor_of script d) step.state) (class_is st.class class c (sym is.class ∙ known) of) gated;
    deferred = is.deferred;
    stuck = is.stuck;
    delivered_from = is.delivered_from;
    sent_from = longer h.first_sent h.log.sent.items sent.items (numbered h.incarnation (1 + h.count) (said_by step)) is.sent_from says.sent;
    events = is.events;
    said = said_more h.first_sent h.log.sent.items sent.items h.incarnation (1 + h.count) (said_by step) st.front.said is.sent_from says.sent is.said
        ∙ sym (append_assoc st.front.said step.says (asking step.state));
  }

  -- A notice that answers, and the step to which it leads.
  pub record Leads (class : ℕ) (st : Stood) (n : Notice) (step : Step) : Type 0 where
    pub fit : FitsMode st.front.said st.front.mode n
    pub to : (c : ℕ) → class ≡ c → takes (kind_in script c) st.front (noticed n) ≡ steps_to st.front step
    pub due : due_at st.front.mode n ≡ []
    pub closes : closed_by st.front st.front.mode (noticed n) ≡ []
    pub downs : downed_by st.front.incarnation st.front.mode (noticed n) ≡ []
    pub ends : ends_by st.front.mode (noticed n) ≡ []

  -- where the step is sent, numbered on
  pub at_number : (h : Half T) (st : Stood) (old : List Entry) (bs : List Body) → h.incarnation ≡ st.front.incarnation → h.count ≡ length st.front.said
      → old ++ numbered h.incarnation (1 + h.count) bs ≡ old ++ numbered st.front.incarnation (1 + length st.front.said) bs
  at_number h st old bs number counts = ap (λ (i : ℕ). old ++ numbered i (1 + h.count) bs) number ∙ ap (λ (k : ℕ). old ++ numbered st.front.incarnation (1 + k) bs) counts

  step_adds : (class c : ℕ) (st : Stood) (n : Notice) (step : Step) → Leads class st n step → class ≡ c
      → Adds (kind_in script c) st.front (noticed n) (numbered st.front.incarnation (1 + length st.front.said) (said_by step))
  step_adds class c st n step by same = adds_on (kind_in script c) st.front (noticed n) (said_by step)
      (ap (λ (f : intake.Front). f.incarnation) (by.to c same))
      (ap (λ (f : intake.Front). f.said) (by.to c same) ∙ append_assoc st.front.said step.says (asking step.state))
      by.closes

  pub moves_on : (h : Half T) (mode : HeldMode T) (class : ℕ) (st : Stood) (n : Notice) (step : Step) (sent : Vec Entry Global) (s : HeldState T) (m : ℕ)
      → IsHalf see script (in_mode h mode) st → h.class ≡ Some class → Leads class st n step
      → Speaks see (life_in script class h.incarnation) h.log.sent.items sent.items h.count s m step → IsGatedState (constructor_of script class) step.state
      → (led : Led) × IsLedBy script st n led × Moves see script (in_mode h mode) (stepped h sent s m) led st
  moves_on h mode class st n step sent s m is known by says gated =
      let d : ℕ = unwrap_or st.class 0 in
      let class_of : st.class ≡ Some class = sym is.class ∙ known in
      let here : class ≡ d = sym (ap (λ (x : Option ℕ). unwrap_or x 0) class_of) in
      let same : record st { front = steps_to st.front step } ≡ (takes_notice script st n).stood =
      ap (λ (f : intake.Front). record st { front = f }) (sym (by.to d here))
      ∙ ap (λ (ds : List Event). record st { front = takes (kind_in script d) st.front (noticed n); deferred = ds ++ st.deferred }) (sym by.due) in (
        takes_notice script st n,
        fits by.fit,
        record {
          half = subst (λ (x : Stood). IsHalf see script (stepped h sent s m) x) same (holds_on h mode class st step sent s m is known says gated);
          dropped = sym (append-nil h.log.dropped.items);
          taken = λ c from taken of took. let k : Kind = kind_in script c in
              subst (λ (f : intake.Front). IsTakenBy k from (taken ++ noticed n ∷ []) f (fronted (stepped h sent s m).log))
              (by.to c (class_is st.class class c class_of of) ∙ sym (by.to d here))
              (takes_one k from taken (noticed n) st.front (numbered st.front.incarnation (1 + length st.front.said) (said_by step))
              (fronted h.log) (fronted (stepped h sent s m).log) by.fit (step_adds class c st n step by (class_is st.class class c class_of of))
              (record {
                sent = says.sent ∙ at_number h st h.log.sent.items (said_by step) is.incarnation is.count;
                delivered = sym (append-nil h.log.delivered.items);
                downed = sym (ap (λ (xs : List (ℕ × Event)). h.log.downed.items ++ xs) by.downs ∙ append-nil h.log.downed.items);
                ends = sym (ap (λ (xs : List Cause). h.log.ends.items ++ xs) by.ends ∙ append-nil h.log.ends.items);
              }) took);
        },
      )

  pub stops_on : (h : Half T) (mode : HeldMode T) (class : ℕ) (st : Stood) (n : Notice) (step : Step) (sent : Vec Entry Global)
      → IsHalf see script (in_mode h mode) st → h.class ≡ Some class → is_stopped h ≡ true → Leads class st n step
      → IsPrefix sent.items (h.log.sent.items ++ numbered h.incarnation (1 + h.count) (said_by step))
      → (led : Led) × IsLedBy script st n led × Stops script (in_mode h mode) (cut h sent) led st
  stops_on h mode class st n step sent is known stopped by begins =
      let class_of : st.class ≡ Some class = sym is.class ∙ known in (
        takes_notice script st n,
        fits by.fit,
        record {
          stopped = stopped;
          cut = inr (
            sym (append-nil h.log.dropped.items),
            λ c from taken of took.
                cuts_one (kind_in script c) from taken (noticed n) st.front (numbered st.front.incarnation (1 + length st.front.said) (said_by step))
                (fronted h.log) (fronted (cut h sent).log) by.fit (step_adds class c st n step by (class_is st.class class c class_of of))
                (record {
                  sent = subst (λ (all : List Entry). IsPrefix sent.items all) (at_number h st h.log.sent.items (said_by step) is.incarnation is.count) begins;
                  delivered = sym (append-nil h.log.delivered.items);
                  downed = sym (ap (λ (xs : List (ℕ × Event)). h.log.downed.items ++ xs) by.downs ∙ append-nil h.log.downed.items);
                  ends = sym (ap (λ (xs : List Cause). h.log.ends.items ++ xs) by.ends ∙ append-nil h.log.ends.items);
                }) took,
          );
        },
      )

  -- What is known of a task that waits, in the life of the half's class.
  pub waits_here : (h : Half T) (class : ℕ) (o : Object T) (r : Running) (task : T) (a : Asked) (st : Stood) → IsHalf see script (in_wait h o r task a) st
      → h.class ≡ Some class → Waits see (life_in script class h.incarnation) st.front.mode o r task a
  waits_here h class o r task a st is known = waits_so see (life_in script class h.incarnation) st.front.mode o r task a
      (subst (λ (i : ℕ). IsMode see (life_in script class i) (held.Serves (state.Waiting o r task a)) st.front.mode) (sym is.incarnation)
      (is.mode class (known_class st.class class (sym is.class ∙ known))))

  -- The answer that it brings leads to the object's step with it.
  pub answer_leads : (h : Half T) (class : ℕ) (o : Object T) (r : Running) (task : T) (a : Asked) (n : Notice) (given : Answer) (st : Stood)
      → IsHalf see script (in_wait h o r task a) st → answer_to h.count a n ≡ Some given
      → (w : Waits see (life_in script class h.incarnation) st.front.mode o r task a)
      → Leads class st n (answers (life_in script class h.incarnation) (object_of o w.tasks) w.goes given)
  answer_leads h class o r task a n given st is answers_it w =
      let m : State = waiting (object_of o w.tasks) w.goes w.asks in
      let by : (c : ℕ) → Answers (kind_in script c) st.front m n given = λ c. answers_by (kind_in script c) st.front m h.count a n given answers_it in
      record {
        fit = subst (λ (x : Mode). FitsMode st.front.said x n) (sym w.at)
            (answers_fit h.count a n given w.asks (object_of o w.tasks) w.goes st.front.said answers_it w.asked is.count);
        to = λ c same. (by c).takes ∙ ap (λ (x : Mode). on_stored (kind_in script c) st.front x given) w.at
            ∙ ap (λ (i : ℕ). steps_to st.front (answers (life_in script c i) (object_of o w.tasks) w.goes given)) (sym is.incarnation)
            ∙ ap (λ (d : ℕ). steps_to st.front (answers (life_in script d h.incarnation) (object_of o w.tasks) w.goes given)) (sym same);
        due = ap (λ (x : Mode). due_at x n) w.at ∙ (by class).due;
        closes = ap (λ (x : Mode). closed_by st.front x (noticed n)) w.at ∙ (by class).closes;
        downs = ap (λ (x : Mode). downed_by st.front.incarnation x (noticed n)) w.at ∙ (by class).downs;
        ends = ap (λ (x : Mode). ends_by x (noticed n)) w.at ∙ (by class).ends;
      }

  -- And that step keeps the blocks in order.
  pub answer_gated : (h : Half T) (class : ℕ) (o : Object T) (r : Running) (task : T) (a : Asked) (given : Answer) (st : Stood)
      → IsHalf see script (in_wait h o r task a) st → h.class ≡ Some class → (w : Waits see (life_in script class h.incarnation) st.front.mode o r task a)
      → IsGatedState (constructor_of script class) (answers (life_in script class h.incarnation) (object_of o w.tasks) w.goes given).state
  answer_gated h class o r task a given st is known w =
      let gated : IsGatedState (constructor_of script class) (waiting (object_of o w.tasks) w.goes w.asks)
      = subst (λ (m : Mode). IsGatedMode (constructor_of script class) m) w.at (is.gate class (known_class st.class class (sym is.class ∙ known))) in
      answers_gated (life_in script class h.incarnation) (object_of o w.tasks) w.goes given gated.0 gated.1

  -- A front that stands isn't stopped.
  pub stopped_not : (h : Half T) (st : Stood) → IsHalf see script (in_mode h held.Stopped) st → ⊥
  stopped_not h st is = let at : (l : Life) × IsMode see l held.Stopped st.front.mode = mode_at see script h held.Stopped st is in at.1

-- What a front sends fits its back, entry by entry, where each event that it was delivered was one that it takes.
use Rattle.std.proofs.Common.{◌≡◌, ◌∙◌, ap, sym, subst, refl, true≢false, ℕ, suc, ◌<◌, List, [], ◌∷◌, ◌++◌, append-nil, append_assoc, length, arith, Option, Some, None}
use Rattle.std.proofs.lemmas.Bool.{eq-eqb, ne_eqb, lt-ltb}
use Rattle.std.proofs.lemmas.List.Elements.{All-nil, All-cons, All-head, All-tail, All-append, All-weaker}
use Rattle.std.specs.Prelude.{Bool, true, false, not, nat_lt, if◌then◌else◌, is_some}
use Rattle.std.specs.List.{All}
use Rattle.do_tree.specs.Lookup.{class_named}
use Rattle.do_tree.specs.Tree.{Script}
use Rattle.script_mean.specs.declared.answer.Answer.{Answer}
use Rattle.timeline.specs.Eligible.{is_fit}
use Rattle.timeline.specs.History.{is_halting}
use Rattle.timeline.specs.Intake.{Kind, Front, Mode, serves, life, delivered, takes, steps_to, numbered, down_replies, IsStorageWait}
use Rattle.timeline.specs.Object.{Object, OpenTask, State, idle, waiting, ended, Step}
use Rattle.timeline.specs.Replies.{reset_of, resets_of}
use Rattle.timeline.specs.Steps.{delivers, answers}
use Rattle.timeline.specs.Told.{asking}
use Rattle.timeline.specs.declared.caller.Caller.{Caller}
use Rattle.timeline.specs.declared.caller.Cause.{Cause}
use Rattle.timeline.specs.declared.entry.Body.{Body}
use Rattle.timeline.specs.declared.entry.Body.TheVariants as body
use Rattle.timeline.specs.declared.entry.Entry.{Entry}
use Rattle.timeline.specs.declared.event.Event.{Event}
use Rattle.timeline.specs.declared.event.Event.TheVariants as event
use Rattle.timeline.specs.declared.message.Message.{Message as Sent}
use Rattle.front_half.specs.Taking.{class_after}
use Rattle.output_gate.specs.Fits.{is_halt, comes_behind}
use Rattle.object_history.proofs.Growing.{numbered_behind}
use Rattle.object_history.proofs.WellSaid.{delivers_inner, answers_inner}
use Rattle.object_history.specs.Saying.{is_inner, is_asked, LeadBy}
use Rattle.object_core.specs.Fitting.{known_by, known_over, last_over, FitsKnown, AreFit}

pub fit_append : (known : Bool) (last : Option Entry) (xs ys : List Entry) → AreFit known last xs → AreFit (known_over known xs) (last_over last xs) ys
    → AreFit known last (xs ++ ys)
fit_append known last [] ys first rest = rest
fit_append known last (e ∷ xs) ys first rest = (first.0, first.1, fit_append (known_by e.body known) (Some e) xs ys first.2 rest)

pub known_append : (known : Bool) (xs ys : List Entry) → known_over known (xs ++ ys) ≡ known_over (known_over known xs) ys
known_append known [] ys = refl
known_append known (e ∷ xs) ys = known_append (known_by e.body known) xs ys

last_append : (last : Option Entry) (xs ys : List Entry) → last_over last (xs ++ ys) ≡ last_over (last_over last xs) ys
last_append last [] ys = refl
last_append last (e ∷ xs) ys = last_append (Some e) xs ys

-- Any entry of an incarnation may stand behind this one.
abbrev Follows : Option Entry → ℕ → Type 0
Follows last i = (n : ℕ) (b : Body) → comes_behind last (record { incarnation = i; number = n; body = b }) ≡ true

own_follows : (i n : ℕ) (b : Body) → is_halt b ≡ false → Follows (Some (record { incarnation = i; number = n; body = b })) i
own_follows i n b goes m c = ap (λ (same : Bool). if same then not (is_halt b) else nat_lt i i) (eq-eqb i i refl) ∙ ap not goes

abbrev pub IsOlder : Option Entry → ℕ → Type 0
IsOlder last i = (x : Entry) → last ≡ Some x → x.incarnation < i

pub older_follows : (last : Option Entry) (i : ℕ) → 0 < i → IsOlder last i → Follows last i
older_follows None i some older n b = lt-ltb 0 i some
older_follows (Some x) i some older n b =
    let less : x.incarnation < i = older x refl in
    ap (λ (same : Bool). if same then not (is_halt x.body) else nat_lt x.incarnation i) (ne_eqb x.incarnation i (λ same. omega (arith, same, less)))
    ∙ lt-ltb x.incarnation i less

last_is : (x y : Entry) → Some x ≡ Some y → x.incarnation ≡ y.incarnation
last_is x y is = let same : x ≡ y = cc in ap (λ (e : Entry). e.incarnation) same

older_next : (last : Option Entry) (i n : ℕ) (bodies : List Body) → IsOlder last (suc i) → IsOlder (last_over last (numbered i n bodies)) (suc i)
older_next last i n [] older = older
older_next last i n (b ∷ bodies) older =
    let e : Entry = record { incarnation = i; number = n; body = b } in
    older_next (Some e) i (suc n) bodies (λ x is. omega (arith, last_is e x is))

-- One that changes nothing of what is known, and behind which others stand.
pub record Easy (known : Bool) (b : Body) : Type 0 where
  pub fits : FitsKnown known b
  pub same : known_by b known ≡ known
  pub goes : is_halt b ≡ false

record Runs (i : ℕ) (known : Bool) (last : Option Entry) (entries : List Entry) : Type 0 where
  fit : AreFit known last entries
  knows : known_over known entries ≡ known
  follows : Follows (last_over last entries) i

easy_runs : (i n : ℕ) (known : Bool) (last : Option Entry) (bodies : List Body) → Follows last i → All (Easy known) bodies → Runs i known last (numbered i n bodies)
easy_runs i n known last [] follows easy = record { fit = tt; knows = refl; follows = follows }
easy_runs i n known last (b ∷ bodies) follows easy =
    let e : Entry = record { incarnation = i; number = n; body = b } in
    let here : Easy known b = All-head (Easy known) b bodies easy in
    let rest : Runs i known (Some e) (numbered i (suc n) bodies) =
    easy_runs i (suc n) known (Some e) bodies (own_follows i n b here.goes) (All-tail (Easy known) b bodies easy) in
    record {
      fit = (follows n b, here.fits, subst (λ (k : Bool). AreFit k (Some e) (numbered i (suc n) bodies)) (sym here.same) rest.fit);
      knows = ap (λ (k : Bool). known_over k (numbered i (suc n) bodies)) here.same ∙ rest.knows;
      follows = rest.follows;
    }

inner_easy : (b : Body) → is_inner b ≡ true → Easy true b
inner_easy (body.Batch ops None confirmed) is = record { fits = refl; same = refl; goes = refl }
inner_easy (body.Batch ops (Some tail) confirmed) is = absurd (true≢false (sym is))
inner_easy (body.Message sent) is = record { fits = tt; same = refl; goes = refl }
inner_easy (body.Bind identity) is = absurd (true≢false (sym is))
inner_easy (body.Ask ask free) is = absurd (true≢false (sym is))
inner_easy body.Sync is = absurd (true≢false (sym is))
inner_easy (body.Halt c) is = absurd (true≢false (sym is))
inner_easy body.Mend is = absurd (true≢false (sym is))

asked_easy : (b : Body) → is_asked b ≡ true → Easy true b
asked_easy (body.Batch ops (Some tail) confirmed) is = record { fits = refl; same = refl; goes = refl }
asked_easy (body.Batch ops None confirmed) is = absurd (true≢false (sym is))
asked_easy (body.Ask ask free) is = record { fits = refl; same = refl; goes = refl }
asked_easy body.Sync is = record { fits = tt; same = refl; goes = refl }
asked_easy (body.Message sent) is = absurd (true≢false (sym is))
asked_easy (body.Bind identity) is = absurd (true≢false (sym is))
asked_easy (body.Halt c) is = absurd (true≢false (sym is))
asked_easy body.Mend is = absurd (true≢false (sym is))

message_easy : (known : Bool) (sent : Sent) → Easy known (body.Message sent)
message_easy known sent = record { fits = tt; same = refl; goes = refl }

pub resets_easy : (known : Bool) (cause : Cause) (callers : List Caller) → All (Easy known) (resets_of cause callers)
resets_easy known cause [] = All-nil (Easy known)
resets_easy known cause (from ∷ callers) =
    All-cons (Easy known) (reset_of cause from) (resets_of cause callers) (message_easy known _) (resets_easy known cause callers)

pub replies_easy : (known : Bool) (e : Event) (before after : ℕ) → All (Easy known) (down_replies (Some e) before after)
replies_easy known (event.Call from method args depth at) before after = All-cons (Easy known) _ [] (message_easy known _) (All-nil (Easy known))
replies_easy known (event.Bind identity) before after = All-nil (Easy known)
replies_easy known (event.Answer incarnation number result at) before after = All-nil (Easy known)
replies_easy known (event.Tick at) before after = All-nil (Easy known)
replies_easy known (event.Evict at) before after = All-nil (Easy known)

-- A halt is the last of its incarnation.
halt_fits : (i n : ℕ) (c : Cause) (last : Option Entry) (first : List Body) → Follows last i → All (Easy true) first → is_halting c ≡ true
    → AreFit true last (numbered i n (first ++ body.Halt c ∷ [])) × (known_over true (numbered i n (first ++ body.Halt c ∷ [])) ≡ true)
halt_fits i n c last [] follows easy is = ((follows n (body.Halt c), is, tt), refl)
halt_fits i n c last (b ∷ first) follows easy is =
    let e : Entry = record { incarnation = i; number = n; body = b } in
    let here : Easy true b = All-head (Easy true) b first easy in
    let rest = halt_fits i (suc n) c (Some e) first (own_follows i n b here.goes) (All-tail (Easy true) b first easy) is in
    let entries : List Entry = numbered i (suc n) (first ++ body.Halt c ∷ []) in (
      (follows n b, here.fits, subst (λ (k : Bool). AreFit k (Some e) entries) (sym here.same) rest.0),
      ap (λ (k : Bool). known_over k entries) here.same ∙ rest.1,
    )

-- More may be said in this mode.
abbrev IsOpen : Mode → Type 0
IsOpen (serves (ended c)) = ⊥
IsOpen mode = Unit {0}

record StepFits (i n : ℕ) (last : Option Entry) (more : List Body) (mode : Mode) : Type 0 where
  fit : AreFit true last (numbered i n more)
  knows : known_over true (numbered i n more) ≡ true
  follows : IsOpen mode → Follows (last_over last (numbered i n more)) i

by_runs : (i n : ℕ) (last : Option Entry) (more : List Body) (mode : Mode) → Runs i true last (numbered i n more) → StepFits i n last more mode
by_runs i n last more mode runs = record { fit = runs.fit; knows = runs.knows; follows = λ opens. runs.follows }

lead_fits : (i n : ℕ) (last : Option Entry) (says : List Body) (state : State) → Follows last i → LeadBy is_inner says state
    → StepFits i n last (says ++ asking state) (serves state)
lead_fits i n last says (idle o) follows lead =
    by_runs i n last (says ++ []) (serves (idle o))
    (easy_runs i n true last (says ++ []) follows
    (All-append (Easy true) says [] (All-weaker (λ (b : Body). is_inner b ≡ true) (Easy true) inner_easy says lead) (All-nil (Easy true))))
lead_fits i n last says (waiting o t b) follows lead =
    by_runs i n last (says ++ b ∷ []) (serves (waiting o t b))
    (easy_runs i n true last (says ++ b ∷ []) follows
    (All-append (Easy true) says (b ∷ []) (All-weaker (λ (x : Body). is_inner x ≡ true) (Easy true) inner_easy says lead.0)
    (All-cons (Easy true) b [] (asked_easy b lead.1) (All-nil (Easy true)))))
lead_fits i n last says (ended c) follows lead =
    let all : lead.0 ++ body.Halt c ∷ [] ≡ says ++ [] = sym (append-nil says ∙ lead.1) in
    let h = halt_fits i n c last lead.0 follows (All-weaker (λ (b : Body). is_inner b ≡ true) (Easy true) inner_easy lead.0 lead.2) lead.3 in
    record {
      fit = subst (λ (more : List Body). AreFit true last (numbered i n more)) all h.0;
      knows = subst (λ (more : List Body). known_over true (numbered i n more) ≡ true) all h.1;
      follows = λ opens. absurd opens;
    }

-- How a front stands to what it sends: what its incarnation has said fits behind what was sent before, and the object is known where it has
-- a class.
pub record Fitted (class : Option ℕ) (first : Bool) (last : Option Entry) (f : Front) : Type 0 where
  pub fit : AreFit first last (numbered f.incarnation 1 f.said)
  pub knows : known_over first (numbered f.incarnation 1 f.said) ≡ is_some class
  pub follows : IsOpen f.mode → Follows (last_over last (numbered f.incarnation 1 f.said)) f.incarnation
  pub some : 0 < f.incarnation
  pub older : IsOlder last f.incarnation
  pub bound : class ≡ None → IsStorageWait f.mode → ⊥

module _ (class : Option ℕ) (first : Bool) (last : Option Entry) (i : ℕ) (es : List Event) (said : List Body) (mode : Mode)
    (fitted : Fitted class first last (record { incarnation = i; events = es; said = said; mode = mode })) where
  abbrev entries : List Entry
  entries = numbered i 1 said

  -- More that it says.
  pub more_fitted : (later : Option ℕ) (events : List Event) (more : List Body) (next : Mode)
      → AreFit (known_over first entries) (last_over last entries) (numbered i (suc (length said)) more)
      → known_over (known_over first entries) (numbered i (suc (length said)) more) ≡ is_some later
      → (IsOpen next → Follows (last_over (last_over last entries) (numbered i (suc (length said)) more)) i) → (later ≡ None → IsStorageWait next → ⊥)
      → Fitted later first last (record { incarnation = i; events = events; said = said ++ more; mode = next })
  more_fitted later events more next fit knows follows bound =
      let added : List Entry = numbered i (suc (length said)) more in
      let all : entries ++ added ≡ numbered i 1 (said ++ more) = sym (numbered_behind i said more) in
      record {
        fit = subst (λ (x : List Entry). AreFit first last x) all (fit_append first last entries added fitted.fit fit);
        knows = ap (λ (x : List Entry). known_over first x) (sym all) ∙ known_append first entries added ∙ knows;
        follows = λ opens. subst (λ (x : Option Entry). Follows x i) (sym (last_append last entries added) ∙ ap (λ (x : List Entry). last_over last x) all) (follows opens);
        some = fitted.some;
        older = fitted.older;
        bound = bound;
      }

  -- a step of its object
  pub step_fitted : IsOpen mode → is_some class ≡ true → (events : List Event) (s : Step) → LeadBy is_inner s.says s.state → (class ≡ None → ⊥)
      → Fitted class first last (record { incarnation = i; events = events; said = (said ++ s.says) ++ asking s.state; mode = serves s.state })
  step_fitted opens known events s lead there =
      let is_known : known_over first entries ≡ true = fitted.knows ∙ known in
      let more : List Body = s.says ++ asking s.state in
      let added : List Entry = numbered i (suc (length said)) more in
      let fits = lead_fits i (suc (length said)) (last_over last entries) s.says s.state (fitted.follows opens) lead in
      subst (λ (x : List Body). Fitted class first last (record { incarnation = i; events = events; said = x; mode = serves s.state }))
      (sym (append_assoc said s.says (asking s.state)))
      (more_fitted class events more (serves s.state)
      (subst (λ (k : Bool). AreFit k (last_over last entries) added) (sym is_known) fits.fit)
      (ap (λ (k : Bool). known_over k added) is_known ∙ fits.knows ∙ sym known)
      fits.follows (λ none. absurd (there none)))

  -- entries that change nothing
  pub easy_fitted : IsOpen mode → (more : List Body) (next : Mode) → All (Easy (known_over first entries)) more → (class ≡ None → IsStorageWait next → ⊥)
      → Fitted class first last (record { incarnation = i; events = es; said = said ++ more; mode = next })
  easy_fitted opens more next easy bound =
      let runs = easy_runs i (suc (length said)) (known_over first entries) (last_over last entries) more (fitted.follows opens) easy in
      more_fitted class es more next runs.fit (runs.knows ∙ fitted.knows) (λ opens_next. runs.follows) bound

  -- another mode
  pub mode_fitted : IsOpen mode → (next : Mode) → (class ≡ None → IsStorageWait next → ⊥)
      → Fitted class first last (record { incarnation = i; events = es; said = said; mode = next })
  mode_fitted opens next bound = record {
    fit = fitted.fit;
    knows = fitted.knows;
    follows = λ opens_next. fitted.follows opens;
    some = fitted.some;
    older = fitted.older;
    bound = bound;
  }

  -- the next incarnation
  pub next_fitted : (resets : List Body) (next : Mode) → All (Easy (known_over first entries)) resets → (class ≡ None → IsStorageWait next → ⊥)
      → Fitted class (known_over first entries) (last_over last entries) (record { incarnation = suc i; events = []; said = resets; mode = next })
  next_fitted resets next easy bound =
      let older : IsOlder (last_over last entries) (suc i) = older_next last i 1 said (λ x is. let less = fitted.older x is in omega (arith, less)) in
      let runs = easy_runs (suc i) 1 (known_over first entries) (last_over last entries) resets (older_follows (last_over last entries) (suc i) (omega arith) older) easy in
      record {
        fit = runs.fit;
        knows = runs.knows ∙ fitted.knows;
        follows = λ opens_next. runs.follows;
        some = omega arith;
        older = older;
        bound = bound;
      }

none_some : (c : ℕ) → Some c ≡ None → ⊥
none_some c is = absurd cc

module _ (k : Kind) (script : Script) where
  abbrev pub at : ℕ → List Event → List Body → Mode → Front
  at i es said mode = record { incarnation = i; events = es; said = said; mode = mode }

  -- An event that it takes.
  pub event_fitted : (class : Option ℕ) (e : Event) (first : Bool) (last : Option Entry) (i : ℕ) (es : List Event) (said : List Body) (o : Object)
      → Fitted class first last (at i es said (serves (idle o))) → is_fit script class e ≡ true
      → Fitted (class_after script class e) first last (takes k (at i es said (serves (idle o))) (delivered e))
  event_fitted None (event.Bind identity) first last i es said o fitted is =
      let mode : Mode = serves (delivers (life k i) o (event.Bind identity)).state in
      subst (λ (x : List Body). Fitted (class_named script identity.0) first last (at i (es ++ event.Bind identity ∷ []) x mode))
      (sym (append-nil (said ++ body.Bind identity ∷ [])))
      (more_fitted None first last i es said (serves (idle o)) fitted (class_named script identity.0) (es ++ event.Bind identity ∷ []) (body.Bind identity ∷ []) mode
      (fitted.follows tt (suc (length said)) (body.Bind identity), fitted.knows, tt) (sym is)
      (λ opens. own_follows i (suc (length said)) (body.Bind identity) refl) (λ none waits. absurd waits))
  event_fitted None (event.Call from method args depth at_time) first last i es said o fitted is = absurd (true≢false (sym is))
  event_fitted None (event.Answer incarnation number result at_time) first last i es said o fitted is = absurd (true≢false (sym is))
  event_fitted None (event.Tick at_time) first last i es said o fitted is = absurd (true≢false (sym is))
  event_fitted None (event.Evict at_time) first last i es said o fitted is = absurd (true≢false (sym is))
  event_fitted (Some class) (event.Bind identity) first last i es said o fitted is = absurd (true≢false (sym is))
  event_fitted (Some class) (event.Call from method args depth at_time) first last i es said o fitted is =
      let e : Event = event.Call from method args depth at_time in
      step_fitted (Some class) first last i es said (serves (idle o)) fitted tt refl (es ++ e ∷ []) (delivers (life k i) o e) (delivers_inner (life k i) o e refl) (none_some class)
  event_fitted (Some class) (event.Answer incarnation number result at_time) first last i es said o fitted is =
      let e : Event = event.Answer incarnation number result at_time in
      step_fitted (Some class) first last i es said (serves (idle o)) fitted tt refl (es ++ e ∷ []) (delivers (life k i) o e) (delivers_inner (life k i) o e refl) (none_some class)
  event_fitted (Some class) (event.Tick at_time) first last i es said o fitted is =
      let e : Event = event.Tick at_time in
      step_fitted (Some class) first last i es said (serves (idle o)) fitted tt refl (es ++ e ∷ []) (delivers (life k i) o e) (delivers_inner (life k i) o e refl) (none_some class)
  event_fitted (Some class) (event.Evict at_time) first last i es said o fitted is =
      let e : Event = event.Evict at_time in
      step_fitted (Some class) first last i es said (serves (idle o)) fitted tt refl (es ++ e ∷ []) (delivers (life k i) o e) (delivers_inner (life k i) o e refl) (none_some class)

  -- An answer of the storage, for which only an object of a class waits.
  pub answer_fitted : (class : Option ℕ) (a : Answer) (first : Bool) (last : Option Entry) (i : ℕ) (es : List Event) (said : List Body) (o : Object) (u : OpenTask) (b : Body)
      → Fitted class first last (at i es said (serves (waiting o u b)))
      → Fitted class first last (steps_to (at i es said (serves (waiting o u b))) (answers (life k i) o u a))
  answer_fitted None a first last i es said o u b fitted = absurd (fitted.bound refl tt)
  answer_fitted (Some class) a first last i es said o u b fitted =
      step_fitted (Some class) first last i es said (serves (waiting o u b)) fitted tt refl es (answers (life k i) o u a) (answers_inner (life k i) o u a) (none_some class)

-- A step of its object keeps a front and a back a pair: at an event that is delivered, and at an answer of the storage.
use Rattle.std.proofs.Common.{◌≡◌, ◌∙◌, ap, sym, subst, refl, ℕ, suc, List, [], ◌∷◌, ◌++◌, append-nil, append_assoc, length}
use Rattle.std.proofs.lemmas.List.{append_cancel_left}
use Rattle.storage_map.specs.Contents.{Contents}
use Rattle.script_mean.specs.declared.answer.Answer.{Answer}
use Rattle.timeline.specs.History.{History, of_number, incarnations}
use Rattle.timeline.specs.Intake.{Kind, Front, life, Mode, serves, down, delivered, takes, answer_in, numbered}
use Rattle.timeline.specs.Logs.{Fronted, Backed}
use Rattle.timeline.specs.Object.{Object, OpenTask, State, idle, waiting, ended, Step}
use Rattle.timeline.specs.Steps.{delivers, answers}
use Rattle.timeline.specs.Told.{asking, stored_answer, written}
use Rattle.timeline.specs.declared.entry.Body.{Body}
use Rattle.timeline.specs.declared.entry.Entry.{Entry}
use Rattle.timeline.specs.declared.event.Event.{Event}
use Rattle.timeline.specs.declared.notice.Notice.{Notice}
use Rattle.std.specs.List.{All}
use Rattle.object_history.proofs.Frames.{now, GoesOn, own_calls, down_same, kept}
use Rattle.object_history.proofs.Ready.{is_serving, same_state, IsReady, ready_steps, idle_ready, IsTheMaps, waiting_ready}
use Rattle.object_history.specs.Laws.{TellingGoesOn, StepsSayWell}
use Rattle.object_history.proofs.Readings.{phase_now, step_gated}
use Rattle.object_history.specs.Pair.{Rear, IsUnread, IsNewest, serving, falling, IsPair}
use Rattle.object_history.specs.Saying.{LeadTo, IsGated}
use Rattle.object_history.specs.Stepping.{Grows}
use Rattle.object_history.specs.Telling.{Tells}

-- What a step says ends with the entry that is then waited for.
step_unread : (says : List Body) (state : State) → LeadTo says state → IsUnread (serves state) (says ++ asking state)
step_unread says (idle o) lead = record { plain = says; are_plain = lead; is = refl }
step_unread says (waiting o t b) lead = record { plain = says; are_plain = lead.0; is = refl }
step_unread says (ended c) lead = record { plain = lead.0; are_plain = lead.2; is = append-nil says ∙ lead.1 }

-- Of a front that serves it is known what it has told.
newest_steps : (k : Kind) (older : History) (start : Contents) (f : Front) (front new : Fronted) (back : Backed) (es : List Event) (said : List Body)
    (state was : State) → f.mode ≡ serves was → of_number f.incarnation new.downed ≡ of_number f.incarnation front.downed
    → ((before : List Body) → Tells k start before f → Tells k start before (now f es said (serves state)))
    → IsNewest k older start f front back → IsNewest k older start (now f es said (serves state)) new back
newest_steps k older start f front new back es said state was is same goes (serving before tells down_so) =
    serving before (goes before tells) (down_same older f front new back before es said (serves state) same down_so)
newest_steps k older start f front new back es said state was is same goes (falling call mode is_call none down_so) =
    absurd (is_serving f.mode was (down call) is mode)

-- A step where one may come.
stepped : (k : Kind) (opened : Contents) (f : Front) (front new : Fronted) (rear : Rear) (line : List Entry) (notices left : List Notice)
    (pair : IsPair k opened f front rear line notices) (more : List Body) (events : List Event) → GoesOn f front new more events []
    → (es : List Event) (said : List Body) (state was : State) → f.mode ≡ serves was → es ≡ f.events ++ events → said ≡ f.said ++ more
    → IsUnread (serves state) more → All IsGated more
    → ((before : List Body) → Tells k pair.start before f → Tells k pair.start before (now f es said (serves state)))
    → IsReady opened pair.below f front rear pair.lined.unread pair.lined.late left
    → IsPair k opened (now f es said (serves state)) new rear (line ++ numbered f.incarnation (suc (length f.said)) more) left
stepped k opened f front new rear line notices left pair more events goes es said state was is all_events all_said unread gated tells ready =
    kept k opened f front new rear line notices pair more events [] goes es said (serves state) left gated all_events all_said
    (newest_steps k (incarnations front rear.log pair.below) pair.start f front new rear.log es said state was is
    (own_calls f front new more events [] goes ∙ append-nil (of_number f.incarnation front.downed)) tells pair.newest_said)
    (ready_steps opened pair.below pair.start f front new rear pair.lined.unread more pair.lined.late left es said state unread ready)

-- A front by its parts.
abbrev pub front : ℕ → List Event → List Body → Mode → Front
front i es said mode = record { incarnation = i; events = es; said = said; mode = mode }

-- An event that is delivered.
pub on_event : TellingGoesOn → StepsSayWell → (k : Kind) (opened : Contents) (i : ℕ) (es : List Event) (said : List Body) (o : Object) (e : Event)
    (old new : Fronted) (rear : Rear) (line : List Entry) (left : List Notice) → IsPair k opened (front i es said (serves (idle o))) old rear line left
    → (grows : Grows k (front i es said (serves (idle o))) (delivered e) old new)
    → IsPair k opened (takes k (front i es said (serves (idle o))) (delivered e)) new rear (line ++ numbered i (suc (length said)) grows.more) left
on_event goes_on well k opened i es said o e old new rear line left pair grows =
    let f : Front = front i es said (serves (idle o)) in
    let step : Step = delivers (life k i) o e in
    let more_is : grows.more ≡ step.says ++ asking step.state =
    append_cancel_left said grows.more (step.says ++ asking step.state) (sym grows.said ∙ append_assoc said step.says (asking step.state)) in
    let goes : GoesOn f old new grows.more (e ∷ []) [] =
    record { sent = grows.sent; delivered = grows.delivered; downed = grows.downed; ends = grows.ends ∙ append-nil old.ends } in
    stepped k opened f old new rear line left left pair grows.more (e ∷ []) goes (es ++ e ∷ []) ((said ++ step.says) ++ asking step.state) step.state (idle o)
    refl refl grows.said
    (subst (λ (x : List Body). IsUnread (serves step.state) x) (sym more_is) (step_unread step.says step.state (well.on_event (life k i) o e)))
    (subst (λ (x : List Body). All IsGated x) (sym more_is) (step_gated step.says step.state (well.on_event (life k i) o e)))
    (λ before tells. goes_on.on_event k pair.start before f o e tells refl)
    (idle_ready opened pair.below pair.start f old rear pair.lined.unread pair.lined.late left o refl (phase_now pair))

-- The last of what was said is the entry that is waited for.
abbrev last_of : Body → List Body → Body
last_of other [] = other
last_of other (b ∷ bodies) = last_of b bodies

-- The last of a list with one more is that one.
last_push : (other : Body) (first : List Body) (b : Body) → last_of other (first ++ b ∷ []) ≡ b
last_push other [] b = refl
last_push other (x ∷ first) b = last_push x first b

-- Two ways to name the entry that is waited for name one.
asked_is : (k : Kind) (start : Contents) (before : List Body) (f : Front) (o : Object) (t : OpenTask) (b : Body) → f.mode ≡ serves (waiting o t b)
    → Tells k start before f → (first : List Body) (asked : Body) → f.said ≡ first ++ asked ∷ [] → asked ≡ b
asked_is k start before f o t b is tells first asked said =
    let waits : f.said ≡ (before ++ tells.told) ++ b ∷ [] =
    tells.said ∙ ap (λ (s : State). (before ++ tells.told) ++ asking s) (same_state f.mode tells.state (waiting o t b) tells.mode is) in
    sym (last_push b first asked) ∙ ap (λ (x : List Body). last_of b x) (sym said ∙ waits) ∙ last_push b (before ++ tells.told) b

-- An answer of the storage, which is a notice's.
pub on_answer : StepsSayWell → (k : Kind) (opened : Contents) (i : ℕ) (es : List Event) (said : List Body) (o : Object) (t : OpenTask) (b : Body)
    (n : Notice) (a : Answer) (old new : Fronted) (rear : Rear) (line : List Entry) (left : List Notice) → answer_in n ≡ a ∷ []
    → (pair : IsPair k opened (front i es said (serves (waiting o t b))) old rear line (n ∷ left)) (more : List Body)
    → GoesOn (front i es said (serves (waiting o t b))) old new more [] []
    → (said ++ (answers (life k i) o t a).says) ++ asking (answers (life k i) o t a).state ≡ said ++ more
    → ((before first : List Body) → Tells k pair.start before (front i es said (serves (waiting o t b))) → said ≡ first ++ b ∷ []
    → answer_in n ≡ stored_answer (written pair.start first) b ∷ []
    → Tells k pair.start before (front i es ((said ++ (answers (life k i) o t a).says) ++ asking (answers (life k i) o t a).state)
    (serves (answers (life k i) o t a).state)))
    → IsPair k opened (front i es ((said ++ (answers (life k i) o t a).says) ++ asking (answers (life k i) o t a).state)
    (serves (answers (life k i) o t a).state))
    new rear (line ++ numbered i (suc (length said)) more) left
on_answer well k opened i es said o t b n a old new rear line left gives pair more goes all_said tells_on =
    let f : Front = front i es said (serves (waiting o t b)) in
    let step : Step = answers (life k i) o t a in
    let more_is : more ≡ step.says ++ asking step.state =
    append_cancel_left said more (step.says ++ asking step.state) (sym all_said ∙ append_assoc said step.says (asking step.state)) in
    let ready = waiting_ready opened pair.below pair.start f old rear pair.lined.unread pair.lined.late n left o t b a refl gives (phase_now pair) in
    let is : IsTheMaps pair.start f n = ready.1 in
    stepped k opened f old new rear line (n ∷ left) left pair more [] goes es ((said ++ step.says) ++ asking step.state) step.state (waiting o t b)
    refl
    (sym (append-nil es)) all_said
    (subst (λ (x : List Body). IsUnread (serves step.state) x) (sym more_is) (step_unread step.says step.state (well.on_answer (life k i) o t a)))
    (subst (λ (x : List Body). All IsGated x) (sym more_is) (step_gated step.says step.state (well.on_answer (life k i) o t a)))
    (λ before tells.
    let same : is.asked ≡ b = asked_is k pair.start before f o t b refl tells is.first is.asked is.said in
    tells_on before is.first tells (is.said ∙ ap (λ (x : Body). is.first ++ x ∷ []) same)
    (is.answer ∙ ap (λ (x : Body). stored_answer (written pair.start is.first) x ∷ []) same))
    ready.0

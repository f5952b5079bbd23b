-- Where a front whose answers are those of its map stands at rest, there stands the object of what is told over that map.
use Rattle.std.proofs.Common.{◌≡◌, ◌∙◌, sym, refl, ap, subst, ℕ, zero, suc, List, [], ◌∷◌, ◌++◌}
use Rattle.storage_map.specs.Contents.{Contents}
use Rattle.timeline.specs.Headline.{state_of}
use Rattle.timeline.specs.History.{History, of_number, incarnation_at, incarnations}
use Rattle.timeline.specs.Intake.{Kind, Front, life, serves, Taken, delivered, noticed, wanted, front_after, events_in}
use Rattle.timeline.specs.Laws.{IsAtRest, FitsMap, told_up}
use Rattle.timeline.specs.Logs.{Fronted, Backed}
use Rattle.timeline.specs.Object.{Life, Object, State, idle, waiting, ended, begun}
use Rattle.timeline.specs.Steps.{delivers, answers}
use Rattle.timeline.specs.Told.{Run, stands, by_map, settles, told_from, asking, stored_answer, written, written_by, most_waits}
use Rattle.timeline.specs.declared.entry.Body.{Body}
use Rattle.timeline.specs.declared.entry.Entry.{Entry}
use Rattle.timeline.specs.declared.event.Event.{Event}
use Rattle.timeline.specs.declared.notice.Notice.{Notice}
use Rattle.object_history.proofs.GoingOn.{stored}
use Rattle.object_history.proofs.SaidSoFar.{events_now}
use Rattle.object_history.proofs.SoFar.{fit_the_map, same_events}
use Rattle.object_history.specs.Pair.{Rear, IsNewest, serving, falling, IsPair}
use Rattle.object_history.specs.Telling.{Tells}

abbrev at : ℕ → List Event → List Body → State → Front
at i es said state = record { incarnation = i; events = es; said = said; mode = serves state }

-- An idle object, or one at rest, is settled.
idle_stands : (n : ℕ) (l : Life) (m : Contents) (o : Object) → settles by_map n l m (idle o) ≡ stands m (idle o)
idle_stands zero l m o = refl
idle_stands (suc n) l m o = refl

rest_stands : (n : ℕ) (l : Life) (m : Contents) (state final : State) → serves state ≡ serves final → IsAtRest (serves final)
    → (settles by_map n l m state).state ≡ final
rest_stands zero l m state final is rest = cc
rest_stands (suc n) l m (idle o) final is rest = cc
rest_stands (suc n) l m (ended c) final is rest = cc
rest_stands (suc n) l m (waiting o t b) final is rest = absurd (subst IsAtRest (sym is) rest)

state_told : (k : Kind) (i : ℕ) (taken : List Taken) (es : List Event) (said : List Body) (n : ℕ) (m : Contents) (state final : State)
    → FitsMap n (life k i) m state taken → (front_after k (at i es said state) taken).mode ≡ serves final → IsAtRest (serves final)
    → (told_up n (life k i) m state (events_in taken)).state ≡ final
state_told k i [] es said n m state final fits is rest = rest_stands n (life k i) m state final is rest
state_told k i (delivered e ∷ taken) es said n m (idle o) final fits is rest =
    let step = delivers (life k i) o e in
    ap (λ (r : Run Contents). (told_from by_map (life k i) r.storage r.state (e ∷ events_in taken)).state) (idle_stands n (life k i) m o)
    ∙ state_told k i taken (es ++ e ∷ []) ((said ++ step.says) ++ asking step.state) most_waits (written m step.says) step.state final fits is rest
state_told k i (delivered e ∷ taken) es said zero m (waiting o t b) final fits is rest = absurd fits
state_told k i (delivered e ∷ taken) es said (suc n) m (waiting o t b) final fits is rest = absurd fits
state_told k i (delivered e ∷ taken) es said zero m (ended c) final fits is rest = absurd fits
state_told k i (delivered e ∷ taken) es said (suc n) m (ended c) final fits is rest = absurd fits
state_told k i (noticed x ∷ taken) es said zero m (idle o) final fits is rest = absurd fits
state_told k i (noticed x ∷ taken) es said zero m (waiting o t b) final fits is rest = absurd fits
state_told k i (noticed x ∷ taken) es said zero m (ended c) final fits is rest = absurd fits
state_told k i (noticed x ∷ taken) es said (suc n) m (idle o) final fits is rest = absurd fits
state_told k i (noticed x ∷ taken) es said (suc n) m (ended c) final fits is rest = absurd fits
state_told k i (noticed x ∷ taken) es said (suc n) m (waiting o t b) final fits is rest =
    let a = stored_answer m b in
    let step = answers (life k i) o t a in
    state_told k i taken es ((said ++ step.says) ++ asking step.state) n (written (written_by m b) step.says) step.state final fits.1
    (sym (ap (λ (f : Front). (front_after k f taken).mode) (stored k (at i es said (waiting o t b)) x a fits.0)) ∙ is) rest
state_told k i (wanted e ∷ taken) es said zero m (idle o) final fits is rest = absurd fits
state_told k i (wanted e ∷ taken) es said zero m (waiting o t b) final fits is rest = absurd fits
state_told k i (wanted e ∷ taken) es said zero m (ended c) final fits is rest = absurd fits
state_told k i (wanted e ∷ taken) es said (suc n) m (idle o) final fits is rest = absurd fits
state_told k i (wanted e ∷ taken) es said (suc n) m (waiting o t b) final fits is rest = absurd fits
state_told k i (wanted e ∷ taken) es said (suc n) m (ended c) final fits is rest = absurd fits

-- The state to which these events lead an object.
abbrev Leads : Kind → ℕ → Contents → List Event → State → Type 0
Leads k i start events state = (told_from by_map (life k i) start (idle (begun start.alarm)) events).state ≡ state

tells_state : (k : Kind) (start : Contents) (before : List Body) (f : Front) (tells : Tells k start before f) (state : State) → f.mode ≡ serves state
    → IsAtRest (serves state) → Leads k f.incarnation start f.events state
tells_state k start before f tells state mode rest =
    subst (λ (events : List Event). Leads k f.incarnation start events state) (same_events k start before f tells)
    (state_told k f.incarnation tells.taken [] (before ++ []) 0 start (idle (begun start.alarm)) state (fit_the_map k start before f tells)
    (ap (λ (g : Front). g.mode) tells.at ∙ mode) rest)

newest_state : (k : Kind) (older : History) (start : Contents) (f : Front) (front : Fronted) (back : Backed) → IsNewest k older start f front back
    → (state : State) → f.mode ≡ serves state → IsAtRest (serves state) → Leads k f.incarnation start f.events state
newest_state k older start f front back (serving before tells says_down) state mode rest = tells_state k start before f tells state mode rest
newest_state k older start f front back (falling call down_so is_call none says_down) state mode rest = absurd cc

-- So does the newest incarnation of a pair, as its logs have it.
pub pair_state : (k : Kind) (opened : Contents) (f : Front) (front : Fronted) (rear : Rear) (line : List Entry) (notices : List Notice)
    (pair : IsPair k opened f front rear line notices) (state : State) → f.mode ≡ serves state → IsAtRest (serves state)
    → state_of k.script k.class opened (incarnation_at front rear.log pair.below) (incarnations front rear.log pair.below) ≡ state
pair_state k opened f front rear line notices pair state mode rest =
    let leads : Leads k f.incarnation pair.start (of_number f.incarnation front.delivered) state =
    subst (λ (events : List Event). Leads k f.incarnation pair.start events state) (sym (events_now f front pair.logged))
    (newest_state k _ pair.start f front rear.log pair.newest_said state mode rest) in
    subst (λ (start : Contents). Leads k (suc pair.below) start (of_number (suc pair.below) front.delivered) state) pair.starts
    (subst (λ (i : ℕ). Leads k i pair.start (of_number i front.delivered) state) pair.number leads)

-- What a front that tells waits for is an entry that the storage answers.
use Rattle.std.proofs.Common.{◌≡◌, ◌∙◌, ap, sym, subst, true, List, [], ◌∷◌, ◌++◌, append-nil, ℕ}
use Rattle.storage_map.specs.Contents.{Contents}
use Rattle.timeline.specs.History.{History}
use Rattle.timeline.specs.Intake.{Kind, Front, life, serves, Taken, delivered, noticed, wanted, front_after}
use Rattle.timeline.specs.Laws.{AreTheMaps}
use Rattle.timeline.specs.Logs.{Fronted, Backed}
use Rattle.timeline.specs.Object.{Object, OpenTask, State, idle, waiting, ended, begun}
use Rattle.timeline.specs.Steps.{delivers, answers}
use Rattle.timeline.specs.Told.{asking, stored_answer, written, written_by}
use Rattle.timeline.specs.declared.entry.Body.{Body}
use Rattle.timeline.specs.declared.event.Event.{Event}
use Rattle.object_history.proofs.GoingOn.{stored}
use Rattle.object_history.specs.Laws.{StepsSayWell}
use Rattle.object_history.specs.Pair.{IsNewest, serving, falling}
use Rattle.object_history.specs.Saying.{is_asked, LeadTo}

abbrev IsAskedIn : State → Type 0
IsAskedIn (waiting o t b) = is_asked b ≡ true
IsAskedIn state = Unit {0}

led : (says : List Body) (state : State) → LeadTo says state → IsAskedIn state
led says (idle o) lead = tt
led says (waiting o t b) lead = lead.1
led says (ended c) lead = tt

module _ (well : StepsSayWell) (k : Kind) (i : ℕ) where
  abbrev at : List Event → List Body → State → Front
  at es said state = record { incarnation = i; events = es; said = said; mode = serves state }

  asked_after : (taken : List Taken) (es : List Event) (said : List Body) (m : Contents) (state : State) → IsAskedIn state → AreTheMaps (life k i) m state taken
      → (next : State) → (front_after k (at es said state) taken).mode ≡ serves next → IsAskedIn next
  asked_after [] es said m state asked are next is = let same : state ≡ next = cc in subst IsAskedIn same asked
  asked_after (delivered e ∷ taken) es said m (idle o) asked are next is =
      let step = delivers (life k i) o e in
      asked_after taken (es ++ e ∷ []) ((said ++ step.says) ++ asking step.state) (written m step.says) step.state
      (led step.says step.state (well.on_event (life k i) o e)) are next is
  asked_after (noticed x ∷ taken) es said m (waiting o t b) asked are next is =
      let a = stored_answer m b in
      let step = answers (life k i) o t a in
      asked_after taken es ((said ++ step.says) ++ asking step.state) (written (written_by m b) step.says) step.state
      (led step.says step.state (well.on_answer (life k i) o t a)) are.1 next
      (sym (ap (λ (f : Front). (front_after k f taken).mode) (stored k (at es said (waiting o t b)) x a are.0)) ∙ is)
  asked_after (delivered e ∷ taken) es said m (waiting o t b) asked are next is = absurd are
  asked_after (delivered e ∷ taken) es said m (ended c) asked are next is = absurd are
  asked_after (noticed x ∷ taken) es said m (idle o) asked are next is = absurd are
  asked_after (noticed x ∷ taken) es said m (ended c) asked are next is = absurd are
  asked_after (wanted e ∷ taken) es said m (idle o) asked are next is = absurd are
  asked_after (wanted e ∷ taken) es said m (waiting o t b) asked are next is = absurd are
  asked_after (wanted e ∷ taken) es said m (ended c) asked are next is = absurd are

-- so is what the front of a pair waits for
pub is_asked_for : (well : StepsSayWell) (k : Kind) (older : History) (start : Contents) (f : Front) (front : Fronted) (back : Backed) → IsNewest k older start f front back
    → (o : Object) (t : OpenTask) (b : Body) → f.mode ≡ serves (waiting o t b) → is_asked b ≡ true
is_asked_for well k older start f front back (serving before tells said_down) o t b mode =
    asked_after well k f.incarnation (tells.taken ++ []) [] (before ++ []) start (idle (begun start.alarm)) tt (tells.goes [] tt) (waiting o t b)
    (ap (λ (taken : List Taken). (front_after k (at well k f.incarnation [] (before ++ []) (idle (begun start.alarm))) taken).mode) (append-nil tells.taken)
    ∙ ap (λ (g : Front). g.mode) tells.at ∙ mode)
is_asked_for well k older start f front back (falling call mode is_call none said_down) o t b waits = absurd cc

-- What a turn of tasks says is sent and logged: all of it, or its first entries.
use Rattle.std.proofs.Common.{◌≡◌, ◌∙◌, ap, subst, ℕ, ◌+◌, List, [], ◌++◌, length, append_assoc}
use Rattle.timeline.specs.Headline.{IsPrefix}
use Rattle.timeline.specs.Intake.{numbered}
use Rattle.timeline.specs.Object.{Life, Step}
use Rattle.timeline.specs.Told.{asking}
use Rattle.timeline.specs.declared.entry.Body.{Body}
use Rattle.timeline.specs.declared.entry.Entry.{Entry}
use Rattle.front_turns.specs.Paused.{Paused}
use Rattle.front_turns.specs.Held.{Says}
use Rattle.front_turns.specs.declared.object.State.{State}
use Rattle.front_half.specs.Moving.{Speaks, said_by}

-- All that was said into an empty list is what the step says.
said_all : {T : Type 0} (see : T → Paused) (l : Life) (old new : List Body) (s : State T) (step : Step) → old ≡ [] → Says see l old new s step → new ≡ said_by step
said_all see l old new s step none says = says.said ∙ append_assoc old step.says (asking step.state) ∙ ap (λ (bodies : List Body). bodies ++ said_by step) none

pub all_sent : {T : Type 0} (see : T → Paused) (l : Life) (old new : List Body) (s : State T) (step : Step) (before after : List Entry) (n m : ℕ)
    → old ≡ [] → Says see l old new s step → after ≡ before ++ numbered l.incarnation (1 + n) new → m ≡ n + length new
    → Speaks see l before after n s m step
all_sent see l old new s step before after n m none says sent counts = let all : new ≡ said_by step = said_all see l old new s step none says in record {
  state = says.state;
  sent = sent ∙ ap (λ (bodies : List Body). before ++ numbered l.incarnation (1 + n) bodies) all;
  count = counts ∙ ap (λ (bodies : List Body). n + length bodies) all;
}

pub first_sent : {T : Type 0} (see : T → Paused) (l : Life) (old new : List Body) (s : State T) (step : Step) (before after : List Entry) (n : ℕ)
    → old ≡ [] → Says see l old new s step → IsPrefix after (before ++ numbered l.incarnation (1 + n) new)
    → IsPrefix after (before ++ numbered l.incarnation (1 + n) (said_by step))
first_sent see l old new s step before after n none says begins =
    subst (λ (bodies : List Body). IsPrefix after (before ++ numbered l.incarnation (1 + n) bodies)) (said_all see l old new s step none says) begins

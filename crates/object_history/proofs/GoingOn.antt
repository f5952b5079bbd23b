-- A front that takes one more goes on telling what its script tells over its map.
use Rattle.std.proofs.Common.{◌≡◌, ◌∙◌, sym, refl, ap, subst, ℕ, List, [], ◌∷◌, ◌++◌, append_assoc, append-nil}
use Rattle.std.proofs.lemmas.List.{append_cancel_right}
use Rattle.storage_map.specs.Contents.{Contents}
use Rattle.script_mean.specs.declared.answer.Answer.{Answer}
use Rattle.timeline.specs.Intake.{Kind, Front, life, Mode, serves, down, Taken, delivered, noticed, steps_to, on_delivered, on_stored, on_notice, takes, front_after, answer_in}
use Rattle.timeline.specs.Laws.{AreTheMaps}
use Rattle.timeline.specs.Object.{Object, OpenTask, State, idle, waiting, begun, Step}
use Rattle.timeline.specs.Steps.{delivers, answers}
use Rattle.timeline.specs.Told.{asking, stored_answer, written, written_by}
use Rattle.timeline.specs.declared.entry.Body.{Body}
use Rattle.timeline.specs.declared.event.Event.{Event}
use Rattle.timeline.specs.declared.notice.Notice.{Notice}
use Rattle.timeline.specs.declared.notice.Notice.TheVariants as notice
use Rattle.object_history.specs.Telling.{begins_at, Tells}

-- What is written after one part of what was said, and then after the other.
written_both : (m : Contents) (xs ys : List Body) → written m (xs ++ ys) ≡ written (written m xs) ys
written_both m [] ys = refl
written_both m (x ∷ xs) ys = written_both (written_by m x) xs ys

-- A front that takes one more.
takes_last : (k : Kind) (f : Front) (taken : List Taken) (t : Taken) → front_after k f (taken ++ t ∷ []) ≡ takes k (front_after k f taken) t
takes_last k f [] t = refl
takes_last k f (first ∷ taken) t = takes_last k (takes k f first) taken t

-- The state in which a front serves.
abbrev state_or : State → Mode → State
state_or other (serves state) = state
state_or other (down call) = other

same_state : (state next : State) (mode : Mode) → mode ≡ serves state → mode ≡ serves next → state ≡ next
same_state state next mode one other = ap (state_or state) (sym one ∙ other)

-- A list that has an item, and its first one.
abbrev IsThere : List Answer → Type 0
IsThere [] = ⊥
IsThere (a ∷ rest) = Unit {0}

abbrev first_or : Answer → List Answer → Answer
first_or other [] = other
first_or other (a ∷ rest) = a

-- A notice that has an answer gives it to the task that waits.
pub stored : (k : Kind) (f : Front) (n : Notice) (a : Answer) → answer_in n ≡ a ∷ [] → on_notice k f n ≡ on_stored k f f.mode a
stored k f (notice.Read number r) a same = ap (λ (x : Answer). on_stored k f f.mode x) (ap (first_or a) same)
stored k f (notice.Taken number count) a same = ap (λ (x : Answer). on_stored k f f.mode x) (ap (first_or a) same)
stored k f (notice.Synced number) a same = ap (λ (x : Answer). on_stored k f f.mode x) (ap (first_or a) same)
stored k f (notice.Fresh incarnation alarm cause) a same = absurd (subst IsThere (sym same) tt)
stored k f (notice.Down cause before after) a same = absurd (subst IsThere (sym same) tt)

-- A front by its parts.
abbrev front : ℕ → List Event → List Body → Mode → Front
front i es said mode = record { incarnation = i; events = es; said = said; mode = mode }

-- One that begins to serve.
pub begins_telling : (k : Kind) (start : Contents) (f : Front) → ((m : Contents) → written m f.said ≡ m) → f.events ≡ []
    → f.mode ≡ serves (idle (begun start.alarm)) → Tells k start f.said f
begins_telling k start f silent none serving = record {
  silent = silent;
  state = idle (begun start.alarm);
  mode = serving;
  taken = [];
  at =
      ap (λ (events : List Event). front f.incarnation events (f.said ++ []) (serves (idle (begun start.alarm)))) (sym none)
      ∙ ap (λ (said : List Body). front f.incarnation f.events said (serves (idle (begun start.alarm)))) (append-nil f.said)
      ∙ ap (λ (mode : Mode). front f.incarnation f.events f.said mode) (sym serving);
  told = [];
  said = sym (append-nil (f.said ++ []) ∙ append-nil f.said);
  goes = λ more are. are;
}

-- After it has taken one more, where this made its object take a step.
module _ (k : Kind) (start : Contents) (before : List Body) (f : Front) (so_far : Tells k start before f) where
  -- The intake with one more.
  longer : (t : Taken) (g : Front) → takes k f t ≡ g → front_after k (begins_at f.incarnation before start) (so_far.taken ++ t ∷ []) ≡ g
  longer t g same = takes_last k (begins_at f.incarnation before start) so_far.taken t ∙ ap (λ (x : Front). takes k x t) so_far.at ∙ same

  -- Its answers are the map's where those from it on are.
  answered : (t : Taken) (state : State) → so_far.state ≡ state → (more : List Taken)
      → AreTheMaps (life k f.incarnation) (written start so_far.told) state (t ∷ more)
      → AreTheMaps (life k f.incarnation) start (idle (begun start.alarm)) ((so_far.taken ++ t ∷ []) ++ more)
  answered t state same more are =
      subst (λ (taken : List Taken). AreTheMaps (life k f.incarnation) start (idle (begun start.alarm)) taken) (sym (append_assoc so_far.taken (t ∷ []) more))
      (so_far.goes (t ∷ more) (subst (λ (s : State). AreTheMaps (life k f.incarnation) (written start so_far.told) s (t ∷ more)) (sym same) are))

  -- An event is delivered to an idle object: nothing was waited for.
  module _ (o : Object) (e : Event) (serving : f.mode ≡ serves (idle o)) where
    abbrev event_step : Step
    event_step = delivers (life k f.incarnation) o e

    abbrev event_front : Front
    event_front = steps_to (record f { events = f.events ++ e ∷ [] }) event_step

    event_takes : takes k f (delivered e) ≡ event_front
    event_takes = ap (λ (mode : Mode). on_delivered k f mode e) serving

    was_idle : so_far.state ≡ idle o
    was_idle = same_state so_far.state (idle o) f.mode so_far.mode serving

    event_said : f.said ≡ before ++ so_far.told
    event_said = so_far.said ∙ ap (λ (s : State). (before ++ so_far.told) ++ asking s) was_idle ∙ append-nil (before ++ so_far.told)

    event_tells : Tells k start before event_front
    event_tells = record {
      silent = so_far.silent;
      state = event_step.state;
      mode = refl;
      taken = so_far.taken ++ delivered e ∷ [];
      at = longer (delivered e) event_front event_takes;
      told = so_far.told ++ event_step.says;
      said =
          ap (λ (said : List Body). (said ++ event_step.says) ++ asking event_step.state) event_said
          ∙ ap (λ (said : List Body). said ++ asking event_step.state) (append_assoc before so_far.told event_step.says);
      goes = λ more are.
          answered (delivered e) (idle o) was_idle more
          (subst (λ (m : Contents). AreTheMaps (life k f.incarnation) m event_step.state more) (written_both start so_far.told event_step.says) are);
    }

    pub tells_on_event : Tells k start before (takes k f (delivered e))
    tells_on_event = subst (λ (g : Front). Tells k start before g) (sym event_takes) event_tells

  -- The answer comes to the entry that is waited for.
  module _ (o : Object) (t : OpenTask) (b : Body) (n : Notice) (serving : f.mode ≡ serves (waiting o t b)) where
    abbrev answer_step : Step
    answer_step = answers (life k f.incarnation) o t (stored_answer (written start so_far.told) b)

    was_waiting : so_far.state ≡ waiting o t b
    was_waiting = same_state so_far.state (waiting o t b) f.mode so_far.mode serving

    asked_said : f.said ≡ (before ++ so_far.told) ++ b ∷ []
    asked_said = so_far.said ∙ ap (λ (s : State). (before ++ so_far.told) ++ asking s) was_waiting

    -- The map after all that was said before it is that after what was told.
    same_map : (first : List Body) → f.said ≡ first ++ b ∷ [] → written start first ≡ written start so_far.told
    same_map first said =
        ap (written start) (append_cancel_right first (before ++ so_far.told) (b ∷ []) (sym said ∙ asked_said))
        ∙ written_both start before so_far.told
        ∙ ap (λ (m : Contents). written m so_far.told) (so_far.silent start)

    module _ (maps : answer_in n ≡ stored_answer (written start so_far.told) b ∷ []) where
      answer_takes : takes k f (noticed n) ≡ steps_to f answer_step
      answer_takes =
          stored k f n (stored_answer (written start so_far.told) b) maps
          ∙ ap (λ (mode : Mode). on_stored k f mode (stored_answer (written start so_far.told) b)) serving

      answer_tells : Tells k start before (steps_to f answer_step)
      answer_tells = record {
        silent = so_far.silent;
        state = answer_step.state;
        mode = refl;
        taken = so_far.taken ++ noticed n ∷ [];
        at = longer (noticed n) (steps_to f answer_step) answer_takes;
        told = so_far.told ++ b ∷ answer_step.says;
        said =
            ap (λ (said : List Body). (said ++ answer_step.says) ++ asking answer_step.state) asked_said
            ∙ ap (λ (said : List Body). said ++ asking answer_step.state)
            (append_assoc (before ++ so_far.told) (b ∷ []) answer_step.says ∙ append_assoc before so_far.told (b ∷ answer_step.says));
        goes = λ more are.
            answered (noticed n) (waiting o t b) was_waiting more (
              maps,
              subst (λ (m : Contents). AreTheMaps (life k f.incarnation) m answer_step.state more)
                  (written_both start so_far.told (b ∷ answer_step.says)) are,
            );
      }

      tells_after : Tells k start before (takes k f (noticed n))
      tells_after = subst (λ (g : Front). Tells k start before g) (sym answer_takes) answer_tells

    pub tells_on_answer : (first : List Body) → f.said ≡ first ++ b ∷ [] → answer_in n ≡ stored_answer (written start first) b ∷ []
        → Tells k start before (takes k f (noticed n))
    tells_on_answer first said maps =
        tells_after (maps ∙ ap (λ (m : Contents). stored_answer m b ∷ []) (same_map first said))

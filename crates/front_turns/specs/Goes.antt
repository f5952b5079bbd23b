-- Where one turn of a task leads.
use Rattle.std.specs.Prelude.{◌≡◌, List, ◌++◌}
use Rattle.do_value.specs.declared.value.Value.{Value}
use Rattle.script_mean.specs.declared.answer.Answer.TheVariants.{Thrown}
use Rattle.timeline.specs.Object as seen
use Rattle.timeline.specs.Object.{Life, OpenTask, Step}
use Rattle.timeline.specs.Steps.{before, resumed}
use Rattle.timeline.specs.declared.entry.Body.{Body}
use Rattle.front_turns.specs.Paused.{Paused}
use Rattle.front_turns.specs.Held.{Holds, IsPaused, Says, object_of}
use Rattle.front_turns.specs.declared.object.Object.{Object}
use Rattle.front_turns.specs.declared.object.Running.{Running}
use Rattle.front_turns.specs.declared.asks.Went.{Went}
use Rattle.front_turns.specs.declared.asks.Went.TheVariants as went

-- A call was refused: what was said so far, and then the task goes on with what the call throws.
pub record IsRefused {T : Type 0} (see : T → Paused) (l : Life) (old new : List Body) (o : Object T) (r : Running) (task : T) (thrown : Value)
    (again : seen.Object → OpenTask → Step) (step : Step) : Type 0 where
  pub tasks : List OpenTask
  pub goes : OpenTask
  pub says : List Body
  pub held : Holds see l o tasks
  pub paused : IsPaused l (see task) r goes
  pub said : new ≡ old ++ says
  pub gives : step ≡ before says (again (object_of o tasks) (resumed (object_of o tasks) goes (Thrown thrown)))

abbrev pub Goes : {T : Type 0} → (T → Paused) → Life → List Body → List Body → Went T → (seen.Object → OpenTask → Step) → Step → Type 0
Goes see l old new (went.Rests s) again step = Says see l old new s step
Goes see l old new (went.Refused o r task v) again step = IsRefused see l old new o r task v again step

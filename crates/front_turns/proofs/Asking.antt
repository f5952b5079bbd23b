-- Where an ask leads.
use Rattle.std.proofs.Common.{◌≡◌, ◌∙◌, sym, refl, ap, subst, ℕ, List, [], ◌∷◌, ◌++◌, map, append_assoc}
use Rattle.std.specs.Prelude.{Bool, Some}
use Rattle.do_value.specs.declared.value.Value.{Value}
use Rattle.script_mean.specs.declared.ask.Ask.TheVariants as ask
use Rattle.timeline.specs.Left.{wait_of}
use Rattle.timeline.specs.declared.notice.Waits.TheVariants as waits
use Rattle.front_turns.specs.Held.{HasAsked, WaitsFor}
use Rattle.front_turns.specs.declared.object.Awaited.TheVariants as awaited
use Rattle.storage_map.specs.declared.op.Op.{Op}
use Rattle.write_batcher.specs.declared.batcher.Made.{Made}
use Rattle.timeline.specs.Object as seen
use Rattle.timeline.specs.Object.{Life, OpenTask, Step}
use Rattle.timeline.specs.Steps.{batch, before, asks, asks_written, resumed}
use Rattle.script_mean.specs.declared.answer.Answer.TheVariants.{Thrown}
use Rattle.front_turns.specs.Held.{Says, object_of}
use Rattle.front_turns.specs.declared.object.State.{State}
use Rattle.timeline.specs.declared.entry.Body.{Body}
use Rattle.timeline.specs.declared.entry.Body.TheVariants as body
use Rattle.front_turns.specs.Paused.{Paused}
use Rattle.front_turns.specs.Goes.{Goes}
use Rattle.front_turns.specs.declared.asks.Went.{Went}
use Rattle.front_turns.specs.declared.asks.Went.TheVariants as went
use Rattle.front_turns.proofs.Saying.{says_more}

written_last : (o : seen.Object) (t : OpenTask) (tail : ℕ) (first : List Made) (last : Made)
    → asks_written o t tail (first ++ last ∷ []) ≡ before (map batch first) (asks o t (body.Batch last.batch (Some tail) last.confirmed))
written_last o t tail [] last = refl
written_last o t tail (a ∷ []) last = refl
written_last o t tail (a ∷ b ∷ first) last = ap (before (batch a ∷ [])) (written_last o t tail (b ∷ first) last)

-- All batches but the last are said, and then the last one is asked.
pub written_by_last : (o : seen.Object) (t : OpenTask) (tail : ℕ) (all first : List Made) (last : Made) → all ≡ first ++ last ∷ []
    → asks_written o t tail all ≡ before (map batch first) (asks o t (body.Batch last.batch (Some tail) last.confirmed))
written_by_last o t tail all first last e = ap (asks_written o t tail) e ∙ written_last o t tail first last

-- The last one is asked with the operations that it has.
pub asked_with : {T : Type 0} (see : T → Paused) (l : Life) (old new : List Body) (s : State T) (o : seen.Object) (t : OpenTask) (tail : ℕ) (ops same : List Op)
    (mark : Bool) → ops ≡ same → Says see l old new s (asks o t (body.Batch ops (Some tail) mark)) → Says see l old new s (asks o t (body.Batch same (Some tail) mark))
asked_with see l old new s o t tail ops same mark e says = subst (λ (xs : List Op). Says see l old new s (asks o t (body.Batch xs (Some tail) mark))) e says

before_both : (xs ys : List Body) (s : Step) → before xs (before ys s) ≡ before (xs ++ ys) s
before_both xs ys s = ap (λ (says : List Body). record { says = says; state = s.state }) (sym (append_assoc xs ys s.says))

-- This was said, and then it goes on.
pub goes_more : {T : Type 0} (see : T → Paused) (l : Life) (old mid new : List Body) (w : Went T) (again : seen.Object → OpenTask → Step) (step : Step)
    (bodies : List Body) → mid ≡ old ++ bodies → Goes see l mid new w again step → Goes see l old new w again (before bodies step)
goes_more see l old mid new (went.Rests s) again step bodies e goes = says_more bodies e goes
goes_more see l old mid new (went.Refused o r task v) again step bodies e goes = record {
  tasks = goes.tasks;
  goes = goes.goes;
  says = bodies ++ goes.says;
  held = goes.held;
  paused = goes.paused;
  said = goes.said ∙ ap (λ (x : List Body). x ++ goes.says) e ∙ append_assoc old bodies goes.says;
  gives = ap (before bodies) goes.gives ∙ before_both bodies goes.says (again (object_of o goes.tasks) (resumed (object_of o goes.tasks) goes.goes (Thrown v)));
}

-- A task waits for what its latest turn asked, under whichever number.
pub called : (l : Life) (t : OpenTask) (number made : ℕ) (to copy : List ℕ × List ℕ) (method : List ℕ) (args : List Value) → copy ≡ to
    → HasAsked l t (ask.Call to method args) → WaitsFor l (record t { number = number; made = made }) (awaited.Call copy)
called l t number made to copy method args same asked =
    ap (wait_of l (record t { number = number; made = made })) asked.turn ∙ ap (λ (x : List ℕ × List ℕ). waits.Call x.0 x.1 ∷ []) (sym same)

pub fetched : (l : Life) (t : OpenTask) (number made : ℕ) (value : Value) → HasAsked l t (ask.Fetch value)
    → WaitsFor l (record t { number = number; made = made }) awaited.Fetch
fetched l t number made value asked = ap (wait_of l (record t { number = number; made = made })) asked.turn

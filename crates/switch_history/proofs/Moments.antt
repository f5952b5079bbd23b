-- Each event is posted at the moment of the last tick, or of the one that posts it.
use Rattle.std.proofs.Common.{◌≡◌, ℕ, ℤ, suc, List, [], ◌∷◌, ◌++◌, cond, Option, Some, None, Err, true, false, refl}
use Rattle.std.specs.Prelude.{Bool, Result}
use Rattle.std.specs.List.{AllByRecursion}
use Rattle.do_value.specs.declared.value.Value.{Value}
use Rattle.do_tree.specs.Tree.{Script}
use Rattle.timeline.specs.Eligible.{is_moment}
use Rattle.timeline.specs.Lines.{Identity, Line}
use Rattle.timeline.specs.Switch.{Switch, SwitchLog, Given, IsSwitchRun, opened, begins, accepted as after_line, routed as after_message, answers_to, accepts, is_known, routes, tick_posts}
use Rattle.timeline.specs.declared.caller.Caller.{Caller}
use Rattle.timeline.specs.declared.caller.Caller.TheVariants as from
use Rattle.timeline.specs.declared.caller.Failure.{Failure}
use Rattle.timeline.specs.declared.event.Event.{Event}
use Rattle.timeline.specs.declared.event.Event.TheVariants as event
use Rattle.switch_history.proofs.Cases.{OfCall, OfLine, OfMessage, by_line, by_message}
use Rattle.switch_history.proofs.Slots.{all_append, all_of_slot}
use Rattle.switch_history.specs.Moments.{AreTicksInRange, IsInRange, IsTickInRange, MomentsAreInRange}

abbrev IsPostInRange : ℕ × Event → Type 0
IsPostInRange post = IsInRange post.1

-- Parts of what holds of each.
module _ {X : Type 0} (P : X → Type 0) where
  first_all : (xs ys : List X) → AllByRecursion P (xs ++ ys) → AllByRecursion P xs
  first_all [] ys all = tt
  first_all (x ∷ xs) ys all = (all.0, first_all xs ys all.1)

  last_all : (xs ys : List X) → AllByRecursion P (xs ++ ys) → AllByRecursion P ys
  last_all [] ys all = all
  last_all (x ∷ xs) ys all = last_all xs ys all.1

-- Ticks are at their moment.
ticks_all : (script : Script) (moment : ℤ) → is_moment moment ≡ true → (slot : ℕ) (objects : List (Option Identity))
    → AllByRecursion IsPostInRange (tick_posts script moment slot objects)
ticks_all script moment is slot [] = tt
ticks_all script moment is slot (None ∷ objects) = ticks_all script moment is (suc slot) objects
ticks_all script moment is slot (Some object ∷ objects) =
    let rest = ticks_all script moment is (suc slot) objects in
    elim (is_known script object) as (λ (b : Bool). AllByRecursion IsPostInRange (cond b ((slot, event.Tick moment) ∷ tick_posts script moment (suc slot) objects) (tick_posts script moment (suc slot) objects))) [
      | true ↦ (is, rest)
      | false ↦ rest
    ]

module _ (script : Script) (s : Switch) (tick : is_moment s.tick ≡ true) where
  -- The tick is in range after a step, and what it posts is.
  abbrev Keeps : Given → Type 0
  Keeps given = (is_moment given.after.tick ≡ true) × AllByRecursion IsPostInRange given.posts

  to_caller : (to : Caller) (result : Result Value Failure) → Keeps (answers_to s to result)
  to_caller (from.Request line number) result = (tick, tt)
  to_caller (from.Object slot incarnation number) result = (tick, (tick, tt))

  of_call : (P : Given → Type 0) → ((given : Given) → Keeps given → P given) → (caller : Caller) (to : Identity) → OfCall script s P caller to
  of_call P so caller to = record {
    refused = λ f is. so _ (to_caller caller (Err f));
    posted = λ number slot args depth is own. so _ (tick, (tick, tt));
    bound = λ number slot args depth is free. so _ (tick, (refl, (tick, tt)));
  }

  of_line : OfLine script s (λ l given. IsTickInRange l.body → Keeps given)
  of_line = record {
    calls = λ at number to method args. of_call _ (λ given keeps in_range. keeps) (from.Request at number) to;
    ticked = λ at moment in_range. (in_range, ticks_all script moment in_range 0 s.objects);
    refused = λ l out none no_call in_range. (tick, tt);
    closed = λ l k result fetch no_call found in_range. (tick, (tick, tt));
    evicted = λ at slot object own known in_range. (tick, (tick, tt));
    unknown = λ at object in_range. (tick, tt);
  }

  of_message : OfMessage script s (λ sent given. Keeps given)
  of_message = record {
    nothing = λ sent. (tick, tt);
    replied = λ slot to result fit. to_caller to result;
    called = λ slot incarnation number to object method args depth here. of_call _ (λ given keeps. keeps) (from.Object slot incarnation number) to;
    fetched = λ slot incarnation number value object here. (tick, tt);
  }

-- So it is after a run.
run_in_range : (script : Script) (named : List (Option Identity)) (log : SwitchLog) (s : Switch) → IsSwitchRun script (opened named) log s → AreTicksInRange log.accepted
    → (is_moment s.tick ≡ true) × AllByRecursion IsPostInRange log.posts
run_in_range script named _ _ begins ticks = (refl, tt)
run_in_range script named _ _ (after_line log s l run) ticks =
    let before = run_in_range script named log s run (first_all (λ (line : Line). IsTickInRange line.body) log.accepted (l ∷ []) ticks) in
    let own = (last_all (λ (line : Line). IsTickInRange line.body) log.accepted (l ∷ []) ticks).0 in
    let step = by_line script s (λ l given. IsTickInRange l.body → Keeps script s before.0 given) (of_line script s before.0) l own in
    (step.0, all_append IsPostInRange log.posts (accepts script s l).posts before.1 step.1)
run_in_range script named _ _ (after_message log s sent run) ticks =
    let before = run_in_range script named log s run ticks in
    let step = by_message script s (λ sent given. Keeps script s before.0 given) (of_message script s before.0) sent in
    (step.0, all_append IsPostInRange log.posts (routes script s sent).posts before.1 step.1)

pub moments_in_range : MomentsAreInRange
moments_in_range script named log s run ticks slot =
    all_of_slot (λ (at : ℕ) (e : Event). IsInRange e) slot log.posts (run_in_range script named log s run ticks).1

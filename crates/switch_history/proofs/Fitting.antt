-- Each step posts what fits.
use Rattle.std.proofs.Common.{◌≡◌, ℕ, ◌+◌, inl, inr, List, [], ◌∷◌, ◌++◌, cond, set, Option, Some, None, Err, true, false, refl, sym, ap, subst, ◌∙◌}
use Rattle.std.specs.Prelude.{Bool, Result, ◌==◌, ◌⊎◌, not, is_some}
use Rattle.std.specs.List.{AllByRecursion}
use Rattle.std.proofs.lemmas.Bool.{cases_eq, false≢true}
use Rattle.do_value.specs.declared.value.Value.{Value}
use Rattle.do_tree.specs.Tree.{Script}
use Rattle.timeline.specs.Lines.{Identity}
use Rattle.timeline.specs.Switch.{Switch, SwitchLog, Given, OpenFetch, IsSwitchRun, opened, begins, accepted as after_line, routed as after_message, is_fit, free_slot, object_at, answers_to, tick_posts, accepts, routes}
use Rattle.timeline.specs.declared.caller.Caller.{Caller}
use Rattle.timeline.specs.declared.caller.Caller.TheVariants as from
use Rattle.timeline.specs.declared.caller.Failure.{Failure}
use Rattle.timeline.specs.declared.event.Event.{Event}
use Rattle.timeline.specs.declared.event.Event.TheVariants as event
use Rattle.mailbox.specs.Posting.{of_slot}
use Rattle.switch_history.specs.Laws.{NoAnswerWithoutClass, class_in}
use Rattle.switch_history.specs.Posted.{AreFitFrom}
use Rattle.mailbox.proofs.Sendings.{of_slot-append}
use Rattle.switch_history.proofs.Cases.{IsMethod, OfCall, OfLine, OfMessage, by_line, by_message}
use Rattle.switch_history.proofs.Slots.{is_own, is_other, all_append, all_weaker, all_filter, all_found}
use Rattle.switch_history.proofs.Standing.{at, slot_has, same_object, free_has, takes_slot, leaves_others, bound_stays}
use Rattle.switch_history.proofs.Fitted.{Posted, quiet, fits, binds, Stood, stands, goes_on, stood_fits, method_fits, known_posted, answer_posted, one_posted, ticks_posted}

-- The slots of open fetches have objects.
abbrev pub HasObject : List (Option Identity) → OpenFetch → Type 0
HasObject objects fetch = is_some (at objects fetch.slot) ≡ true

-- So have those of all open fetches.
abbrev pub HaveObjects : List (Option Identity) → List OpenFetch → Type 0
HaveObjects objects fetches = AllByRecursion (HasObject objects) fetches

-- What a step gives.
record Gives (script : Script) (objects after : List (Option Identity)) (posts : List (ℕ × Event)) (fetches : List OpenFetch) : Type 0 where
  each : (slot : ℕ) → Posted script (at objects slot) (of_slot slot posts) (at after slot)
  open_fetches : HaveObjects after fetches

-- A step of the switch gives so.
abbrev Step : Script → Switch → Given → Type 0
Step script s given = Gives script s.objects given.after.objects given.posts given.after.unanswered

module _ (script : Script) (s : Switch) (there : HaveObjects s.objects s.unanswered) where
  -- the slots keep their objects
  same : (posts : List (ℕ × Event)) → ((slot : ℕ) → Posted script (at s.objects slot) (of_slot slot posts) (at s.objects slot)) → Gives script s.objects s.objects posts s.unanswered
  same posts each = record { each = each; open_fetches = there }

  -- nothing is posted
  no_posts : Gives script s.objects s.objects [] s.unanswered
  no_posts = same [] (λ slot. quiet (at s.objects slot))

  -- one post, that fits its slot
  one : (own_slot : ℕ) (e : Event) → Posted script (at s.objects own_slot) (e ∷ []) (at s.objects own_slot) → Gives script s.objects s.objects ((own_slot, e) ∷ []) s.unanswered
  one own_slot e posted = same ((own_slot, e) ∷ []) (one_posted script s.objects own_slot e posted)

  -- who gets a failure or a reply has an object, or is a request
  to_caller : (to : Caller) (result : Result Value Failure) → is_fit s to ≡ true → Step script s (answers_to s to result)
  to_caller (from.Request line number) result fit = no_posts
  to_caller (from.Object own_slot incarnation number) result fit =
      one own_slot (event.Answer incarnation number result s.tick) (answer_posted script (at s.objects own_slot) incarnation number result s.tick fit)

  -- an object takes a free slot and is called there
  bound : (caller : Caller) (to : Identity) (number own_slot : ℕ) (args : List Value) (depth : ℕ) → IsMethod script s to number → free_slot s ≡ Some own_slot
      → Gives script s.objects (set s.objects own_slot (Some to)) ((own_slot, event.Bind to) ∷ (own_slot, event.Call caller number args depth s.tick) ∷ []) s.unanswered
  bound caller to number own_slot args depth is free = record {
    each = λ slot. at_slot slot (cases_eq slot own_slot);
    open_fetches = all_weaker (HasObject s.objects) (HasObject objects) s.unanswered (λ fetch. still (at s.objects fetch.slot) fetch.slot refl) there;
  }
    where
      objects : List (Option Identity)
      objects = set s.objects own_slot (Some to)

      call : Event
      call = event.Call caller number args depth s.tick

      still : (o : Option Identity) (slot : ℕ) → at s.objects slot ≡ o → is_some (at s.objects slot) ≡ true → is_some (at (set s.objects own_slot (Some to)) slot) ≡ true
      still None slot at_o some = absurd (false≢true (sym (ap is_some at_o) ∙ some))
      still (Some object) slot at_o some = ap is_some (bound_stays script s own_slot to free slot object at_o)

      at_slot : (slot : ℕ) → (slot ≡ own_slot) ⊎ (slot ≡ own_slot → ⊥)
          → Posted script (at s.objects slot) (of_slot slot ((own_slot, event.Bind to) ∷ (own_slot, event.Call caller number args depth s.tick) ∷ [])) (at (set s.objects own_slot (Some to)) slot)
      at_slot slot (inl here) =
          let e : Event = event.Call caller number args depth s.tick in
          let was : at s.objects slot ≡ None = ap (at s.objects) here ∙ free_has s own_slot free in
          let now : at (set s.objects own_slot (Some to)) slot ≡ Some to = ap (at (set s.objects own_slot (Some to))) here ∙ takes_slot s own_slot free to in
          let test : (own_slot == slot) ≡ true = ap (λ (n : ℕ). own_slot == n) here ∙ is_own own_slot in
          let items : of_slot slot ((own_slot, event.Bind to) ∷ (own_slot, e) ∷ []) ≡ event.Bind to ∷ e ∷ [] =
          ap (λ (b : Bool). cond b (event.Bind to ∷ cond b (e ∷ []) []) (cond b (e ∷ []) [])) test in
          subst (λ (p : Option Identity × List Event × Option Identity). Posted script p.0 p.1 p.2) (λ i. (sym was i, sym items i, sym now i))
          (binds to is.class e is.has_class (method_fits script is.class number is.method is.has_method) refl)
      at_slot slot (inr away) =
          let e : Event = event.Call caller number args depth s.tick in
          let test : (own_slot == slot) ≡ false = is_other own_slot slot (λ same_slot. away (sym same_slot)) in
          let items : of_slot slot ((own_slot, event.Bind to) ∷ (own_slot, e) ∷ []) ≡ [] =
          ap (λ (b : Bool). cond b (event.Bind to ∷ cond b (e ∷ []) []) (cond b (e ∷ []) [])) test in
          let now : at (set s.objects own_slot (Some to)) slot ≡ at s.objects slot = leaves_others s own_slot free to slot away in
          subst (λ (p : List Event × Option Identity). Posted script (at s.objects slot) p.0 p.1) (λ i. (sym items i, sym now i)) (quiet (at s.objects slot))

  -- whatever becomes of a call, what is posted fits
  of_call : (caller : Caller) (to : Identity) → is_fit s caller ≡ true → OfCall script s (Step script s) caller to
  of_call caller to fit = record {
    refused = λ f _. to_caller caller (Err f) fit;
    posted = λ number own_slot args depth is own_is.
        let found = slot_has s to own_slot own_is in
        let here : at s.objects own_slot ≡ Some to = found.1 ∙ ap (λ (o : Identity). Some o) (sym (same_object to found.0 found.2)) in
        one own_slot (event.Call caller number args depth s.tick)
        (fits (at s.objects own_slot) is.class (event.Call caller number args depth s.tick) (ap (class_in script) here ∙ is.has_class)
        (method_fits script is.class number is.method is.has_method) refl);
    bound = λ number own_slot args depth is free. bound caller to number own_slot args depth is free;
  }

  -- what a line posts fits
  of_line : OfLine script s (λ l given. Step script s given)
  of_line = record {
    calls = λ number of to method args. of_call (from.Request number of) to refl;
    ticked = λ number moment. same (tick_posts script moment 0 s.objects) (ticks_posted script moment s.objects);
    refused = λ l number why _. no_posts;
    closed = λ l k result fetch _ found. record {
      each = one_posted script s.objects fetch.slot (event.Answer fetch.incarnation fetch.number result s.tick)
          (answer_posted script (at s.objects fetch.slot) fetch.incarnation fetch.number result s.tick
          (all_found (HasObject s.objects) (λ other. other.k == k) s.unanswered fetch there found));
      open_fetches = all_filter (HasObject s.objects) (λ other. not (other.k == fetch.k)) s.unanswered there;
    };
    evicted = λ number own_slot object own_is known.
        let found = slot_has s object own_slot own_is in
        let here : at s.objects own_slot ≡ Some object = found.1 ∙ ap (λ (o : Identity). Some o) (sym (same_object object found.0 found.2)) in
        one own_slot (event.Evict s.tick)
        (known_posted script (at s.objects own_slot) (event.Evict s.tick) (ap (λ (o : Option Identity). is_some (class_in script o)) here ∙ known) (λ class. refl) (λ class. refl));
    unknown = λ number object. no_posts;
  }

  -- what a message posts fits
  of_message : OfMessage script s (λ sent given. Step script s given)
  of_message = record {
    nothing = λ sent. no_posts;
    replied = λ slot to result fit. to_caller to result fit;
    called = λ slot incarnation number to object method args depth here. of_call (from.Object slot incarnation number) to (ap is_some here);
    fetched = λ slot incarnation number value object here. record {
      each = λ other. quiet (at s.objects other);
      open_fetches = all_append (HasObject s.objects) s.unanswered (record { k = s.fetches + 1; slot = slot; incarnation = incarnation; number = number } ∷ []) there (ap is_some here, tt);
    };
  }

-- ---- a run
pub record Stands (script : Script) (named : List (Option Identity)) (posts : List (ℕ × Event)) (objects : List (Option Identity)) (fetches : List OpenFetch) : Type 0 where
  pub slots : (slot : ℕ) → Stood script (at named slot) (at objects slot) (of_slot slot posts)
  pub open_fetches : HaveObjects objects fetches

-- what was posted to the slots stands after a step
stands_on : (script : Script) (named : List (Option Identity)) (log : List (ℕ × Event)) (s : Switch) (given : Given) → Stands script named log s.objects s.unanswered → Step script s given
    → Stands script named (log ++ given.posts) given.after.objects given.after.unanswered
stands_on script named log s given stood step = record {
  slots = λ slot.
      subst (λ (l : List Event). Stood script (at named slot) (at given.after.objects slot) l) (sym (of_slot-append slot log given.posts))
      (goes_on script (at named slot) (at s.objects slot) (at given.after.objects slot) (of_slot slot log) (of_slot slot given.posts) (stood.slots slot) (step.each slot));
  open_fetches = step.open_fetches;
}

-- it stands after a run
pub run_stands : (script : Script) (named : List (Option Identity)) (log : SwitchLog) (s : Switch) → IsSwitchRun script (opened named) log s
    → Stands script named log.posts s.objects s.unanswered
run_stands script named _ _ begins = record { slots = λ slot. stands script (at named slot); open_fetches = tt }
run_stands script named _ _ (after_line log s l run) =
    let before = run_stands script named log s run in
    stands_on script named log.posts s (accepts script s l) before (by_line script s (λ l given. Step script s given) (of_line script s before.open_fetches) l)
run_stands script named _ _ (after_message log s sent run) =
    let before = run_stands script named log s run in
    stands_on script named log.posts s (routes script s sent) before (by_message script s (λ sent given. Step script s given) (of_message script s before.open_fetches) sent)

-- what a run posts to a slot fits its object
pub posts_are_fit : (script : Script) (named : List (Option Identity)) (log : SwitchLog) (s : Switch) → IsSwitchRun script (opened named) log s
    → (slot : ℕ) → NoAnswerWithoutClass script named log slot → AreFitFrom script (class_in script (object_at (opened named) slot)) (of_slot slot log.posts)
posts_are_fit script named log s run slot none =
    stood_fits script (at named slot) (at s.objects slot) (of_slot slot log.posts) ((run_stands script named log s run).slots slot) none

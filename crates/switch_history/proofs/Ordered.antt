-- Calls are posted in the order in which they were routed.
use Rattle.std.proofs.Common.{◌≡◌, ℕ, suc, ℤ, inl, inr, List, [], ◌∷◌, ◌++◌, append-nil, cond, set, Option, Some, None, Err, true, false, refl, sym, ap, subst, ◌∙◌}
use Rattle.std.specs.Prelude.{Bool, Result, ◌==◌, ◌⊎◌}
use Rattle.std.proofs.lemmas.Bool.{cases_eq}
use Rattle.std.proofs.lemmas.List.Concat.{flat_map-append}
use Rattle.do_value.specs.declared.value.Value.{Value}
use Rattle.do_tree.specs.Tree.{Script}
use Rattle.timeline.specs.Lines.{Identity}
use Rattle.timeline.specs.Replies.{caller_of}
use Rattle.timeline.specs.Switch.{free_slot, Switch, SwitchLog, IsSwitchRun, opened, begins, accepted as after_line, routed as after_message, object_at, is_object, is_known, answers_to, tick_posts, accepts}
use Rattle.timeline.specs.declared.caller.Caller.{Caller}
use Rattle.timeline.specs.declared.caller.Caller.TheVariants as from
use Rattle.timeline.specs.declared.caller.Failure.{Failure}
use Rattle.timeline.specs.declared.event.Event.{Event}
use Rattle.timeline.specs.declared.event.Event.TheVariants as event
use Rattle.timeline.specs.declared.message.Message.{Message}
use Rattle.timeline.specs.declared.message.Message.TheVariants as message
use Rattle.object_front.proofs.Accounted.{part_none}
use Rattle.object_front.specs.Came.{IsPartOf, nothing, shares, skips}
use Rattle.mailbox.specs.Posting.{of_slot}
use Rattle.object_messages.specs.Naming.{called_in}
use Rattle.switch_history.specs.Posted.{call_of, calls_of, call_to, calls_to}
use Rattle.switch_history.proofs.Cases.{OfCall, OfLine, OfMessage, by_line, by_message}
use Rattle.switch_history.proofs.Slots.{named-append, own, is_other}
use Rattle.switch_history.proofs.Standing.{at, slot_has, free_has, takes_slot, leaves_others, is_itself}

-- ---- parts of lists
part_both : {X : Type 0} (xs ys cs ds : List X) → IsPartOf xs ys → IsPartOf cs ds → IsPartOf (xs ++ cs) (ys ++ ds)
part_both _ _ cs ds nothing more = more
part_both _ _ cs ds (shares x xs ys first) more = shares x (xs ++ cs) (ys ++ ds) (part_both xs ys cs ds first more)
part_both xs _ cs ds (skips y zs ys first) more = skips y (xs ++ cs) (ys ++ ds) (part_both xs ys cs ds first more)

-- What is posted to a slot is part of what names its object; to one without an object no call is posted.
abbrev Fits : Option Identity → List (ℕ × ℕ) → (Identity → List (ℕ × ℕ)) → Type 0
Fits None posted wanted = posted ≡ []
Fits (Some object) posted wanted = IsPartOf posted (wanted object)

-- no call fits each slot
fits_none : (o : Option Identity) (posted : List (ℕ × ℕ)) (wanted : Identity → List (ℕ × ℕ)) → posted ≡ [] → Fits o posted wanted
fits_none None posted wanted none = none
fits_none (Some object) posted wanted none = subst (λ (l : List (ℕ × ℕ)). IsPartOf l (wanted object)) (sym none) (part_none (wanted object))

-- more calls in order, behind others
fits_more : (o : Option Identity) (a b : List (ℕ × ℕ)) (wanted more : Identity → List (ℕ × ℕ)) → Fits o a wanted → Fits o b more
    → Fits o (a ++ b) (λ object. wanted object ++ more object)
fits_more None a b wanted more first then = λ i. first i ++ then i
fits_more (Some object) a b wanted more first then = part_both a (wanted object) b (more object) first then

-- The calls of an object among what was posted to another, and those that were routed.
abbrev posted_to : ℕ → ℕ → List (ℕ × Event) → List (ℕ × ℕ)
posted_to slot other posts = calls_of slot (called_in (of_slot other posts))

-- The calls of a slot that were routed and name this object.
abbrev routed_to : ℕ → List (ℕ × Message) → Identity → List (ℕ × ℕ)
routed_to slot messages object = calls_to object (of_slot slot messages)

-- The calls of a slot are posted to each other slot in the order in which they were routed.
abbrev AreInOrder : ℕ → List (ℕ × Message) → List (Option Identity) → List (ℕ × Event) → Type 0
AreInOrder slot messages objects posts = (other : ℕ) → Fits (at objects other) (posted_to slot other posts) (routed_to slot messages)

-- what was posted first, and what was posted then
posted-append : (slot other : ℕ) (old new : List (ℕ × Event)) → posted_to slot other (old ++ new) ≡ posted_to slot other old ++ posted_to slot other new
posted-append slot other old new =
    ap (calls_of slot) (named-append caller_of other old new) ∙ flat_map-append (call_of slot) (called_in (of_slot other old)) (called_in (of_slot other new))

-- no call of the object is posted
no_call : (slot other own_slot : ℕ) (e : Event) → calls_of slot (called_in (e ∷ [])) ≡ [] → posted_to slot other ((own_slot, e) ∷ []) ≡ []
no_call slot other own_slot e none =
    elim (own_slot == other) as (λ (b : Bool). calls_of slot (called_in (cond b (e ∷ []) [])) ≡ []) [
      | true ↦ none
      | false ↦ refl
    ]

-- ticks are no calls
no_tick : (script : Script) (slot other : ℕ) (moment : ℤ) (place : ℕ) (objects : List (Option Identity)) → posted_to slot other (tick_posts script moment place objects) ≡ []
no_tick script slot other moment place [] = refl
no_tick script slot other moment place (None ∷ objects) = no_tick script slot other moment (suc place) objects
no_tick script slot other moment place (Some object ∷ objects) =
    elim (is_known script object) as (λ (b : Bool). posted_to slot other (cond b ((place, event.Tick moment) ∷ tick_posts script moment (suc place) objects) (tick_posts script moment (suc place) objects)) ≡ []) [
      | true ↦ posted-append slot other ((place, event.Tick moment) ∷ []) (tick_posts script moment (suc place) objects)
          ∙ (λ i. no_call slot other place (event.Tick moment) refl i ++ no_tick script slot other moment (suc place) objects i)
      | false ↦ no_tick script slot other moment (suc place) objects
    ]

module _ (script : Script) (slot : ℕ) (s : Switch) (before : List (ℕ × Message)) (posted : List (ℕ × Event)) (so_far : AreInOrder slot before s.objects posted) (since : List (ℕ × Message)) where
  -- What a step gives keeps the order.
  abbrev Keeps : List (Option Identity) → List (ℕ × Event) → Type 0
  Keeps objects posts = AreInOrder slot (before ++ since) objects (posted ++ posts)

  -- what a step posts to a slot stands behind what was posted
  goes : (o : Option Identity) (other : ℕ) (posts : List (ℕ × Event)) → Fits o (posted_to slot other posted) (routed_to slot before) → Fits o (posted_to slot other posts) (routed_to slot since)
      → Fits o (posted_to slot other (posted ++ posts)) (routed_to slot (before ++ since))
  goes o other posts first then =
      let wanted : (λ (object : Identity). routed_to slot before object ++ routed_to slot since object) ≡ routed_to slot (before ++ since) =
      sym (λ i object. named-append (call_to object) slot before since i) in
      subst (λ (l : List (ℕ × ℕ)). Fits o l (routed_to slot (before ++ since))) (sym (posted-append slot other posted posts))
      (subst (λ (w : Identity → List (ℕ × ℕ)). Fits o (posted_to slot other posted ++ posted_to slot other posts) w) wanted
      (fits_more o (posted_to slot other posted) (posted_to slot other posts) (routed_to slot before) (routed_to slot since) first then))

  -- the slots keep their objects, and what is posted is in order
  keeps : (posts : List (ℕ × Event)) → ((other : ℕ) → Fits (at s.objects other) (posted_to slot other posts) (routed_to slot since)) → Keeps s.objects posts
  keeps posts new other = goes (at s.objects other) other posts (so_far other) (new other)

  -- no call of the slot is posted
  quiet : (posts : List (ℕ × Event)) → ((other : ℕ) → posted_to slot other posts ≡ []) → Keeps s.objects posts
  quiet posts none = keeps posts (λ other. fits_none (at s.objects other) (posted_to slot other posts) (routed_to slot since) (none other))

  -- a result is no call
  to_caller : (to : Caller) (result : Result Value Failure) → Keeps (answers_to s to result).after.objects (answers_to s to result).posts
  to_caller (from.Request line number) result = quiet [] (λ other. refl)
  to_caller (from.Object own_slot incarnation number) result =
      quiet ((own_slot, event.Answer incarnation number result s.tick) ∷ []) (λ other. no_call slot other own_slot (event.Answer incarnation number result s.tick) refl)

  module _ (caller : Caller) (to : Identity) (names : (object : Identity) → is_object to (Some object) ≡ true → IsPartOf (calls_of slot (caller ∷ [])) (routed_to slot since object)) where
    -- a call that is posted to the slot of its object
    call_fits : (own_slot method : ℕ) (args : List Value) (depth : ℕ) (object : Identity) → at s.objects own_slot ≡ Some object → is_object to (Some object) ≡ true → (other : ℕ)
        → Fits (at s.objects other) (posted_to slot other ((own_slot, event.Call caller method args depth s.tick) ∷ [])) (routed_to slot since)
    call_fits own_slot method args depth object here same other = at_test (own_slot == other) refl
      where
        at_test : (b : Bool) → (own_slot == other) ≡ b
            → Fits (at s.objects other) (calls_of slot (called_in (cond b (event.Call caller method args depth s.tick ∷ []) []))) (routed_to slot since)
        at_test true is =
            let there : at s.objects other ≡ Some object = ap (at s.objects) (sym (own own_slot other is)) ∙ here in
            subst (λ (o : Option Identity). Fits o (calls_of slot (caller ∷ [])) (routed_to slot since)) (sym there) (names object same)
        at_test false is = fits_none (at s.objects other) [] (routed_to slot since) refl

    -- one that is posted to a slot that its object takes
    bound_fits : (own_slot method : ℕ) (args : List Value) (depth other : ℕ)
        → Fits (Some to) (posted_to slot other ((own_slot, event.Bind to) ∷ (own_slot, event.Call caller method args depth s.tick) ∷ [])) (routed_to slot since)
    bound_fits own_slot method args depth other =
        let call : Event = event.Call caller method args depth s.tick in
        elim (own_slot == other) as (λ (b : Bool). IsPartOf (calls_of slot (called_in (cond b (event.Bind to ∷ cond b (call ∷ []) []) (cond b (call ∷ []) [])))) (routed_to slot since to)) [
          | true ↦ names to (is_itself to)
          | false ↦ part_none (routed_to slot since to)
        ]

    -- a call of another slot
    bound_away : (own_slot method : ℕ) (args : List Value) (depth other : ℕ) → (own_slot ≡ other → ⊥)
        → posted_to slot other ((own_slot, event.Bind to) ∷ (own_slot, event.Call caller method args depth s.tick) ∷ []) ≡ []
    bound_away own_slot method args depth other away =
        let call : Event = event.Call caller method args depth s.tick in
        ap (λ (b : Bool). calls_of slot (called_in (cond b (event.Bind to ∷ cond b (call ∷ []) []) (cond b (call ∷ []) [])))) (is_other own_slot other away)

    -- whatever becomes of a call, the order is kept
    of_call : OfCall script s (λ given. Keeps given.after.objects given.posts) caller to
    of_call = record {
      refused = λ f _. to_caller caller (Err f);
      posted = λ method own_slot args depth _ is.
          let found = slot_has s to own_slot is in
          keeps ((own_slot, event.Call caller method args depth s.tick) ∷ []) (call_fits own_slot method args depth found.0 found.1 found.2);
      bound = λ method own_slot args depth _ free other. at_bound method own_slot args depth free other (cases_eq other own_slot);
    }
      where
        at_bound : (method own_slot : ℕ) (args : List Value) (depth : ℕ) → free_slot s ≡ Some own_slot → (other : ℕ) → (other ≡ own_slot) ⊎ (other ≡ own_slot → ⊥)
            → Fits (at (set s.objects own_slot (Some to)) other)
            (posted_to slot other (posted ++ ((own_slot, event.Bind to) ∷ (own_slot, event.Call caller method args depth s.tick) ∷ []))) (routed_to slot (before ++ since))
        at_bound method own_slot args depth free other (inl here) =
            let posts : List (ℕ × Event) = (own_slot, event.Bind to) ∷ (own_slot, event.Call caller method args depth s.tick) ∷ [] in
            let was : at s.objects other ≡ None = ap (at s.objects) here ∙ free_has s own_slot free in
            let now : at (set s.objects own_slot (Some to)) other ≡ Some to = ap (at (set s.objects own_slot (Some to))) here ∙ takes_slot s own_slot free to in
            let none : posted_to slot other posted ≡ [] = subst (λ (o : Option Identity). Fits o (posted_to slot other posted) (routed_to slot before)) was (so_far other) in
            subst (λ (o : Option Identity). Fits o (posted_to slot other (posted ++ posts)) (routed_to slot (before ++ since))) (sym now)
            (goes (Some to) other posts (fits_none (Some to) (posted_to slot other posted) (routed_to slot before) none) (bound_fits own_slot method args depth other))
        at_bound method own_slot args depth free other (inr away) =
            let posts : List (ℕ × Event) = (own_slot, event.Bind to) ∷ (own_slot, event.Call caller method args depth s.tick) ∷ [] in
            subst (λ (o : Option Identity). Fits o (posted_to slot other (posted ++ posts)) (routed_to slot (before ++ since))) (sym (leaves_others s own_slot free to other away))
            (keeps_away other (posted_to slot other posts) (bound_away own_slot method args depth other (λ e. away (sym e))) posts refl)
          where
            keeps_away : (other : ℕ) (calls : List (ℕ × ℕ)) → calls ≡ [] → (posts : List (ℕ × Event)) → posted_to slot other posts ≡ calls
                → Fits (at s.objects other) (posted_to slot other (posted ++ posts)) (routed_to slot (before ++ since))
            keeps_away other calls none posts is =
                goes (at s.objects other) other posts (so_far other) (fits_none (at s.objects other) (posted_to slot other posts) (routed_to slot since) (is ∙ none))

-- ---- lines and messages
of_line : (script : Script) (slot : ℕ) (s : Switch) (before : List (ℕ × Message)) (posted : List (ℕ × Event)) → AreInOrder slot before s.objects posted
    → OfLine script s (λ l given. AreInOrder slot (before ++ []) given.after.objects (posted ++ given.posts))
of_line script slot s before posted so_far = record {
  calls = λ number of to method args. of_call script slot s before posted so_far [] (from.Request number of) to (λ object _. nothing);
  ticked = λ number moment. quiet script slot s before posted so_far [] (tick_posts script moment 0 s.objects) (λ other. no_tick script slot other moment 0 s.objects);
  refused = λ l number why _. quiet script slot s before posted so_far [] [] (λ other. refl);
  closed = λ l k result fetch _ _. quiet script slot s before posted so_far [] ((fetch.slot, event.Answer fetch.incarnation fetch.number result s.tick) ∷ [])
      (λ other. no_call slot other fetch.slot (event.Answer fetch.incarnation fetch.number result s.tick) refl);
  evicted = λ number own_slot object _ _. quiet script slot s before posted so_far [] ((own_slot, event.Evict s.tick) ∷ [])
      (λ other. no_call slot other own_slot (event.Evict s.tick) refl);
  unknown = λ number object. quiet script slot s before posted so_far [] [] (λ other. refl);
}

-- a call that is posted to its object is the one that was routed
own_call : (slot from_slot incarnation number : ℕ) (to : Identity) (method : List ℕ) (args : List Value) (depth : ℕ) (object : Identity) → is_object to (Some object) ≡ true
    → IsPartOf (calls_of slot (from.Object from_slot incarnation number ∷ [])) (routed_to slot ((from_slot, message.Call incarnation number to method args depth) ∷ []) object)
own_call slot from_slot incarnation number to method args depth object same =
    let m : Message = message.Call incarnation number to method args depth in
    let asked : ℕ × ℕ = (incarnation, number) in
    elim (from_slot == slot) as (λ (b : Bool). IsPartOf (cond b (asked ∷ []) [] ++ []) (calls_to object (cond b (m ∷ []) []))) [
      | true ↦ subst (λ (c : Bool). IsPartOf (asked ∷ []) (cond c (asked ∷ []) [] ++ [])) (sym same) (shares asked [] [] nothing)
      | false ↦ nothing
    ]

-- a message keeps the order
of_message : (script : Script) (slot : ℕ) (s : Switch) (before : List (ℕ × Message)) (posted : List (ℕ × Event)) → AreInOrder slot before s.objects posted
    → OfMessage script s (λ sent given. AreInOrder slot (before ++ sent ∷ []) given.after.objects (posted ++ given.posts))
of_message script slot s before posted so_far = record {
  nothing = λ sent. quiet script slot s before posted so_far (sent ∷ []) [] (λ other. refl);
  replied = λ own_slot to result _. to_caller script slot s before posted so_far ((own_slot, message.Reply to result) ∷ []) to result;
  called = λ own_slot incarnation number to object method args depth _.
      of_call script slot s before posted so_far ((own_slot, message.Call incarnation number to method args depth) ∷ []) (from.Object own_slot incarnation number) to
      (own_call slot own_slot incarnation number to method args depth);
  fetched = λ own_slot incarnation number value object _. quiet script slot s before posted so_far ((own_slot, message.Fetch incarnation number value) ∷ []) [] (λ other. refl);
}

-- a run keeps the order
run_in_order : (script : Script) (named : List (Option Identity)) (log : SwitchLog) (s : Switch) → IsSwitchRun script (opened named) log s
    → (slot : ℕ) → AreInOrder slot log.routed s.objects log.posts
run_in_order script named _ _ begins slot = λ other. fits_none (at named other) [] (routed_to slot []) refl
run_in_order script named _ _ (after_line log s l run) slot =
    subst (λ (messages : List (ℕ × Message)). AreInOrder slot messages (accepts script s l).after.objects (log.posts ++ (accepts script s l).posts)) (append-nil log.routed)
    (by_line script s (λ l given. AreInOrder slot (log.routed ++ []) given.after.objects (log.posts ++ given.posts))
    (of_line script slot s log.routed log.posts (run_in_order script named log s run slot)) l)
run_in_order script named _ _ (after_message log s sent run) slot =
    by_message script s (λ sent given. AreInOrder slot (log.routed ++ sent ∷ []) given.after.objects (log.posts ++ given.posts))
    (of_message script slot s log.routed log.posts (run_in_order script named log s run slot)) sent

-- the calls of an object to another are some of those that were routed, in order
pub in_order : (script : Script) (named : List (Option Identity)) (log : SwitchLog) (s : Switch) → IsSwitchRun script (opened named) log s
    → (slot other : ℕ) (object : Identity) → object_at s other ≡ Some object
    → IsPartOf (calls_of slot (called_in (of_slot other log.posts))) (calls_to object (of_slot slot log.routed))
in_order script named log s run slot other object is =
    subst (λ (o : Option Identity). Fits o (posted_to slot other log.posts) (routed_to slot log.routed)) is (run_in_order script named log s run slot other)

-- An event is posted to a slot that has an object, and a call of an object comes from a slot that has one.
use Rattle.std.proofs.Common.{◌≡◌, ℕ, ℤ, suc, ◌+◌, List, [], ◌∷◌, ◌++◌, set, cond, Option, Some, None, Err, true, false, refl, sym, ap, subst, ◌∙◌, true≢false, arith}
use Rattle.std.specs.Prelude.{Bool, Result, is_some, slice_get, not, ◌==◌}
use Rattle.std.specs.List.{AllByRecursion, filter}
use Rattle.do_value.specs.declared.value.Value.{Value}
use Rattle.do_tree.specs.Tree.{Script}
use Rattle.timeline.specs.Lines.{Identity, Line}
use Rattle.timeline.specs.Switch.{Given, IsSwitchRun, OpenFetch, Switch, SwitchLog, accepts, answers_to, begins, accepted as after_line, routed as after_message, flattened, free_slot, is_fit, is_known, object_at, opened, routes, slot_of, tick_posts}
use Rattle.timeline.specs.declared.caller.Caller.{Caller}
use Rattle.timeline.specs.declared.caller.Caller.TheVariants as from
use Rattle.timeline.specs.declared.caller.Failure.{Failure}
use Rattle.timeline.specs.declared.event.Event.{Event}
use Rattle.timeline.specs.declared.event.Event.TheVariants as event
use Rattle.timeline.specs.declared.message.Message.{Message}
use Rattle.switch_history.proofs.Cases.{OfCall, OfLine, OfMessage, by_line, by_message}
use Rattle.switch_history.proofs.Slots.{all_append, all_filter, all_found, all_weaker}
use Rattle.switch_history.proofs.Standing.{Stays, at, bound_stays, line_stays, message_stays, slot_has, takes_slot}
use Rattle.switch_history.specs.Placed.{HasObject, IsCalledFrom, IsPlaced, PostsArePlaced}

-- A slot that has an object has one after a step.
has_by : (s : Switch) (given : Given) (slot : ℕ) (object : Option Identity) → object_at s slot ≡ object → is_some object ≡ true → Stays s.objects given
    → HasObject given.after slot
has_by s given slot None here is stays = absurd (true≢false (sym is))
has_by s given slot (Some object) here is stays = ap (λ (o : Option Identity). is_some o) (stays slot object here)

still_has : (s : Switch) (given : Given) (slot : ℕ) → Stays s.objects given → HasObject s slot → HasObject given.after slot
still_has s given slot stays is = has_by s given slot (object_at s slot) refl is stays

still_called : (s : Switch) (given : Given) (e : Event) → Stays s.objects given → IsCalledFrom s e → IsCalledFrom given.after e
still_called s given (event.Call (from.Object other incarnation number) method args depth at) stays is = still_has s given other stays is
still_called s given (event.Call (from.Request line number) method args depth at) stays is = tt
still_called s given (event.Answer incarnation number result at) stays is = tt
still_called s given (event.Bind identity) stays is = tt
still_called s given (event.Tick at) stays is = tt
still_called s given (event.Evict at) stays is = tt

-- All posts, and all open fetches, are of slots that have objects.
record ArePlaced (s : Switch) (posts : List (ℕ × Event)) : Type 0 where
  placed : AllByRecursion (IsPlaced s) posts
  fetches : AllByRecursion (λ (f : OpenFetch). HasObject s f.slot) s.unanswered

-- A call that a caller makes.
called_from : (s : Switch) (caller : Caller) (method : ℕ) (args : List Value) (depth : ℕ) (moment : ℤ)
    → ((slot incarnation number : ℕ) → caller ≡ from.Object slot incarnation number → HasObject s slot) → IsCalledFrom s (event.Call caller method args depth moment)
called_from s (from.Request line number) method args depth moment has = tt
called_from s (from.Object slot incarnation number) method args depth moment has = has slot incarnation number refl

-- What a step posts and leaves open.
record Adds (s : Switch) (given : Given) : Type 0 where
  posts : AllByRecursion (IsPlaced given.after) given.posts
  waits : AllByRecursion (λ (f : OpenFetch). HasObject given.after f.slot) given.after.unanswered

module _ (script : Script) (s : Switch) (fetches : AllByRecursion (λ (f : OpenFetch). HasObject s f.slot) s.unanswered) where
  -- a result
  to_caller : (to : Caller) (result : Result Value Failure) → ((slot incarnation number : ℕ) → to ≡ from.Object slot incarnation number → HasObject s slot)
      → Adds s (answers_to s to result)
  to_caller (from.Request line number) result has = record { posts = tt; waits = fetches }
  to_caller (from.Object slot incarnation number) result has = record { posts = ((has slot incarnation number refl, tt), tt); waits = fetches }

  -- a call
  of_call : (caller : Caller) (to : Identity) → ((slot incarnation number : ℕ) → caller ≡ from.Object slot incarnation number → HasObject s slot)
      → OfCall script s (Adds s) caller to
  of_call caller to has = record {
    refused = λ f _. to_caller caller (Err f) has;
    posted = λ number slot args depth _ own. record {
      posts = ((ap (λ (o : Option Identity). is_some o) (slot_has s to slot own).1, called_from s caller number args depth s.tick has), tt);
      waits = fetches;
    };
    bound = λ number slot args depth _ free.
        let objects : List (Option Identity) = set s.objects slot (Some to) in
        let after : Switch = record s { objects = objects } in
        let here : HasObject after slot = ap (λ (o : Option Identity). is_some o) (takes_slot s slot free to) in
        let given : Given = record { posts = []; lines = []; after = after } in
        let others : (other : ℕ) → HasObject s other → HasObject after other = λ other is. still_has s given other (bound_stays script s slot to free) is in
        record {
          posts = ((here, tt), ((here, called_from after caller number args depth s.tick (λ other incarnation n is. others other (has other incarnation n is))), tt));
          waits = all_weaker (λ (f : OpenFetch). HasObject s f.slot) (λ (f : OpenFetch). HasObject after f.slot) s.unanswered (λ f is. others f.slot is) fetches;
        };
  }

  -- ticks
  sooner : (j slot : ℕ) → suc j + slot ≡ j + suc slot
  sooner j slot = omega arith

  none_more : (slot : ℕ) → 0 + slot ≡ slot
  none_more slot = omega arith

  ticked : (moment : ℤ) (slot : ℕ) (objects : List (Option Identity)) → ((j : ℕ) → flattened (slice_get objects j) ≡ at s.objects (j + slot))
      → AllByRecursion (IsPlaced s) (tick_posts script moment slot objects)
  ticked moment slot [] same = tt
  ticked moment slot (None ∷ objects) same = ticked moment (suc slot) objects (λ j. same (suc j) ∙ ap (λ (n : ℕ). at s.objects n) (sooner j slot))
  ticked moment slot (Some object ∷ objects) same =
      let rest : AllByRecursion (IsPlaced s) (tick_posts script moment (suc slot) objects) =
      ticked moment (suc slot) objects (λ j. same (suc j) ∙ ap (λ (n : ℕ). at s.objects n) (sooner j slot)) in
      elim (is_known script object) as (λ (b : Bool). AllByRecursion (IsPlaced s) (cond b ((slot, event.Tick moment) ∷ tick_posts script moment (suc slot) objects) (tick_posts script moment (suc slot) objects))) [
        | true ↦ ((ap (λ (o : Option Identity). is_some o) (sym (same 0 ∙ ap (λ (n : ℕ). at s.objects n) (none_more slot))), tt), rest)
        | false ↦ rest
      ]

  no_object : (line slot incarnation number : ℕ) (n : ℤ) {P : Type 0} → from.Request line n ≡ from.Object slot incarnation number → P
  no_object line slot incarnation number n is = absurd (cc)

  of_line : OfLine script s (λ l given. Adds s given)
  of_line = record {
    calls = λ line number to method args. of_call (from.Request line number) to (λ slot incarnation n e. no_object line slot incarnation n number e);
    ticked = λ line moment. record { posts = ticked moment 0 s.objects (λ j. ap (λ (n : ℕ). at s.objects n) (whole j)); waits = fetches };
    refused = λ l number why _. record { posts = tt; waits = fetches };
    closed = λ l k result fetch _ found. record {
      posts = ((all_found (λ (f : OpenFetch). HasObject s f.slot) (λ other. other.k == k) s.unanswered fetch fetches found, tt), tt);
      waits = all_filter (λ (f : OpenFetch). HasObject s f.slot) (λ other. not (other.k == fetch.k)) s.unanswered fetches;
    };
    evicted = λ line slot object own _. record { posts = ((ap (λ (o : Option Identity). is_some o) (slot_has s object slot own).1, tt), tt); waits = fetches };
    unknown = λ line object. record { posts = tt; waits = fetches };
  }
    where
      whole : (j : ℕ) → j ≡ j + 0
      whole j = omega arith

  fit_has : (to : Caller) → is_fit s to ≡ true → (slot incarnation number : ℕ) → to ≡ from.Object slot incarnation number → HasObject s slot
  fit_has to fit slot incarnation number is = subst (λ (c : Caller). is_fit s c ≡ true) is fit

  own_has : (own slot incarnation number n k : ℕ) (object : Identity) → object_at s own ≡ Some object → from.Object own n k ≡ from.Object slot incarnation number
      → HasObject s slot
  own_has own slot incarnation number n k object has is =
      let same : own ≡ slot = cc in subst (HasObject s) same (ap (λ (o : Option Identity). is_some o) has)

  of_message : OfMessage script s (λ sent given. Adds s given)
  of_message = record {
    nothing = λ sent. record { posts = tt; waits = fetches };
    replied = λ slot to result fit. to_caller to result (fit_has to fit);
    called = λ slot incarnation number to object method args depth has.
        of_call (from.Object slot incarnation number) to (λ other n k is. own_has slot other n k incarnation number object has is);
    fetched = λ slot incarnation number value object has. record {
      posts = tt;
      waits = all_append (λ (f : OpenFetch). HasObject s f.slot) s.unanswered (record { k = s.fetches + 1; slot = slot; incarnation = incarnation; number = number } ∷ []) fetches
          (ap (λ (o : Option Identity). is_some o) has, tt);
    };
  }

-- A step leaves what was placed so, and adds what is.
later : (s : Switch) (given : Given) (posts : List (ℕ × Event)) → Stays s.objects given → AllByRecursion (IsPlaced s) posts → Adds s given
    → ArePlaced given.after (posts ++ given.posts)
later s given posts stays before adds = record {
  placed = all_append (IsPlaced given.after) posts given.posts
      (all_weaker (IsPlaced s) (IsPlaced given.after) posts (λ post is. (still_has s given post.0 stays is.0, still_called s given post.1 stays is.1)) before) adds.posts;
  fetches = adds.waits;
}

run_placed : (script : Script) (named : List (Option Identity)) (log : SwitchLog) (s : Switch) → IsSwitchRun script (opened named) log s → ArePlaced s log.posts
run_placed script named _ _ begins = record { placed = tt; fetches = tt }
run_placed script named _ _ (after_line log s l run) =
    let before = run_placed script named log s run in
    later s (accepts script s l) log.posts (line_stays script s l) before.placed (by_line script s (λ l given. Adds s given) (of_line script s before.fetches) l)
run_placed script named _ _ (after_message log s sent run) =
    let before = run_placed script named log s run in
    later s (routes script s sent) log.posts (message_stays script s sent) before.placed (by_message script s (λ sent given. Adds s given) (of_message script s before.fetches) sent)

pub posts_placed : PostsArePlaced
posts_placed script named log s run = (run_placed script named log s run).placed

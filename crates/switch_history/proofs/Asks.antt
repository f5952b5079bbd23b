-- What is posted to objects, with the fetches that are open, is what was routed from them and replied to them.
use Rattle.std.proofs.Common.{◌≡◌, ◌≤◌, ◌<◌, ◌∙◌, ℕ, suc, ◌+◌, ℤ, List, [], ◌∷◌, ◌++◌, cond, Option, Some, None, Err, true, false, refl, sym, ap, subst, arith, true≢false}
use Rattle.std.specs.Prelude.{Bool, Result, is_some, not, ◌==◌}
use Rattle.std.specs.List.{AllByRecursion, filter, find, sum_by}
use Rattle.std.proofs.lemmas.Bool.Decides.{nat_tests}
use Rattle.std.proofs.lemmas.List.Sums.{sum_by-append, sum_by-cons, sum_by_push}
use Rattle.do_value.specs.declared.value.Value.{Value}
use Rattle.do_tree.specs.Tree.{Script}
use Rattle.timeline.specs.Lines.{Identity, Line}
use Rattle.timeline.specs.Switch.{OpenFetch, Switch, SwitchLog, Given, opened, answers_to, accepts, routes, routes_from, is_fit, is_known, object_at, fetches_from, gives_nothing, tick_posts}
use Rattle.timeline.specs.declared.caller.Caller.{Caller}
use Rattle.timeline.specs.declared.caller.Caller.TheVariants as from
use Rattle.timeline.specs.declared.caller.Failure.{Failure}
use Rattle.timeline.specs.declared.event.Event.{Event}
use Rattle.timeline.specs.declared.event.Event.TheVariants as event
use Rattle.timeline.specs.declared.message.Message.{Message}
use Rattle.timeline.specs.declared.message.Message.TheVariants as message
use Rattle.mailbox.specs.Fit.{IsFit, replies_fit}
use Rattle.switch_history.specs.Fit.{IsFitRun, begins, accepted, routed}
use Rattle.switch_history.proofs.Cases.{OfCall, by_call, by_line}
use Rattle.switch_history.proofs.Slots.{all_append, all_filter, is_own}

-- ---- open fetches stand in the order of their numbers
abbrev pub AreOrdered : List OpenFetch → Type 0
AreOrdered [] = Unit {0}
AreOrdered (f ∷ fetches) = AllByRecursion (λ (g : OpenFetch). f.k < g.k) fetches × AreOrdered fetches

abbrev pub IsNumbered : Switch → Type 0
IsNumbered s = AreOrdered s.unanswered × AllByRecursion (λ (f : OpenFetch). f.k ≤ s.fetches) s.unanswered

-- so do those that pass a test,
some_ordered : (p : OpenFetch → Bool) (fetches : List OpenFetch) → AreOrdered fetches → AreOrdered (filter p fetches)
some_ordered p [] order = tt
some_ordered p (f ∷ fetches) order = by_kept (p f) (some_ordered p fetches order.1)
  where
    by_kept : (b : Bool) → AreOrdered (filter p fetches) → AreOrdered (cond b (f ∷ filter p fetches) (filter p fetches))
    by_kept true rest = (all_filter (λ (g : OpenFetch). f.k < g.k) p fetches order.0, rest)
    by_kept false rest = rest

-- and these with the next one
next_ordered : (most : ℕ) (fetches : List OpenFetch) (f : OpenFetch) → AllByRecursion (λ (g : OpenFetch). g.k ≤ most) fetches → most < f.k → AreOrdered fetches
    → AreOrdered (fetches ++ f ∷ [])
next_ordered most [] f below above order = (tt, tt)
next_ordered most (g ∷ fetches) f below above order =
    (all_append (λ (h : OpenFetch). g.k < h.k) fetches (f ∷ []) order.0 (omega (arith, below.0, above), tt), next_ordered most fetches f below.1 above order.1)

more_below : (most more : ℕ) (fetches : List OpenFetch) → most ≤ more → AllByRecursion (λ (g : OpenFetch). g.k ≤ most) fetches
    → AllByRecursion (λ (g : OpenFetch). g.k ≤ more) fetches
more_below most more [] less all = tt
more_below most more (g ∷ fetches) less all = (omega (arith, all.0, less), more_below most more fetches less all.1)

-- those above a number are none of it
above_kept : (k : ℕ) (fetches : List OpenFetch) → AllByRecursion (λ (g : OpenFetch). k < g.k) fetches → filter (λ (g : OpenFetch). not (g.k == k)) fetches ≡ fetches
above_kept k [] above = refl
above_kept k (g ∷ fetches) above =
    ap (λ (b : Bool). cond (not b) (g ∷ filter (λ (h : OpenFetch). not (h.k == k)) fetches) (filter (λ (h : OpenFetch). not (h.k == k)) fetches)) (differs g.k above.0)
    ∙ ap (λ (rest : List OpenFetch). g ∷ rest) (above_kept k fetches above.1)
  where
    differs : (n : ℕ) → k < n → (n == k) ≡ false
    differs n less = grind (arith, nat_tests, less)

module _ (weighs : OpenFetch → ℕ) where
  -- the one that is found is taken away, and no other
  pub one_closed : (k : ℕ) (fetches : List OpenFetch) (f : OpenFetch) → AreOrdered fetches → find (λ (g : OpenFetch). g.k == k) fetches ≡ Some f
      → ((f.k == k) ≡ true) × (sum_by weighs (filter (λ (g : OpenFetch). not (g.k == f.k)) fetches) + weighs f ≡ sum_by weighs fetches)
  one_closed k [] f order found = cc
  one_closed k (g ∷ fetches) f order found = by_first (g.k == k) refl found (one_closed k fetches f order.1)
    where
      rest_of : ℕ → List OpenFetch
      rest_of n = filter (λ (h : OpenFetch). not (h.k == n)) fetches

      by_first : (b : Bool) → (g.k == k) ≡ b → cond b (Some g) (find (λ (h : OpenFetch). h.k == k) fetches) ≡ Some f
          → (find (λ (h : OpenFetch). h.k == k) fetches ≡ Some f → ((f.k == k) ≡ true) × (sum_by weighs (rest_of f.k) + weighs f ≡ sum_by weighs fetches))
          → ((f.k == k) ≡ true) × (sum_by weighs (cond (not (g.k == f.k)) (g ∷ rest_of f.k) (rest_of f.k)) + weighs f ≡ sum_by weighs (g ∷ fetches))
      by_first true here is rest =
          let same : g ≡ f = cc in
          subst (λ (h : OpenFetch). ((h.k == k) ≡ true) × (sum_by weighs (cond (not (g.k == h.k)) (g ∷ rest_of h.k) (rest_of h.k)) + weighs h ≡ sum_by weighs (g ∷ fetches))) same (
            here,
            omega (
              arith,
              ap (λ (b : Bool). sum_by weighs (cond (not b) (g ∷ rest_of g.k) (rest_of g.k))) (is_own g.k),
              ap (sum_by weighs) (above_kept g.k fetches order.0),
              sum_by-cons weighs g fetches,
            ),
          )
      by_first false other is rest =
          let further = rest is in (
            further.0,
            omega (
              arith,
              further.1,
              ap (λ (b : Bool). sum_by weighs (cond (not b) (g ∷ rest_of f.k) (rest_of f.k))) (apart g.k f.k other further.0),
              sum_by-cons weighs g (rest_of f.k),
              sum_by-cons weighs g fetches,
            ),
          )
        where
          apart : (a b : ℕ) → (a == k) ≡ false → (b == k) ≡ true → (a == b) ≡ false
          apart a b away same = grind (arith, nat_tests, away, same)

-- ---- what weighs what
module _ (weighs : ℕ → ℕ → ℕ → ℕ) where
  -- An object's call weighs what its slot, its incarnation and its number do.
  abbrev pub object_weighs : Caller → ℕ
  object_weighs (from.Object slot incarnation number) = weighs slot incarnation number
  object_weighs (from.Request line number) = 0

  abbrev pub event_weighs : ℕ × Event → ℕ
  event_weighs (slot, event.Call caller method args depth at) = object_weighs caller
  event_weighs (slot, event.Answer incarnation number result at) = weighs slot incarnation number
  event_weighs (slot, e) = 0

  abbrev pub sent_weighs : ℕ × Message → ℕ
  sent_weighs (slot, message.Reply to result) = object_weighs to
  sent_weighs (slot, message.Call incarnation number to method args depth) = weighs slot incarnation number
  sent_weighs (slot, message.Fetch incarnation number value) = weighs slot incarnation number

  abbrev pub fetch_weighs : OpenFetch → ℕ
  fetch_weighs f = weighs f.slot f.incarnation f.number

  -- What is given leaves the open fetches numbered; it posts what it takes of these, and this more.
  pub record Goes (s : Switch) (more : ℕ) (given : Given) : Type 0 where
    pub numbered : IsNumbered given.after
    pub balance : sum_by event_weighs given.posts + sum_by fetch_weighs given.after.unanswered ≡ sum_by fetch_weighs s.unanswered + more

  module _ (script : Script) (s : Switch) (numbered : IsNumbered s) where
    pub to_caller : (to : Caller) (result : Result Value Failure) → Goes s (object_weighs to) (answers_to s to result)
    to_caller (from.Request line number) result = record { numbered = numbered; balance = omega arith }
    to_caller (from.Object slot incarnation number) result =
        record { numbered = numbered; balance = omega (arith, sum_by-cons event_weighs (slot, event.Answer incarnation number result s.tick) []) }

    pub of_call : (caller : Caller) (to : Identity) → OfCall script s (Goes s (object_weighs caller)) caller to
    of_call caller to = record {
      refused = λ f _. to_caller caller (Err f);
      posted = λ number slot args depth _ _. record {
        numbered = numbered;
        balance = omega (arith, sum_by-cons event_weighs (slot, event.Call caller number args depth s.tick) []);
      };
      bound = λ number slot args depth _ _. record {
        numbered = numbered;
        balance = omega (
          arith,
          sum_by-cons event_weighs (slot, event.Bind to) ((slot, event.Call caller number args depth s.tick) ∷ []),
          sum_by-cons event_weighs (slot, event.Call caller number args depth s.tick) [],
        );
      };
    }

    ticks_weigh : (moment : ℤ) (slot : ℕ) (objects : List (Option Identity)) → sum_by event_weighs (tick_posts script moment slot objects) ≡ 0
    ticks_weigh moment slot [] = refl
    ticks_weigh moment slot (None ∷ objects) = ticks_weigh moment (suc slot) objects
    ticks_weigh moment slot (Some object ∷ objects) = by_known (is_known script object) (ticks_weigh moment (suc slot) objects)
      where
        by_known : (b : Bool) → sum_by event_weighs (tick_posts script moment (suc slot) objects) ≡ 0
            → sum_by event_weighs (cond b ((slot, event.Tick moment) ∷ tick_posts script moment (suc slot) objects) (tick_posts script moment (suc slot) objects)) ≡ 0
        by_known true rest = omega (arith, rest, sum_by-cons event_weighs (slot, event.Tick moment) (tick_posts script moment (suc slot) objects))
        by_known false rest = rest

    pub line_goes : (l : Line) → Goes s 0 (accepts script s l)
    line_goes l = by_line script s (λ m given. Goes s 0 given) (record {
      calls = λ at number to method args. of_call (from.Request at number) to;
      ticked = λ at moment. record { numbered = numbered; balance = omega (arith, ticks_weigh moment 0 s.objects) };
      refused = λ m number why _. record { numbered = numbered; balance = omega arith };
      closed = λ m k result fetch _ found. record {
        numbered = (
          some_ordered (λ (g : OpenFetch). not (g.k == fetch.k)) s.unanswered numbered.0,
          all_filter (λ (g : OpenFetch). g.k ≤ s.fetches) (λ (g : OpenFetch). not (g.k == fetch.k)) s.unanswered numbered.1,
        );
        balance = omega (
          arith,
          (one_closed fetch_weighs k s.unanswered fetch numbered.0 found).1,
          sum_by-cons event_weighs (fetch.slot, event.Answer fetch.incarnation fetch.number result s.tick) [],
        );
      };
      evicted = λ at slot object _ _. record { numbered = numbered; balance = omega (arith, sum_by-cons event_weighs (slot, event.Evict s.tick) []) };
      unknown = λ at object. record { numbered = numbered; balance = omega arith };
    }) l

    -- a fetch is open then
    pub fetch_goes : (slot incarnation number : ℕ) (value : Value) (object : Identity)
        → Goes s (weighs slot incarnation number) (fetches_from s slot incarnation number value object)
    fetch_goes slot incarnation number value object =
        let fetch : OpenFetch = record { k = s.fetches + 1; slot = slot; incarnation = incarnation; number = number } in record {
          numbered = (
            next_ordered s.fetches s.unanswered fetch numbered.1 (omega arith) numbered.0,
            all_append (λ (g : OpenFetch). g.k ≤ s.fetches + 1) s.unanswered (fetch ∷ []) (more_below s.fetches (s.fetches + 1) s.unanswered (omega arith) numbered.1)
                (omega arith, tt),
          );
          balance = omega (arith, sum_by_push fetch_weighs s.unanswered fetch);
        }

    message_goes : (sent : ℕ × Message) → IsFit s sent → Goes s (sent_weighs sent) (routes script s sent)
    message_goes sent fit = at_object sent.0 sent.1 (object_at s sent.0) fit.comes fit.replies
      where
        at_fit : (slot : ℕ) (to : Caller) (result : Result Value Failure) (b : Bool) → b ≡ true
            → Goes s (sent_weighs (slot, message.Reply to result)) (cond b (answers_to s to result) (gives_nothing s))
        at_fit slot to result true is = to_caller to result
        at_fit slot to result false is = absurd (true≢false (sym is))

        at_object : (slot : ℕ) (m : Message) (object : Option Identity) → is_some object ≡ true → replies_fit s m ≡ true
            → Goes s (sent_weighs (slot, m)) (routes_from script s slot m object)
        at_object slot m None comes replies = absurd (true≢false (sym comes))
        at_object slot (message.Reply to result) (Some object) comes replies = at_fit slot to result (is_fit s to) replies
        at_object slot (message.Call incarnation number to method args depth) (Some object) comes replies =
            by_call script s (Goes s (weighs slot incarnation number)) (from.Object slot incarnation number) to method args depth
            (of_call (from.Object slot incarnation number) to)
        at_object slot (message.Fetch incarnation number value) (Some object) comes replies = fetch_goes slot incarnation number value object

  -- What a run has posted to objects, with the fetches that are open, is what it has routed.
  pub record IsEven (log : SwitchLog) (s : Switch) : Type 0 where
    pub numbered : IsNumbered s
    pub balance : sum_by event_weighs log.posts + sum_by fetch_weighs s.unanswered ≡ sum_by sent_weighs log.routed

  pub is_even : (script : Script) (named : List (Option Identity)) (log : SwitchLog) (s : Switch) → IsFitRun script (opened named) log s → IsEven log s
  is_even script named _ _ begins = record { numbered = (tt, tt); balance = refl }
  is_even script named _ _ (accepted log s l run) =
      let even = is_even script named log s run in
      let step = line_goes script s even.numbered l in record {
        numbered = step.numbered;
        balance = omega (arith, even.balance, step.balance, sum_by-append event_weighs log.posts (accepts script s l).posts);
      }
  is_even script named _ _ (routed log s sent fit run) =
      let even = is_even script named log s run in
      let step = message_goes script s even.numbered sent fit in record {
        numbered = step.numbered;
        balance = omega (
          arith,
          even.balance,
          step.balance,
          sum_by-append event_weighs log.posts (routes script s sent).posts,
          sum_by_push sent_weighs log.routed sent,
        );
      }

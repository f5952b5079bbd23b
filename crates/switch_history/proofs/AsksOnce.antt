-- A call or a fetch that was routed once got one answer, or it is a call that is left, or a fetch that is open.
use Rattle.std.proofs.Common.{◌≡◌, ◌≤◌, ◌<◌, ◌∙◌, ℕ, zero, suc, ◌+◌, List, [], ◌∷◌, length, map, cond, Option, Err, true, false, refl, sym, ap, subst, arith}
use Rattle.std.specs.Prelude.{Bool, Result, ◌==◌, ◌&&◌, nat_lt}
use Rattle.std.specs.List.{filter, flat_map, sum_by}
use Rattle.std.proofs.lemmas.Bool.Decides.{nat_tests}
use Rattle.std.proofs.lemmas.List.Sums.{sum_by-append, sum_by-cons, sum_by_push}
use Rattle.do_value.specs.declared.value.Value.{Value}
use Rattle.do_tree.specs.Tree.{Script}
use Rattle.mailbox.specs.Posting.{of_slot}
use Rattle.object_messages.proofs.Counts.{times-append, times-flat_map, times_of-append}
use Rattle.object_messages.specs.Naming.{answered_by, answered_in, asked_by, asked_in, fetched_by, fetched_in, replied_by, times, times_of}
use Rattle.timeline.specs.Finish.{is_fetch_of}
use Rattle.timeline.specs.Lines.{Identity, Line}
use Rattle.timeline.specs.Replies.{caller_of}
use Rattle.timeline.specs.Switch.{OpenFetch, Switch, SwitchLog, opened, accepts, answers_to, routes}
use Rattle.timeline.specs.declared.caller.Caller.{Caller}
use Rattle.timeline.specs.declared.caller.Caller.TheVariants as from
use Rattle.timeline.specs.declared.caller.Failure.{Failure}
use Rattle.timeline.specs.declared.event.Event.{Event}
use Rattle.timeline.specs.declared.event.Event.TheVariants as event
use Rattle.timeline.specs.declared.message.Message.{Message}
use Rattle.timeline.specs.declared.message.Message.TheVariants as message
use Rattle.timeline.specs.declared.notice.Waits.{Waits}
use Rattle.switch_history.specs.Asks.{AsksAreAnsweredOnce, open_of, who_waits}
use Rattle.switch_history.specs.Fit.{IsFitRun, begins, accepted, routed}
use Rattle.switch_history.proofs.Asks.{event_weighs, fetch_weighs, is_even, object_weighs, sent_weighs}
use Rattle.switch_history.proofs.Balanced.{message_weighs, post_weighs, ticks_weigh_none}
use Rattle.switch_history.proofs.Cases.{by_line, by_message}
use Rattle.switch_history.proofs.Inside.{served_all}
use Rattle.switch_history.proofs.Once.{who, who_calls}
use Rattle.switch_history.proofs.Slots.{is_other, is_own, own}

-- ---- what the items of all slots weigh is what those of each do
module _ {X : Type 0} (weighs : X → ℕ) where
  -- those of the slots below one
  abbrev pub below : ℕ → List (ℕ × X) → ℕ
  below n items = sum_by (λ (item : ℕ × X). cond (nat_lt item.0 n) (weighs item.1) 0) items

  pub below_none : (items : List (ℕ × X)) → below 0 items ≡ 0
  below_none [] = refl
  below_none (item ∷ items) =
      omega (arith, below_none items, sum_by-cons (λ (i : ℕ × X). cond (nat_lt i.0 0) (weighs i.1) 0) item items, none_less item.0 (weighs item.1))
    where
      none_less : (k v : ℕ) → cond (nat_lt k 0) v 0 ≡ 0
      none_less k v = grind (arith, nat_tests)

  pub below_more : (n : ℕ) (items : List (ℕ × X)) → below (suc n) items ≡ below n items + sum_by weighs (of_slot n items)
  below_more n [] = refl
  below_more n (item ∷ items) =
      omega (
        arith,
        below_more n items,
        sum_by-cons (λ (i : ℕ × X). cond (nat_lt i.0 (suc n)) (weighs i.1) 0) item items,
        sum_by-cons (λ (i : ℕ × X). cond (nat_lt i.0 n) (weighs i.1) 0) item items,
        by_slot (item.0 == n),
        one_more item.0 (weighs item.1),
      )
    where
      one_more : (k v : ℕ) → cond (nat_lt k (suc n)) v 0 ≡ cond (nat_lt k n) v 0 + cond (k == n) v 0
      one_more k v = grind (arith, nat_tests)

      by_slot : (b : Bool) → sum_by weighs (cond b (item.1 ∷ of_slot n items) (of_slot n items)) ≡ cond b (weighs item.1) 0 + sum_by weighs (of_slot n items)
      by_slot true = sum_by-cons weighs item.1 (of_slot n items)
      by_slot false = omega arith

  pub below_all : (n : ℕ) (items : List (ℕ × X)) → sum_by (λ (item : ℕ × X). item.0 + 1) items ≤ n → below n items ≡ sum_by (λ (item : ℕ × X). weighs item.1) items
  below_all n [] most = refl
  below_all n (item ∷ items) most =
      let sums = sum_by-cons (λ (i : ℕ × X). i.0 + 1) item items in
      omega (
        arith,
        below_all n items (omega (arith, most, sums)),
        sum_by-cons (λ (i : ℕ × X). cond (nat_lt i.0 n) (weighs i.1) 0) item items,
        sum_by-cons (λ (i : ℕ × X). weighs i.1) item items,
        is_less item.0 (weighs item.1) (omega (arith, most, sums)),
      )
    where
      is_less : (k v : ℕ) → k < n → cond (nat_lt k n) v 0 ≡ v
      is_less k v less = grind (arith, nat_tests, less)

  slot_within : (slot : ℕ) (items : List (ℕ × X)) → sum_by weighs (of_slot slot items) ≤ sum_by (λ (item : ℕ × X). weighs item.1) items
  slot_within slot [] = omega arith
  slot_within slot (item ∷ items) = omega (arith, by_slot (item.0 == slot), slot_within slot items, sum_by-cons (λ (i : ℕ × X). weighs i.1) item items)
    where
      by_slot : (b : Bool) → sum_by weighs (cond b (item.1 ∷ of_slot slot items) (of_slot slot items)) ≤ weighs item.1 + sum_by weighs (of_slot slot items)
      by_slot true = omega (arith, sum_by-cons weighs item.1 (of_slot slot items))
      by_slot false = omega arith

-- two lists weigh what a third does, where they do slot by slot
module _ {X Y Z : Type 0} (f : X → ℕ) (g : Y → ℕ) (h : Z → ℕ) (xs : List (ℕ × X)) (ys : List (ℕ × Y)) (zs : List (ℕ × Z))
    (each : (slot : ℕ) → sum_by f (of_slot slot xs) + sum_by g (of_slot slot ys) ≡ sum_by h (of_slot slot zs)) where
  same_below : (n : ℕ) → below f n xs + below g n ys ≡ below h n zs
  same_below zero = omega (arith, below_none f xs, below_none g ys, below_none h zs)
  same_below (suc n) = omega (arith, same_below n, each n, below_more f n xs, below_more g n ys, below_more h n zs)

  same_total : sum_by (λ (x : ℕ × X). f x.1) xs + sum_by (λ (y : ℕ × Y). g y.1) ys ≡ sum_by (λ (z : ℕ × Z). h z.1) zs
  same_total =
      let n : ℕ = sum_by (λ (x : ℕ × X). x.0 + 1) xs + (sum_by (λ (y : ℕ × Y). y.0 + 1) ys + sum_by (λ (z : ℕ × Z). z.0 + 1) zs) in
      omega (
        arith,
        same_below n,
        below_all f n xs (omega arith),
        below_all g n ys (omega arith),
        below_all h n zs (omega arith),
      )

-- ---- calls that are posted were routed
module _ (weighs : ℕ → ℕ → ℕ → ℕ) where
  abbrev pub by_object : Caller → ℕ
  by_object = object_weighs weighs

  abbrev pub asked_weighs : ℕ × Message → ℕ
  asked_weighs (slot, message.Reply to result) = 0
  asked_weighs (slot, message.Call incarnation number to method args depth) = weighs slot incarnation number
  asked_weighs (slot, message.Fetch incarnation number value) = weighs slot incarnation number

  -- of these the calls, and the fetches
  abbrev pub call_weighs : ℕ × Message → ℕ
  call_weighs (slot, message.Call incarnation number to method args depth) = weighs slot incarnation number
  call_weighs (slot, m) = 0

  abbrev pub open_weighs : ℕ × Message → ℕ
  open_weighs (slot, message.Fetch incarnation number value) = weighs slot incarnation number
  open_weighs (slot, m) = 0

  abbrev pub answer_weighs : ℕ × Event → ℕ
  answer_weighs (slot, event.Answer incarnation number result at) = weighs slot incarnation number
  answer_weighs (slot, e) = 0

  line_calls : (script : Script) (s : Switch) (l : Line) → sum_by (post_weighs by_object) (accepts script s l).posts ≡ 0
  line_calls script s l = by_line script s (λ m given. sum_by (post_weighs by_object) given.posts ≡ 0) (record {
    calls = λ at number to method args. record {
      refused = λ f _. refl;
      posted = λ place slot values depth _ _. omega arith;
      bound = λ place slot values depth _ _. omega arith;
    };
    ticked = λ at moment. ticks_weigh_none by_object script moment 0 s.objects;
    refused = λ m number why _. refl;
    closed = λ m k result fetch _ _. omega arith;
    evicted = λ at slot object _ _. omega arith;
    unknown = λ at object. refl;
  }) l

  answer_calls : (s : Switch) (to : Caller) (result : Result Value Failure) → sum_by (post_weighs by_object) (answers_to s to result).posts ≡ 0
  answer_calls s (from.Request line number) result = refl
  answer_calls s (from.Object slot incarnation number) result = omega arith

  message_calls : (script : Script) (s : Switch) (sent : ℕ × Message) → sum_by (post_weighs by_object) (routes script s sent).posts ≤ call_weighs sent
  message_calls script s sent = by_message script s (λ m given. sum_by (post_weighs by_object) given.posts ≤ call_weighs m) (record {
    nothing = λ m. omega arith;
    replied = λ slot to result _. omega (arith, answer_calls s to result);
    called = λ slot incarnation number to object method args depth _. record {
      refused = λ f _. omega (arith, answer_calls s (from.Object slot incarnation number) (Err f));
      posted = λ place other values deep _ _. omega arith;
      bound = λ place other values deep _ _. omega arith;
    };
    fetched = λ slot incarnation number value object _. omega arith;
  }) sent

  pub run_calls : (script : Script) (named : List (Option Identity)) (log : SwitchLog) (s : Switch) → IsFitRun script (opened named) log s
      → sum_by (post_weighs by_object) log.posts ≤ sum_by call_weighs log.routed
  run_calls script named _ _ begins = omega arith
  run_calls script named _ _ (accepted log s l run) =
      omega (arith, run_calls script named log s run, line_calls script s l, sum_by-append (post_weighs by_object) log.posts (accepts script s l).posts)
  run_calls script named _ _ (routed log s sent fit run) =
      omega (
        arith,
        run_calls script named log s run,
        message_calls script s sent,
        sum_by-append (post_weighs by_object) log.posts (routes script s sent).posts,
        sum_by_push call_weighs log.routed sent,
      )

  -- what asks is a call or a fetch
  one_asks : (sent : ℕ × Message) → asked_weighs sent ≡ call_weighs sent + open_weighs sent
  one_asks (slot, message.Reply to result) = refl
  one_asks (slot, message.Call incarnation number to method args depth) = omega arith
  one_asks (slot, message.Fetch incarnation number value) = omega arith

  -- so do all that ask
  pub all_asks : (sent : List (ℕ × Message)) → sum_by asked_weighs sent ≡ sum_by call_weighs sent + sum_by open_weighs sent
  all_asks [] = refl
  all_asks (m ∷ sent) =
      omega (arith, all_asks sent, one_asks m, sum_by-cons asked_weighs m sent, sum_by-cons call_weighs m sent, sum_by-cons open_weighs m sent)

  -- an event is a call or an answer or neither, and a message asks or replies
  one_event : (post : ℕ × Event) → event_weighs weighs post ≡ answer_weighs post + post_weighs by_object post
  one_event (slot, event.Call caller method args depth at) = omega arith
  one_event (slot, event.Answer incarnation number result at) = omega arith
  one_event (slot, event.Bind identity) = refl
  one_event (slot, event.Tick at) = refl
  one_event (slot, event.Evict at) = refl

  pub all_events : (posts : List (ℕ × Event)) → sum_by (event_weighs weighs) posts ≡ sum_by answer_weighs posts + sum_by (post_weighs by_object) posts
  all_events [] = refl
  all_events (post ∷ posts) =
      omega (
        arith,
        all_events posts,
        one_event post,
        sum_by-cons (event_weighs weighs) post posts,
        sum_by-cons answer_weighs post posts,
        sum_by-cons (post_weighs by_object) post posts,
      )

  one_message : (sent : ℕ × Message) → sent_weighs weighs sent ≡ asked_weighs sent + message_weighs by_object sent
  one_message (slot, message.Reply to result) = omega arith
  one_message (slot, message.Call incarnation number to method args depth) = omega arith
  one_message (slot, message.Fetch incarnation number value) = omega arith

  pub all_messages : (sent : List (ℕ × Message)) → sum_by (sent_weighs weighs) sent ≡ sum_by asked_weighs sent + sum_by (message_weighs by_object) sent
  all_messages [] = refl
  all_messages (m ∷ sent) =
      omega (
        arith,
        all_messages sent,
        one_message m,
        sum_by-cons (sent_weighs weighs) m sent,
        sum_by-cons asked_weighs m sent,
        sum_by-cons (message_weighs by_object) m sent,
      )

-- ---- one call or fetch of one slot
flip : (a b : ℕ) → (a == b) ≡ (b == a)
flip a b = by_same (a == b) refl
  where
    by_same : (c : Bool) → (a == b) ≡ c → (a == b) ≡ (b == a)
    by_same true same = same ∙ sym (subst (λ (k : ℕ). (k == a) ≡ true) (own a b same) (is_own a))
    by_same false other = other ∙ sym (is_other b a (λ e. let so : (a == b) ≡ true = subst (λ (k : ℕ). (a == k) ≡ true) (sym e) (is_own a) in absurd (cc (so, other))))

module _ (slot : ℕ) (asked : ℕ × ℕ) where
  abbrev pub caller : Caller
  caller = from.Object slot asked.0 asked.1

  -- It counts once.
  abbrev pub is_it : ℕ → ℕ → ℕ → ℕ
  is_it other incarnation number = cond (other == slot && incarnation == asked.0 && number == asked.1) 1 0

  caller_counts : (x : Caller) → object_weighs is_it x ≡ times caller (x ∷ [])
  caller_counts (from.Request line number) = refl
  caller_counts (from.Object other incarnation number) =
      by_tests (other == slot) (incarnation == asked.0) (number == asked.1) (slot == other) (asked.0 == incarnation) (asked.1 == number)
      (flip other slot) (flip incarnation asked.0) (flip number asked.1)
    where
      by_tests : (a b c d e f : Bool) → a ≡ d → b ≡ e → c ≡ f
          → cond (a && b && c) 1 0 ≡ length {A = Caller} (cond (d && e && f) (from.Object other incarnation number ∷ []) [])
      by_tests true true true d e f one two three = rw (sym one) (rw (sym two) (rw (sym three) refl))
      by_tests true true false d e f one two three = rw (sym one) (rw (sym two) (rw (sym three) refl))
      by_tests true false c d e f one two three = rw (sym one) (rw (sym two) refl)
      by_tests false b c d e f one two three = rw (sym one) refl

  callers_count : (xs : List Caller) → sum_by (object_weighs is_it) xs ≡ times caller xs
  callers_count [] = refl
  callers_count (x ∷ xs) = omega (arith, callers_count xs, caller_counts x, times-append caller (x ∷ []) xs, sum_by-cons (object_weighs is_it) x xs)

  -- what items name that weigh by slot and numbers
  module _ {X : Type 0} (names : X → List (ℕ × ℕ)) (weighs : ℕ × X → ℕ)
      (here : (x : X) → weighs (slot, x) ≡ times_of asked (names x)) (away : (other : ℕ) (x : X) → (other == slot) ≡ false → weighs (other, x) ≡ 0) where
    items_count : (items : List (ℕ × X)) → sum_by weighs items ≡ times_of asked (flat_map names (of_slot slot items))
    items_count [] = refl
    items_count (item ∷ items) = by_slot (item.0 == slot) refl (items_count items)
      where
        by_slot : (b : Bool) → (item.0 == slot) ≡ b → sum_by weighs items ≡ times_of asked (flat_map names (of_slot slot items))
            → sum_by weighs (item ∷ items) ≡ times_of asked (flat_map names (cond b (item.1 ∷ of_slot slot items) (of_slot slot items)))
        by_slot true same rest =
            omega (
              arith,
              rest,
              sum_by-cons weighs item items,
              subst (λ (n : ℕ). weighs (n, item.1) ≡ times_of asked (names item.1)) (sym (own item.0 slot same)) (here item.1),
              times_of-append asked (names item.1) (flat_map names (of_slot slot items)),
            )
        by_slot false other rest = omega (arith, rest, sum_by-cons weighs item items, away item.0 item.1 other)

  one_here : (incarnation number : ℕ) → is_it slot incarnation number ≡ times_of asked ((incarnation, number) ∷ [])
  one_here incarnation number = by_tests (slot == slot) (incarnation == asked.0) (number == asked.1) (is_own slot)
    where
      by_tests : (a b c : Bool) → a ≡ true → cond (a && b && c) 1 0 ≡ length {A = ℕ × ℕ} (cond (b && c) ((incarnation, number) ∷ []) [])
      by_tests true true true is = refl
      by_tests true true false is = refl
      by_tests true false c is = refl
      by_tests false b c is = cc

  one_away : (other incarnation number : ℕ) → (other == slot) ≡ false → is_it other incarnation number ≡ 0
  one_away other incarnation number is = by_tests (other == slot) (incarnation == asked.0) (number == asked.1) is
    where
      by_tests : (a b c : Bool) → a ≡ false → cond {A = ℕ} (a && b && c) 1 0 ≡ 0
      by_tests true b c is = cc
      by_tests false b c is = refl

  pub answers_count : (posts : List (ℕ × Event)) → sum_by (answer_weighs is_it) posts ≡ times_of asked (answered_in (of_slot slot posts))
  answers_count = items_count answered_by (answer_weighs is_it) here away
    where
      here : (e : Event) → answer_weighs is_it (slot, e) ≡ times_of asked (answered_by e)
      here (event.Answer incarnation number result at) = one_here incarnation number
      here (event.Call by method args depth at) = refl
      here (event.Bind identity) = refl
      here (event.Tick at) = refl
      here (event.Evict at) = refl

      away : (other : ℕ) (e : Event) → (other == slot) ≡ false → answer_weighs is_it (other, e) ≡ 0
      away other (event.Answer incarnation number result at) is = one_away other incarnation number is
      away other (event.Call by method args depth at) is = refl
      away other (event.Bind identity) is = refl
      away other (event.Tick at) is = refl
      away other (event.Evict at) is = refl

  pub asks_count : (sent : List (ℕ × Message)) → sum_by (asked_weighs is_it) sent ≡ times_of asked (asked_in (of_slot slot sent))
  asks_count = items_count asked_by (asked_weighs is_it) here away
    where
      here : (m : Message) → asked_weighs is_it (slot, m) ≡ times_of asked (asked_by m)
      here (message.Reply to result) = refl
      here (message.Call incarnation number to method args depth) = one_here incarnation number
      here (message.Fetch incarnation number value) = one_here incarnation number

      away : (other : ℕ) (m : Message) → (other == slot) ≡ false → asked_weighs is_it (other, m) ≡ 0
      away other (message.Reply to result) is = refl
      away other (message.Call incarnation number to method args depth) is = one_away other incarnation number is
      away other (message.Fetch incarnation number value) is = one_away other incarnation number is

  -- of these the fetches
  pub fetches_count : (sent : List (ℕ × Message)) → sum_by (open_weighs is_it) sent ≡ times_of asked (fetched_in (of_slot slot sent))
  fetches_count = items_count fetched_by (open_weighs is_it) here away
    where
      here : (m : Message) → open_weighs is_it (slot, m) ≡ times_of asked (fetched_by m)
      here (message.Reply to result) = refl
      here (message.Call incarnation number to method args depth) = refl
      here (message.Fetch incarnation number value) = one_here incarnation number

      away : (other : ℕ) (m : Message) → (other == slot) ≡ false → open_weighs is_it (other, m) ≡ 0
      away other (message.Reply to result) is = refl
      away other (message.Call incarnation number to method args depth) is = refl
      away other (message.Fetch incarnation number value) is = one_away other incarnation number is

  pub open_count : (fetches : List OpenFetch) → sum_by (fetch_weighs is_it) fetches ≡ open_of slot asked fetches
  open_count [] = refl
  open_count (f ∷ fetches) =
      omega (arith, open_count fetches, sum_by-cons (fetch_weighs is_it) f fetches, by_test (is_fetch_of slot asked.0 asked.1 f))
    where
      by_test : (b : Bool) → length (cond b (f ∷ filter (is_fetch_of slot asked.0 asked.1) fetches) (filter (is_fetch_of slot asked.0 asked.1) fetches))
          ≡ cond b 1 0 + length (filter (is_fetch_of slot asked.0 asked.1) fetches)
      by_test true = omega arith
      by_test false = omega arith

  left_count : (left : List (ℕ × Caller × Waits))
      → sum_by (λ (item : ℕ × (Caller × Waits)). times caller (who item.1)) (map (λ (item : ℕ × Caller × Waits). (item.0, (item.1, item.2))) left)
      ≡ times caller (who_waits left)
  left_count [] = refl
  left_count (item ∷ left) =
      omega (
        arith,
        left_count left,
        sum_by-cons (λ (i : ℕ × (Caller × Waits)). times caller (who i.1)) (item.0, (item.1, item.2))
            (map (λ (i : ℕ × Caller × Waits). (i.0, (i.1, i.2))) left),
        times-append caller (item.1 ∷ []) (who_waits left),
      )

  pub calls_count : (posts : List (ℕ × Event)) → sum_by (post_weighs (object_weighs is_it)) posts ≡ sum_by (λ (post : ℕ × Event). times caller (caller_of post.1)) posts
  calls_count [] = refl
  calls_count (post ∷ posts) =
      omega (
        arith,
        calls_count posts,
        callers_count (caller_of post.1),
        sum_by-cons (post_weighs (object_weighs is_it)) post posts,
        sum_by-cons (λ (p : ℕ × Event). times caller (caller_of p.1)) post posts,
      )

  pub replies_count : (sent : List (ℕ × Message))
      → sum_by (message_weighs (object_weighs is_it)) sent ≡ sum_by (λ (m : ℕ × Message). times caller (replied_by m.1)) sent
  replies_count [] = refl
  replies_count (m ∷ sent) =
      omega (
        arith,
        replies_count sent,
        callers_count (replied_by m.1),
        sum_by-cons (message_weighs (object_weighs is_it)) m sent,
        sum_by-cons (λ (n : ℕ × Message). times caller (replied_by n.1)) m sent,
      )

-- so it got one answer, or is left, or is open
pub asked_once : AsksAreAnsweredOnce
asked_once script named log s left run of_slots served_within slot asked once =
    let c : Caller = caller slot asked in
    let items : List (ℕ × (Caller × Waits)) = map (λ (item : ℕ × Caller × Waits). (item.0, (item.1, item.2))) left in
    let few : sum_by (post_weighs (object_weighs (is_it slot asked))) log.posts ≤ 1 =
    omega (
      arith,
      run_calls (is_it slot asked) script named log s run,
      all_asks (is_it slot asked) log.routed,
      asks_count slot asked log.routed,
      once,
    ) in
    let each : (u : ℕ) → sum_by (λ (m : Message). times c (replied_by m)) (of_slot u log.routed) + sum_by (λ (i : Caller × Waits). times c (who i)) (of_slot u items)
    ≡ sum_by (λ (e : Event). times c (caller_of e)) (of_slot u log.posts) = λ u.
    omega (
      arith,
      (served_all script named log s left run of_slots served_within u).exact c
          (omega (arith, times-flat_map c caller_of (of_slot u log.posts), slot_within (λ (e : Event). times c (caller_of e)) u log.posts, calls_count slot asked log.posts, few)),
      times-flat_map c replied_by (of_slot u log.routed),
      times-flat_map c caller_of (of_slot u log.posts),
      times-flat_map c who (of_slot u items),
      ap (times c) (who_calls (of_slot u items)),
    ) in
    omega (
      arith,
      same_total (λ (m : Message). times c (replied_by m)) (λ (i : Caller × Waits). times c (who i)) (λ (e : Event). times c (caller_of e)) log.routed items log.posts each,
      (is_even (is_it slot asked) script named log s run).balance,
      all_events (is_it slot asked) log.posts,
      all_messages (is_it slot asked) log.routed,
      answers_count slot asked log.posts,
      asks_count slot asked log.routed,
      open_count slot asked s.unanswered,
      left_count slot asked left,
      calls_count slot asked log.posts,
      replies_count slot asked log.routed,
    )

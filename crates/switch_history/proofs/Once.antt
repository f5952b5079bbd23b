-- Each accepted call has one line, or is left.
use Rattle.std.proofs.Common.{◌≡◌, ◌≤◌, ◌<◌, ◌∙◌, inl, inr, ℕ, ◌+◌, ℤ, List, [], ◌∷◌, ◌++◌, length, map, cond, Option, Err, true, false, refl, sym, ap, subst, arith, length-append}
use Rattle.std.specs.Prelude.{Bool, Result, ◌==◌, ◌&&◌}
use Rattle.std.specs.List.{AllByRecursion, Contains, filter, flat_map, sum_by}
use Rattle.std.proofs.lemmas.Bool.Decides.{nat_tests}
use Rattle.std.proofs.lemmas.List.Elements.{Contains-append_cases, Contains-append_left, Contains-append_right, filter-append}
use Rattle.std.proofs.lemmas.List.Sums.{sum_by-append, sum_by-cons, sum_by_push}
use Rattle.do_value.specs.declared.value.Value.{Value}
use Rattle.do_tree.specs.Tree.{Script}
use Rattle.mailbox.specs.Posting.{of_slot}
use Rattle.object_messages.specs.Exact.{IsServedOnce, callers}
use Rattle.object_messages.specs.Naming.{called_in, replied_by, replied_in, times}
use Rattle.timeline.specs.Lines.{Identity, Line}
use Rattle.timeline.specs.Replies.{caller_of}
use Rattle.timeline.specs.Switch.{Switch, SwitchLog, opened, accepts, answers_to, routes}
use Rattle.timeline.specs.declared.caller.Caller.{Caller}
use Rattle.timeline.specs.declared.caller.Caller.TheVariants as from
use Rattle.timeline.specs.declared.caller.Failure.{Failure}
use Rattle.timeline.specs.declared.message.Message.{Message}
use Rattle.timeline.specs.declared.notice.Waits.{Waits}
use Rattle.switch_history.specs.Answering.{AreInOrder, AreOfSlots, AreServedOnce, CallsAreAnsweredOnce, answer_in, call_in, left_of_slot, many, request_of, requests_left}
use Rattle.switch_history.specs.Fit.{IsFitRun, begins, accepted, routed}
use Rattle.switch_history.proofs.Balanced.{caller_weighs, is_balanced, message_weighs, post_weighs, request_weighs, ticks_weigh_none}
use Rattle.switch_history.proofs.Cases.{by_line, by_message}
use Rattle.switch_history.proofs.Inside.{served_all}
use Rattle.switch_history.proofs.Keyed.{same_weigh}
use Rattle.switch_history.proofs.Requests.{Request, like, like_itself, requests, requests_alike, requests_have, have_requests, requests_weigh}

-- ---- how many are counted
-- A number counts once or not.
abbrev pub counted : (ℤ → Bool) → ℤ → ℕ
counted counts number = cond (counts number) 1 0

pub many_sum : (counts : ℤ → Bool) (numbers : List ℤ) → many counts numbers ≡ sum_by (counted counts) numbers
many_sum counts [] = refl
many_sum counts (n ∷ numbers) = omega (arith, by_count (counts n), many_sum counts numbers, sum_by-cons (counted counts) n numbers)
  where
    by_count : (b : Bool) → length (cond b (n ∷ filter counts numbers) (filter counts numbers)) ≡ cond b 1 0 + length (filter counts numbers)
    by_count true = omega arith
    by_count false = omega arith

pub sum_flat : {X Y : Type 0} (weighs : Y → ℕ) (names : X → List Y) (xs : List X) → sum_by weighs (flat_map names xs) ≡ sum_by (λ x. sum_by weighs (names x)) xs
sum_flat weighs names [] = refl
sum_flat weighs names (x ∷ xs) =
    omega (
      arith,
      sum_flat weighs names xs,
      sum_by-append weighs (names x) (flat_map names xs),
      sum_by-cons (λ y. sum_by weighs (names y)) x xs,
    )

-- ---- each line's call is posted at most once
module _ (weighs : ℕ → ℕ) where
  -- A request weighs what its line does.
  abbrev by_its_line : Caller → ℕ
  by_its_line = caller_weighs (λ line number. weighs line)

  -- what a line posts weighs no more than it does
  line_posts : (script : Script) (s : Switch) (l : Line) → sum_by (post_weighs by_its_line) (accepts script s l).posts ≤ weighs l.number
  line_posts script s l = by_line script s (λ m given. sum_by (post_weighs by_its_line) given.posts ≤ weighs m.number) (record {
    calls = λ at number to method args. record {
      refused = λ f _. omega arith;
      posted = λ place slot values depth _ _. omega arith;
      bound = λ place slot values depth _ _. omega arith;
    };
    ticked = λ at moment. omega (arith, ticks_weigh_none by_its_line script moment 0 s.objects);
    refused = λ m number why _. omega arith;
    closed = λ m k result fetch _ _. omega arith;
    evicted = λ at slot object _ _. omega arith;
    unknown = λ at object. omega arith;
  }) l

  answer_posts : (s : Switch) (to : Caller) (result : Result Value Failure) → sum_by (post_weighs by_its_line) (answers_to s to result).posts ≡ 0
  answer_posts s (from.Request line number) result = refl
  answer_posts s (from.Object slot incarnation number) result = omega arith

  -- what a message posts is no request
  message_posts : (script : Script) (s : Switch) (sent : ℕ × Message) → sum_by (post_weighs by_its_line) (routes script s sent).posts ≡ 0
  message_posts script s sent = by_message script s (λ m given. sum_by (post_weighs by_its_line) given.posts ≡ 0) (record {
    nothing = λ m. refl;
    replied = λ slot to result _. answer_posts s to result;
    called = λ slot incarnation number to object method args depth _. record {
      refused = λ f _. answer_posts s (from.Object slot incarnation number) (Err f);
      posted = λ place other values deep _ _. omega arith;
      bound = λ place other values deep _ _. omega arith;
    };
    fetched = λ slot incarnation number value object _. refl;
  }) sent

  run_posts : (script : Script) (named : List (Option Identity)) (log : SwitchLog) (s : Switch) → IsFitRun script (opened named) log s
      → sum_by (post_weighs by_its_line) log.posts ≤ sum_by (λ (l : Line). weighs l.number) log.accepted
  run_posts script named _ _ begins = omega arith
  run_posts script named _ _ (accepted log s l run) =
      omega (
        arith,
        run_posts script named log s run,
        line_posts script s l,
        sum_by-append (post_weighs by_its_line) log.posts (accepts script s l).posts,
        sum_by_push (λ (m : Line). weighs m.number) log.accepted l,
      )
  run_posts script named _ _ (routed log s sent fit run) =
      omega (
        arith,
        run_posts script named log s run,
        message_posts script s sent,
        sum_by-append (post_weighs by_its_line) log.posts (routes script s sent).posts,
      )

-- one line has this number, of lines in order
abbrev is_line : ℕ → ℕ → ℕ
is_line line number = cond (line == number) 1 0

not_line : (line number : ℕ) → line < number → is_line line number ≡ 0
not_line line number less = grind (arith, nat_tests)

no_line : (line : ℕ) (lines : List Line) → AllByRecursion (λ (m : Line). line < m.number) lines → sum_by (λ (m : Line). is_line line m.number) lines ≡ 0
no_line line [] all = refl
no_line line (l ∷ lines) all =
    omega (arith, no_line line lines all.1, not_line line l.number all.0, sum_by-cons (λ (m : Line). is_line line m.number) l lines)

one_line : (line : ℕ) (lines : List Line) → AreInOrder lines → sum_by (λ (m : Line). is_line line m.number) lines ≤ 1
one_line line [] order = omega arith
one_line line (l ∷ lines) order = by_first (line == l.number) refl (one_line line lines order.1)
  where
    by_first : (b : Bool) → (line == l.number) ≡ b → sum_by (λ (m : Line). is_line line m.number) lines ≤ 1
        → sum_by (λ (m : Line). is_line line m.number) (l ∷ lines) ≤ 1
    by_first true same rest =
        let here : line ≡ l.number = grind (arith, nat_tests, same) in
        omega (
          arith,
          sum_by-cons (λ (m : Line). is_line line m.number) l lines,
          ap {B = ℕ} (λ (b : Bool). cond b 1 0) same,
          no_line line lines (subst (λ (n : ℕ). AllByRecursion (λ (m : Line). n < m.number) lines) (sym here) order.0),
        )
    by_first false other rest =
        omega (arith, rest, sum_by-cons (λ (m : Line). is_line line m.number) l lines, ap {B = ℕ} (λ (b : Bool). cond b 1 0) other)

-- requests that are alike are of one line
alike_few : (a : Request) (all : List Request) → length (filter (like a) all) ≤ sum_by (λ (b : Request). is_line a.1 b.1) all
alike_few a [] = omega arith
alike_few a (b ∷ all) =
    omega (arith, by_both (a.0 == b.0) (a.1 == b.1), alike_few a all, sum_by-cons (λ (c : Request). is_line a.1 c.1) b all)
  where
    by_both : (own same : Bool) → length (cond (own && same) (b ∷ filter (like a) all) (filter (like a) all)) ≤ cond same 1 0 + length (filter (like a) all)
    by_both true true = omega arith
    by_both true false = omega arith
    by_both false true = omega arith
    by_both false false = omega arith

-- ---- what is left
abbrev with_item : ℕ × Caller × Waits → ℕ × (Caller × Waits)
with_item item = (item.0, (item.1, item.2))

abbrev left_items : List (ℕ × Caller × Waits) → List (ℕ × (Caller × Waits))
left_items left = map (λ (item : ℕ × Caller × Waits). (item.0, (item.1, item.2))) left

abbrev pub who : Caller × Waits → List Caller
who item = item.0 ∷ []

pub who_calls : (items : List (Caller × Waits)) → flat_map who items ≡ callers items
who_calls [] = refl
who_calls (item ∷ items) = ap (λ (rest : List Caller). item.0 ∷ rest) (who_calls items)

left_weighs : (weighs : ℤ → ℕ) (left : List (ℕ × Caller × Waits))
    → sum_by (λ (item : ℕ × (Caller × Waits)). sum_by (request_weighs weighs) (who item.1)) (left_items left) ≡ sum_by weighs (requests_left left)
left_weighs weighs [] = refl
left_weighs weighs (item ∷ left) =
    omega (
      arith,
      left_weighs weighs left,
      one_weighs item.1,
      sum_by-append weighs (request_of item.1) (requests_left left),
      sum_by-cons (λ (i : ℕ × (Caller × Waits)). sum_by (request_weighs weighs) (who i.1)) (item.0, (item.1, item.2)) (left_items left),
    )
  where
    one_weighs : (c : Caller) → sum_by (request_weighs weighs) (c ∷ []) ≡ sum_by weighs (request_of c)
    one_weighs (from.Request line number) = refl
    one_weighs (from.Object slot incarnation number) = refl

-- ---- what is replied and left are the calls that were posted
module _ (script : Script) (named : List (Option Identity)) (log : SwitchLog) (s : Switch) (left : List (ℕ × Caller × Waits))
    (run : IsFitRun script (opened named) log s) (order : AreInOrder log.accepted) (of_slots : AreOfSlots (length named) left)
    (served_within : AreServedOnce (length named) log left) where
  served : (slot : ℕ) → IsServedOnce (called_in (of_slot slot log.posts)) (replied_in (of_slot slot log.routed)) (callers (left_of_slot slot left))
  served = served_all script named log s left run of_slots served_within

  abbrev posted : List Request
  posted = requests caller_of log.posts

  abbrev ended : List Request
  ended = requests replied_by log.routed ++ requests who (left_items left)

  posted_once : (a : Request) → length (filter (like a) posted) ≤ 1
  posted_once a =
      omega (
        arith,
        alike_few a posted,
        requests_weigh caller_of (λ line number. is_line a.1 line) log.posts,
        run_posts (is_line a.1) script named log s run,
        one_line a.1 log.accepted order,
      )

  left_alike : (slot line : ℕ) (number : ℤ)
      → length (filter (like (slot, line, number)) (requests who (left_items left))) ≡ times (from.Request line number) (callers (left_of_slot slot left))
  left_alike slot line number =
      requests_alike who slot line number (left_items left) ∙ ap (times (from.Request line number)) (who_calls (of_slot slot (left_items left)))

  same_alike : (a : Request) → length (filter (like a) ended) ≡ length (filter (like a) posted)
  same_alike a =
      let few : times (from.Request a.1 a.2) (flat_map caller_of (of_slot a.0 log.posts)) ≤ 1 =
      omega (arith, posted_once a, requests_alike caller_of a.0 a.1 a.2 log.posts) in
      omega (
        arith,
        ap (λ (all : List Request). length all) (filter-append (like a) (requests replied_by log.routed) (requests who (left_items left))),
        length-append (filter (like a) (requests replied_by log.routed)) (filter (like a) (requests who (left_items left))),
        requests_alike replied_by a.0 a.1 a.2 log.routed,
        left_alike a.0 a.1 a.2,
        requests_alike caller_of a.0 a.1 a.2 log.posts,
        (served a.0).exact (from.Request a.1 a.2) few,
      )

  all_posted : (a : Request) → Contains ended a → Contains posted a
  all_posted a is =
      let replied = flat_map replied_by (of_slot a.0 log.routed) in
      let remain = callers (left_of_slot a.0 left) in
      elim (Contains-append_cases (requests replied_by log.routed) (requests who (left_items left)) a is) [
        | inl there ↦ requests_have caller_of a.0 a.1 a.2 log.posts ((served a.0).named (from.Request a.1 a.2)
            (Contains-append_left replied remain (from.Request a.1 a.2) (have_requests replied_by a.0 a.1 a.2 log.routed there)))
        | inr there ↦ requests_have caller_of a.0 a.1 a.2 log.posts ((served a.0).named (from.Request a.1 a.2)
            (Contains-append_right replied remain (from.Request a.1 a.2)
            (subst (λ (cs : List Caller). Contains cs (from.Request a.1 a.2)) (who_calls (of_slot a.0 (left_items left)))
            (have_requests who a.0 a.1 a.2 (left_items left) there))))
      ]

  ended_weigh : (weighs : ℤ → ℕ)
      → sum_by (message_weighs (request_weighs weighs)) log.routed + sum_by weighs (requests_left left) ≡ sum_by (post_weighs (request_weighs weighs)) log.posts
  ended_weigh weighs =
      omega (
        arith,
        same_weigh like like_itself (λ a. weighs a.2) posted ended posted_once same_alike all_posted,
        sum_by-append (λ (a : Request). weighs a.2) (requests replied_by log.routed) (requests who (left_items left)),
        requests_weigh replied_by (λ line number. weighs number) log.routed,
        requests_weigh who (λ line number. weighs number) (left_items left),
        requests_weigh caller_of (λ line number. weighs number) log.posts,
        left_weighs weighs left,
      )

-- so each accepted call has one line, or is left
pub answered_once : CallsAreAnsweredOnce
answered_once script named log s left run order of_slots served counts =
    let weighs = counted counts in
    omega (
      arith,
      many_sum counts (flat_map answer_in log.lines),
      sum_flat weighs answer_in log.lines,
      many_sum counts (requests_left left),
      many_sum counts (flat_map (λ (l : Line). call_in l.body) log.accepted),
      sum_flat weighs (λ (l : Line). call_in l.body) log.accepted,
      is_balanced weighs script named log s run,
      ended_weigh script named log s left run order of_slots served weighs,
    )

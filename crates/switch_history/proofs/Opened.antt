-- A fetch that was routed and got no answer is open.
use Rattle.std.proofs.Common.{◌≡◌, ◌≤◌, ℕ, inl, inr, List, [], ◌∷◌, length, cond, Some, true, false, refl, sym, subst, arith}
use Rattle.std.specs.Prelude.{Bool, is_some, ◌==◌, ◌&&◌}
use Rattle.std.specs.List.{Contains, filter, find}
use Rattle.std.proofs.lemmas.List.Elements.{Contains-append_cases}
use Rattle.mailbox.specs.Posting.{of_slot}
use Rattle.object_messages.proofs.Counts.{times_of-append}
use Rattle.object_messages.specs.Naming.{fetched_in, same_numbers, times_of}
use Rattle.timeline.specs.Finish.{is_fetch_of}
use Rattle.switch_history.specs.Opened.{FetchesAreOpen}
use Rattle.switch_history.proofs.Asks.{is_even}
use Rattle.switch_history.proofs.AsksOnce.{all_asks, all_events, all_messages, answers_count, fetches_count, is_it, open_count, run_calls}
use Rattle.switch_history.proofs.Slots.{is_own, nothing_in, one_in}

-- What stands first counts.
first_counts : (asked : ℕ × ℕ) (others : List (ℕ × ℕ)) → 1 ≤ times_of asked (asked ∷ others)
first_counts asked others = by_both (asked.0 == asked.0) (asked.1 == asked.1) (is_own asked.0) (is_own asked.1)
  where
    by_both : (a b : Bool) → a ≡ true → b ≡ true
        → 1 ≤ length (cond (a && b) (asked ∷ filter (same_numbers asked) others) (filter (same_numbers asked) others))
    by_both true true is same = omega arith
    by_both true false is same = cc
    by_both false b is same = cc

-- What stands there counts.
there_counts : (asked : ℕ × ℕ) (all : List (ℕ × ℕ)) → Contains all asked → 1 ≤ times_of asked all
there_counts asked [] is = nothing_in asked is
there_counts asked (x ∷ all) is =
    elim (Contains-append_cases (x ∷ []) all asked is) [
      | inl first ↦ subst (λ (y : ℕ × ℕ). 1 ≤ times_of asked (y ∷ all)) (sym (one_in x asked first)) (first_counts asked all)
      | inr later ↦ omega (arith, there_counts asked all later, times_of-append asked (x ∷ []) all)
    ]

-- Where some pass a test one is found.
some_found : {X : Type 0} (test : X → Bool) (xs : List X) → 1 ≤ length (filter test xs) → is_some (find test xs) ≡ true
some_found test [] some = absurd (omega (arith, some))
some_found {X} test (x ∷ xs) some = by_first (test x) some (some_found test xs)
  where
    by_first : (b : Bool) → 1 ≤ length (cond b (x ∷ filter test xs) (filter test xs)) → (1 ≤ length (filter test xs) → is_some (find test xs) ≡ true)
        → is_some (cond b (Some x) (find test xs)) ≡ true
    by_first true more rest = refl
    by_first false more rest = rest more

-- So it is open: the calls that are posted are no more than those that were routed, and its answer isn't there.
pub fetches_open : FetchesAreOpen
fetches_open script named log s run slot asked there none =
    some_found (is_fetch_of slot asked.0 asked.1) s.unanswered
    (omega (
      arith,
      none,
      there_counts asked (fetched_in (of_slot slot log.routed)) there,
      (is_even (is_it slot asked) script named log s run).balance,
      run_calls (is_it slot asked) script named log s run,
      all_events (is_it slot asked) log.posts,
      all_messages (is_it slot asked) log.routed,
      all_asks (is_it slot asked) log.routed,
      answers_count slot asked log.posts,
      fetches_count slot asked log.routed,
      open_count slot asked s.unanswered,
    ))

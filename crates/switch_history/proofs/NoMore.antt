-- Nobody is answered more often than he asked, where nobody is replied to more often than he called.
use Rattle.std.proofs.Common.{◌≤◌, ℕ, zero, suc, ◌+◌, List, Option, arith}
use Rattle.std.specs.List.{sum_by}
use Rattle.std.proofs.lemmas.List.Sums.{sum_by-append, sum_by_push}
use Rattle.do_tree.specs.Tree.{Script}
use Rattle.mailbox.specs.Posting.{of_slot}
use Rattle.object_messages.proofs.Counts.{times-flat_map}
use Rattle.object_messages.specs.Naming.{replied_by, times}
use Rattle.timeline.specs.Lines.{Identity}
use Rattle.timeline.specs.Replies.{caller_of}
use Rattle.timeline.specs.Switch.{Given, IsSwitchRun, Switch, SwitchLog, accepted as after_line, accepts, begins, opened, routed as after_message, routes}
use Rattle.timeline.specs.declared.caller.Caller.{Caller}
use Rattle.timeline.specs.declared.caller.Caller.TheVariants as from
use Rattle.timeline.specs.declared.event.Event.{Event}
use Rattle.timeline.specs.declared.message.Message.{Message}
use Rattle.switch_history.specs.AskedOnce.{AnswersAreNoMoreThanAsks}
use Rattle.switch_history.proofs.Asks.{Goes, IsNumbered, event_weighs, fetch_goes, fetch_weighs, line_goes, of_call, sent_weighs, to_caller}
use Rattle.switch_history.proofs.AsksOnce.{all_events, all_messages, answers_count, asks_count, below, below_all, below_more, below_none, calls_count, caller, is_it, replies_count}
use Rattle.switch_history.proofs.Cases.{OfMessage, by_message}

-- A list weighs no more than another, where it does so slot by slot.
module _ {X Y : Type 0} (f : X → ℕ) (g : Y → ℕ) (xs : List (ℕ × X)) (ys : List (ℕ × Y))
    (each : (slot : ℕ) → sum_by f (of_slot slot xs) ≤ sum_by g (of_slot slot ys)) where
  -- so do the items of the slots below one,
  less_below : (n : ℕ) → below f n xs ≤ below g n ys
  less_below zero = omega (arith, below_none f xs)
  less_below (suc n) = omega (arith, less_below n, each n, below_more f n xs, below_more g n ys)

  -- and all items
  less_total : sum_by (λ (x : ℕ × X). f x.1) xs ≤ sum_by (λ (y : ℕ × Y). g y.1) ys
  less_total =
      let n : ℕ = sum_by (λ (x : ℕ × X). x.0 + 1) xs + sum_by (λ (y : ℕ × Y). y.0 + 1) ys in
      omega (arith, less_below n, below_all f n xs (omega arith), below_all g n ys (omega arith))

-- ---- what is posted is no more than what is routed
module _ (weighs : ℕ → ℕ → ℕ → ℕ) where
  -- What is given leaves the open fetches numbered; it posts at most what it takes of these, and this more.
  record Adds (s : Switch) (more : ℕ) (given : Given) : Type 0 where
    numbered : IsNumbered given.after
    most : sum_by (event_weighs weighs) given.posts + sum_by (fetch_weighs weighs) given.after.unanswered ≤ sum_by (fetch_weighs weighs) s.unanswered + more

  -- what goes so exactly does
  goes_adds : (s : Switch) (more : ℕ) (given : Given) → Goes weighs s more given → Adds s more given
  goes_adds s more given goes = record { numbered = goes.numbered; most = omega (arith, goes.balance) }

  -- each message does, also one that is not fit
  of_message : (script : Script) (s : Switch) → IsNumbered s → OfMessage script s (λ m given. Adds s (sent_weighs weighs m) given)
  of_message script s numbered = record {
    nothing = λ m. record { numbered = numbered; most = omega arith };
    replied = λ slot to result _. goes_adds s _ _ (to_caller weighs script s numbered to result);
    called = λ slot incarnation number to object method args depth _.
        let call = of_call weighs script s numbered (from.Object slot incarnation number) to in record {
          refused = λ f is. goes_adds s _ _ (call.refused f is);
          posted = λ own place values deep is here. goes_adds s _ _ (call.posted own place values deep is here);
          bound = λ own place values deep is free. goes_adds s _ _ (call.bound own place values deep is free);
        };
    fetched = λ slot incarnation number value object _. goes_adds s _ _ (fetch_goes weighs script s numbered slot incarnation number value object);
  }

  -- What a run has posted to objects, with the fetches that are open, is at most what it has routed.
  record IsNoMore (log : SwitchLog) (s : Switch) : Type 0 where
    numbered : IsNumbered s
    most : sum_by (event_weighs weighs) log.posts + sum_by (fetch_weighs weighs) s.unanswered ≤ sum_by (sent_weighs weighs) log.routed

  -- so it is after each step
  run_adds : (script : Script) (named : List (Option Identity)) (log : SwitchLog) (s : Switch) → IsSwitchRun script (opened named) log s → IsNoMore log s
  run_adds script named _ _ begins = record { numbered = (tt, tt); most = omega arith }
  run_adds script named _ _ (after_line log s l run) =
      let before = run_adds script named log s run in
      let step = line_goes weighs script s before.numbered l in record {
        numbered = step.numbered;
        most = omega (arith, before.most, step.balance, sum_by-append (event_weighs weighs) log.posts (accepts script s l).posts);
      }
  run_adds script named _ _ (after_message log s sent run) =
      let before = run_adds script named log s run in
      let step : Adds s (sent_weighs weighs sent) (routes script s sent) =
      by_message script s (λ m given. Adds s (sent_weighs weighs m) given) (of_message script s before.numbered) sent in record {
        numbered = step.numbered;
        most = omega (
          arith,
          before.most,
          step.most,
          sum_by-append (event_weighs weighs) log.posts (routes script s sent).posts,
          sum_by_push (sent_weighs weighs) log.routed sent,
        );
      }

-- so no call or fetch is answered more often than it was routed
pub answers_no_more : AnswersAreNoMoreThanAsks
answers_no_more script named log s run no_more slot asked =
    let c : Caller = caller slot asked in
    let each : (u : ℕ) → sum_by (λ (m : Message). times c (replied_by m)) (of_slot u log.routed) ≤ sum_by (λ (e : Event). times c (caller_of e)) (of_slot u log.posts) =
    λ u. omega (arith, no_more u c, times-flat_map c replied_by (of_slot u log.routed), times-flat_map c caller_of (of_slot u log.posts)) in
    omega (
      arith,
      (run_adds (is_it slot asked) script named log s run).most,
      less_total (λ (m : Message). times c (replied_by m)) (λ (e : Event). times c (caller_of e)) log.routed log.posts each,
      all_events (is_it slot asked) log.posts,
      all_messages (is_it slot asked) log.routed,
      answers_count slot asked log.posts,
      asks_count slot asked log.routed,
      calls_count slot asked log.posts,
      replies_count slot asked log.routed,
    )

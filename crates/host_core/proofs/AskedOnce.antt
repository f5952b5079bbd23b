-- No call and no fetch was routed twice, and none was posted two answers.
use Rattle.std.proofs.Common.{◌≡◌, ◌≤◌, ◌+◌, ◌∙◌, ap, sym, refl, subst, arith, ⊎_elim, ℕ, List, [], ◌∷◌, ◌++◌, length, append_assoc, append-nil, cond, Option, Some}
use Rattle.std.specs.Prelude.{Bool, true, false, ◌==◌, ◌&&◌, slice_get}
use Rattle.std.specs.List.{AllByRecursion, IsDistinct}
use Rattle.std.proofs.lemmas.Bool.{cases_lt}
use Rattle.std.proofs.lemmas.Bool.Decides.{nat_tests}
use Rattle.std.proofs.lemmas.Grind.{flat_map-append}
use Rattle.std.proofs.lemmas.List.Sorted.{sum_by-IsPermutation}
use Rattle.std.proofs.lemmas.List.Sums.{sum_by-append}
use Rattle.batch_journal.specs.Moments.{IsTold}
use Rattle.do_tree.specs.Tree.{Script}
use Rattle.mailbox.proofs.Sendings.{of_slot-append}
use Rattle.mailbox.specs.Posting.{GoesOn, of_slot}
use Rattle.mailbox.specs.SoFar.{IsRunSoFar, whole, in_line, in_message, at_end}
use Rattle.object_core.specs.Drops.{AreAnsweredOnce, same_answer}
use Rattle.object_core.specs.One.{messages}
use Rattle.object_core.specs.Owing.{IsOwed}
use Rattle.object_front.specs.Came.{events}
use Rattle.object_messages.proofs.Counts.{times-append, times-flat_map, times_of-append}
use Rattle.object_messages.specs.Naming.{answered_by, answered_in, asked_by, asked_in, called_in, replied_by, replied_in, times, times_of}
use Rattle.placement.specs.Slots.{Slots}
use Rattle.switch_history.specs.AskedOnce.{AnswersAreNoMoreThanAsks, AreRepliesNoMore}
use Rattle.timeline.specs.Headline.{IsPrefix}
use Rattle.timeline.specs.Logs.{fronted}
use Rattle.timeline.specs.Replies.{caller_of}
use Rattle.timeline.specs.Switch.{SwitchLog, accepts, opened, routes, accepted as after_line, routed as after_message}
use Rattle.timeline.specs.declared.caller.Caller.{Caller}
use Rattle.timeline.specs.declared.event.Event.{Event}
use Rattle.timeline.specs.declared.event.Event.TheVariants as event
use Rattle.timeline.specs.declared.message.Message.{Message}
use Rattle.host_core.proofs.Remaining.{of_behind}
use Rattle.host_core.proofs.Rows.{item_at}
use Rattle.host_core.specs.Asked.{AreAskedOnce}
use Rattle.host_core.specs.Objects.{AreThere}
use Rattle.host_core.specs.Quiet.{RowsTell}
use Rattle.host_core.specs.Rows.{AreRows, AreServed}
use Rattle.host_core.specs.declared.report.SlotReport.{SlotReport}

-- ---- the first items name nothing more often than all do

fewer_asked : (asked : ℕ × ℕ) (first all : List Message) → IsPrefix first all → times_of asked (asked_in first) ≤ times_of asked (asked_in all)
fewer_asked asked first all (rest, is) =
    omega (
      arith,
      ap (λ (ms : List Message). times_of asked (asked_in ms)) is,
      ap (times_of asked) (flat_map-append asked_by first rest),
      times_of-append asked (asked_in first) (asked_in rest),
    )

fewer_replies : (c : Caller) (first all : List Message) → IsPrefix first all → times c (replied_in first) ≤ times c (replied_in all)
fewer_replies c first all (rest, is) =
    omega (
      arith,
      ap (λ (ms : List Message). times c (replied_in ms)) is,
      ap (times c) (flat_map-append replied_by first rest),
      times-append c (replied_in first) (replied_in rest),
    )

pub answered_joined : (asked : ℕ × ℕ) (first rest : List Event)
    → times_of asked (answered_in (first ++ rest)) ≡ times_of asked (answered_in first) + times_of asked (answered_in rest)
answered_joined asked first rest = ap (times_of asked) (flat_map-append answered_by first rest) ∙ times_of-append asked (answered_in first) (answered_in rest)

called_joined : (c : Caller) (first rest : List Event) → times c (called_in (first ++ rest)) ≡ times c (called_in first) + times c (called_in rest)
called_joined c first rest = ap (times c) (flat_map-append caller_of first rest) ∙ times-append c (called_in first) (called_in rest)

-- who called among the events that were delivered or answered by `Down` called as often among those that were posted
fewer_called : {S : Type 0} (posts : List Event) (row : SlotReport S) (served : AreServed posts row) (c : Caller)
    → times c (called_in (events (fronted row.front).delivered ++ events (fronted row.front).downed)) ≤ times c (called_in posts)
fewer_called posts row served c =
    let delivered = events (fronted row.front).delivered in
    let downed = events (fronted row.front).downed in
    let others = (fronted row.front).dropped ++ (served.keeps ++ served.lost) in
    let calls : Event → ℕ = λ e. times c (caller_of e) in
    omega (
      arith,
      ap (λ (es : List Event). times c (called_in es)) served.first.1,
      called_joined c served.got served.first.0,
      times-flat_map c caller_of served.got,
      sum_by-IsPermutation calls served.got (delivered ++ (downed ++ others)) served.come.each,
      sum_by-append calls delivered (downed ++ others),
      sum_by-append calls downed others,
      times-flat_map c caller_of (delivered ++ downed),
      sum_by-append calls delivered downed,
    )

-- ---- none is answered twice where each is answered at most once

-- an event that answers this has its numbers
same_either : (i n j m : ℕ) → ((i == j) && (n == m)) ≡ true → ((j == i) && (m == n)) ≡ true
same_either i n j m is = grind (arith, nat_tests)

both_same : (i n : ℕ) → ((i == i) && (n == n)) ≡ true
both_same i n = grind (arith, nat_tests)

counted : (i n j m : ℕ) → ((j == i) && (m == n)) ≡ true → times_of (i, n) ((j, m) ∷ []) ≡ 1
counted i n j m is = by ((j == i) && (m == n)) is
  where
    by : (b : Bool) → b ≡ true → length {A = ℕ × ℕ} (cond b ((j, m) ∷ []) []) ≡ 1
    by true so = refl
    by false so = cc

pub counted_itself : (i n : ℕ) → times_of (i, n) ((i, n) ∷ []) ≡ 1
counted_itself i n = counted i n i n (both_same i n)

apart : (i n : ℕ) (e : Event) → ((other : Event) → same_answer e other ≡ true → times_of (i, n) (answered_by other) ≡ 1)
    → (es : List Event) → times_of (i, n) (answered_in es) ≡ 0 → AllByRecursion (λ (other : Event). same_answer e other ≡ false) es
apart i n e named [] none = tt
apart i n e named (x ∷ es) none = (
  by (same_answer e x) refl,
  apart i n e named es (omega (arith, none, answered_joined (i, n) (x ∷ []) es)),
)
  where
    by : (b : Bool) → same_answer e x ≡ b → same_answer e x ≡ false
    by true is = absurd (omega (arith, none, answered_joined (i, n) (x ∷ []) es, ap (times_of (i, n)) (append-nil (answered_by x)), named x is))
    by false is = is

answers_none : (e : Event) → ((other : Event) → same_answer e other ≡ false) → (es : List Event) → AllByRecursion (λ (other : Event). same_answer e other ≡ false) es
answers_none e none [] = tt
answers_none e none (x ∷ es) = (none x, answers_none e none es)

behind : (e : Event) (es : List Event) → ((asked : ℕ × ℕ) → times_of asked (answered_in (e ∷ es)) ≤ 1) → AllByRecursion (λ (other : Event). same_answer e other ≡ false) es
behind (event.Answer i n r a) es few =
    apart i n (event.Answer i n r a) named es
    (omega (arith, few (i, n), answered_joined (i, n) (event.Answer i n r a ∷ []) es, counted_itself i n))
  where
    named : (other : Event) → same_answer (event.Answer i n r a) other ≡ true → times_of (i, n) (answered_by other) ≡ 1
    named (event.Answer j m s b) is = counted i n j m (same_either i n j m is)
    named (event.Bind identity) is = cc
    named (event.Call from method args depth at) is = cc
    named (event.Tick at) is = cc
    named (event.Evict at) is = cc
behind (event.Bind identity) es few = answers_none (event.Bind identity) (λ other. refl) es
behind (event.Call from method args depth at) es few = answers_none (event.Call from method args depth at) (λ other. refl) es
behind (event.Tick at) es few = answers_none (event.Tick at) (λ other. refl) es
behind (event.Evict at) es few = answers_none (event.Evict at) (λ other. refl) es

distinct : (es : List Event) → ((asked : ℕ × ℕ) → times_of asked (answered_in es) ≤ 1) → AreAnsweredOnce es
unfolding IsDistinct
distinct [] few = tt
distinct (e ∷ es) few = (behind e es few, distinct es (λ asked. omega (arith, few asked, answered_joined asked (e ∷ []) es)))

-- ---- the rows

module _ {S : Type 0} (moment_of : S → ℕ) (left_since : S → ℕ → List ℕ → Type 0) (told : S → Option (List ℕ)) (faults_of : S → ℕ) (limit : ℕ) (script : Script)
    (contents : ℕ → Option (List ℕ)) (named : Slots) (log : SwitchLog) (rows : List (SlotReport S))
    (are : AreRows moment_of left_since told faults_of limit script contents named log rows) (there : AreThere (length rows) log) where
  routed_once : (slot : ℕ) (row : SlotReport S) → slice_get rows slot ≡ Some row → IsTold (told row.store)
      → (asked : ℕ × ℕ) → times_of asked (asked_in (of_slot slot log.routed)) ≤ 1
  routed_once slot row is is_told asked =
      let tells = are slot row is in
      let owed : IsOwed (fronted row.front) (messages row.back.released.items) = (tells.answered is_told).owed in
      omega (arith, owed.once asked, fewer_asked asked (of_slot slot log.routed) (messages row.back.released.items) tells.routes)

  -- what was routed from a slot without a row is nothing
  none_routed : (slot : ℕ) → length rows ≤ slot → of_slot slot log.routed ≡ []
  none_routed slot behind = of_behind (length rows) slot log.routed behind there

  module _ (tell : RowsTell told rows) where
    -- nobody was replied to more often than he called
    row_fewer : (slot : ℕ) (row : SlotReport S) → slice_get rows slot ≡ Some row → (c : Caller)
        → times c (replied_in (of_slot slot log.routed)) ≤ times c (called_in (of_slot slot log.posts))
    row_fewer slot row is c =
        let tells = are slot row is in
        let owed : IsOwed (fronted row.front) (messages row.back.released.items) = (tells.answered (tell slot row is)).owed in
        omega (
          arith,
          fewer_replies c (of_slot slot log.routed) (messages row.back.released.items) tells.routes,
          owed.replies c,
          fewer_called (of_slot slot log.posts) row tells.served c,
        )

    pub no_more : AreRepliesNoMore log
    no_more slot c =
        ⊎_elim
        (λ less. let row = item_at rows slot less in row_fewer slot row.0 row.1 c)
        (λ behind. omega (arith, ap (λ (ms : List Message). times c (replied_in ms)) (none_routed slot behind)))
        (cases_lt slot (length rows))

    pub all_once : (slot : ℕ) (asked : ℕ × ℕ) → times_of asked (asked_in (of_slot slot log.routed)) ≤ 1
    all_once slot asked =
        ⊎_elim
        (λ less. let row = item_at rows slot less in routed_once slot row.0 row.1 (tell slot row.0 row.1) asked)
        (λ behind. omega (arith, ap (λ (ms : List Message). times_of asked (asked_in ms)) (none_routed slot behind)))
        (cases_lt slot (length rows))

  -- What a law says of a run it says of one that was cut short, whose posts are the first of the run's.
  module _ (law : AnswersAreNoMoreThanAsks) where
    first_few : (before wanted : List (ℕ × Event)) (routed : List (ℕ × Message)) → GoesOn before log.posts wanted → log.routed ≡ routed
        → (((slot : ℕ) (c : Caller) → times c (replied_in (of_slot slot routed)) ≤ times c (called_in (of_slot slot (before ++ wanted))))
        → (slot : ℕ) (asked : ℕ × ℕ) → times_of asked (answered_in (of_slot slot (before ++ wanted))) ≤ times_of asked (asked_in (of_slot slot routed)))
        → AreRepliesNoMore log → (slot : ℕ) (asked : ℕ × ℕ)
        → times_of asked (answered_in (of_slot slot log.posts)) ≤ times_of asked (asked_in (of_slot slot log.routed))
    first_few before wanted routed goes same run_says few slot asked =
        omega (
          arith,
          run_says more slot asked,
          ap (λ (es : List Event). times_of asked (answered_in es)) (split slot),
          answered_joined asked (of_slot slot log.posts) (of_slot slot goes.first.0),
          ap (λ (ms : List (ℕ × Message)). times_of asked (asked_in (of_slot slot ms))) same,
        )
      where
        all : before ++ wanted ≡ log.posts ++ goes.first.0
        all =
            ap (λ (xs : List (ℕ × Event)). before ++ xs) (sym goes.first.1) ∙ sym (append_assoc before goes.since goes.first.0)
            ∙ ap (λ (xs : List (ℕ × Event)). xs ++ goes.first.0) (sym goes.more)

        split : (at : ℕ) → of_slot at (before ++ wanted) ≡ of_slot at log.posts ++ of_slot at goes.first.0
        split at = ap (of_slot at) all ∙ of_slot-append at log.posts goes.first.0

        more : (at : ℕ) (c : Caller) → times c (replied_in (of_slot at routed)) ≤ times c (called_in (of_slot at (before ++ wanted)))
        more at c =
            omega (
              arith,
              few at c,
              ap (λ (ms : List (ℕ × Message)). times c (replied_in (of_slot at ms))) same,
              ap (λ (es : List Event). times c (called_in es)) (split at),
              called_joined c (of_slot at log.posts) (of_slot at goes.first.0),
            )

    pub answers_few : IsRunSoFar script (opened named) log → AreRepliesNoMore log → (slot : ℕ) (asked : ℕ × ℕ)
        → times_of asked (answered_in (of_slot slot log.posts)) ≤ times_of asked (asked_in (of_slot slot log.routed))
    answers_few (whole s run) few = law script named log s run few
    answers_few (in_line before s l run begun) few =
        first_few before.posts (accepts script s l).posts before.routed begun.posts begun.routed (law script named _ _ (after_line before s l run)) few
    answers_few (in_message before s sent run begun) few =
        first_few before.posts (routes script s sent).posts (before.routed ++ sent ∷ []) begun.posts begun.routed (law script named _ _ (after_message before s sent run)) few
    answers_few (at_end before s left run begun) few =
        first_few before.posts [] before.routed begun.posts begun.routed
        (λ more slot asked.
        subst (λ (posts : List (ℕ × Event)). times_of asked (answered_in (of_slot slot posts)) ≤ times_of asked (asked_in (of_slot slot before.routed))) (sym (append-nil before.posts))
        (law script named before s run
        (λ at c. subst (λ (posts : List (ℕ × Event)). times c (replied_in (of_slot at before.routed)) ≤ times c (called_in (of_slot at posts))) (append-nil before.posts) (more at c))
        slot asked)) few

    pub are_asked_once : IsRunSoFar script (opened named) log → AreAskedOnce told log rows
    are_asked_once run = record {
      routed = routed_once;
      posted = λ tell slot. distinct (of_slot slot log.posts) (λ asked. omega (arith, answers_few run (no_more tell) slot asked, all_once tell slot asked));
    }

-- To a slot with an object of no class of the script nothing is posted: its object asks nothing, and nobody else names it.
use Rattle.std.proofs.Common.{◌≡◌, ◌≤◌, ◌∙◌, ap, sym, refl, subst, true≢false, arith, ⊎_elim, ℕ, List, [], ◌∷◌, ◌++◌, length, append_assoc, append-nil, length-append, Option, Some, None}
use Rattle.std.specs.Prelude.{true, false, is_some, IsPermutation}
use Rattle.std.proofs.lemmas.Bool.{cases_lt}
use Rattle.std.proofs.lemmas.Grind.{flat_map-append}
use Rattle.std.proofs.lemmas.List.{nil_from_length}
use Rattle.std.proofs.lemmas.List.Elements.{All-head}
use Rattle.std.proofs.lemmas.List.Sorted.{length_permutation}
use Rattle.do_tree.specs.Tree.{Script}
use Rattle.mailbox.proofs.Sendings.{of_slot-append}
use Rattle.mailbox.specs.Posting.{GoesOn, of_slot}
use Rattle.mailbox.specs.SoFar.{IsRunSoFar, whole, in_line, in_message, at_end}
use Rattle.object_core.specs.One.{HasItsClass, class_in, messages}
use Rattle.object_front.specs.Came.{events}
use Rattle.object_messages.specs.Naming.{answered_in, asked_by, asked_in, times_of}
use Rattle.object_messages.specs.Unmoved.{AreAnswers, is_answer}
use Rattle.placement.specs.Slots.{Slots, object_at}
use Rattle.storage_map.specs.Limits.{Object}
use Rattle.switch_history.specs.AskedOnce.{AnswersAreNoMoreThanAsks}
use Rattle.switch_history.specs.Unknown.{UnknownIsOnlyAnswered}
use Rattle.timeline.specs.Headline.{IsPrefix}
use Rattle.timeline.specs.Logs.{fronted}
use Rattle.timeline.specs.Switch as timeline
use Rattle.timeline.specs.Switch.{SwitchLog, accepts, is_known, opened, routes, accepted as after_line, routed as after_message}
use Rattle.timeline.specs.declared.event.Event.{Event}
use Rattle.timeline.specs.declared.event.Event.TheVariants as event
use Rattle.timeline.specs.declared.message.Message.{Message}
use Rattle.host_core.proofs.AskedOnce.{answered_joined, answers_few, counted_itself, no_more}
use Rattle.host_core.proofs.Dropped.{same_at}
use Rattle.host_core.proofs.Remaining.{of_behind}
use Rattle.host_core.proofs.Rows.{first_answers, item_at}
use Rattle.host_core.specs.Objects.{AreThere}
use Rattle.host_core.specs.Quiet.{IsOfNoClass, RowsTell}
use Rattle.host_core.specs.Rows.{AreRows, AreServed}
use Rattle.host_core.specs.declared.report.SlotReport.{SlotReport}

-- A slot's object is of a class of the script, or of none, or there is no object.
pub by_class : (script : Script) (object : Option Object) (P : Type 0) → (HasItsClass script object → P) → (IsOfNoClass script object → P) → P
by_class script None P known unknown = known refl
by_class script (Some object) P known unknown = by (class_in script (Some object)) refl
  where
    by : (class : Option ℕ) → class_in script (Some object) ≡ class → P
    by (Some class) is = known (sym (ap (λ (c : Option ℕ). is_some c) is))
    by None is = unknown (refl, is)

-- ---- what was posted is nothing where it answers alone, and answers nothing
abbrev Answers : Event → Type 0
Answers e = is_answer e ≡ true

answers_some : (e : Event) (es : List Event) → Answers e → ((asked : ℕ × ℕ) → times_of asked (answered_in (e ∷ es)) ≤ 0) → ⊥
answers_some (event.Answer i n r a) es is none = omega (arith, none (i, n), answered_joined (i, n) (event.Answer i n r a ∷ []) es, counted_itself i n)
answers_some (event.Bind identity) es is none = true≢false (sym is)
answers_some (event.Call from method args depth at) es is none = true≢false (sym is)
answers_some (event.Tick at) es is none = true≢false (sym is)
answers_some (event.Evict at) es is none = true≢false (sym is)

only_answers : (es : List Event) → AreAnswers es → ((asked : ℕ × ℕ) → times_of asked (answered_in es) ≤ 0) → es ≡ []
only_answers [] all none = refl
only_answers (e ∷ es) all none = absurd (answers_some e es (All-head Answers e es all) none)

-- who asked nothing in all asked nothing at first
asks_none : (first all : List Message) → IsPrefix first all → asked_in all ≡ [] → asked_in first ≡ []
asks_none first all (rest, is) none =
    nil_from_length (asked_in first)
    (omega (
      arith,
      ap length (sym (flat_map-append asked_by first rest) ∙ ap asked_in is ∙ none),
      length-append (asked_in first) (asked_in rest),
    ))

-- an object that got nothing dropped nothing
none_of : (got posts rest delivered downed dropped others : List Event) → posts ≡ got ++ rest → posts ≡ [] → IsPermutation got (delivered ++ (downed ++ (dropped ++ others))) → dropped ≡ []
none_of got posts rest delivered downed dropped others first none each =
    nil_from_length dropped
    (omega (
      arith,
      length_permutation got (delivered ++ (downed ++ (dropped ++ others))) each,
      ap length (sym first ∙ none),
      length-append got rest,
      length-append delivered (downed ++ (dropped ++ others)),
      length-append downed (dropped ++ others),
      length-append dropped others,
    ))

pub dropped_none : {S : Type 0} (posts : List Event) (row : SlotReport S) → AreServed posts row → posts ≡ [] → (fronted row.front).dropped ≡ []
dropped_none posts row served none =
    none_of served.got posts served.first.0 (events (fronted row.front).delivered) (events (fronted row.front).downed) (fronted row.front).dropped (served.keeps ++ served.lost)
    served.first.1 none served.come.each

module _ {S : Type 0} (moment_of : S → ℕ) (left_since : S → ℕ → List ℕ → Type 0) (told : S → Option (List ℕ)) (faults_of : S → ℕ) (limit : ℕ) (script : Script)
    (contents : ℕ → Option (List ℕ)) (named : Slots) (log : SwitchLog) (rows : List (SlotReport S))
    (are : AreRows moment_of left_since told faults_of limit script contents named log rows) (there : AreThere (length rows) log)
    (few : AnswersAreNoMoreThanAsks) (alone : UnknownIsOnlyAnswered) (run : IsRunSoFar script (opened named) log) where
  module _ (slot : ℕ) (unknown : IsOfNoClass script (object_at named slot)) where
    -- its object at the opening, which is of no class
    the_object : (object : Object) × (object_at named slot ≡ Some object)
    the_object = by (object_at named slot) refl
      where
        by : (o : Option Object) → object_at named slot ≡ o → (object : Object) × (object_at named slot ≡ Some object)
        by (Some object) is = (object, is)
        by None is = absurd (true≢false (sym unknown.0 ∙ ap (λ (o : Option Object). is_some o) is))

    is_unknown : is_known script the_object.0 ≡ false
    is_unknown = ap (λ (class : Option ℕ). is_some class) (sym (ap (class_in script) the_object.1) ∙ unknown.1)

    at_first : timeline.object_at (opened named) slot ≡ Some the_object.0
    at_first = same_at named slot ∙ the_object.1

    run_alone : (whole_log : SwitchLog) (s : timeline.Switch) → timeline.IsSwitchRun script (opened named) whole_log s → AreAnswers (of_slot slot whole_log.posts)
    run_alone whole_log s is = alone script named whole_log s is slot the_object.0 at_first is_unknown

    first_alone : (before wanted : List (ℕ × Event)) → GoesOn before log.posts wanted → AreAnswers (of_slot slot (before ++ wanted))
        → AreAnswers (of_slot slot log.posts)
    first_alone before wanted goes all =
        first_answers (of_slot slot log.posts) (of_slot slot goes.first.0) (subst (AreAnswers) (ap (of_slot slot) joined ∙ of_slot-append slot log.posts goes.first.0) all)
      where
        joined : before ++ wanted ≡ log.posts ++ goes.first.0
        joined =
            ap (λ (xs : List (ℕ × Event)). before ++ xs) (sym goes.first.1) ∙ sym (append_assoc before goes.since goes.first.0)
            ∙ ap (λ (xs : List (ℕ × Event)). xs ++ goes.first.0) (sym goes.more)

    posts_alone : IsRunSoFar script (opened named) log → AreAnswers (of_slot slot log.posts)
    posts_alone (whole s is) = run_alone log s is
    posts_alone (in_line before s l is begun) = first_alone before.posts (accepts script s l).posts begun.posts (run_alone _ _ (after_line before s l is))
    posts_alone (in_message before s sent is begun) = first_alone before.posts (routes script s sent).posts begun.posts (run_alone _ _ (after_message before s sent is))
    posts_alone (at_end before s left is begun) =
        first_alone before.posts [] begun.posts
        (subst (λ (posts : List (ℕ × Event)). AreAnswers (of_slot slot posts)) (sym (append-nil before.posts)) (run_alone before s is))

    module _ (tell : RowsTell told rows) where
      nothing_asked : asked_in (of_slot slot log.routed) ≡ []
      nothing_asked =
          ⊎_elim
          (λ less.
          let row = item_at rows slot less in
          let tells = are slot row.0 row.1 in
          asks_none (of_slot slot log.routed) (messages row.0.back.released.items) tells.routes ((tells.answered (tell slot row.0 row.1)).silent unknown (posts_alone run)))
          (λ behind. ap asked_in (of_behind (length rows) slot log.routed behind there))
          (cases_lt slot (length rows))

      pub unposted : of_slot slot log.posts ≡ []
      unposted =
          only_answers (of_slot slot log.posts) (posts_alone run)
          (λ asked. omega (
            arith,
            answers_few moment_of left_since told faults_of limit script contents named log rows are there few run
                (no_more moment_of left_since told faults_of limit script contents named log rows are there tell) slot asked,
            ap (times_of asked) nothing_asked,
          ))

-- An answer that was posted to a slot was asked for by its object, so that no front stands still at one.
use Rattle.std.proofs.Common.{◌≡◌, ◌∙◌, ap, sym, subst, arith, ⊎_elim, ℕ, List, [], ◌++◌, length, append_assoc, Option, Some}
use Rattle.std.specs.Prelude.{Bool, true, slice_get}
use Rattle.std.specs.List.{Contains, list_any}
use Rattle.std.proofs.lemmas.Bool.{cases_lt}
use Rattle.std.proofs.lemmas.Grind.{flat_map-append}
use Rattle.std.proofs.lemmas.List.Elements.{All-contains, All-nil, Contains-append_left}
use Rattle.std.proofs.lemmas.List.Sorted.{list_any-IsPermutation}
use Rattle.do_tree.specs.Tree.{Script}
use Rattle.mailbox.specs.Posting.{of_slot}
use Rattle.object_core.specs.One.{IsGivenUnasked, messages}
use Rattle.object_core.specs.Owing.{IsOwed}
use Rattle.object_front.specs.Came.{events}
use Rattle.object_messages.specs.Naming.{asked_by, asked_in, called_in, replied_by, replied_in}
use Rattle.placement.specs.Slots.{Slots, object_at}
use Rattle.switch_history.specs.Laws.{AnswersAreAsked, AreRepliesOwed}
use Rattle.timeline.specs.Headline.{IsPrefix}
use Rattle.timeline.specs.Logs.{fronted}
use Rattle.timeline.specs.Replies.{caller_of, same_caller}
use Rattle.timeline.specs.Switch as timeline
use Rattle.timeline.specs.Switch.{IsSwitchRun, SwitchLog, opened}
use Rattle.timeline.specs.declared.caller.Caller.{Caller}
use Rattle.timeline.specs.declared.event.Event.{Event}
use Rattle.timeline.specs.declared.message.Message.{Message}
use Rattle.timeline.specs.declared.notice.Waits.{Waits}
use Rattle.host_core.proofs.Found.{found_flat, found_more, is_found, itself, passing_found, some_pass}
use Rattle.host_core.proofs.Remaining.{of_behind}
use Rattle.host_core.proofs.Rows.{item_at}
use Rattle.host_core.specs.Closing.{AreSettledUnless}
use Rattle.host_core.specs.Objects.{AreThere}
use Rattle.host_core.specs.Quiet.{AreSettled, IsOfNoClass, RowsTell}
use Rattle.host_core.specs.Rows.{AreRows, AreServed}
use Rattle.host_core.specs.declared.report.SlotReport.{SlotReport}

-- what the first messages name, all of them do
module _ (routed released : List Message) (first : IsPrefix routed released) where
  replied_more : (caller : Caller) → Contains (replied_in routed) caller → Contains (replied_in released) caller
  replied_more caller has =
      subst (λ (ms : List Message). Contains (replied_in ms) caller) first.1
      (subst (λ (xs : List Caller). Contains xs caller) (sym (flat_map-append replied_by routed first.0))
      (Contains-append_left (replied_in routed) (replied_in first.0) caller has))

  asked_more : (asked : ℕ × ℕ) → Contains (asked_in routed) asked → Contains (asked_in released) asked
  asked_more asked has =
      subst (λ (ms : List Message). Contains (asked_in ms) asked) first.1
      (subst (λ (xs : List (ℕ × ℕ)). Contains xs asked) (sym (flat_map-append asked_by routed first.0))
      (Contains-append_left (asked_in routed) (asked_in first.0) asked has))

-- who called among the events that were delivered or answered by `Down` called among those that were posted
module _ {S : Type 0} (posts : List Event) (row : SlotReport S) (served : AreServed posts row) (p : Caller → Bool) where
  abbrev delivered : List Event
  delivered = events (fronted row.front).delivered

  abbrev downed : List Event
  downed = events (fronted row.front).downed

  abbrev others : List Event
  others = (fronted row.front).dropped ++ (served.keeps ++ served.lost)

  abbrev finds : List Event → Bool
  finds es = list_any (λ (e : Event). list_any p (caller_of e)) es

  called_got : list_any p (called_in (delivered ++ downed)) ≡ true → finds served.got ≡ true
  called_got is =
      list_any-IsPermutation (λ (e : Event). list_any p (caller_of e)) served.got (delivered ++ (downed ++ others)) served.come.each
      ∙ ap finds (sym (append_assoc delivered downed others))
      ∙ found_more (λ (e : Event). list_any p (caller_of e)) (delivered ++ downed) others (sym (found_flat p caller_of (delivered ++ downed)) ∙ is)

  called_posted : list_any p (called_in (delivered ++ downed)) ≡ true → list_any p (called_in posts) ≡ true
  called_posted is =
      found_flat p caller_of posts ∙ ap finds served.first.1
      ∙ found_more (λ (e : Event). list_any p (caller_of e)) served.got served.first.0 (called_got is)

module _ {S : Type 0} (moment_of : S → ℕ) (left_since : S → ℕ → List ℕ → Type 0) (told : S → Option (List ℕ)) (faults_of : S → ℕ) (limit : ℕ) (script : Script)
    (contents : ℕ → Option (List ℕ)) (named : Slots) (log : SwitchLog) (after : timeline.Switch) (rows : List (SlotReport S)) (left : List (ℕ × Caller × Waits))
    (law : AnswersAreAsked) (run : IsSwitchRun script (opened named) log after)
    (are : AreRows moment_of left_since told faults_of limit script contents named log rows) (there : AreThere (length rows) log) (tell : RowsTell told rows) where
  -- whom the row's object replied to called it
  row_replies : (slot : ℕ) (row : SlotReport S) → slice_get rows slot ≡ Some row → (caller : Caller) → Contains (replied_in (of_slot slot log.routed)) caller
      → list_any (same_caller caller) (called_in (of_slot slot log.posts)) ≡ true
  row_replies slot row is caller has =
      let tells = are slot row is in
      let owed : IsOwed (fronted row.front) (messages row.back.released.items) = (tells.answered (tell slot row is)).owed in
      let found : list_any (same_caller caller) (replied_in (messages row.back.released.items)) ≡ true =
      is_found (same_caller caller) (replied_in (messages row.back.released.items)) caller
      (replied_more (of_slot slot log.routed) (messages row.back.released.items) tells.routes caller has) (itself caller) in
      let some = some_pass (same_caller caller) (replied_in (messages row.back.released.items)) found in
      called_posted (of_slot slot log.posts) row tells.served (same_caller caller)
      (passing_found (same_caller caller) (called_in (events (fronted row.front).delivered ++ events (fronted row.front).downed)) (omega (arith, some, owed.replies caller)))

  -- so do those to whom any slot's object replied: nothing was routed from a slot without a row
  replies_owed : AreRepliesOwed log
  replies_owed slot caller has =
      ⊎_elim
      (λ less. let row = item_at rows slot less in row_replies slot row.0 row.1 caller has)
      (λ behind.
      let none : of_slot slot log.routed ≡ [] = of_behind (length rows) slot log.routed behind there in
      none_has caller (list_any (same_caller caller) (called_in (of_slot slot log.posts)) ≡ true)
      (subst (λ (ms : List Message). Contains (replied_in ms) caller) none has))
      (cases_lt slot (length rows))
    where
      none_has : (caller : Caller) (P : Type 0) → Contains (replied_in []) caller → P
      none_has caller P has = absurd (All-contains (λ (c : Caller). ⊥) [] caller (All-nil (λ (c : Caller). ⊥)) has)

  -- the object of a row asked for each answer that was posted to it
  all_asked : (slot : ℕ) (row : SlotReport S) → slice_get rows slot ≡ Some row → IsGivenUnasked (fronted row.front) (of_slot slot log.posts) → ⊥
  all_asked slot row is given =
      let tells = are slot row is in
      given.unasked ((tells.answered (tell slot row is)).owed.asked given.asked
      (asked_more (of_slot slot log.routed) (messages row.back.released.items) tells.routes given.asked
      (law script named log after run replies_owed slot given.asked given.given)))

-- so that each row is settled, whatever its object's class
pub are_settled : {S : Type 0} (moment_of : S → ℕ) (left_since : S → ℕ → List ℕ → Type 0) (told : S → Option (List ℕ)) (faults_of : S → ℕ) (limit : ℕ) (script : Script)
    (contents : ℕ → Option (List ℕ)) (named : Slots) (log : SwitchLog) (after : timeline.Switch) (rows : List (SlotReport S)) (left : List (ℕ × Caller × Waits))
    → AnswersAreAsked → IsSwitchRun script (opened named) log after → AreRows moment_of left_since told faults_of limit script contents named log rows
    → AreThere (length rows) log → (RowsTell told rows → (slot : ℕ) → IsOfNoClass script (object_at named slot) → of_slot slot log.posts ≡ [])
    → AreSettledUnless told limit script contents named log left rows → AreSettled told limit script contents named log left rows
are_settled moment_of left_since told faults_of limit script contents named log after rows left law run are there unposted unless tell slot row is = record {
  known = λ has.
      ⊎_elim
      (λ given. absurd (all_asked moment_of left_since told faults_of limit script contents named log after rows left law run are there tell slot row is given))
      (λ settled. settled)
      ((unless slot row is).known (tell slot row is) has);
  unknown = λ unknown. (unless slot row is).unknown (tell slot row is) unknown (unposted tell slot unknown);
}

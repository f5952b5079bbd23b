-- What a run is that ended where all was served: its rows are settled, and each accepted call has its one line.
use Rattle.std.proofs.Common.{◌≡◌, ◌≤◌, ◌<◌, ◌∙◌, ap, sym, refl, subst, arith, ⊎_elim, ℕ, List, [], ◌∷◌, length, cond, append-nil, Option, Some}
use Rattle.std.specs.Prelude.{Bool, true, false, ◌==◌, ◌&&◌, slice_get}
use Rattle.std.specs.List.{All, Contains, filter}
use Rattle.std.proofs.lemmas.Bool.{cases_lt}
use Rattle.std.proofs.lemmas.Bool.Decides.{nat_tests}
use Rattle.std.proofs.lemmas.List.Elements.{All-cons, All-head, All-nil, All-tail, Contains-append_left, Contains-append_right, Contains-push}
use Rattle.do_tree.specs.Tree.{Script}
use Rattle.mailbox.specs.Left.{finished_by}
use Rattle.mailbox.specs.Posting.{of_slot}
use Rattle.mailbox.specs.SoFar.IsRunSoFar.{whole}
use Rattle.object_core.specs.Dropping.{AreFitting}
use Rattle.object_core.specs.One.{class_in}
use Rattle.object_messages.specs.Exact.{IsServedOnce, callers}
use Rattle.object_messages.specs.Naming.{answered_in, called_in, replied_in, same_numbers, times, times_of}
use Rattle.placement.specs.Slots.{Slots, object_at}
use Rattle.switch_history.specs.Answering.{AreAnsweredOrLeft, AreInOrder, AreServedOnce}
use Rattle.switch_history.specs.Fit.{IsFitRun}
use Rattle.switch_history.specs.Lines.{AreToldOnce, HasItsFetch, HaveTheirFetches}
use Rattle.switch_history.specs.Moments.{AreTicksInRange}
use Rattle.timeline.specs.Logs.{fronted}
use Rattle.timeline.specs.Replies.{same_caller}
use Rattle.timeline.specs.Switch as timeline
use Rattle.timeline.specs.Switch.{SwitchLog, IsSwitchRun, gave, opened}
use Rattle.timeline.specs.declared.caller.Caller.{Caller}
use Rattle.timeline.specs.declared.caller.Caller.TheVariants as from
use Rattle.timeline.specs.declared.event.Event.{Event}
use Rattle.timeline.specs.declared.message.Message.{Message}
use Rattle.timeline.specs.declared.notice.Waits.{Waits}
use Rattle.timeline.specs.declared.notice.Waits.TheVariants as waits
use Rattle.host_core.proofs.Answered.{are_settled}
use Rattle.host_core.proofs.AskedOnce.{all_once, no_more}
use Rattle.host_core.proofs.Dropped.{run_fits}
use Rattle.host_core.proofs.Found.{is_found, itself, some_pass}
use Rattle.host_core.proofs.InOrder.{come_in_order}
use Rattle.host_core.proofs.Once.{none_called}
use Rattle.host_core.proofs.Remaining.{behind_left}
use Rattle.host_core.proofs.Routings.{is_own}
use Rattle.host_core.proofs.Rows.{item_at}
use Rattle.host_core.proofs.SwitchLaws.{SwitchLaws}
use Rattle.host_core.proofs.Unknown.{by_class, dropped_none, unposted}
use Rattle.host_core.specs.Closing.{AreSettledUnless}
use Rattle.host_core.specs.Objects.{AreThere}
use Rattle.host_core.specs.Quiet.{AreCallsAnswered, AreCallsInOrder, AreLeftIn, AreSettled, DropNoCalls, HaveOneAnswer, IsOfNoClass, RowsTell, WaitsForRouted, remaining_of}
use Rattle.host_core.specs.Rows.{AreRows}
use Rattle.host_core.specs.declared.report.SlotReport.{SlotReport}

-- ---- what holds of the items of each slot holds of all
behind_first : {X : Type 0} (P : X → Type 0) (b : Bool) (x : X) (xs : List X) → All P (cond b (x ∷ xs) xs) → All P xs
behind_first P true x xs all = All-tail P x xs all
behind_first P false x xs all = all

each_own : (P : ℕ → Caller × Waits → Type 0) (Q : ℕ × Caller × Waits → Type 0) → ((item : ℕ × Caller × Waits) → P item.0 (item.1, item.2) → Q item)
    → (left : List (ℕ × Caller × Waits)) → ((slot : ℕ) → All (P slot) (remaining_of slot left)) → All Q left
each_own P Q one [] all = All-nil Q
each_own P Q one (item ∷ left) all =
    All-cons Q item left
    (one item (All-head (P item.0) (item.1, item.2) (remaining_of item.0 left)
    (subst (λ (b : Bool). All (P item.0) (cond b ((item.1, item.2) ∷ remaining_of item.0 left) (remaining_of item.0 left))) (is_own item.0 item.0 refl) (all item.0))))
    (each_own P Q one left (λ slot. behind_first (P slot) (item.0 == slot) (item.1, item.2) (remaining_of slot left) (all slot)))

-- the same numbers
pair_is : (i n j m : ℕ) → i ≡ j → n ≡ m → ◌≡◌ {A = ℕ × ℕ} (i, n) (j, m)
pair_is i n j m is so = ap (λ (k : ℕ). (k, n)) is ∙ ap (λ (k : ℕ). (j, k)) so

first_same : (i n j m : ℕ) → (i == j && n == m) ≡ true → i ≡ j
first_same i n j m is = grind (arith, nat_tests)

last_same : (i n j m : ℕ) → (i == j && n == m) ≡ true → n ≡ m
last_same i n j m is = grind (arith, nat_tests)

both_same : (x y : ℕ × ℕ) → (x.0 == y.0 && x.1 == y.1) ≡ true → x ≡ y
both_same (i, n) (j, m) is = pair_is i n j m (first_same i n j m is) (last_same i n j m is)

-- what isn't there stands there no time
none_of_it : (asked : ℕ × ℕ) (xs : List (ℕ × ℕ)) → (Contains xs asked → ⊥) → times_of asked xs ≡ 0
none_of_it asked [] away = refl
none_of_it asked (x ∷ xs) away = by (none_of_it asked xs (λ there. away (Contains-append_right (x ∷ []) xs asked there))) (same_numbers asked x) refl
  where
    same : (x.0 == asked.0 && x.1 == asked.1) ≡ true → x ≡ asked
    same is = both_same x asked is

    by : times_of asked xs ≡ 0 → (b : Bool) → same_numbers asked x ≡ b
        → length {A = ℕ × ℕ} (cond b (x ∷ filter (same_numbers asked) xs) (filter (same_numbers asked) xs)) ≡ 0
    by others true is = absurd (away (subst (λ (y : ℕ × ℕ). Contains (x ∷ xs) y) (same is) (Contains-append_left (x ∷ []) xs x (Contains-push [] x))))
    by others false is = others

-- who isn't called and replies to nobody serves each once
serves_nobody : (routed : List Message) → ((c : Caller) → times c (replied_in routed) ≤ 0) → IsServedOnce [] (replied_in routed) []
serves_nobody routed none = record {
  exact = λ c few. omega (arith, none c);
  named = λ c there. absurd (omega (
    arith,
    none c,
    some_pass (same_caller c) (replied_in routed) (is_found (same_caller c) (replied_in routed) c
        (subst (λ (cs : List Caller). Contains cs c) (append-nil (replied_in routed)) there) (itself c)),
  ));
}

module _ {S : Type 0} (moment_of : S → ℕ) (left_since : S → ℕ → List ℕ → Type 0) (told : S → Option (List ℕ)) (faults_of : S → ℕ) (limit : ℕ) (script : Script)
    (contents : ℕ → Option (List ℕ)) (named : Slots) (log : SwitchLog) (after : timeline.Switch) (rows : List (SlotReport S)) (left : List (ℕ × Caller × Waits))
    (laws : SwitchLaws) (run : IsSwitchRun script (opened named) log after) (are : AreRows moment_of left_since told faults_of limit script contents named log rows)
    (there : AreThere (length rows) log) (many : length rows ≡ length named) (left_in : AreLeftIn (length rows) left) (order : AreInOrder log.accepted)
    (ticks : AreTicksInRange log.accepted) (fits : RowsTell told rows → IsFitRun script (opened named) log after)
    (unless : AreSettledUnless told limit script contents named log left rows) where
  none_posted : RowsTell told rows → (slot : ℕ) → IsOfNoClass script (object_at named slot) → of_slot slot log.posts ≡ []
  none_posted tell slot unknown =
      unposted moment_of left_since told faults_of limit script contents named log rows are there laws.few laws.alone (whole after run) slot unknown tell

  pub settled : AreSettled told limit script contents named log left rows
  settled = are_settled moment_of left_since told faults_of limit script contents named log after rows left laws.asked run are there none_posted unless

  fitting : RowsTell told rows → (slot : ℕ) → AreFitting script (class_in script (object_at named slot)) (of_slot slot log.posts)
  fitting tell slot =
      by_class script (object_at named slot) _
      (λ has. run_fits laws.fit laws.moments script named slot has log after run ticks)
      (λ unknown. subst (AreFitting script (class_in script (object_at named slot))) (sym (none_posted tell slot unknown)) tt)

  -- no call was dropped
  no_calls : RowsTell told rows → DropNoCalls rows
  no_calls tell slot row at =
      by_class script (object_at named slot) (called_in (fronted row.front).dropped ≡ [])
      (λ has. none_called (fronted row.front) row.back.downs.items (fronted row.front).dropped (((are slot row at).answered (tell slot row at)).drops (fitting tell slot)).each)
      (λ unknown. ap called_in (dropped_none (of_slot slot log.posts) row (are slot row at).served (none_posted tell slot unknown)))

  -- what a left call waits for is open
  item_open : RowsTell told rows → (item : ℕ × Caller × Waits) → WaitsForRouted (of_slot item.0 log.posts) (of_slot item.0 log.routed) (item.1, item.2) → HasItsFetch after item
  item_open tell (slot, from.Request line number, waits.Fetch incarnation own) is =
      laws.open_fetches script named log after (fits tell) slot (incarnation, own) is.let_go
      (none_of_it (incarnation, own) (answered_in (of_slot slot log.posts)) is.none_given)
  item_open tell (slot, from.Request line number, waits.Call class name) is = tt
  item_open tell (slot, from.Request line number, waits.Block) is = tt
  item_open tell (slot, from.Object other incarnation own, wait) is = tt

  row_waits : RowsTell told rows → (slot : ℕ) (row : SlotReport S) → slice_get rows slot ≡ Some row
      → All (WaitsForRouted (of_slot slot log.posts) (of_slot slot log.routed)) (remaining_of slot left)
  row_waits tell slot row at =
      by_class script (object_at named slot) _ (λ has. ((settled tell slot row at).known has).waits (fitting tell slot))
      (λ unknown. subst (All (WaitsForRouted (of_slot slot log.posts) (of_slot slot log.routed))) (sym ((settled tell slot row at).unknown unknown).left)
      (All-nil (WaitsForRouted (of_slot slot log.posts) (of_slot slot log.routed))))

  all_open : RowsTell told rows → HaveTheirFetches after left
  all_open tell =
      each_own (λ slot. WaitsForRouted (of_slot slot log.posts) (of_slot slot log.routed)) (HasItsFetch after) (item_open tell) left
      (λ slot.
      ⊎_elim
      (λ less. let row = item_at rows slot less in row_waits tell slot row.0 row.1)
      (λ behind. subst (All (WaitsForRouted (of_slot slot log.posts) (of_slot slot log.routed))) (sym (behind_left (length rows) slot left behind left_in))
      (All-nil (WaitsForRouted (of_slot slot log.posts) (of_slot slot log.routed))))
      (cases_lt slot (length rows)))

  -- who called a slot's object was served by it, or is left
  row_served : RowsTell told rows → (slot : ℕ) (row : SlotReport S) → slice_get rows slot ≡ Some row
      → IsServedOnce (called_in (of_slot slot log.posts)) (replied_in (of_slot slot log.routed)) (callers (remaining_of slot left))
  row_served tell slot row at =
      by_class script (object_at named slot) _ (λ has. ((settled tell slot row at).known has).once (no_calls tell slot row at))
      (λ unknown.
      let none = (settled tell slot row at).unknown unknown in
      subst (λ (es : List Event). IsServedOnce (called_in es) (replied_in (of_slot slot log.routed)) (callers (remaining_of slot left))) (sym none.posted)
      (subst (λ (items : List (Caller × Waits)). IsServedOnce [] (replied_in (of_slot slot log.routed)) (callers items)) (sym none.left)
      (serves_nobody (of_slot slot log.routed)
      (λ c. omega (
        arith,
        no_more moment_of left_since told faults_of limit script contents named log rows are there tell slot c,
        ap (λ (es : List Event). times c (called_in es)) none.posted,
      )))))

  served : RowsTell told rows → AreServedOnce (length named) log left
  served tell slot less =
      let row = item_at rows slot (subst (λ (n : ℕ). slot < n) (sym many) less) in row_served tell slot row.0 row.1

  of_slots : AreLeftIn (length named) left
  of_slots = subst (λ (n : ℕ). AreLeftIn n left) many left_in

  -- each accepted call has its one line, and each call and fetch of an object its one answer, or waits for it
  calls_once : RowsTell told rows → AreAnsweredOrLeft log.accepted log.lines left
  calls_once tell = laws.calls script named log after left (fits tell) order of_slots (served tell)

  lines_once : RowsTell told rows → AreToldOnce log.accepted (gave log (finished_by after left)).lines
  lines_once tell =
      laws.lines.whole log.accepted log.lines after left (laws.lines.run script named log after run) (all_open tell) (calls_once tell)

  asks_once : RowsTell told rows → HaveOneAnswer log after left
  asks_once tell slot asked =
      laws.asks script named log after left (fits tell) of_slots (served tell) slot asked
      (all_once moment_of left_since told faults_of limit script contents named log rows are there tell slot asked)

  pub answered : AreCallsAnswered told log (gave log (finished_by after left)) after left rows
  answered tell = record { calls = calls_once tell; lines = lines_once tell; asks = asks_once tell }

  pub in_order : AreCallsInOrder after rows
  in_order = come_in_order moment_of left_since told faults_of limit script contents named log after rows laws.order run are

-- What the rows tell of what was dropped.
use Rattle.std.proofs.Common.{◌≡◌, sym, subst, ℕ, List, [], Option, Some}
use Rattle.std.specs.Prelude.{slice_get}
use Rattle.std.specs.List.{All}
use Rattle.std.proofs.lemmas.List.Elements.{All-nil}
use Rattle.do_tree.specs.Tree.{Script}
use Rattle.mailbox.specs.Posting.{of_slot}
use Rattle.mailbox.specs.Seen.{seen_log}
use Rattle.mailbox.specs.SoFar.{IsRunSoFar}
use Rattle.mailbox.specs.declared.switch_log.SwitchLog.{SwitchLog as SeenSwitchLog}
use Rattle.object_core.specs.Drops.{AreAnsweredOnce, DropsOnly, IsOfEnded}
use Rattle.object_core.specs.One.{HasItsClass}
use Rattle.placement.specs.Slots.{Slots, object_at}
use Rattle.switch_history.specs.Laws.{PostsFit}
use Rattle.switch_history.specs.Moments.{MomentsAreInRange}
use Rattle.batch_journal.specs.Moments.{IsTold}
use Rattle.timeline.specs.Logs.{fronted}
use Rattle.timeline.specs.Switch.{opened}
use Rattle.timeline.specs.declared.event.Event.{Event}
use Rattle.host_core.proofs.Dropped.{posts_fit_in}
use Rattle.host_core.proofs.Unknown.{by_class, dropped_none}
use Rattle.host_core.specs.Dropped.{AreDropsOnly}
use Rattle.host_core.specs.Quiet.{IsOfNoClass, RowsTell}
use Rattle.host_core.specs.Rows.{AreRows}
use Rattle.host_core.specs.declared.report.SlotReport.{SlotReport}

module _ {S : Type 0} (moment_of : S → ℕ) (left_since : S → ℕ → List ℕ → Type 0) (told : S → Option (List ℕ)) (faults_of : S → ℕ)
    (limit : ℕ) (script : Script) (contents : ℕ → Option (List ℕ)) (named : Slots) (logged : SeenSwitchLog) (rows : List (SlotReport S))
    (fit : PostsFit) (moments : MomentsAreInRange) (run : IsRunSoFar script (opened named) (seen_log logged))
    (are : AreRows moment_of left_since told faults_of limit script contents named (seen_log logged) rows)
    (once : RowsTell told rows → (slot : ℕ) → AreAnsweredOnce (of_slot slot (seen_log logged).posts))
    (unposted : RowsTell told rows → (slot : ℕ) → IsOfNoClass script (object_at named slot) → of_slot slot (seen_log logged).posts ≡ []) where
  each_drops : (slot : ℕ) (row : SlotReport S) → slice_get rows slot ≡ Some row → HasItsClass script (object_at named slot) → IsTold (told row.store)
      → DropsOnly (of_slot slot (seen_log logged).posts) (fronted row.front) row.back.downs.items
  each_drops slot row is has is_told = ((are slot row is).answered is_told).drops (posts_fit_in fit moments script named logged run slot has)

  pub are_drops_only : AreDropsOnly told script named (seen_log logged) rows
  are_drops_only = record {
    each = each_drops;
    answers = λ tell slot row is.
        by_class script (object_at named slot) (All (IsOfEnded (fronted row.front)) (fronted row.front).dropped)
        (λ has. (each_drops slot row is has (tell slot row is)).answers (once tell slot))
        (λ unknown.
        subst (λ (es : List Event). All (IsOfEnded (fronted row.front)) es)
        (sym (dropped_none (of_slot slot (seen_log logged).posts) row (are slot row is).served (unposted tell slot unknown)))
        (All-nil (IsOfEnded (fronted row.front))));
    unposted = unposted;
  }

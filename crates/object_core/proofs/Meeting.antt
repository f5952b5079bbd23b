-- Halves that ran apart are paired, and the front hears of its back.
use Rattle.std.proofs.Common.{◌≡◌, ◌∙◌, ap, sym, refl, inl, true≢false, ℕ, suc, ◌+◌, List, [], ◌++◌, append_assoc, length, arith, Option}
use Rattle.std.specs.Prelude.{false}
use Rattle.do_tree.specs.Tree.{Script}
use Rattle.storage_map.specs.Contents.{Contents}
use Rattle.timeline.specs.Intake.{Kind, opened as opens}
use Rattle.timeline.specs.Logs.{fronted}
use Rattle.timeline.specs.declared.back_log.Stop.{Stop}
use Rattle.timeline.specs.declared.entry.Entry.{Entry}
use Rattle.timeline.specs.declared.event.Event.{Event}
use Rattle.timeline.specs.declared.notice.Notice.{Notice}
use Rattle.object_front.specs.Evaluated.{seen}
use Rattle.front_half.specs.Standing.{Stood, IsClass, IsHalf, fresh, is_stopped, kind_in, nothing_logged}
use Rattle.object_front.specs.declared.evaluated.Evaluated.{Evaluated}
use Rattle.front_half.specs.declared.half.Half.{Half}
use Rattle.object_history.proofs.WellSaid.{delivers_well, answers_well}
use Rattle.object_history.specs.Pair.{Rear}
use Rattle.object_history.specs.Stepping.{BackSteps, IsRear}
use Rattle.front_history.specs.Turns.{AreUnderWay, BackStepsKeep, FrontBegins, TurnSteps}
use Rattle.object_core.proofs.Attending.{turn_heard}
use Rattle.object_core.proofs.Forward.{BackWent, FrontWent, FrontSteps, turned, halted, back_went, front_went}
use Rattle.object_core.proofs.Hearing.{back_heard}
use Rattle.object_core.proofs.Joining.{JointOf, Keeps, all_meet}
use Rattle.object_core.proofs.Pairing.{pair_now, taken_now}
use Rattle.object_core.specs.Apart.{BackRuns, FrontRuns, IsOpened, Meet}

-- What a turn leaves under way.
pub way_on : (old new : Half Evaluated) (before got heard left : List Notice) (line sent : List Entry) → new.log.sent.items ≡ old.log.sent.items ++ sent
    → got ≡ before ++ heard → AreUnderWay old new before got line (line ++ sent) (heard ++ left) left
way_on old new before got heard left line sent logged came = record {
  sent = sent;
  logged = logged;
  behind = refl;
  told = sym (append_assoc before heard left) ∙ ap (λ (ns : List Notice). ns ++ left) (sym came);
}

module _ (begins : FrontBegins) (laws : TurnSteps) (back_keeps : BackStepsKeep) (script : Script) (class : ℕ) (opened : Contents) where
  abbrev k : Kind
  k = kind_in script class

  -- A turn of the front leaves both so.
  pub turn_meets : (old new : Half Evaluated) (st next : Stood) (events later : List Event) (heard left : List Notice) (rear : Rear) (line sent : List Entry)
      → IsRear opened rear → is_stopped old ≡ false → new.log.sent.items ≡ old.log.sent.items ++ sent → FrontSteps script old new st events later heard next
      → IsClass next.class class → Meet script class opened st old rear line (heard ++ left) → Meet script class opened next new rear (line ++ sent) left
  turn_meets old new st _ events later heard left rear line sent known on logged (turned before got told came turns) is_class met =
      let way = way_on old new before got heard left line sent logged came in
      record {
        paired = laws.goes_on script class opened old new st events later before got told rear line (line ++ sent) (heard ++ left) left known on met.paired way turns is_class;
        heard = λ on_then.
            turn_heard script class opened (opens opened.alarm) met.paired.taken old new st events later before got told rear line (line ++ sent) (heard ++ left) left on met.paired way
            (taken_now k opened st old rear line (heard ++ left) on met.paired) turns is_class (met.heard on);
      }
  turn_meets old new st _ events later heard left rear line sent known on logged (halted before got told came halts) is_class met =
      let way = way_on old new before got heard left line sent logged came in
      record {
        paired = laws.halts script class opened old new st events later before got told rear line (line ++ sent) (heard ++ left) left known on met.paired way halts is_class;
        heard = λ on_then. absurd (true≢false (sym halts.stops.stopped ∙ on_then));
      }

  -- So does a step of the back.
  pub step_meets : (half : Half Evaluated) (st : Stood) (rear next : Rear) (got line : List Entry) (told notices : List Notice)
      → IsRear opened rear → IsRear opened next → BackSteps rear next got told
      → Meet script class opened st half rear (got ++ line) notices → Meet script class opened st half next line (notices ++ told)
  step_meets half st rear next got line told notices known known_then step met = record {
    paired = back_keeps k opened st half rear next got line told told notices known known_then step (inl refl) met.paired;
    heard = λ on.
        back_heard (record { on_event = delivers_well; on_answer = answers_well }) k opened st.front (fronted half.log) rear next got line told notices step
        (pair_now k opened st half rear (got ++ line) notices on met.paired) (met.heard on);
  }

  -- Both halves of a slot that was just mounted.
  pub begin_meets : (half : Half Evaluated) (first : Option ℕ) (rear : Rear) → fronted half.log ≡ nothing_logged → IsOpened opened rear
      → Meet script class opened (fresh first opened.alarm) half rear [] []
  begin_meets half first rear unlogged is = record {
    paired = begins k opened (fresh first opened.alarm) half rear is.is_rear is.stand is.held is.taken is.stops is.downs unlogged refl;
    heard = λ on. record {
      news = λ differs. absurd (differs (ap (λ (stops : List Stop). suc (length stops)) is.stops));
      answer = λ so. absurd (true≢false (sym so));
    };
  }

  -- What both begin with, and what each of their steps keeps, holds where they ran apart.
  pub joins : (Joint : JointOf) → Keeps script class opened Joint → (first : Option ℕ)
      → ((half : Half Evaluated) (rear : Rear) → IsHalf seen script half (fresh first opened.alarm) → fronted half.log ≡ nothing_logged → IsOpened opened rear
      → Joint half (fresh first opened.alarm) [] rear [] [])
      → (half : Half Evaluated) (st : Stood) (rear : Rear) (events : List Event) (got told : List Notice) (sent taken line : List Entry) (notices : List Notice)
      → FrontRuns script first opened.alarm half st events got sent → BackRuns opened rear taken told → sent ≡ taken ++ line → told ≡ got ++ notices
      → IsClass st.class class → Joint half st events rear line notices
  joins Joint keeps first begin half st rear events got told sent taken line notices front back is_line is_told is_class =
      let f : FrontWent script first opened.alarm half st events got sent = front_went script first opened.alarm half st events got sent front in
      let b : BackWent opened rear taken told = back_went opened rear taken told back in
      all_meet script class opened Joint keeps half st events rear is_class (f.count + b.count) f.count b.count f.half (fresh first opened.alarm) [] got sent
      b.first taken told [] line [] notices (omega arith) f.goes b.goes b.is_opened.is_rear is_line is_told
      (begin f.half b.first f.stands f.unlogged b.is_opened)

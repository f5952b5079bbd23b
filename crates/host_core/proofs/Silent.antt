-- What the logs of an object show that has done nothing, whichever class it may have; and what storage of which nothing was taken recovers to.
use Rattle.std.proofs.Common.{◌≡◌, ◌∙◌, ap, refl, sym, subst, arith, inl, inr, ℕ, zero, suc, List, [], ◌++◌, append-nil, length, map, take, Option, Some, None}
use Rattle.std.proofs.Math.Seq.{take-nil}
use Rattle.std.specs.List.{flat_map}
use Rattle.do_tree.specs.Tree.{Script}
use Rattle.object_core.specs.Classless.{HasDoneNothing}
use Rattle.object_core.specs.Dropping.{HasSaidNothing}
use Rattle.object_core.specs.Laws.{HasIntake}
use Rattle.output_gate.specs.Ended.{end_causes, stop_causes}
use Rattle.output_gate.specs.Kept.{RecoversTo, RecoversToLine, RecoversToPrefix}
use Rattle.storage_map.specs.Contents.{Contents}
use Rattle.storage_map.specs.Limits.{Object}
use Rattle.storage_map.specs.declared.op.Op.{Op}
use Rattle.timeline.specs.Headline.{AreHalted, AreSaid, IsHistory, IsPrefix, KeepBy, RestsUnmounted, parts_of, release_of}
use Rattle.timeline.specs.History.{Incarnation, batches_in, before_stop, entries_of, history, incarnation_at, incarnations, kept_before, kept_by, line}
use Rattle.timeline.specs.Intake.{opened as opens}
use Rattle.timeline.specs.Logs.{Backed, Fronted}
use Rattle.timeline.specs.Told.{spoken}
use Rattle.timeline.specs.declared.back_log.Stop.{Stop}
use Rattle.timeline.specs.declared.entry.Entry.{Entry}

-- Nothing begins each list.
begins_none : {X : Type 0} (xs whole : List X) → xs ≡ [] → IsPrefix xs whole
begins_none xs whole none = (whole, ap (λ ys. ys ++ whole) none)

said_none : (script : Script) (class : ℕ) (opened : Contents) (front : Fronted) (back : Backed) (n : ℕ) → front.sent ≡ []
    → AreSaid script class opened front back (incarnations front back n)
said_none script class opened front back zero none = tt
said_none script class opened front back (suc n) none =
    let i : Incarnation = incarnation_at front back n in
    let silent : spoken i.sent ≡ [] = ap (λ (sent : List Entry). spoken (entries_of (suc n) sent)) none in (
      begins_none (spoken i.sent) (flat_map (λ part. part) (parts_of script class opened front back i (incarnations front back n))) silent,
      said_none script class opened front back n none,
    )

pub silent_history : (script : Script) (class : ℕ) (opened : Contents) (front : Fronted) (back : Backed) → HasDoneNothing front back
    → KeepBy (history front back) → IsPrefix (end_causes back.ends) (stop_causes back.stops) → IsHistory script class opened front back
silent_history script class opened front back done kept followed = record {
  said = said_none script class opened front back (suc (length back.stops)) done.said.sent;
  taken = begins_none back.taken front.sent done.taken;
  kept = kept;
  halted = subst (λ (stops : List Stop). AreHalted script class opened (history front (record back { stops = stops }))) (sym done.stops)
      ((λ stop never halting. absurd cc), tt);
  mounted = omega (arith, ap length done.stops);
  unmounted = subst (λ (stops : List Stop). RestsUnmounted (history front (record back { stops = stops }))) (sym done.stops) (λ never. absurd cc);
  ends = begins_none front.ends _ done.said.ends;
  followed = followed;
  released = begins_none (map release_of back.released) _ (ap (map release_of) done.released);
}

pub silent_intake : (script : Script) (class : ℕ) (from : Contents) (log : Fronted) → HasSaidNothing log → HasIntake script class from log
silent_intake script class from log none = record {
  front = opens from.alarm;
  taken = [];
  unsent = [];
  by = record {
    at = refl;
    gate = tt;
    sent = ap (λ (sent : List Entry). sent ++ []) none.sent;
    delivered = none.delivered;
    downed = none.downed;
    ends = none.ends;
  };
}

-- No batch stands on a line of which nothing was taken.
module _ (front : Fronted) (back : Backed) (none : back.taken ≡ []) where
  none_taken : (n : ℕ) → batches_in (incarnation_at front back n).taken ≡ []
  none_taken n = ap (λ (entries : List Entry). batches_in (entries_of (suc n) entries)) none

  kept_none : (count : Option ℕ) → kept_by count [] ≡ []
  kept_none None = refl
  kept_none (Some count) = take-nil count

  stopped_none : (stop : Option Stop) → before_stop stop [] ≡ []
  stopped_none None = refl
  stopped_none (Some stop) = take-nil stop.batches

  before_none : (n : ℕ) → kept_before (incarnations front back n) ≡ []
  before_none zero = refl
  before_none (suc n) =
      ap (λ (batches : List (List Op)). batches ++ kept_by (incarnation_at front back n).kept (batches_in (incarnation_at front back n).taken)) (before_none n)
      ∙ ap (kept_by (incarnation_at front back n).kept) (none_taken n) ∙ kept_none (incarnation_at front back n).kept

  line_none : (n : ℕ) → line (incarnations front back (suc n)) ≡ []
  line_none n =
      ap (λ (batches : List (List Op)). batches ++ before_stop (incarnation_at front back n).stop (batches_in (incarnation_at front back n).taken)) (before_none n)
      ∙ ap (before_stop (incarnation_at front back n).stop) (none_taken n) ∙ stopped_none (incarnation_at front back n).stop

  recovers_at : (object : Option Object) (start : List (List Op)) (n : ℕ) (c : List ℕ) → RecoversToLine object start 0 (incarnations front back n) 0 c
      → RecoversTo object start c
  recovers_at object start zero c never = absurd never
  recovers_at object start (suc n) c (inl here) =
      let held : RecoversToPrefix object start (line (incarnations front back (suc n))) 0 c = here.1 in
      subst (λ (batches : List (List Op)). RecoversTo object batches c)
      (ap (λ (batches : List (List Op)). start ++ take held.0 batches) (line_none n) ∙ ap (λ (batches : List (List Op)). start ++ batches) (take-nil held.0) ∙ append-nil start)
      held.3
  recovers_at object start (suc n) c (inr older) = recovers_at object start n c older

pub recovers_as_opened : (object : Option Object) (start : List (List Op)) (front : Fronted) (back : Backed) → back.taken ≡ [] → (c : List ℕ)
    → RecoversToLine object start 0 (history front back) 0 c → RecoversTo object start c
recovers_as_opened object start front back none c is = recovers_at front back none object start (suc (length back.stops)) c is

-- An object whose back mounts the journal again.
use Rattle.std.proofs.Common.{◌≡◌, ◌∙◌, ap, sym, refl, subst, inl, inr, true≢false, ℕ, List, [], ◌∷◌, ◌++◌, append-nil, Option}
use Rattle.std.specs.Prelude.{Bool, true, false, not, ◌⊎◌, Result, Ok, Err, OnOk, OnErr}
use Rattle.do_tree.specs.Tree.{Script}
use Rattle.do_value.specs.declared.fault.NoMemory.{NoMemory}
use Rattle.lane.specs.Lanes.{Both, sent_on}
use Rattle.storage_map.specs.Contents.{Contents}
use Rattle.timeline.specs.Logs.{Backed, backed}
use Rattle.timeline.specs.declared.entry.Entry.{Entry}
use Rattle.timeline.specs.declared.event.Event.{Event}
use Rattle.timeline.specs.declared.message.Message.{Message as Sent}
use Rattle.timeline.specs.declared.notice.Notice.{Notice}
use Rattle.timeline.specs.declared.notice.Stepped.{Stepped}
use Rattle.timeline.specs.declared.notice.Stepped.TheVariants.{Did, Nothing}
use Rattle.object_front.specs.declared.evaluated.Evaluated.{Evaluated}
use Rattle.front_half.specs.declared.half.Half.{Half}
use Rattle.output_gate.proofs.Stored.{still_end}
use Rattle.output_gate.specs.Mending.{IsIdleMend, Mends, LosesMend, Remounts, may_mend}
use Rattle.output_gate.specs.Storing.{HasLimit, KeepsTelling}
use Rattle.output_gate.specs.Serving.{IsBack, IsAsBefore, KeepsBack, StopsBy, is_stopped}
use Rattle.output_gate.specs.Telling.{opened_map}
use Rattle.output_gate.specs.Written.{FindsEnd}
use Rattle.output_gate.specs.declared.back.Back.{Back}
use Rattle.output_gate.specs.declared.back.Ending.{Ending}
use Rattle.output_gate.specs.declared.back.Mode.TheVariants.{Mounted, Wanted}
use Rattle.object_history.proofs.GateStepping as gate
use Rattle.front_history.specs.Turns.{BackStepsKeep}
use Rattle.object_core.proofs.Lanes.{took_none, sent_last}
use Rattle.object_core.proofs.Limiting.{limited_as_before, limited_noted, limited_remounts, never_mends}
use Rattle.object_core.proofs.Rebuilding.{One, hears_on, alarm_now, stepped, unseen, same_queue}
use Rattle.object_core.specs.One.{Origin, TellsNow, messages}
use Rattle.object_core.specs.Seen.{due_map}

-- What the back's own contract says of a mounting.
pub record MendsBy {D : Type 0} (moment_of : D → ℕ) (left_since : D → ℕ → List ℕ → Type 0) (told : D → Option (List ℕ)) (image : D → List ℕ → Type 0) (faults_of : D → ℕ)
    (old new : Back D) (notices later : Both Notice) (result : Result Stepped NoMemory) : Type 0 where
  pub stopped : is_stopped old ≡ true → OnOk result ⊥ × (new ≡ old) × (sent_on later ≡ sent_on notices)
  pub barred : is_stopped old ≡ false → may_mend old ≡ false → IsIdleMend old new (sent_on notices) (sent_on later) result
  pub nothing : result ≡ Ok Nothing → may_mend old ≡ false
  pub mended : result ≡ Ok Did → Mends faults_of old new (sent_on notices) (sent_on later)
  pub lost : OnErr result (LosesMend faults_of old new (sent_on notices) (sent_on later))
  pub stops : StopsBy result new
  pub finds : FindsEnd told old new
  pub tells : KeepsTelling told old.store new.store
  pub limit : HasLimit old.limit old.store → HasLimit old.limit new.store
  pub outlet : later.got ≡ notices.got
  pub back : KeepsBack moment_of left_since told image faults_of old new

module _ {D : Type 0} (faults_of : D → ℕ) (old new : Back D) (ending : Ending) (notice : Notice) where
  stuck_still : Remounts faults_of old new ending notice → new.stuck ≡ old.stuck
  stuck_still (inl begun) = ap (λ (b : Back D). b.stuck) begun.begins.same
  stuck_still (inr missed) = ap (λ (b : Back D). b.stuck) missed.misses.same

  identity_still : Remounts faults_of old new ending notice → new.identity ≡ old.identity
  identity_still (inl begun) = ap (λ (b : Back D). b.identity) begun.begins.same
  identity_still (inr missed) = ap (λ (b : Back D). b.identity) missed.misses.same

  taken_still : Remounts faults_of old new ending notice → new.log.taken.items ≡ old.log.taken.items
  taken_still (inl begun) = ap (λ (x : Backed). x.taken) begun.begins.log
  taken_still (inr missed) = ap (λ (x : Backed). x.taken) missed.misses.log

  released_still : Remounts faults_of old new ending notice → new.log.released.items ≡ old.log.released.items
  released_still (inl begun) = ap (λ (x : Backed). x.released) begun.begins.log
  released_still (inr missed) = ap (λ (x : Backed). x.released) missed.misses.log

module _ {D : Type 0} (moment_of : D → ℕ) (left_since : D → ℕ → List ℕ → Type 0) (told : D → Option (List ℕ)) (image : D → List ℕ → Type 0) (faults_of : D → ℕ)
    (keeps : BackStepsKeep) (script : Script) (origin : Origin) (front : Half Evaluated) (inbox : Both Event) (old new : Back D) (line : Both Entry)
    (notices later : Both Notice) (out : Both Sent) (one : One moment_of left_since told image faults_of script origin front inbox old line notices out) where
  abbrev After : Type 0
  After = One moment_of left_since told image faults_of script origin front inbox new line later out

  abbrev Known : Type 0
  Known = IsBack moment_of left_since told image faults_of origin.start origin.opening new

  -- A journal that is mounted again has the back's limit.
  abbrev KeepsOwn : Type 0
  KeepsOwn = HasLimit old.limit old.store → HasLimit old.limit new.store

  idle : new ≡ old → later.got ≡ notices.got → sent_on later ≡ sent_on notices → After
  idle same got said =
      subst (λ (b : Back D). One moment_of left_since told image faults_of script origin front inbox b line later out) (sym same)
      (subst (λ (n : Both Notice). One moment_of left_since told image faults_of script origin front inbox old line n out)
      (sym (same_queue notices later got (sym (took_none notices later got said)))) one)

  mounts : is_stopped old ≡ false → is_stopped new ≡ false → Known → FindsEnd told old new → KeepsTelling told old.store new.store → KeepsOwn → later.got ≡ notices.got
      → Mends faults_of old new (sent_on notices) (sent_on later) → After
  mounts on goes known finds telling own got m =
      let opened : Contents = opened_map origin.start in
      let s = gate.mend_steps moment_of left_since told image faults_of origin.start origin.opening (not (is_stopped old)) old new (due_map opened (backed old.log))
      (due_map opened (backed new.log)) one.back_stands (sent_on notices) (sent_on later) m in
      let come : TellsNow told new → later.waiting ≡ notices.waiting ++ s.0 = λ tells.
      sent_last notices later s.0 got (s.2 (alarm_now moment_of left_since told image faults_of script origin front inbox new tells known goes)) in
      stepped moment_of left_since told image faults_of script origin front inbox keeps old new line notices later out out one known telling
      (identity_still faults_of old new m.ending m.notice m.remounts)
      (λ free off. one.none_lost (sym (stuck_still faults_of old new m.ending m.notice m.remounts) ∙ free) on)
      (λ off. (on, stuck_still faults_of old new m.ending m.notice m.remounts))
      (taken_still faults_of old new m.ending m.notice m.remounts)
      (ap messages (released_still faults_of old new m.ending m.notice m.remounts) ∙ one.left)
      (λ tells. record {
        heard = s.0;
        given = s.0;
        steps = s.1;
        are = inl refl;
        come = come tells;
      })
      (hears_on moment_of left_since told image faults_of script origin front inbox old new line notices out one telling (λ off. on) [] (one.lost ++ line.waiting) s.0
      later.waiting (λ tells still. record { steps = s.1; come = come tells }) refl)
      (limited_remounts moment_of left_since told image faults_of origin.start origin.opening (not (is_stopped old)) origin.extent old new one.back_stands telling one.limited
      m.ending m.notice m.wanted m.remounts finds own)

  -- What the front is told of it is lost.
  unheard : is_stopped new ≡ true → Known → FindsEnd told old new → KeepsTelling told old.store new.store → KeepsOwn → later.got ≡ notices.got → sent_on later ≡ sent_on notices
      → (ending : Ending) (notice : Notice) → old.mode ≡ Wanted ending → Remounts faults_of old (record new { stopped = old.stopped }) ending notice → After
  unheard off known finds telling own got said ending notice wants remounts =
      let noted : Back D = record new { stopped = old.stopped } in
      let m : Mends faults_of old noted [] (notice ∷ []) = record { ending = ending; notice = notice; wanted = wants; remounts = remounts; told = refl } in
      let opened : Contents = opened_map origin.start in
      let s = gate.mend_steps moment_of left_since told image faults_of origin.start origin.opening (not (is_stopped old)) old noted (due_map opened (backed old.log))
      (due_map opened (backed new.log)) one.back_stands [] (notice ∷ []) m in
      stepped moment_of left_since told image faults_of script origin front inbox keeps old new line notices later out out one known telling
      (identity_still faults_of old noted ending notice remounts)
      (λ free on. absurd (true≢false (sym off ∙ on))) (λ on. absurd (true≢false (sym off ∙ on)))
      (taken_still faults_of old noted ending notice remounts)
      (ap messages (released_still faults_of old noted ending notice remounts) ∙ one.left)
      (λ tells. record {
        heard = s.0;
        given = [];
        steps = s.1;
        are = inr refl;
        come = sym (took_none notices later got said) ∙ sym (append-nil notices.waiting);
      })
      (λ tells on goes. absurd (true≢false (sym off ∙ goes)))
      (limited_noted told origin.extent old.stopped new
      (limited_remounts moment_of left_since told image faults_of origin.start origin.opening (not (is_stopped old)) origin.extent old noted one.back_stands telling one.limited
      ending notice wants remounts finds own))

  loses : is_stopped new ≡ true → Known → FindsEnd told old new → (old.mode ≡ Mounted → new ≡ old) → KeepsTelling told old.store new.store → KeepsOwn → later.got ≡ notices.got → sent_on later ≡ sent_on notices
      → IsAsBefore old new ⊎ ((ending : Ending) × (notice : Notice) × (old.mode ≡ Wanted ending) × Remounts faults_of old (record new { stopped = old.stopped }) ending notice)
      → After
  loses off known finds rests telling own got said (inl same) =
      unseen moment_of left_since told image faults_of script origin front inbox keeps old new line notices later out out one known telling same.identity
      (λ free on. absurd (true≢false (sym off ∙ on))) (λ on. absurd (true≢false (sym off ∙ on))) same.log same.held same.mode same.before same.durable got said refl off
      (limited_as_before moment_of left_since told image faults_of origin.start origin.opening (not (is_stopped old)) origin.extent old new one.back_stands telling one.limited
      same own (λ mounted. still_end old.store new.store (ap (λ (b : Back D). b.store) (rests mounted))))
  loses off known finds rests telling own got said (inr lost) = unheard off known finds telling own got said lost.0 lost.1 lost.2 lost.3

  ran : (result : Result Stepped NoMemory) → is_stopped old ≡ false → Known → MendsBy moment_of left_since told image faults_of old new notices later result → After
  ran (Ok Did) on known by = mounts on by.stops.good known by.finds by.tells by.limit by.outlet (by.mended refl)
  ran (Ok Nothing) on known by =
      let i = by.barred on (by.nothing refl) in
      idle i.back by.outlet i.told
  ran (Err fault) on known by =
      loses by.stops.wanting known by.finds (λ mounted. (by.barred on (never_mends old mounted)).back) by.tells by.limit by.outlet by.lost.told by.lost.log

  stopped_as : (off : Bool) → is_stopped old ≡ off → (result : Result Stepped NoMemory)
      → MendsBy moment_of left_since told image faults_of old new notices later result → After
  stopped_as true off result by =
      let s = by.stopped off in
      idle s.1 by.outlet s.2
  stopped_as false on result by = ran result on (by.back origin.start origin.opening one.back_stands) by

  pub mend_keeps : (result : Result Stepped NoMemory) → MendsBy moment_of left_since told image faults_of old new notices later result → After
  mend_keeps result by = stopped_as (is_stopped old) refl result by

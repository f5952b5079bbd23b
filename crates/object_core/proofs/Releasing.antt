-- An object whose back lets go the first of what it holds.
use Rattle.std.proofs.Common.{◌≡◌, ◌∙◌, ap, sym, refl, subst, inl, true≢false, ℕ, List, [], ◌++◌, append-nil, append_assoc, Option}
use Rattle.std.proofs.lemmas.List.{map-append}
use Rattle.std.specs.Prelude.{Bool, true, false, not, Result, Ok, Err, OnOk, OnErr}
use Rattle.do_tree.specs.Tree.{Script}
use Rattle.do_value.specs.declared.fault.NoMemory.{NoMemory}
use Rattle.lane.specs.Lanes.{Both, sent_on}
use Rattle.storage_map.specs.Contents.{Contents}
use Rattle.timeline.specs.Logs.{Backed, backed}
use Rattle.timeline.specs.declared.back_log.Release.{Release}
use Rattle.timeline.specs.declared.entry.Entry.{Entry}
use Rattle.timeline.specs.declared.event.Event.{Event}
use Rattle.timeline.specs.declared.message.Message.{Message as Sent}
use Rattle.timeline.specs.declared.notice.Notice.{Notice}
use Rattle.timeline.specs.declared.notice.Stepped.{Stepped}
use Rattle.timeline.specs.declared.notice.Stepped.TheVariants.{Did, Nothing}
use Rattle.object_front.specs.declared.evaluated.Evaluated.{Evaluated}
use Rattle.front_half.specs.declared.half.Half.{Half}
use Rattle.output_gate.proofs.Stored.{still_tells}
use Rattle.output_gate.specs.Releasing.{IsIdleRelease, Releases, Stays, may_release, released_log, released_messages, released_notices}
use Rattle.output_gate.specs.Storing.{KeepsDisk}
use Rattle.output_gate.specs.Serving.{IsBack, KeepsBack, StopsBy, is_stopped}
use Rattle.output_gate.specs.Telling.{opened_map}
use Rattle.output_gate.specs.declared.back.Back.{Back}
use Rattle.output_gate.specs.declared.held.Held.{Held as BackHeld}
use Rattle.output_gate.specs.declared.held.HeldBody.{HeldBody}
use Rattle.output_gate.specs.declared.held.HeldBody.TheVariants.{Message, Sync, Halt}
use Rattle.object_history.proofs.GateReleasing as gate
use Rattle.object_history.specs.Stepping.{BackSteps}
use Rattle.front_history.specs.Turns.{BackStepsKeep}
use Rattle.object_core.proofs.Due.{alarm_released}
use Rattle.object_core.proofs.Lanes.{took_none, sent_last}
use Rattle.object_core.proofs.Limiting.{limited_release, limited_stays}
use Rattle.object_core.proofs.Rebuilding.{One, hears_on, disk_of, alarm_now, stepped, unseen, same_queue}
use Rattle.object_core.specs.One.{Origin, TellsNow, messages}
use Rattle.object_core.specs.Seen.{due_map, seen_of}

-- What the back's own contract says of a release over two queues.
pub record ReleasesBy {D : Type 0} (moment_of : D → ℕ) (left_since : D → ℕ → List ℕ → Type 0) (told : D → Option (List ℕ)) (image : D → List ℕ → Type 0) (faults_of : D → ℕ)
    (old new : Back D) (notices later : Both Notice) (out later_out : Both Sent) (result : Result Stepped NoMemory) : Type 0 where
  pub stopped : is_stopped old ≡ true → OnOk result ⊥ × (new ≡ old) × (sent_on later ≡ sent_on notices) × (sent_on later_out ≡ sent_on out)
  pub barred : is_stopped old ≡ false → may_release old ≡ false
      → IsIdleRelease old new (sent_on notices) (sent_on later) (sent_on out) (sent_on later_out) result
  pub nothing : result ≡ Ok Nothing → may_release old ≡ false
  pub released : result ≡ Ok Did → Releases moment_of old new (sent_on notices) (sent_on later) (sent_on out) (sent_on later_out)
  pub stays : OnErr result (Stays old new (sent_on notices) (sent_on later) (sent_on out) (sent_on later_out))
  pub stops : StopsBy result new
  pub disk : KeepsDisk old.store new.store
  pub outlet : later.got ≡ notices.got
  pub left : later_out.got ≡ out.got
  pub back : KeepsBack moment_of left_since told image faults_of old new

-- What is logged as released is what left.
log_left : {D : Type 0} (back : Back D) (moment : ℕ) (held : BackHeld) (b : HeldBody)
    → messages (released_log back moment held b).released ≡ messages back.log.released.items ++ released_messages b
log_left back moment held (Message sent) = map-append (λ (release : Release). release.message) back.log.released.items _
log_left back moment held (Sync number) = sym (append-nil (messages back.log.released.items))
log_left back moment held (Halt cause) = sym (append-nil (messages back.log.released.items))

log_taken : {D : Type 0} (back : Back D) (moment : ℕ) (held : BackHeld) (b : HeldBody) → (released_log back moment held b).taken ≡ back.log.taken.items
log_taken back moment held (Message sent) = refl
log_taken back moment held (Sync number) = refl
log_taken back moment held (Halt cause) = refl

module _ {D : Type 0} (moment_of : D → ℕ) (left_since : D → ℕ → List ℕ → Type 0) (told : D → Option (List ℕ)) (image : D → List ℕ → Type 0) (faults_of : D → ℕ)
    (keeps : BackStepsKeep) (script : Script) (origin : Origin) (front : Half Evaluated) (inbox : Both Event) (old new : Back D) (line : Both Entry)
    (notices later : Both Notice) (out later_out : Both Sent) (one : One moment_of left_since told image faults_of script origin front inbox old line notices out) where
  abbrev After : Type 0
  After = One moment_of left_since told image faults_of script origin front inbox new line later later_out

  idle : new ≡ old → later.got ≡ notices.got → sent_on later ≡ sent_on notices → later_out.got ≡ out.got → sent_on later_out ≡ sent_on out → After
  idle same got said out_got out_said =
      subst (λ (b : Back D). One moment_of left_since told image faults_of script origin front inbox b line later later_out) (sym same)
      (subst (λ (n : Both Notice). One moment_of left_since told image faults_of script origin front inbox old line n later_out)
      (sym (same_queue notices later got (sym (took_none notices later got said))))
      (subst (λ (o : Both Sent). One moment_of left_since told image faults_of script origin front inbox old line notices o)
      (sym (same_queue out later_out out_got (sym (took_none out later_out out_got out_said)))) one))

  let_go : is_stopped old ≡ false → is_stopped new ≡ false → IsBack moment_of left_since told image faults_of origin.start origin.opening new
      → KeepsDisk old.store new.store → later.got ≡ notices.got → Releases moment_of old new (sent_on notices) (sent_on later) (sent_on out) (sent_on later_out) → After
  let_go on goes known same_disk got r =
      let telling = still_tells told old.store new.store same_disk in
      let disk = disk_of moment_of left_since told image faults_of script origin front inbox _ old one.back_stands in
      let log = r.log disk.0 disk.1 in
      let opened : Contents = opened_map origin.start in
      let heard : List Notice = released_notices old r.first.body in
      let steps : TellsNow told new → BackSteps (seen_of opened old) (seen_of opened new) [] heard = λ tells.
      gate.release_steps moment_of left_since told image faults_of origin.start origin.opening (not (is_stopped old)) old new (due_map opened (backed old.log))
      (due_map opened (backed new.log)) (sent_on notices) (sent_on later) (sent_on out) (sent_on later_out) one.back_stands r
      (λ mounted.
      alarm_now moment_of left_since told image faults_of script origin front inbox new tells known goes (r.mode ∙ mounted)
      ∙ alarm_released moment_of old new (sent_on notices) (sent_on later) (sent_on out) (sent_on later_out) r) in
      stepped moment_of left_since told image faults_of script origin front inbox keeps old new line notices later out later_out one known telling r.identity
      (λ free off. one.none_lost (sym r.stuck ∙ free) on) (λ off. (on, r.stuck))
      (ap (λ (x : Backed). x.taken) log ∙ log_taken old (moment_of disk.0) r.first r.first.body)
      (ap (λ (x : Backed). messages x.released) log ∙ log_left old (moment_of disk.0) r.first r.first.body
      ∙ ap (λ (x : List Sent). x ++ released_messages r.first.body) one.left ∙ append_assoc origin.left (sent_on out) (released_messages r.first.body)
      ∙ ap (λ (x : List Sent). origin.left ++ x) (sym r.left))
      (λ tells. record {
        heard = heard;
        given = heard;
        steps = steps tells;
        are = inl refl;
        come = sent_last notices later heard got r.told;
      })
      (hears_on moment_of left_since told image faults_of script origin front inbox old new line notices out one telling (λ off. on) [] (one.lost ++ line.waiting)
      heard later.waiting (λ tells still. record { steps = steps tells; come = sent_last notices later heard got r.told }) refl)
      (limited_release moment_of left_since told image faults_of origin.start origin.opening (not (is_stopped old)) origin.extent old new one.back_stands telling one.limited
      (not (is_stopped new)) known disk.0 disk.1 (sent_on notices) (sent_on later) (sent_on out) (sent_on later_out) r)

  may_as : (may : Bool) → may_release old ≡ may → is_stopped old ≡ false → IsBack moment_of left_since told image faults_of origin.start origin.opening new
      → (result : Result Stepped NoMemory) → ReleasesBy moment_of left_since told image faults_of old new notices later out later_out result → After
  may_as may is on known (Ok Did) by = let_go on by.stops.good known by.disk by.outlet (by.released refl)
  may_as may is on known (Ok Nothing) by =
      let i = by.barred on (by.nothing refl) in
      idle i.back by.outlet i.told by.left i.left
  may_as may is on known (Err fault) by =
      let s = by.stays in
      unseen moment_of left_since told image faults_of script origin front inbox keeps old new line notices later out later_out one known (still_tells told old.store new.store by.disk) s.identity
      (λ free off. absurd (true≢false (sym by.stops.wanting ∙ off))) (λ off. absurd (true≢false (sym by.stops.wanting ∙ off))) s.log (ap (λ h. h.items) s.held) s.mode s.before s.durable by.outlet s.told
      (same_queue out later_out by.left (sym (took_none out later_out by.left s.left))) by.stops.wanting
      (limited_stays moment_of left_since told image faults_of origin.start origin.opening (not (is_stopped old)) origin.extent old new one.back_stands
      (still_tells told old.store new.store by.disk) one.limited (sent_on notices) (sent_on later) (sent_on out) (sent_on later_out) s)

  stopped_as : (off : Bool) → is_stopped old ≡ off → (result : Result Stepped NoMemory)
      → ReleasesBy moment_of left_since told image faults_of old new notices later out later_out result → After
  stopped_as true off result by =
      let s = by.stopped off in
      idle s.1 by.outlet s.2 by.left s.3
  stopped_as false on result by = may_as (may_release old) refl on (by.back origin.start origin.opening one.back_stands) result by

  pub release_keeps : (result : Result Stepped NoMemory) → ReleasesBy moment_of left_since told image faults_of old new notices later out later_out result → After
  release_keeps result by = stopped_as (is_stopped old) refl result by

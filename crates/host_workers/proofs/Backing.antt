-- The cell of a back is kept by each of its steps.
use Rattle.std.proofs.Common.{◌≡◌, ◌≢◌, ◌∙◌, ap, sym, refl, subst, inl, inr, ⊎_elim, true≢false, ℕ, List, [], ◌∷◌, ◌++◌, append-nil, Option, None}
use Rattle.std.proofs.lemmas.Bool.{cases_eq}
use Rattle.std.proofs.lemmas.List.{map-append}
use Rattle.std.specs.Prelude.{Bool, true, false, not, ◌&&◌, ◌⊎◌, option_to_list, Result, Ok, Err, OnOk, OnErr}
use Rattle.do_value.specs.declared.fault.NoMemory.{NoMemory}
use Rattle.storage_map.specs.Contents.{Contents}
use Rattle.storage_map.specs.declared.op.Op.{Op}
use Rattle.timeline.specs.Logs.{Backed, backed}
use Rattle.timeline.specs.declared.back_log.Release.{Release}
use Rattle.timeline.specs.declared.entry.Entry.{Entry}
use Rattle.timeline.specs.declared.message.Message.{Message as Sent}
use Rattle.timeline.specs.declared.notice.Notice.{Notice}
use Rattle.timeline.specs.declared.notice.Stepped.{Stepped}
use Rattle.timeline.specs.declared.notice.Stepped.TheVariants.{Did, Nothing}
use Rattle.output_gate.proofs.Stored.{still_tells}
use Rattle.output_gate.proofs.Unfit.{unfit_log, unfit_holds, unfit_mode, unfit_before, fit_taken, released_still}
use Rattle.output_gate.specs.Entering.{Enters, Failed, IsIdle, LosesEntry, Takes, is_unfit, notice_with}
use Rattle.output_gate.specs.Flushing.{Flushes}
use Rattle.output_gate.specs.Mending.{IsIdleMend, LosesMend, Mends, Remounts, may_mend}
use Rattle.output_gate.specs.Releasing.{IsIdleRelease, Releases, Stays, may_release, released_log, released_messages, released_notices}
use Rattle.output_gate.specs.Serving.{IsAsBefore, IsBack, KeepsBack, StopsBy, is_stopped}
use Rattle.output_gate.specs.Storing.{KeepsDisk, KeepsTelling, ReadsDisk}
use Rattle.output_gate.specs.Written.{FindsEnd}
use Rattle.output_gate.specs.Taking.{fit_of, may_take}
use Rattle.output_gate.specs.Telling.{opened_map}
use Rattle.output_gate.specs.declared.back.Back.{Back}
use Rattle.output_gate.specs.declared.back.Ending.{Ending}
use Rattle.output_gate.specs.declared.back.Mode.TheVariants.{Wanted}
use Rattle.output_gate.specs.declared.held.Held.{Held as BackHeld}
use Rattle.output_gate.specs.declared.held.HeldBody.{HeldBody}
use Rattle.output_gate.specs.declared.held.HeldBody.TheVariants.{Message, Sync, Halt}
use Rattle.object_history.proofs.GateReleasing as releasing
use Rattle.object_history.proofs.GateStepping as stepping
use Rattle.object_history.proofs.GateTaking as taking
use Rattle.object_history.specs.Stepping.{BackSteps}
use Rattle.object_core.proofs.Due.{AnswersSo, alarm_due, alarm_released, answers_due}
use Rattle.object_core.proofs.Rebuilding.{seen_same}
use Rattle.object_core.specs.One.{messages}
use Rattle.object_core.specs.Seen.{due_map, seen_of}
use Rattle.host_workers.proofs.Stepping.{disk_of, earlier, heard, none_is_few, one_is_few, silent_by, unheard_by, unseen_by}
use Rattle.host_workers.specs.Backs.{IsBackOver}
use Rattle.host_workers.specs.Runs.{Tells}

pub free_of : (stuck waits failed few : Bool) → (not stuck && waits && failed && few) ≡ true → stuck ≡ false
free_of true waits failed few is = absurd cc
free_of false waits failed few is = refl

abbrev answer : Stepped → Result Stepped NoMemory
answer stepped = Ok stepped

pub did_not : {A : Type 0} → answer Did ≡ answer Nothing → A
did_not is = absurd cc

abbrev refused : NoMemory → Result Stepped NoMemory
refused fault = Err fault

pub err_not : {A : Type 0} (fault : NoMemory) → refused fault ≡ answer Nothing → A
err_not fault is = absurd cc

-- What is logged as released is what left.
log_left : {D : Type 0} (back : Back D) (moment : ℕ) (held : BackHeld) (b : HeldBody)
    → messages (released_log back moment held b).released ≡ messages back.log.released.items ++ released_messages b
log_left back moment held (Message sent) = map-append (λ (release : Release). release.message) back.log.released.items _
log_left back moment held (Sync number) = sym (append-nil (messages back.log.released.items))
log_left back moment held (Halt cause) = sym (append-nil (messages back.log.released.items))

pub log_taken : {D : Type 0} (back : Back D) (moment : ℕ) (held : BackHeld) (b : HeldBody) → (released_log back moment held b).taken ≡ back.log.taken.items
log_taken back moment held (Message sent) = refl
log_taken back moment held (Sync number) = refl
log_taken back moment held (Halt cause) = refl

pub flushed_stuck : {D : Type 0} (faults_of : D → ℕ) (old new : Back D) → Flushes faults_of old new → new.stuck ≡ old.stuck
flushed_stuck faults_of old new (inl all) = all.stuck
flushed_stuck faults_of old new (inr ends) = ends.stuck

pub flushed_taken : {D : Type 0} (faults_of : D → ℕ) (old new : Back D) → Flushes faults_of old new → new.log.taken.items ≡ old.log.taken.items
flushed_taken faults_of old new (inl all) = ap (λ (x : Backed). x.taken) all.log
flushed_taken faults_of old new (inr ends) = ap (λ (x : Backed). x.taken) ends.log

flushed_released : {D : Type 0} (faults_of : D → ℕ) (old new : Back D) → Flushes faults_of old new → new.log.released.items ≡ old.log.released.items
flushed_released faults_of old new (inl all) = ap (λ (x : Backed). x.released) all.log
flushed_released faults_of old new (inr ends) = ap (λ (x : Backed). x.released) ends.log

module _ {D : Type 0} (faults_of : D → ℕ) (old new : Back D) (ending : Ending) (notice : Notice) where
  pub stuck_still : Remounts faults_of old new ending notice → new.stuck ≡ old.stuck
  stuck_still (inl begun) = ap (λ (b : Back D). b.stuck) begun.begins.same
  stuck_still (inr missed) = ap (λ (b : Back D). b.stuck) missed.misses.same

  pub taken_still : Remounts faults_of old new ending notice → new.log.taken.items ≡ old.log.taken.items
  taken_still (inl begun) = ap (λ (x : Backed). x.taken) begun.begins.log
  taken_still (inr missed) = ap (λ (x : Backed). x.taken) missed.misses.log

  left_still : Remounts faults_of old new ending notice → new.log.released.items ≡ old.log.released.items
  left_still (inl begun) = ap (λ (x : Backed). x.released) begun.begins.log
  left_still (inr missed) = ap (λ (x : Backed). x.released) missed.misses.log

module _ {D : Type 0} (moment_of : D → ℕ) (left_since : D → ℕ → List ℕ → Type 0) (told : D → Option (List ℕ)) (image : D → List ℕ → Type 0) (faults_of : D → ℕ)
    (start : List (List Op)) (opening : ℕ) (old new : Back D) (got later_got : List Entry) (notices later : List Notice) (out later_out : List Sent)
    (one : IsBackOver moment_of left_since told image faults_of start opening old got notices out) where
  abbrev After : Type 0
  After = IsBackOver moment_of left_since told image faults_of start opening new later_got later later_out

  abbrev Known : Type 0
  Known = IsBack moment_of left_since told image faults_of start opening new

  -- the map that is due
  abbrev due_of : Back D → Contents
  due_of back = due_map (opened_map start) (backed back.log)

  -- Nothing is done.
  idle : new ≡ old → later_got ≡ got → later ≡ notices → later_out ≡ out → After
  idle same took said left =
      subst (λ (x : Back D × List Entry × List Notice × List Sent). IsBackOver moment_of left_since told image faults_of start opening x.0 x.1 x.2 x.3)
      (λ i. (sym same i, sym took i, sym said i, sym left i)) one

  -- Nothing is taken.
  no_entry : Known → new.log.taken.items ≡ old.log.taken.items → later_got ≡ got → (new.stuck ≡ false → is_stopped new ≡ false → one.lost ≡ [])
      → messages new.log.released.items ≡ later_out → Tells told start new later → After
  no_entry known taken took none left tells = record {
    stands = known;
    lost = one.lost;
    few = one.few;
    none_lost = none;
    took = took ∙ one.took ∙ ap (λ (l : List Entry). l ++ one.lost) (sym taken);
    left = left;
    tells = tells;
  }

  -- ---- an entry is taken
  module _ (e : Entry) (none : one.lost ≡ []) (known : Known) (same_disk : ReadsDisk told old.store new.store) (took : later_got ≡ got ++ e ∷ []) (on : is_stopped old ≡ false)
      (same_out : later_out ≡ out) where
    telling : KeepsTelling told old.store new.store
    telling = same_disk.telling

    took_all : later_got ≡ old.log.taken.items ++ e ∷ []
    took_all = took ∙ ap (λ (l : List Entry). l ++ e ∷ []) (one.took ∙ ap (λ (l : List Entry). old.log.taken.items ++ l) none ∙ append-nil old.log.taken.items)

    left_as : new.log.released.items ≡ old.log.released.items → messages new.log.released.items ≡ later_out
    left_as same = ap messages same ∙ one.left ∙ sym same_out

    -- It isn't logged, and nothing else that is seen changes.
    unlogged : backed new.log ≡ backed old.log → new.held.items ≡ old.held.items → new.mode ≡ old.mode → new.before ≡ old.before → new.durable ≡ old.durable
        → (new.stuck ≡ false → is_stopped new ≡ false → ⊥) → later ≡ notices → After
    unlogged log held mode before durable bad said = record {
      stands = known;
      lost = e ∷ [];
      few = one_is_few;
      none_lost = λ free goes. absurd (bad free goes);
      took = took_all ∙ ap (λ (x : Backed). x.taken ++ e ∷ []) (sym log);
      left = left_as (ap (λ (x : Backed). x.released) log);
      tells = unseen_by moment_of left_since told image faults_of start opening old new one.stands known telling []
          (ap (λ (x : Backed). x.taken) log ∙ sym (append-nil old.log.taken.items)) notices later refl (λ goes. on)
          (seen_same (opened_map start) old new log held mode before durable) said one.tells;
    }

    unfit_enters : (failed : Failed) → Enters failed old new e → is_unfit (fit_of old e) ≡ true → later ≡ notices → After
    unfit_enters failed enters is said =
        unlogged (enters.log ∙ unfit_log (fit_of old e) (backed old.log) e is)
        (enters.held ∙ ap (λ (x : List BackHeld). old.held.items ++ x) (unfit_holds failed old e enters.may is) ∙ append-nil old.held.items)
        (enters.mode ∙ unfit_mode (fit_of old e) old.mode e.body is) (enters.before ∙ unfit_before (fit_of old e) old.before e.body is) enters.durable
        (λ free goes. true≢false (sym is ∙ sym enters.stuck ∙ free)) said

    -- It is logged.
    logs : (failed : Failed) → Enters failed old new e → is_unfit (fit_of old e) ≡ false
        → (new.log.taken.items ≡ old.log.taken.items ++ e ∷ [] → Tells told start new later) → After
    logs failed enters is tells =
        let taken : new.log.taken.items ≡ old.log.taken.items ++ e ∷ [] = ap (λ (x : Backed). x.taken) enters.log ∙ fit_taken (fit_of old e) (backed old.log) e is in
        record {
          stands = known;
          lost = [];
          few = none_is_few;
          none_lost = λ free goes. refl;
          took = took_all ∙ sym taken ∙ sym (append-nil new.log.taken.items);
          left = left_as (ap (λ (x : Backed). x.released) enters.log ∙ released_still (fit_of old e) (backed old.log) e);
          tells = tells taken;
        }

    -- What the front is told: what the map that is due answers.
    abbrev heard_of : Failed → List Notice
    heard_of failed = option_to_list (notice_with failed (fit_of old e) e (due_of old))

    steps_so : (failed : Failed) → Enters failed old new e → is_unfit (fit_of old e) ≡ false → may_take old ≡ true
        → BackSteps (seen_of (opened_map start) old) (seen_of (opened_map start) new) (e ∷ []) (heard_of failed)
    steps_so failed enters is may =
        taking.take_steps moment_of left_since told image faults_of start opening (not (is_stopped old)) old new one.stands may e failed enters (due_of old) (due_of new) is

    -- It is taken, and the front is told.
    entered_as : (failed : Failed) (answered : Option Notice) (unfit : Bool) → is_unfit (fit_of old e) ≡ unfit → Enters failed old new e → may_take old ≡ true → is_stopped new ≡ false
        → later ≡ notices ++ option_to_list answered → (is_unfit (fit_of old e) ≡ true → answered ≡ None)
        → AnswersSo told image old failed e answered → After
    entered_as failed answered true is enters may goes said none answers =
        unfit_enters failed enters is (said ∙ ap (λ (n : Option Notice). notices ++ option_to_list n) (none is) ∙ append-nil notices)
    entered_as failed answered false is enters may goes said none answers =
        logs failed enters is
        (λ taken. heard moment_of left_since told image faults_of start opening old new one.stands known telling (e ∷ []) taken notices later
        (heard_of failed) on (λ tells. steps_so failed enters is may)
        (λ tells.
        let before = earlier moment_of left_since told image faults_of start opening old new telling one.stands tells in
        said ∙ ap (λ (n : Option Notice). notices ++ option_to_list n)
        (answers_due moment_of left_since told image faults_of start opening old before.0 before.1 before.2 one.stands on failed e answered answers)) one.tells)

    -- It is taken, and what the front is told is lost.
    unheard_as : (failed : Failed) (unfit : Bool) → is_unfit (fit_of old e) ≡ unfit → Enters failed old new e → may_take old ≡ true → is_stopped new ≡ true → later ≡ notices → After
    unheard_as failed true is enters may off said = unfit_enters failed enters is said
    unheard_as failed false is enters may off said =
        logs failed enters is
        (λ taken. unheard_by moment_of left_since told image faults_of start opening old new one.stands known telling (e ∷ []) taken notices later
        (heard_of failed) on off (steps_so failed enters is may) said one.tells)

    -- Memory was wanting.
    loses : may_take old ≡ true → is_stopped new ≡ true → (IsAsBefore old new ⊎ ((failed : Failed) × Enters failed old new e)) → later ≡ notices → After
    loses may off (inl same) said = unlogged same.log same.held same.mode same.before same.durable (λ free goes. true≢false (sym off ∙ goes)) said
    loses may off (inr (failed, enters)) said = unheard_as failed (is_unfit (fit_of old e)) refl enters may off said

  -- What the back's own contract says of a take.
  pub record TakesBy (result : Result Stepped NoMemory) : Type 0 where
    pub stopped : is_stopped old ≡ true → OnOk result ⊥ × (new ≡ old) × (later_got ≡ got) × (later ≡ notices)
    pub barred : is_stopped old ≡ false → may_take old ≡ false → IsIdle old new got later_got notices later result
    pub nothing : result ≡ Ok Nothing → IsIdle old new got later_got notices later result
    pub took : result ≡ Ok Did → Takes told image old new got later_got notices later
    pub lost : is_stopped old ≡ false → OnErr result (LosesEntry old new got later_got notices later)
    pub stops : StopsBy result new
    pub disk : ReadsDisk told old.store new.store
    pub back : KeepsBack moment_of left_since told image faults_of old new
    pub same_out : later_out ≡ out

  taken_as : (may : Bool) → may_take old ≡ may → is_stopped old ≡ false → Known → (result : Result Stepped NoMemory) → TakesBy result → After
  taken_as false may on known (Ok Did) by = did_not (by.barred on may).nothing
  taken_as may is on known (Ok Nothing) by = let i = by.nothing refl in idle i.back i.took i.told by.same_out
  taken_as false may on known (Err fault) by = err_not fault (by.barred on may).nothing
  taken_as true may on known (Ok Did) by =
      let t = by.took refl in
      entered_as t.entry (one.none_lost (free_of old.stuck _ _ _ may) on) known by.disk t.took on by.same_out t.failed t.answer (is_unfit (fit_of old t.entry)) refl t.enters may
      by.stops.good t.sends t.unfit t.answers
  taken_as true may on known (Err fault) by =
      let l = by.lost on in
      loses l.entry (one.none_lost (free_of old.stuck _ _ _ may) on) known by.disk l.took on by.same_out may by.stops.wanting l.entered l.told

  take_as : (off : Bool) → is_stopped old ≡ off → (result : Result Stepped NoMemory) → TakesBy result → After
  take_as true off result by = let s = by.stopped off in idle s.1 s.2 s.3 by.same_out
  take_as false on result by = taken_as (may_take old) refl on (by.back start opening one.stands) result by

  pub take_keeps : (result : Result Stepped NoMemory) → TakesBy result → After
  take_keeps result by = take_as (is_stopped old) refl result by

  -- ---- a flush
  flown : later_got ≡ got → later ≡ notices → later_out ≡ out → Known → KeepsTelling told old.store new.store → is_stopped new ≡ is_stopped old
      → old.before ≢ old.durable → Flushes faults_of old new → After
  flown took said left known telling stopped differ flushes =
      let taken = flushed_taken faults_of old new flushes in
      no_entry known taken took (λ free on. one.none_lost (sym (flushed_stuck faults_of old new flushes) ∙ free) (sym stopped ∙ on))
      (ap messages (flushed_released faults_of old new flushes) ∙ one.left ∙ sym left)
      (silent_by moment_of left_since told image faults_of start opening old new one.stands known telling [] (taken ∙ sym (append-nil old.log.taken.items)) notices later
      (λ on. sym stopped ∙ on)
      (stepping.flush_steps moment_of left_since told image faults_of start opening (not (is_stopped old)) old new (due_of old) (due_of new) one.stands differ flushes) said
      one.tells)

  pub flush_keeps : (result : Stepped) → later_got ≡ got → later ≡ notices → later_out ≡ out → (old.before ≡ old.durable → (result ≡ Nothing) × (new ≡ old))
      → (old.before ≢ old.durable → (result ≡ Did) × Flushes faults_of old new) → KeepsTelling told old.store new.store → is_stopped new ≡ is_stopped old
      → KeepsBack moment_of left_since told image faults_of old new → After
  flush_keeps result took said left nothing flushed telling stopped back =
      ⊎_elim (λ even. idle (nothing even).1 took said left)
      (λ differ. flown took said left (back start opening one.stands) telling stopped differ (flushed differ).1) (cases_eq old.before old.durable)

  -- ---- a release
  pub record ReleasesBy (result : Result Stepped NoMemory) : Type 0 where
    pub stopped : is_stopped old ≡ true → OnOk result ⊥ × (new ≡ old) × (later ≡ notices) × (later_out ≡ out)
    pub barred : is_stopped old ≡ false → may_release old ≡ false → IsIdleRelease old new notices later out later_out result
    pub nothing : result ≡ Ok Nothing → may_release old ≡ false
    pub released : result ≡ Ok Did → Releases moment_of old new notices later out later_out
    pub stays : OnErr result (Stays old new notices later out later_out)
    pub stops : StopsBy result new
    pub disk : KeepsDisk old.store new.store
    pub back : KeepsBack moment_of left_since told image faults_of old new
    pub line : later_got ≡ got

  let_go : is_stopped old ≡ false → is_stopped new ≡ false → Known → KeepsDisk old.store new.store → later_got ≡ got → Releases moment_of old new notices later out later_out → After
  let_go on goes known same_disk took r =
      let disk = disk_of moment_of left_since told image faults_of start opening _ old one.stands in
      let log = r.log disk.0 disk.1 in
      let taken = ap (λ (x : Backed). x.taken) log ∙ log_taken old (moment_of disk.0) r.first r.first.body in
      no_entry known taken took (λ free off. one.none_lost (sym r.stuck ∙ free) on)
      (ap (λ (x : Backed). messages x.released) log ∙ log_left old (moment_of disk.0) r.first r.first.body
      ∙ ap (λ (x : List Sent). x ++ released_messages r.first.body) one.left ∙ sym r.left)
      (heard moment_of left_since told image faults_of start opening old new one.stands known (still_tells told old.store new.store same_disk) []
      (taken ∙ sym (append-nil old.log.taken.items)) notices later (released_notices old r.first.body) on
      (λ tells.
      releasing.release_steps moment_of left_since told image faults_of start opening (not (is_stopped old)) old new (due_of old) (due_of new) notices later out later_out
      one.stands r
      (λ mounted.
      alarm_due moment_of left_since told image faults_of start opening new tells.0 tells.1 tells.2 known goes (r.mode ∙ mounted)
      ∙ alarm_released moment_of old new notices later out later_out r))
      (λ tells. r.told) one.tells)

  released_as : is_stopped old ≡ false → Known → (result : Result Stepped NoMemory) → ReleasesBy result → After
  released_as on known (Ok Did) by = let_go on by.stops.good known by.disk by.line (by.released refl)
  released_as on known (Ok Nothing) by =
      let i = by.barred on (by.nothing refl) in
      idle i.back by.line i.told i.left
  released_as on known (Err fault) by =
      let s = by.stays in
      let taken = ap (λ (x : Backed). x.taken) s.log in
      no_entry known taken by.line (λ free goes. absurd (true≢false (sym by.stops.wanting ∙ goes))) (ap (λ (x : Backed). messages x.released) s.log ∙ one.left ∙ sym s.left)
      (unseen_by moment_of left_since told image faults_of start opening old new one.stands known (still_tells told old.store new.store by.disk) []
      (taken ∙ sym (append-nil old.log.taken.items)) notices later refl (λ goes. on)
      (seen_same (opened_map start) old new s.log (ap (λ h. h.items) s.held) s.mode s.before s.durable) s.told one.tells)

  release_as : (off : Bool) → is_stopped old ≡ off → (result : Result Stepped NoMemory) → ReleasesBy result → After
  release_as true off result by = let s = by.stopped off in idle s.1 by.line s.2 s.3
  release_as false on result by = released_as on (by.back start opening one.stands) result by

  pub release_keeps : (result : Result Stepped NoMemory) → ReleasesBy result → After
  release_keeps result by = release_as (is_stopped old) refl result by

  -- ---- a mounting
  pub record MendsBy (result : Result Stepped NoMemory) : Type 0 where
    pub stopped : is_stopped old ≡ true → OnOk result ⊥ × (new ≡ old) × (later ≡ notices)
    pub barred : is_stopped old ≡ false → may_mend old ≡ false → IsIdleMend old new notices later result
    pub nothing : result ≡ Ok Nothing → may_mend old ≡ false
    pub mended : result ≡ Ok Did → Mends faults_of old new notices later
    pub lost : OnErr result (LosesMend faults_of old new notices later)
    pub stops : StopsBy result new
    pub finds : FindsEnd told old new
    pub tells : KeepsTelling told old.store new.store
    pub back : KeepsBack moment_of left_since told image faults_of old new
    pub line : later_got ≡ got
    pub same_out : later_out ≡ out

  mounts : is_stopped old ≡ false → Known → (result : Result Stepped NoMemory) → MendsBy result → is_stopped new ≡ false → Mends faults_of old new notices later → After
  mounts on known result by goes m =
      let s = stepping.mend_steps moment_of left_since told image faults_of start opening (not (is_stopped old)) old new (due_of old) (due_of new) one.stands notices later m in
      let taken = taken_still faults_of old new m.ending m.notice m.remounts in
      no_entry known taken by.line (λ free off. one.none_lost (sym (stuck_still faults_of old new m.ending m.notice m.remounts) ∙ free) on)
      (ap messages (left_still faults_of old new m.ending m.notice m.remounts) ∙ one.left ∙ sym by.same_out)
      (heard moment_of left_since told image faults_of start opening old new one.stands known by.tells [] (taken ∙ sym (append-nil old.log.taken.items)) notices later s.0 on
      (λ tells. s.1) (λ tells. s.2 (alarm_due moment_of left_since told image faults_of start opening new tells.0 tells.1 tells.2 known goes)) one.tells)

  -- What the front is told of it is lost.
  unheard_mend : is_stopped old ≡ false → Known → (result : Result Stepped NoMemory) → MendsBy result → is_stopped new ≡ true → later ≡ notices
      → (ending : Ending) (notice : Notice) → old.mode ≡ Wanted ending → Remounts faults_of old (record new { stopped = old.stopped }) ending notice → After
  unheard_mend on known result by off said ending notice wants remounts =
      let noted : Back D = record new { stopped = old.stopped } in
      let m : Mends faults_of old noted [] (notice ∷ []) = record { ending = ending; notice = notice; wanted = wants; remounts = remounts; told = refl } in
      let s =
      stepping.mend_steps moment_of left_since told image faults_of start opening (not (is_stopped old)) old noted (due_of old) (due_of new) one.stands [] (notice ∷ []) m in
      let taken = taken_still faults_of old noted ending notice remounts in
      no_entry known taken by.line (λ free goes. absurd (true≢false (sym off ∙ goes)))
      (ap messages (left_still faults_of old noted ending notice remounts) ∙ one.left ∙ sym by.same_out)
      (unheard_by moment_of left_since told image faults_of start opening old new one.stands known by.tells [] (taken ∙ sym (append-nil old.log.taken.items)) notices later s.0 on off
      s.1 said one.tells)

  loses_mend : is_stopped old ≡ false → Known → (result : Result Stepped NoMemory) → MendsBy result → is_stopped new ≡ true → later ≡ notices
      → IsAsBefore old new ⊎ ((ending : Ending) × (notice : Notice) × (old.mode ≡ Wanted ending) × Remounts faults_of old (record new { stopped = old.stopped }) ending notice)
      → After
  loses_mend on known result by off said (inl same) =
      let taken = ap (λ (x : Backed). x.taken) same.log in
      no_entry known taken by.line (λ free goes. absurd (true≢false (sym off ∙ goes))) (ap (λ (x : Backed). messages x.released) same.log ∙ one.left ∙ sym by.same_out)
      (unseen_by moment_of left_since told image faults_of start opening old new one.stands known by.tells [] (taken ∙ sym (append-nil old.log.taken.items)) notices later refl
      (λ goes. on) (seen_same (opened_map start) old new same.log same.held same.mode same.before same.durable) said one.tells)
  loses_mend on known result by off said (inr lost) = unheard_mend on known result by off said lost.0 lost.1 lost.2 lost.3

  mended_as : is_stopped old ≡ false → Known → (result : Result Stepped NoMemory) → MendsBy result → After
  mended_as on known (Ok Did) by = mounts on known (Ok Did) by by.stops.good (by.mended refl)
  mended_as on known (Ok Nothing) by =
      let i = by.barred on (by.nothing refl) in
      idle i.back by.line i.told by.same_out
  mended_as on known (Err fault) by = loses_mend on known (Err fault) by by.stops.wanting by.lost.told by.lost.log

  mend_as : (off : Bool) → is_stopped old ≡ off → (result : Result Stepped NoMemory) → MendsBy result → After
  mend_as true off result by = let s = by.stopped off in idle s.1 by.line s.2 by.same_out
  mend_as false on result by = mended_as on (by.back start opening one.stands) result by

  pub mend_keeps : (result : Result Stepped NoMemory) → MendsBy result → After
  mend_keeps result by = mend_as (is_stopped old) refl result by

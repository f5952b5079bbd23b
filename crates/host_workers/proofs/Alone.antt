-- What is known of a back that runs alone is kept by each of its steps.
use Rattle.std.proofs.Common.{◌≡◌, ◌≢◌, ◌∙◌, ap, sym, refl, subst, inl, inr, ⊎_elim, true≢false, ℕ, ℤ, List, [], ◌∷◌, ◌++◌, append-nil, length, arith, Option, None}
use Rattle.std.proofs.lemmas.Bool.{cases_eq}
use Rattle.std.specs.Prelude.{Bool, true, false, not, ◌&&◌, ◌⊎◌, option_to_list, is_some, Result, Ok, Err}
use Rattle.std.specs.List.{Contains}
use Rattle.do_value.specs.declared.fault.NoMemory.{NoMemory}
use Rattle.storage_map.specs.Limits.{Object}
use Rattle.storage_map.specs.declared.op.Op.{Op}
use Rattle.timeline.specs.Logs.{Backed, backed}
use Rattle.timeline.specs.declared.back_log.Stop.{Stop}
use Rattle.timeline.specs.declared.entry.Entry.{Entry}
use Rattle.timeline.specs.declared.message.Message.{Message as Sent}
use Rattle.timeline.specs.declared.notice.Notice.{Notice}
use Rattle.timeline.specs.declared.notice.Stepped.{Stepped}
use Rattle.timeline.specs.declared.notice.Stepped.TheVariants.{Did, Nothing}
use Rattle.output_gate.proofs.Stored.{still_end, still_tells}
use Rattle.output_gate.proofs.Written.{written_fresh}
use Rattle.output_gate.proofs.Unfit.{fit_taken, unfit_identity, unfit_log}
use Rattle.output_gate.specs.Entering.{Enters, Failed, is_unfit}
use Rattle.output_gate.specs.Flushing.{Flushes}
use Rattle.output_gate.specs.Mending.{Remounts}
use Rattle.output_gate.specs.Releasing.{is_ready}
use Rattle.output_gate.specs.Serving.{IsAsBefore, IsBack, KeepsBack, is_stopped}
use Rattle.output_gate.specs.Storing.{HasLimit, KeepsLimit, KeepsTelling, ReadsDisk}
use Rattle.output_gate.specs.Taking.{fit_of, is_wanted, may_take}
use Rattle.output_gate.specs.Telling.{opened_map}
use Rattle.output_gate.specs.declared.back.Back.{Back}
use Rattle.output_gate.specs.Written.{FindsEnd}
use Rattle.output_gate.specs.declared.back.Ending.{Ending}
use Rattle.output_gate.specs.declared.back.Mode.TheVariants.{Mounted, Wanted}
use Rattle.output_gate.specs.Serving.{alarm_of}
use Rattle.object_core.proofs.Due.{alarm_due}
use Rattle.object_core.proofs.Knowing.{knows_enters, knows_still}
use Rattle.object_core.proofs.Limiting.{limited_as_before, limited_enters, limited_flush, limited_noted, limited_release, limited_remounts, limited_stays, never_mends}
use Rattle.object_core.proofs.Naming.{named_enters, named_still}
use Rattle.object_core.specs.Alone.{IsBackAlone, KnowsObject, StuckAt}
use Rattle.object_core.specs.Apart.{BackRuns}
use Rattle.object_core.specs.Fitting.{known_over}
use Rattle.object_core.specs.Limited.{Extent, IsLimitedBy, end_in, extent_of}
use Rattle.object_core.specs.One.{IsNamed, TellsNow}
use Rattle.object_core.specs.Seen.{due_map, seen_of}
use Rattle.host_workers.proofs.Backing.{TakesBy, ReleasesBy, MendsBy, did_not, err_not, flush_keeps, flushed_stuck, flushed_taken, free_of, log_taken, mend_keeps, release_keeps, stuck_still, take_keeps, taken_still}
use Rattle.host_workers.proofs.Opening.{begins_back, is_mounted}
use Rattle.host_workers.proofs.Stepping.{disk_of, earlier}
use Rattle.host_workers.specs.Backs.{IsBackOver, IsFresh}

-- Which object a back knows is the same behind a flush, and behind a mounting.
flushed_identity : {D : Type 0} (faults_of : D → ℕ) (old new : Back D) → Flushes faults_of old new → new.identity ≡ old.identity
flushed_identity faults_of old new (inl all) = all.identity
flushed_identity faults_of old new (inr ends) = ends.identity

mended_identity : {D : Type 0} (faults_of : D → ℕ) (old new : Back D) (ending : Ending) (notice : Notice) → Remounts faults_of old new ending notice
    → new.identity ≡ old.identity
mended_identity {D} faults_of old new ending notice (inl begun) = ap (λ (b : Back D). b.identity) begun.begins.same
mended_identity {D} faults_of old new ending notice (inr missed) = ap (λ (b : Back D). b.identity) missed.misses.same

module _ {D : Type 0} (moment_of : D → ℕ) (left_since : D → ℕ → List ℕ → Type 0) (told : D → Option (List ℕ)) (image : D → List ℕ → Type 0) (faults_of : D → ℕ)
    (start : List (List Op)) (opening : ℕ) where
  abbrev Over : Back D → List Entry → List Notice → List Sent → Type 0
  Over = IsBackOver moment_of left_since told image faults_of start opening

  module _ (object : Option Object) (extent : Extent) (alarm : Option (ℤ × ℕ)) where
    abbrev Alone : Back D → List Entry → List Notice → List Sent → Type 0
    Alone = IsBackAlone moment_of left_since told image faults_of start opening object extent alarm

    abbrev Stuck : Back D → List Entry → List Notice → Type 0
    Stuck back got notices = back.stuck ≡ true → is_stopped back ≡ false
        → (e : Entry) × (got ≡ back.log.taken.items ++ e ∷ []) × StuckAt moment_of left_since told image faults_of start opening object back e notices

    over_of : (back : Back D) (got : List Entry) (notices : List Notice) (out : List Sent) → Alone back got notices out → Over back got notices out
    over_of back got notices out one = record {
      stands = one.stands;
      lost = one.lost;
      few = one.few;
      none_lost = one.none_lost;
      took = one.took;
      left = one.left;
      tells = one.tells;
    }

    -- What is known of a back, by what is known of its cell and of its step.
    pub alone_by : (back : Back D) (got : List Entry) (notices : List Notice) (out : List Sent) → Over back got notices out → IsNamed object back → IsLimitedBy told extent back
        → (TellsNow told back → alarm ≡ (opened_map start).alarm) → KnowsObject object back → Stuck back got notices → Alone back got notices out
    alone_by back got notices out over named limited at knows stuck = record {
      stands = over.stands;
      named = named;
      limited = limited;
      opened_at = at;
      knows = knows;
      lost = over.lost;
      few = over.few;
      none_lost = over.none_lost;
      took = over.took;
      left = over.left;
      tells = over.tells;
      stuck = stuck;
    }

    module _ (old new : Back D) (got later_got : List Entry) (notices later : List Notice) (out later_out : List Sent) (one : Alone old got notices out) where
      abbrev After : Type 0
      After = Alone new later_got later later_out

      pub over : Over old got notices out
      over = over_of old got notices out one

      -- Nothing is done.
      idle : new ≡ old → later_got ≡ got → later ≡ notices → later_out ≡ out → After
      idle same took said left =
          subst (λ (x : Back D × List Entry × List Notice × List Sent). Alone x.0 x.1 x.2 x.3) (λ i. (sym same i, sym took i, sym said i, sym left i)) one

      -- With which alarm its slot was mounted.
      opened_at : KeepsTelling told old.store new.store → TellsNow told new → alarm ≡ (opened_map start).alarm
      opened_at telling tells = one.opened_at (earlier moment_of left_since told image faults_of start opening old new telling one.stands tells)

      -- A back that was stuck before is stuck at the same.
      stuck_on : new.stuck ≡ old.stuck → is_stopped new ≡ is_stopped old → new.log.taken.items ≡ old.log.taken.items → later_got ≡ got → later ≡ notices
          → KeepsTelling told old.store new.store → Stuck new later_got later
      stuck_on same stopped taken took said telling is goes =
          let s = one.stuck (sym same ∙ is) (sym stopped ∙ goes) in
          let at = s.2 in (
            s.0,
            took ∙ s.1 ∙ ap (λ (l : List Entry). l ++ s.0 ∷ []) (sym taken),
            record {
              before = at.before;
              stands = at.stands;
              may = at.may;
              unfit = at.unfit;
              taken = at.taken ∙ sym taken;
              knows = at.knows;
              runs = λ tells.
                  subst (λ (ns : List Notice). BackRuns (opened_map start) (seen_of (opened_map start) at.before) at.before.log.taken.items ns) (sym said)
                  (at.runs (earlier moment_of left_since told image faults_of start opening old new telling one.stands tells));
            },
          )

      -- A back that is stopped isn't said to be stuck.
      off_not : is_stopped new ≡ true → Stuck new later_got later
      off_not off is goes = absurd (true≢false (sym off ∙ goes))

      -- ---- an entry is taken
      module _ (e : Entry) (none : one.lost ≡ []) (same_disk : ReadsDisk told old.store new.store) (took : later_got ≡ got ++ e ∷ []) (on : is_stopped old ≡ false)
          (may : may_take old ≡ true) (now : Over new later_got later later_out) where
        took_all : later_got ≡ old.log.taken.items ++ e ∷ []
        took_all = took ∙ ap (λ (l : List Entry). l ++ e ∷ []) (one.took ∙ ap (λ (l : List Entry). old.log.taken.items ++ l) none ∙ append-nil old.log.taken.items)

        limited_so : (failed : Failed) → Enters failed old new e → IsLimitedBy told extent new
        limited_so failed enters = limited_enters moment_of left_since told image faults_of start opening (not (is_stopped old)) extent old new one.stands same_disk.telling one.limited e failed enters same_disk

        -- It doesn't fit.
        unfit_so : (failed : Failed) (enters : Enters failed old new e) → is_unfit (fit_of old e) ≡ true → (is_stopped new ≡ false → later ≡ notices) → After
        unfit_so failed enters is said =
            let taken : new.log.taken.items ≡ old.log.taken.items = ap (λ (x : Backed). x.taken) (enters.log ∙ unfit_log (fit_of old e) (backed old.log) e is) in
            let same : new.identity ≡ old.identity = enters.identity ∙ unfit_identity (fit_of old e) old.identity e.body is in
            alone_by new later_got later later_out now (named_still object old new same taken one.named) (limited_so failed enters) (opened_at same_disk.telling) (knows_still object old new same taken one.knows)
            (λ so goes. (
              e,
              took_all ∙ ap (λ (l : List Entry). l ++ e ∷ []) (sym taken),
              record {
                before = old;
                stands = one.stands;
                may = may;
                unfit = is;
                taken = sym taken;
                knows = one.knows;
                runs = λ tells.
                    let t = one.tells (earlier moment_of left_since told image faults_of start opening old new same_disk.telling one.stands tells) in
                    subst (λ (ns : List Notice). BackRuns (opened_map start) (seen_of (opened_map start) old) old.log.taken.items ns)
                    (ap (λ (ns : List Notice). notices ++ ns) (t.none_unheard on) ∙ append-nil notices ∙ sym (said goes)) t.runs;
              },
            ))

        -- It fits.
        fits_so : (failed : Failed) → Enters failed old new e → is_unfit (fit_of old e) ≡ false → After
        fits_so failed enters is =
            let taken : new.log.taken.items ≡ old.log.taken.items ++ e ∷ [] = ap (λ (x : Backed). x.taken) enters.log ∙ fit_taken (fit_of old e) (backed old.log) e is in
            alone_by new later_got later later_out now (named_enters object old new e taken one.named failed enters) (limited_so failed enters)
            (opened_at same_disk.telling) (knows_enters moment_of left_since told image faults_of start opening (not (is_stopped old)) object old new e failed one.stands enters is one.knows)
            (λ so goes. absurd (true≢false (sym so ∙ enters.stuck ∙ is)))

        entered : (failed : Failed) (answered : Option Notice) (unfit : Bool) → is_unfit (fit_of old e) ≡ unfit → Enters failed old new e
            → (is_stopped new ≡ false → later ≡ notices ++ option_to_list answered) → (is_unfit (fit_of old e) ≡ true → answered ≡ None) → After
        entered failed answered true is enters said none =
            unfit_so failed enters is (λ goes. said goes ∙ ap (λ (n : Option Notice). notices ++ option_to_list n) (none is) ∙ append-nil notices)
        entered failed answered false is enters said none = fits_so failed enters is

        -- Memory was wanting.
        loses : is_stopped new ≡ true → IsAsBefore old new ⊎ ((failed : Failed) × Enters failed old new e) → After
        loses off (inl same) =
            let taken : new.log.taken.items ≡ old.log.taken.items = ap (λ (x : Backed). x.taken) same.log in
            alone_by new later_got later later_out now (named_still object old new same.identity taken one.named)
            (limited_as_before moment_of left_since told image faults_of start opening (not (is_stopped old)) extent old new one.stands same_disk.telling one.limited
            same (same_disk.limit old.limit) (λ mounted. same_disk.end)) (opened_at same_disk.telling) (knows_still object old new same.identity taken one.knows) (off_not off)
        loses off (inr (failed, enters)) =
            entered failed None (is_unfit (fit_of old e)) refl enters (λ goes. absurd (true≢false (sym off ∙ goes))) (λ is. refl)

      abbrev Takes : Result Stepped NoMemory → Type 0
      Takes = TakesBy moment_of left_since told image faults_of start opening old new got later_got notices later out later_out over

      take_as : (off may : Bool) → is_stopped old ≡ off → may_take old ≡ may → (result : Result Stepped NoMemory) → Takes result → Over new later_got later later_out → After
      take_as true may off is result by now = let s = by.stopped off in idle s.1 s.2 s.3 by.same_out
      take_as false may on is (Ok Nothing) by now = let i = by.nothing refl in idle i.back i.took i.told by.same_out
      take_as false false on is (Ok Did) by now = did_not (by.barred on is).nothing
      take_as false false on is (Err fault) by now = err_not fault (by.barred on is).nothing
      take_as false true on is (Ok Did) by now =
          let t = by.took refl in
          entered t.entry (one.none_lost (free_of old.stuck _ _ _ is) on) by.disk t.took on is now t.failed t.answer (is_unfit (fit_of old t.entry)) refl t.enters (λ goes. t.sends) t.unfit
      take_as false true on is (Err fault) by now =
          let l = by.lost on in
          loses l.entry (one.none_lost (free_of old.stuck _ _ _ is) on) by.disk l.took on is now by.stops.wanting l.entered

      -- A take keeps it.
      pub take_alone : (result : Result Stepped NoMemory) → Takes result → After
      take_alone result by =
          take_as (is_stopped old) (may_take old) refl refl result by
          (take_keeps moment_of left_since told image faults_of start opening old new got later_got notices later out later_out over result by)

      -- ---- a flush
      flown : later_got ≡ got → later ≡ notices → KeepsTelling told old.store new.store → KeepsLimit old.store new.store → is_stopped new ≡ is_stopped old
          → old.before ≢ old.durable → Flushes faults_of old new → Over new later_got later later_out → After
      flown took said telling has stopped differ flushes now =
          let taken = flushed_taken faults_of old new flushes in
          let same = flushed_identity faults_of old new flushes in
          alone_by new later_got later later_out now (named_still object old new same taken one.named)
          (limited_flush moment_of left_since told image faults_of start opening (not (is_stopped old)) extent old new one.stands telling one.limited differ flushes (has old.limit))
          (opened_at telling) (knows_still object old new same taken one.knows) (stuck_on (flushed_stuck faults_of old new flushes) stopped taken took said telling)

      -- So does a flush.
      pub flush_alone : (result : Stepped) → later_got ≡ got → later ≡ notices → later_out ≡ out → (old.before ≡ old.durable → (result ≡ Nothing) × (new ≡ old))
          → (old.before ≢ old.durable → (result ≡ Did) × Flushes faults_of old new) → KeepsTelling told old.store new.store → KeepsLimit old.store new.store
          → is_stopped new ≡ is_stopped old → KeepsBack moment_of left_since told image faults_of old new → After
      flush_alone result took said left nothing flushed telling has stopped back =
          ⊎_elim (λ even. idle (nothing even).1 took said left)
          (λ differ. flown took said telling has stopped differ (flushed differ).1
          (flush_keeps moment_of left_since told image faults_of start opening old new got later_got notices later out later_out over result took said left nothing flushed telling
          stopped back)) (cases_eq old.before old.durable)

      -- ---- a release
      abbrev LetsGo : Result Stepped NoMemory → Type 0
      LetsGo = ReleasesBy moment_of left_since told image faults_of start opening old new got later_got notices later out later_out over

      release_as : (off : Bool) → is_stopped old ≡ off → (result : Result Stepped NoMemory) → LetsGo result → Over new later_got later later_out → After
      release_as true off result by now = let s = by.stopped off in idle s.1 by.line s.2 s.3
      release_as false on (Ok Nothing) by now = let i = by.barred on (by.nothing refl) in idle i.back by.line i.told i.left
      release_as false on (Ok Did) by now =
          let r = by.released refl in
          let disk = disk_of moment_of left_since told image faults_of start opening _ old one.stands in
          let taken : new.log.taken.items ≡ old.log.taken.items =
          ap (λ (x : Backed). x.taken) (r.log disk.0 disk.1) ∙ log_taken old (moment_of disk.0) r.first r.first.body in
          alone_by new later_got later later_out now (named_still object old new r.identity taken one.named)
          (limited_release moment_of left_since told image faults_of start opening (not (is_stopped old)) extent old new one.stands (still_tells told old.store new.store by.disk) one.limited
          (not (is_stopped new)) now.stands disk.0 disk.1 notices later out later_out r)
          (opened_at (still_tells told old.store new.store by.disk)) (knows_still object old new r.identity taken one.knows)
          (λ is goes. did_not (by.barred on (ap (λ (s : Bool). not s && is_ready old.held.items old.durable) (sym r.stuck ∙ is))).nothing)
      release_as false on (Err fault) by now =
          let s = by.stays in
          let taken : new.log.taken.items ≡ old.log.taken.items = ap (λ (x : Backed). x.taken) s.log in
          alone_by new later_got later later_out now (named_still object old new s.identity taken one.named) (limited_stays moment_of left_since told image faults_of start opening (not (is_stopped old)) extent old new one.stands (still_tells told old.store new.store by.disk) one.limited notices later out later_out s)
          (opened_at (still_tells told old.store new.store by.disk)) (knows_still object old new s.identity taken one.knows) (off_not by.stops.wanting)

      -- So does a release.
      pub release_alone : (result : Result Stepped NoMemory) → LetsGo result → After
      release_alone result by =
          release_as (is_stopped old) refl result by
          (release_keeps moment_of left_since told image faults_of start opening old new got later_got notices later out later_out over result by)

      -- ---- a mounting
      abbrev Remounted : Result Stepped NoMemory → Type 0
      Remounted = MendsBy moment_of left_since told image faults_of start opening old new got later_got notices later out later_out over

      -- Memory was wanting at it.
      mend_lost : is_stopped new ≡ true → FindsEnd told old new → (old.mode ≡ Mounted → new ≡ old) → KeepsTelling told old.store new.store → (HasLimit old.limit old.store → HasLimit old.limit new.store) → Over new later_got later later_out
          → IsAsBefore old new ⊎ ((ending : Ending) × (notice : Notice) × (old.mode ≡ Wanted ending) × Remounts faults_of old (record new { stopped = old.stopped }) ending notice)
          → After
      mend_lost off finds rests telling has now (inl same) =
          let taken : new.log.taken.items ≡ old.log.taken.items = ap (λ (x : Backed). x.taken) same.log in
          alone_by new later_got later later_out now (named_still object old new same.identity taken one.named) (limited_as_before moment_of left_since told image faults_of start opening (not (is_stopped old)) extent old new one.stands telling one.limited
          same has (λ mounted. still_end old.store new.store (ap (λ (b : Back D). b.store) (rests mounted))))
          (opened_at telling) (knows_still object old new same.identity taken one.knows) (off_not off)
      mend_lost off finds rests telling has now (inr lost) =
          let noted : Back D = record new { stopped = old.stopped } in
          let taken : new.log.taken.items ≡ old.log.taken.items = taken_still faults_of old noted lost.0 lost.1 lost.3 in
          let same : new.identity ≡ old.identity = mended_identity faults_of old noted lost.0 lost.1 lost.3 in
          alone_by new later_got later later_out now (named_still object old new same taken one.named)
          (limited_noted told extent old.stopped new
          (limited_remounts moment_of left_since told image faults_of start opening (not (is_stopped old)) extent old noted one.stands telling one.limited
          lost.0 lost.1 lost.2 lost.3 finds has)) (opened_at telling) (knows_still object old new same taken one.knows) (off_not off)

      mend_as : (off : Bool) → is_stopped old ≡ off → (result : Result Stepped NoMemory) → Remounted result → (HasLimit old.limit old.store → HasLimit old.limit new.store)
          → Over new later_got later later_out → After
      mend_as true off result by has now = let s = by.stopped off in idle s.1 by.line s.2 by.same_out
      mend_as false on (Ok Nothing) by has now = let i = by.barred on (by.nothing refl) in idle i.back by.line i.told by.same_out
      mend_as false on (Ok Did) by has now =
          let m = by.mended refl in
          let taken : new.log.taken.items ≡ old.log.taken.items = taken_still faults_of old new m.ending m.notice m.remounts in
          let same = mended_identity faults_of old new m.ending m.notice m.remounts in
          alone_by new later_got later later_out now (named_still object old new same taken one.named)
          (limited_remounts moment_of left_since told image faults_of start opening (not (is_stopped old)) extent old new one.stands by.tells one.limited m.ending m.notice m.wanted m.remounts by.finds has) (opened_at by.tells) (knows_still object old new same taken one.knows)
          (λ is goes. did_not (by.barred on
          (ap (λ (s : Bool). not s && is_wanted old.mode) (sym (stuck_still faults_of old new m.ending m.notice m.remounts) ∙ is))).nothing)
      mend_as false on (Err fault) by has now =
          mend_lost by.stops.wanting by.finds (λ mounted. (by.barred on (never_mends old mounted)).back) by.tells has now by.lost.log

      -- So does a mounting.
      pub mend_alone : (result : Result Stepped NoMemory) → Remounted result → (HasLimit old.limit old.store → HasLimit old.limit new.store) → After
      mend_alone result by has =
          mend_as (is_stopped old) refl result by has
          (mend_keeps moment_of left_since told image faults_of start opening old new got later_got notices later out later_out over result by)

-- The back of a slot that was just mounted.
pub begins_alone : {D : Type 0} (moment_of : D → ℕ) (left_since : D → ℕ → List ℕ → Type 0) (told : D → Option (List ℕ)) (image : D → List ℕ → Type 0) (faults_of : D → ℕ)
    (start : List (List Op)) (opening : ℕ) (back : Back D) → IsFresh back → IsBack moment_of left_since told image faults_of start opening back → HasLimit back.limit back.store
    → (got : List Entry) (notices : List Notice) (out : List Sent) → got ≡ [] → notices ≡ [] → out ≡ []
    → IsBackAlone moment_of left_since told image faults_of start opening back.identity (extent_of back) (alarm_of back) back got notices out
begins_alone moment_of left_since told image faults_of start opening back fresh known has got notices out no_entry no_notice no_message =
    alone_by moment_of left_since told image faults_of start opening back.identity (extent_of back) (alarm_of back) back got notices out
    (begins_back moment_of left_since told image faults_of start opening back fresh known got notices out no_entry no_notice no_message) (inl refl)
    (record {
      kept = refl;
      journal = has;
      full = λ stop is. none_has stop (ap (λ (x : Backed). x.stops) fresh.log) is;
      written = λ disk at tells.
          written_fresh moment_of left_since told image faults_of start opening (not (is_stopped back)) back back.limit (end_in back.store) fresh.log known (λ journal is. sym (ap end_in is));
    })
    (λ tells.
    sym (alarm_due moment_of left_since told image faults_of start opening back tells.0 tells.1 tells.2 known fresh.serves
    (is_mounted moment_of left_since told image faults_of start opening back fresh known _ known))
    ∙ ap (λ (x : Backed). (due_map (opened_map start) x).alarm) fresh.log)
    (λ fit. ap (λ (x : Backed). known_over (is_some back.identity) x.taken) (sym fresh.log)) (λ is on. absurd (true≢false (sym is ∙ fresh.free)))
  where
    none_has : {A : Type 0} (stop : Stop) → back.log.stops.items ≡ [] → Contains back.log.stops.items stop → A
    none_has stop none is = let few = is.1 in absurd (omega (arith, few, ap length none))

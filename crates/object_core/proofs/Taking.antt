-- An object whose back takes an entry.
use Rattle.std.proofs.Common.{◌≡◌, ◌∙◌, ap, sym, refl, subst, inl, inr, true≢false, ℕ, List, [], ◌∷◌, ◌++◌, append-nil, append_assoc, Option, None}
use Rattle.std.specs.Prelude.{Bool, true, false, not, ◌&&◌, ◌⊎◌, is_some, option_to_list, Result, Ok, Err, OnOk, OnErr}
use Rattle.do_tree.specs.Tree.{Script}
use Rattle.do_value.specs.declared.fault.NoMemory.{NoMemory}
use Rattle.lane.specs.Lanes.{Both, sent_on, StartsWith}
use Rattle.storage_map.specs.Contents.{Contents}
use Rattle.timeline.specs.Logs.{Backed, backed}
use Rattle.timeline.specs.declared.entry.Entry.{Entry}
use Rattle.timeline.specs.declared.event.Event.{Event}
use Rattle.timeline.specs.declared.message.Message.{Message as Sent}
use Rattle.timeline.specs.declared.notice.Notice.{Notice}
use Rattle.timeline.specs.declared.notice.Stepped.{Stepped}
use Rattle.timeline.specs.declared.notice.Stepped.TheVariants.{Did, Nothing}
use Rattle.front_half.specs.Standing as standing
use Rattle.object_front.specs.declared.evaluated.Evaluated.{Evaluated}
use Rattle.front_half.specs.declared.half.Half.{Half}
use Rattle.output_gate.proofs.Unfit.{unfit_identity, unfit_log, unfit_holds, unfit_mode, unfit_before, fit_taken, released_still}
use Rattle.output_gate.specs.Entering.{identity_after, Enters, Failed, IsIdle, Takes, LosesEntry, is_unfit, notice_with}
use Rattle.output_gate.specs.Serving.{IsBack, KeepsBack, StopsBy, IsAsBefore, is_stopped}
use Rattle.output_gate.specs.Storing.{KeepsTelling, ReadsDisk}
use Rattle.output_gate.specs.Taking.{may_take, fit_of}
use Rattle.output_gate.specs.Telling.{opened_map}
use Rattle.output_gate.specs.declared.back.Back.{Back}
use Rattle.output_gate.specs.declared.held.Held.{Held as BackHeld}
use Rattle.object_history.proofs.GateTaking as gate
use Rattle.object_history.specs.Stepping.{BackSteps}
use Rattle.front_history.specs.Turns.{BackStepsKeep}
use Rattle.object_core.proofs.Dropping.{steps_downs}
use Rattle.object_core.proofs.Due.{AnswersSo, answers_due, seen_is_rear}
use Rattle.object_core.proofs.Fitting.{one_fits}
use Rattle.object_core.proofs.Lanes.{took_first, took_none, sent_last}
use Rattle.object_core.proofs.Limiting.{limited_as_before, limited_enters}
use Rattle.object_core.proofs.Naming.{named_enters, named_still}
use Rattle.object_core.proofs.Pairing.{Hears, paired_on, paired_as}
use Rattle.object_core.proofs.Rebuilding.{One, StaysPair, StillHears, hears_on, hears_as, told_earlier, rebuilt, seen_same, same_queue}
use Rattle.object_core.specs.Fitting.{known_over}
use Rattle.object_core.specs.Limited.{IsLimitedBy}
use Rattle.object_core.specs.One.{FitsItsBack, HasItsClass, Origin, TellsNow, messages}
use Rattle.object_core.specs.Seen.{due_map, seen_of}

-- What the back's own contract says of a take over two queues.
pub record TakesBy {D : Type 0} (moment_of : D → ℕ) (left_since : D → ℕ → List ℕ → Type 0) (told : D → Option (List ℕ)) (image : D → List ℕ → Type 0) (faults_of : D → ℕ)
    (old new : Back D) (line later_line : Both Entry) (notices later : Both Notice) (result : Result Stepped NoMemory) : Type 0 where
  pub stopped : is_stopped old ≡ true → OnOk result ⊥ × (new ≡ old) × (later_line.got ≡ line.got) × (sent_on later ≡ sent_on notices)
  pub barred : is_stopped old ≡ false → may_take old ≡ false → IsIdle old new line.got later_line.got (sent_on notices) (sent_on later) result
  pub nothing : result ≡ Ok Nothing → IsIdle old new line.got later_line.got (sent_on notices) (sent_on later) result
  pub empty : result ≡ Ok Nothing → may_take old ≡ true → StartsWith line.got (sent_on line)
  pub took : result ≡ Ok Did → Takes told image old new line.got later_line.got (sent_on notices) (sent_on later)
  pub lost : is_stopped old ≡ false → OnErr result (LosesEntry old new line.got later_line.got (sent_on notices) (sent_on later))
  pub stops : StopsBy result new
  pub inlet : sent_on later_line ≡ sent_on line
  pub outlet : later.got ≡ notices.got
  pub disk : ReadsDisk told old.store new.store
  pub back : KeepsBack moment_of left_since told image faults_of old new

free_of : (stuck wanted failed few : Bool) → (not stuck && wanted && failed && few) ≡ true → stuck ≡ false
free_of true wanted failed few is = absurd cc
free_of false wanted failed few is = refl

abbrev pub did_so : Result Stepped NoMemory
did_so = Ok Did

abbrev pub nothing_so : Result Stepped NoMemory
nothing_so = Ok Nothing

abbrev pub fault_so : NoMemory → Result Stepped NoMemory
fault_so fault = Err fault

pub did_not : {A : Type 0} → did_so ≡ nothing_so → A
did_not is = absurd cc

pub err_not : {A : Type 0} (fault : NoMemory) → fault_so fault ≡ nothing_so → A
err_not fault is = absurd cc

module _ {D : Type 0} (moment_of : D → ℕ) (left_since : D → ℕ → List ℕ → Type 0) (told : D → Option (List ℕ)) (image : D → List ℕ → Type 0) (faults_of : D → ℕ)
    (keeps : BackStepsKeep) (script : Script) (origin : Origin) (front : Half Evaluated) (inbox : Both Event) (old new : Back D) (line later_line : Both Entry) (notices later : Both Notice) (out : Both Sent)
    (one : One moment_of left_since told image faults_of script origin front inbox old line notices out) where
  abbrev opened : Contents
  opened = opened_map origin.start

  abbrev After : Type 0
  After = One moment_of left_since told image faults_of script origin front inbox new later_line later out

  abbrev Stays : List Entry → Type 0
  Stays lost = StaysPair moment_of left_since told image faults_of script origin front inbox old new line later_line notices later out one lost

  abbrev Known : Type 0
  Known = IsBack moment_of left_since told image faults_of origin.start origin.opening new

  -- Nothing is done.
  idle : new ≡ old → later_line.got ≡ line.got → sent_on later_line ≡ sent_on line → sent_on later ≡ sent_on notices → later.got ≡ notices.got → After
  idle same got sent told_same told_got =
      subst (λ (b : Back D). One moment_of left_since told image faults_of script origin front inbox b later_line later out) (sym same)
      (subst (λ (l : Both Entry). One moment_of left_since told image faults_of script origin front inbox old l later out)
      (sym (same_queue line later_line got (sym (took_none line later_line got sent))))
      (subst (λ (n : Both Notice). One moment_of left_since told image faults_of script origin front inbox old line n out)
      (sym (same_queue notices later told_got (sym (took_none notices later told_got told_same)))) one))

  module _ (e : Entry) (none : one.lost ≡ []) (known : Known) (same_disk : ReadsDisk told old.store new.store)
      (took : later_line.got ≡ line.got ++ e ∷ []) (sent : sent_on later_line ≡ sent_on line) (kept : later.got ≡ notices.got) (on : is_stopped old ≡ false) where
    telling : KeepsTelling told old.store new.store
    telling = same_disk.telling

    waits_first : one.lost ++ line.waiting ≡ e ∷ later_line.waiting
    waits_first = ap (λ (x : List Entry). x ++ line.waiting) none ∙ took_first line later_line e took sent

    sent_so : front.log.sent.items ≡ old.log.taken.items ++ (e ∷ later_line.waiting)
    sent_so = one.is_line ∙ append_assoc old.log.taken.items one.lost line.waiting ∙ ap (λ (x : List Entry). old.log.taken.items ++ x) waits_first

    -- It fits.
    fits_so : HasItsClass script origin.object → TellsNow told new → standing.is_stopped front ≡ false → may_take old ≡ true
        → (is_unfit (fit_of old e) ≡ false) × (is_some (identity_after (fit_of old e) old.identity e.body) ≡ known_over (is_some origin.object) (old.log.taken.items ++ e ∷ []))
    fits_so has tells goes_on may =
        let before : TellsNow told old = told_earlier moment_of left_since told image faults_of script origin front inbox old new telling one.back_stands tells in
        one_fits moment_of left_since told image faults_of script origin front inbox old line notices out one has before goes_on on may e later_line.waiting waits_first

    fits_behind : (failed : Failed) → Enters failed old new e → is_unfit (fit_of old e) ≡ false → may_take old ≡ true → FitsItsBack told script origin.object front new
    fits_behind failed enters is may has tells goes_on goes =
        let taken : new.log.taken.items ≡ old.log.taken.items ++ e ∷ [] = ap (λ (x : Backed). x.taken) enters.log ∙ fit_taken (fit_of old e) (backed old.log) e is in (
          enters.stuck ∙ is,
          ap is_some enters.identity ∙ (fits_so has tells goes_on may).1 ∙ ap (λ (entries : List Entry). known_over (is_some origin.object) entries) (sym taken),
        )

    -- The entry isn't logged, and nothing else that is seen changes.
    unlogged : backed new.log ≡ backed old.log → new.held.items ≡ old.held.items → new.mode ≡ old.mode → new.before ≡ old.before → new.durable ≡ old.durable
        → new.identity ≡ old.identity → (new.stuck ≡ false → is_stopped new ≡ false → ⊥) → FitsItsBack told script origin.object front new
        → sent_on later ≡ sent_on notices → IsLimitedBy told origin.extent new → After
    unlogged log held mode before durable same bad fits told_same limited =
        rebuilt moment_of left_since told image faults_of script origin front inbox old new line later_line notices later out out one known telling
        (named_still origin.object old new same (ap (λ (x : Backed). x.taken) log) one.named) (e ∷ [])
        (λ free on. absurd (bad free on))
        (sent_so ∙ sym (append_assoc old.log.taken.items (e ∷ []) later_line.waiting) ∙ ap (λ (x : Backed). x.taken ++ e ∷ [] ++ later_line.waiting) (sym log))
        (ap (λ (x : Backed). messages x.released) log ∙ one.left)
        (λ tells k paired. paired_as k opened one.st front (seen_of opened old) (seen_of opened new) (one.lost ++ line.waiting) (e ∷ later_line.waiting)
        notices.waiting later.waiting (seen_same opened old new log held mode before durable) (sym waits_first) (sym (took_none notices later kept told_same)) paired)
        (hears_as moment_of left_since told image faults_of script origin front inbox old new line notices out one telling (λ goes. on) (e ∷ later_line.waiting) later.waiting
        (seen_same opened old new log held mode before durable) (sym waits_first) (sym (took_none notices later kept told_same))) fits limited
        (λ tells some none. some (ap (λ (x : Backed). x.downs) (sym log) ∙ none))

    limited_so : (failed : Failed) → Enters failed old new e → IsLimitedBy told origin.extent new
    limited_so failed enters = limited_enters moment_of left_since told image faults_of origin.start origin.opening (not (is_stopped old)) origin.extent old new one.back_stands telling one.limited
        e failed enters same_disk

    unfit_enters : (failed : Failed) → Enters failed old new e → is_unfit (fit_of old e) ≡ true → may_take old ≡ true → sent_on later ≡ sent_on notices → After
    unfit_enters failed enters is may told_same =
        unlogged (enters.log ∙ unfit_log (fit_of old e) (backed old.log) e is)
        (enters.held ∙ ap (λ (x : List BackHeld). old.held.items ++ x) (unfit_holds failed old e enters.may is) ∙ append-nil old.held.items)
        (enters.mode ∙ unfit_mode (fit_of old e) old.mode e.body is) (enters.before ∙ unfit_before (fit_of old e) old.before e.body is) enters.durable
        (enters.identity ∙ unfit_identity (fit_of old e) old.identity e.body is)
        (λ free on. true≢false (sym is ∙ sym enters.stuck ∙ free))
        (λ has tells goes_on goes. absurd (true≢false (sym is ∙ (fits_so has tells goes_on may).0))) told_same (limited_so failed enters)

    -- The entry is logged.
    logs : (failed : Failed) → Enters failed old new e → is_unfit (fit_of old e) ≡ false
        → (TellsNow told new → Hears (seen_of opened old) (seen_of opened new) (e ∷ []) notices.waiting later.waiting)
        → StillHears moment_of left_since told image faults_of script origin front inbox old new line notices out one later_line.waiting later.waiting
        → FitsItsBack told script origin.object front new → After
    logs failed enters is steps heard fits =
        let taken : new.log.taken.items ≡ old.log.taken.items ++ e ∷ [] = ap (λ (x : Backed). x.taken) enters.log ∙ fit_taken (fit_of old e) (backed old.log) e is in
        rebuilt moment_of left_since told image faults_of script origin front inbox old new line later_line notices later out out one known telling (named_enters origin.object old new e taken one.named failed enters) []
        (λ free on. refl)
        (sent_so ∙ sym (append_assoc old.log.taken.items (e ∷ []) later_line.waiting) ∙ ap (λ (x : List Entry). x ++ later_line.waiting) (sym taken)
        ∙ ap (λ (x : List Entry). x ++ later_line.waiting) (sym (append-nil new.log.taken.items)))
        (ap (λ (x : Backed). messages x.released) enters.log ∙ ap messages (released_still (fit_of old e) (backed old.log) e) ∙ one.left)
        (λ tells k paired.
        paired_on keeps k opened one.st front (seen_of opened old) (seen_of opened new) (one.lost ++ line.waiting) later_line.waiting (e ∷ []) notices.waiting later.waiting
        (steps tells) (seen_is_rear moment_of left_since told image faults_of origin.start origin.opening old one.back_stands)
        (seen_is_rear moment_of left_since told image faults_of origin.start origin.opening new known) waits_first paired) heard fits (limited_so failed enters)
        (λ tells. steps_downs (seen_of opened old) (seen_of opened new) (e ∷ []) (steps tells).heard (steps tells).steps)

    -- What the front is told: what the map that is due answers.
    abbrev heard_of : Failed → List Notice
    heard_of failed = option_to_list (notice_with failed (fit_of old e) e (due_map opened (backed old.log)))

    -- The step of which the laws speak.
    steps_so : (failed : Failed) → Enters failed old new e → is_unfit (fit_of old e) ≡ false → may_take old ≡ true
        → BackSteps (seen_of opened old) (seen_of opened new) (e ∷ []) (heard_of failed)
    steps_so failed enters is may =
        gate.take_steps moment_of left_since told image faults_of origin.start origin.opening (not (is_stopped old)) old new one.back_stands may e failed enters
        (due_map opened (backed old.log)) (due_map opened (backed new.log)) is

    -- It is taken, and the front is told.
    entered_as : (failed : Failed) (answer : Option Notice) (unfit : Bool) → is_unfit (fit_of old e) ≡ unfit → Enters failed old new e → may_take old ≡ true → is_stopped new ≡ false
        → sent_on later ≡ sent_on notices ++ option_to_list answer → (is_unfit (fit_of old e) ≡ true → answer ≡ None)
        → AnswersSo told image old failed e answer → After
    entered_as failed answer true is enters may goes said none answers =
        unfit_enters failed enters is may (said ∙ ap (λ (n : Option Notice). sent_on notices ++ option_to_list n) (none is) ∙ append-nil (sent_on notices))
    entered_as failed answer false is enters may goes said none answers =
        logs failed enters is (λ tells. record {
          heard = heard_of failed;
          given = heard_of failed;
          steps = steps_so failed enters is may;
          are = inl refl;
          come = come tells;
        })
        (hears_on moment_of left_since told image faults_of script origin front inbox old new line notices out one telling (λ off. on) (e ∷ []) later_line.waiting
        (heard_of failed) later.waiting (λ tells still. record { steps = steps_so failed enters is may; come = come tells }) waits_first)
        (fits_behind failed enters is may)
      where
        come : TellsNow told new → later.waiting ≡ notices.waiting ++ heard_of failed
        come tells =
            let before = told_earlier moment_of left_since told image faults_of script origin front inbox old new telling one.back_stands tells in
            let due = answers_due moment_of left_since told image faults_of origin.start origin.opening old before.0 before.1 before.2 one.back_stands on failed e answer answers in
            sent_last notices later (heard_of failed) kept (said ∙ ap (λ (n : Option Notice). sent_on notices ++ option_to_list n) due)

    -- It is taken, and what the front is told is lost.
    unheard_as : (failed : Failed) (unfit : Bool) → is_unfit (fit_of old e) ≡ unfit → Enters failed old new e → may_take old ≡ true → is_stopped new ≡ true → sent_on later ≡ sent_on notices → After
    unheard_as failed true is enters may off said = unfit_enters failed enters is may said
    unheard_as failed false is enters may off said =
        logs failed enters is (λ tells. record {
          heard = heard_of failed;
          given = [];
          steps = steps_so failed enters is may;
          are = inr refl;
          come = sym (took_none notices later kept said) ∙ sym (append-nil notices.waiting);
        })
        (λ tells goes_on goes. absurd (true≢false (sym off ∙ goes))) (fits_behind failed enters is may)

    -- Memory was wanting.
    loses : LosesEntry old new line.got later_line.got (sent_on notices) (sent_on later) → may_take old ≡ true → is_stopped new ≡ true
        → (IsAsBefore old new ⊎ ((failed : Failed) × Enters failed old new e)) → sent_on later ≡ sent_on notices → After
    loses lost may off (inl same) said =
        unlogged same.log same.held same.mode same.before same.durable same.identity (λ free on. true≢false (sym off ∙ on))
        (λ has tells goes_on goes. absurd (true≢false (sym off ∙ goes))) said (limited_as_before moment_of left_since told image faults_of origin.start origin.opening (not (is_stopped old)) origin.extent old new one.back_stands telling one.limited
        same (same_disk.limit old.limit) (λ mounted. same_disk.end))
    loses lost may off (inr (failed, enters)) said = unheard_as failed (is_unfit (fit_of old e)) refl enters may off said

  may_not : may_take old ≡ true → old.stuck ≡ false
  may_not may = free_of old.stuck _ _ _ may

  -- A take keeps the object one.
  may_as : (may : Bool) → may_take old ≡ may → is_stopped old ≡ false → Known → (result : Result Stepped NoMemory)
      → TakesBy moment_of left_since told image faults_of old new line later_line notices later result → After
  may_as false may on known (Ok Did) by = did_not (by.barred on may).nothing
  may_as false may on known (Ok Nothing) by =
      let i = by.nothing refl in
      idle i.back i.took by.inlet i.told by.outlet
  may_as false may on known (Err fault) by = err_not fault (by.barred on may).nothing
  may_as true may on known (Ok Nothing) by =
      let i = by.nothing refl in
      idle i.back i.took by.inlet i.told by.outlet
  may_as true may on known (Ok Did) by =
      let t = by.took refl in
      entered_as t.entry (one.none_lost (may_not may) on) known by.disk t.took by.inlet by.outlet on t.failed t.answer (is_unfit (fit_of old t.entry)) refl t.enters may by.stops.good t.sends
      t.unfit t.answers
  may_as true may on known (Err fault) by =
      let l = by.lost on in
      loses l.entry (one.none_lost (may_not may) on) known by.disk l.took by.inlet by.outlet on l may by.stops.wanting l.entered l.told

  stopped_as : (off : Bool) → is_stopped old ≡ off → (result : Result Stepped NoMemory)
      → TakesBy moment_of left_since told image faults_of old new line later_line notices later result → After
  stopped_as true off result by =
      let s = by.stopped off in
      idle s.1 s.2 by.inlet s.3 by.outlet
  stopped_as false on result by = may_as (may_take old) refl on (by.back origin.start origin.opening one.back_stands) result by

  pub take_keeps : (result : Result Stepped NoMemory) → TakesBy moment_of left_since told image faults_of old new line later_line notices later result → After
  take_keeps result by = stopped_as (is_stopped old) refl result by

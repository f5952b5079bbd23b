-- What a step of an object answers, and what it did.
use Rattle.std.proofs.Common.{◌≡◌, ◌≢◌, ◌∙◌, ap, sym, refl, inl, inr, ⊎_elim, ℕ, List, [], ◌∷◌, ◌++◌, append-nil, append_assoc, Option}
use Rattle.std.proofs.lemmas.Bool.{cases_eq}
use Rattle.std.proofs.lemmas.List.{append_cancel_left}
use Rattle.std.specs.Prelude.{Bool, true, false, Result, Ok, Err}
use Rattle.do_tree.specs.Tree.{Script}
use Rattle.do_value.specs.declared.fault.NoMemory.{NoMemory}
use Rattle.lane.specs.Lanes.{Both, sent_on, StartsWith}
use Rattle.timeline.specs.declared.entry.Entry.{Entry}
use Rattle.timeline.specs.declared.message.Message.{Message as Sent}
use Rattle.timeline.specs.declared.notice.Notice.{Notice}
use Rattle.timeline.specs.declared.notice.Stepped.{Stepped}
use Rattle.timeline.specs.declared.notice.Stepped.TheVariants.{Did, Nothing}
use Rattle.output_gate.specs.Releasing.{released_messages}
use Rattle.output_gate.specs.Serving.{is_stopped}
use Rattle.output_gate.specs.Taking.{may_take}
use Rattle.output_gate.specs.declared.back.Back.{Back}
use Rattle.object_core.proofs.Flushing.{FlushesBy}
use Rattle.object_core.proofs.Lanes.{took_first, took_none}
use Rattle.object_core.proofs.Mending.{MendsBy}
use Rattle.object_core.proofs.Rebuilding.{same_queue}
use Rattle.object_core.proofs.Releasing.{ReleasesBy}
use Rattle.object_core.proofs.Taking.{TakesBy, did_not}
use Rattle.object_core.specs.Stepping.{Steps, HasNothing, answer_of}
use Rattle.object_core.specs.declared.choice.Choice.TheVariants.{Take, Flush, Release, Mend}
use Rattle.object_core.specs.declared.object.Core.{Core}

-- answers that aren't one another
abbrev pub answers : Bool → Result Bool NoMemory
answers did = Ok did

abbrev pub wants : NoMemory → Result Bool NoMemory
wants fault = Err fault

pub true_not : {A : Type 0} → answers true ≡ answers false → A
true_not is = absurd cc

pub false_not : {A : Type 0} → answers false ≡ answers true → A
false_not is = absurd cc

pub fault_not : {A : Type 0} (fault : NoMemory) (did : Bool) → wants fault ≡ answers did → A
fault_not fault did is = absurd cc

first_none : {X : Type 0} (first rest : List X) → [] ≡ first ++ rest → first ≡ []
first_none [] rest is = refl
first_none (x ∷ first) rest is = absurd cc

pub no_first : {X A : Type 0} (x : X) (rest : List X) → [] ≡ x ∷ rest → A
no_first x rest is = absurd cc

did_nothing : Did ≡ Nothing → ⊥
did_nothing is = absurd cc

-- all was taken of a queue of which all that was sent was taken
pub none_waits : {X : Type 0} (queue : Both X) → StartsWith queue.got (sent_on queue) → queue.waiting ≡ []
none_waits queue starts =
    let both : [] ≡ queue.waiting ++ starts.0 =
    append_cancel_left queue.got [] (queue.waiting ++ starts.0) (append-nil queue.got ∙ starts.1 ∙ append_assoc queue.got queue.waiting starts.0) in
    first_none queue.waiting starts.0 both

pub sent_none : {X : Type 0} (queue later : Both X) → sent_on later ≡ sent_on queue → StartsWith (sent_on later) (sent_on queue)
sent_none queue later same = ([], same ∙ sym (append-nil (sent_on queue)))

module _ {D : Type 0} (moment_of : D → ℕ) (left_since : D → ℕ → List ℕ → Type 0) (told : D → Option (List ℕ)) (image : D → List ℕ → Type 0) (faults_of : D → ℕ)
    (script : Script) (old : Core D) (new : Back D) where
  -- Nothing comes and nothing goes.
  nothing_passes : sent_on old.inbox ≡ sent_on old.inbox ++ []
  nothing_passes = sym (append-nil (sent_on old.inbox))

  -- The core over another back and other queues.
  abbrev with_take : Both Entry → Both Notice → Core D
  with_take line notices = record old { back = new; line = line; notices = notices }

  same_take : (line : Both Entry) (notices : Both Notice) → new ≡ old.back → line ≡ old.line → notices ≡ old.notices → with_take line notices ≡ old
  same_take line notices back is_line is_notices =
      ap (λ (b : Back D). record old { back = b; line = line; notices = notices }) back
      ∙ ap (λ (l : Both Entry). record old { line = l; notices = notices }) is_line
      ∙ ap (λ (n : Both Notice). record old { notices = n }) is_notices

  module _ (line : Both Entry) (notices : Both Notice) where
    take_same : new ≡ old.back → line.got ≡ old.line.got → sent_on line ≡ sent_on old.line → notices.got ≡ old.notices.got → sent_on notices ≡ sent_on old.notices
        → with_take line notices ≡ old
    take_same back got sent told_got said =
        same_take line notices back (same_queue old.line line got (sym (took_none old.line line got sent)))
        (same_queue old.notices notices told_got (sym (took_none old.notices notices told_got said)))

    take_nothing : (may : Bool) → may_take old.back ≡ may → TakesBy moment_of left_since told image faults_of old.back new old.line line old.notices notices (Ok Nothing)
        → HasNothing script old Take
    take_nothing false is by = inl is
    take_nothing true is by = inr (none_waits old.line (by.empty refl is))

    take_something : (off : Bool) → is_stopped old.back ≡ off → TakesBy moment_of left_since told image faults_of old.back new old.line line old.notices notices (Ok Did)
        → HasNothing script old Take → ⊥
    take_something true off by none = (by.stopped off).0
    take_something false on by (inl is) = did_not (by.barred on is).nothing
    take_something false on by (inr empty) =
        let t = by.took refl in
        no_first t.entry line.waiting (sym empty ∙ took_first old.line line t.entry t.took by.inlet)

    pub take_steps : (result : Result Stepped NoMemory) → TakesBy moment_of left_since told image faults_of old.back new old.line line old.notices notices result
        → Steps moment_of told image faults_of script old (with_take line notices) Take (answer_of result)
    take_steps (Ok Did) by = record {
      touches = refl;
      passes = record { given = nothing_passes; collected = refl; left = sent_none old.out old.out refl };
      nothing = λ is. true_not is;
      something = λ is none. take_something (is_stopped old.back) refl by none;
      did = λ is. by.took refl;
      wanting = tt;
      halted = λ off. absurd (by.stopped off).0;
    }
    take_steps (Ok Nothing) by =
        let i = by.nothing refl in
        record {
          touches = refl;
          passes = record { given = nothing_passes; collected = refl; left = sent_none old.out old.out refl };
          nothing = λ is. (take_nothing (may_take old.back) refl by, take_same i.back i.took by.inlet by.outlet i.told);
          something = λ is none. false_not is;
          did = λ is. false_not is;
          wanting = tt;
          halted = λ off. absurd (by.stopped off).0;
        }
    take_steps (Err fault) by = record {
      touches = refl;
      passes = record { given = nothing_passes; collected = refl; left = sent_none old.out old.out refl };
      nothing = λ is. fault_not fault false is;
      something = λ is none. fault_not fault true is;
      did = λ is. fault_not fault true is;
      wanting = by.stops.wanting;
      halted = λ off. let s = by.stopped off in (tt, take_same s.1 s.2 by.inlet by.outlet s.3);
    }

  flush_even : (result : Stepped) → old.back.before ≡ old.back.durable → result ≡ Nothing → FlushesBy moment_of left_since told image faults_of old.back new result
      → Steps moment_of told image faults_of script old (record old { back = new }) Flush (answer_of (Ok result))
  flush_even Nothing even is by = record {
    touches = refl;
    passes = record { given = nothing_passes; collected = refl; left = sent_none old.out old.out refl };
    nothing = λ so. (even, ap (λ (b : Back D). record old { back = b }) (by.nothing even).1);
    something = λ so none. false_not so;
    did = λ so. false_not so;
    wanting = tt;
    halted = λ off. absurd off;
  }
  flush_even Did even is by = absurd (did_nothing is)

  flush_differ : (result : Stepped) → old.back.before ≢ old.back.durable → result ≡ Did → FlushesBy moment_of left_since told image faults_of old.back new result
      → Steps moment_of told image faults_of script old (record old { back = new }) Flush (answer_of (Ok result))
  flush_differ Did differ is by = record {
    touches = refl;
    passes = record { given = nothing_passes; collected = refl; left = sent_none old.out old.out refl };
    nothing = λ so. true_not so;
    something = λ so even. differ even;
    did = λ so. (by.flushed differ).1;
    wanting = tt;
    halted = λ off. absurd off;
  }
  flush_differ Nothing differ is by = absurd (did_nothing (sym is))

  pub flush_steps : (result : Stepped) → FlushesBy moment_of left_since told image faults_of old.back new result
      → Steps moment_of told image faults_of script old (record old { back = new }) Flush (answer_of (Ok result))
  flush_steps result by = ⊎_elim (λ even. flush_even result even (by.nothing even).0 by) (λ differ. flush_differ result differ (by.flushed differ).0 by)
      (cases_eq old.back.before old.back.durable)

  module _ (notices : Both Notice) (out : Both Sent) where
    abbrev with_release : Core D
    with_release = record old { back = new; notices = notices; out = out }

    release_same : new ≡ old.back → notices.got ≡ old.notices.got → sent_on notices ≡ sent_on old.notices → out.got ≡ old.out.got → sent_on out ≡ sent_on old.out
        → with_release ≡ old
    release_same back got said out_got out_said =
        ap (λ (b : Back D). record old { back = b; notices = notices; out = out }) back
        ∙ ap (λ (n : Both Notice). record old { notices = n; out = out }) (same_queue old.notices notices got (sym (took_none old.notices notices got said)))
        ∙ ap (λ (o : Both Sent). record old { out = o }) (same_queue old.out out out_got (sym (took_none old.out out out_got out_said)))

    release_something : (off : Bool) → is_stopped old.back ≡ off
        → ReleasesBy moment_of left_since told image faults_of old.back new old.notices notices old.out out (Ok Did) → HasNothing script old Release → ⊥
    release_something true off by none = (by.stopped off).0
    release_something false on by none = did_not (by.barred on none).nothing

    release_nothing : (off : Bool) → is_stopped old.back ≡ off
        → ReleasesBy moment_of left_since told image faults_of old.back new old.notices notices old.out out (Ok Nothing) → with_release ≡ old
    release_nothing true off by = absurd (by.stopped off).0
    release_nothing false on by =
        let i = by.barred on (by.nothing refl) in
        release_same i.back by.outlet i.told by.left i.left

    -- A message that is released stands behind those that left.
    release_leaves : (off : Bool) → is_stopped old.back ≡ off → (result : Result Stepped NoMemory)
        → ReleasesBy moment_of left_since told image faults_of old.back new old.notices notices old.out out result → StartsWith (sent_on out) (sent_on old.out)
    release_leaves true off result by = sent_none old.out out (by.stopped off).3
    release_leaves false on (Ok Did) by = let r = by.released refl in (released_messages r.first.body, r.left)
    release_leaves false on (Ok Nothing) by = sent_none old.out out (by.barred on (by.nothing refl)).left
    release_leaves false on (Err fault) by = sent_none old.out out by.stays.left

    pub release_steps : (result : Result Stepped NoMemory) → ReleasesBy moment_of left_since told image faults_of old.back new old.notices notices old.out out result
        → Steps moment_of told image faults_of script old with_release Release (answer_of result)
    release_steps (Ok Did) by = record {
      touches = refl;
      passes = record { given = nothing_passes; collected = by.left; left = release_leaves (is_stopped old.back) refl (Ok Did) by };
      nothing = λ is. true_not is;
      something = λ is none. release_something (is_stopped old.back) refl by none;
      did = λ is. by.released refl;
      wanting = tt;
      halted = λ off. absurd (by.stopped off).0;
    }
    release_steps (Ok Nothing) by = record {
      touches = refl;
      passes = record { given = nothing_passes; collected = by.left; left = release_leaves (is_stopped old.back) refl (Ok Nothing) by };
      nothing = λ is. (by.nothing refl, release_nothing (is_stopped old.back) refl by);
      something = λ is none. false_not is;
      did = λ is. false_not is;
      wanting = tt;
      halted = λ off. absurd (by.stopped off).0;
    }
    release_steps (Err fault) by = record {
      touches = refl;
      passes = record { given = nothing_passes; collected = by.left; left = release_leaves (is_stopped old.back) refl (Err fault) by };
      nothing = λ is. fault_not fault false is;
      something = λ is none. fault_not fault true is;
      did = λ is. fault_not fault true is;
      wanting = by.stops.wanting;
      halted = λ off. let s = by.stopped off in (tt, release_same s.1 by.outlet s.2 by.left s.3);
    }

  module _ (notices : Both Notice) where
    abbrev with_mend : Core D
    with_mend = record old { back = new; notices = notices }

    mend_same : new ≡ old.back → notices.got ≡ old.notices.got → sent_on notices ≡ sent_on old.notices → with_mend ≡ old
    mend_same back got said =
        ap (λ (b : Back D). record old { back = b; notices = notices }) back
        ∙ ap (λ (n : Both Notice). record old { notices = n }) (same_queue old.notices notices got (sym (took_none old.notices notices got said)))

    mend_something : (off : Bool) → is_stopped old.back ≡ off → MendsBy moment_of left_since told image faults_of old.back new old.notices notices (Ok Did)
        → HasNothing script old Mend → ⊥
    mend_something true off by none = (by.stopped off).0
    mend_something false on by none = did_not (by.barred on none).nothing

    mend_nothing : (off : Bool) → is_stopped old.back ≡ off → MendsBy moment_of left_since told image faults_of old.back new old.notices notices (Ok Nothing)
        → with_mend ≡ old
    mend_nothing true off by = absurd (by.stopped off).0
    mend_nothing false on by =
        let i = by.barred on (by.nothing refl) in
        mend_same i.back by.outlet i.told

    pub mend_steps : (result : Result Stepped NoMemory) → MendsBy moment_of left_since told image faults_of old.back new old.notices notices result
        → Steps moment_of told image faults_of script old with_mend Mend (answer_of result)
    mend_steps (Ok Did) by = record {
      touches = refl;
      passes = record { given = nothing_passes; collected = refl; left = sent_none old.out old.out refl };
      nothing = λ is. true_not is;
      something = λ is none. mend_something (is_stopped old.back) refl by none;
      did = λ is. by.mended refl;
      wanting = tt;
      halted = λ off. absurd (by.stopped off).0;
    }
    mend_steps (Ok Nothing) by = record {
      touches = refl;
      passes = record { given = nothing_passes; collected = refl; left = sent_none old.out old.out refl };
      nothing = λ is. (by.nothing refl, mend_nothing (is_stopped old.back) refl by);
      something = λ is none. false_not is;
      did = λ is. false_not is;
      wanting = tt;
      halted = λ off. absurd (by.stopped off).0;
    }
    mend_steps (Err fault) by = record {
      touches = refl;
      passes = record { given = nothing_passes; collected = refl; left = sent_none old.out old.out refl };
      nothing = λ is. fault_not fault false is;
      something = λ is none. fault_not fault true is;
      did = λ is. fault_not fault true is;
      wanting = by.stops.wanting;
      halted = λ off. let s = by.stopped off in (tt, mend_same s.1 by.outlet s.2);
    }

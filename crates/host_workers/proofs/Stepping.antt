-- What a back has told its front goes on with each of its steps.
use Rattle.std.proofs.Common.{◌≡◌, ◌∙◌, ap, sym, refl, subst, inl, inr, true≢false, ℕ, ◌≤◌, arith, List, [], ◌++◌, length, append-nil, Option, Some, None}
use Rattle.std.specs.Prelude.{Bool, false, true, option_to_list}
use Rattle.batch_journal.specs.Rest.{disk_in}
use Rattle.storage_map.specs.Contents.{Contents}
use Rattle.storage_map.specs.declared.op.Op.{Op}
use Rattle.timeline.specs.declared.entry.Entry.{Entry}
use Rattle.timeline.specs.declared.notice.Notice.{Notice}
use Rattle.output_gate.proofs.Steps.{told_before}
use Rattle.output_gate.specs.Serving.{IsBack, IsBackAs, is_stopped}
use Rattle.output_gate.specs.Storing.{IsDiskOf, KeepsTelling}
use Rattle.output_gate.specs.Telling.{opened_map}
use Rattle.output_gate.specs.declared.back.Back.{Back}
use Rattle.output_gate.specs.declared.store.Store.{Store}
use Rattle.object_history.specs.Pair.{Rear}
use Rattle.object_history.specs.Stepping.{BackSteps, takes_own, read_fails, takes_down, takes_late, flies, stops, sends, syncs, halts, begins, misses}
use Rattle.object_core.proofs.Due.{seen_is_rear}
use Rattle.object_core.specs.Alone.{HasTold}
use Rattle.object_core.specs.Apart.{BackRuns, goes_on as goes_by}
use Rattle.object_core.specs.One.{TellsNow}
use Rattle.object_core.specs.Seen.{seen_of}
use Rattle.host_workers.specs.Runs.{Tells}

pub none_is_few : 0 ≤ 1
none_is_few = omega arith

pub one_is_few : 1 ≤ 1
one_is_few = omega arith

few_of : (o : Option Notice) → length (option_to_list o) ≤ 1
few_of None = none_is_few
few_of (Some n) = one_is_few

-- A step tells one notice at most.
told_few : (r later : Rear) (got : List Entry) (told : List Notice) → BackSteps r later got told → length told ≤ 1
told_few r _ _ _ (takes_own e map stand is unended) = few_of _
told_few r _ _ _ (read_fails e a free counts_before counts_after map stand is unended asks) = none_is_few
told_few r _ _ _ (takes_down e c map stand is fits) = none_is_few
told_few r _ _ _ (takes_late e map is) = none_is_few
told_few r _ _ _ (flies count map) = none_is_few
told_few r _ _ _ (stops stop held map stand less flown by_append is_held) = none_is_few
told_few r _ _ _ (sends release map) = none_is_few
told_few r _ _ _ (syncs number needs rest map is_held) = one_is_few
told_few r _ _ _ (halts c needs rest stop end map is_held stand flown by_halt) = one_is_few
told_few r _ _ _ (begins c end before map stand) = one_is_few
told_few r _ _ _ (misses c counts_before counts_after map stand) = one_is_few

module _ {D : Type 0} (moment_of : D → ℕ) (left_since : D → ℕ → List ℕ → Type 0) (told : D → Option (List ℕ)) (image : D → List ℕ → Type 0) (faults_of : D → ℕ)
    (start : List (List Op)) (opening : ℕ) where
  abbrev Known : Back D → Type 0
  Known back = IsBack moment_of left_since told image faults_of start opening back

  -- a back has a disk
  pub disk_of : (sound : Bool) (back : Back D) → IsBackAs moment_of left_since told image faults_of start opening sound back → (disk : D) × IsDiskOf back.store disk
  disk_of sound back (inl m) = (disk_in m.journal, subst (λ (s : Store D). IsDiskOf s (disk_in m.journal)) (sym m.safe.store) refl)
  disk_of sound back (inr u) = (u.disk, u.safe.store)

  -- The disk told its content before a step behind which it does.
  pub earlier : (old new : Back D) → KeepsTelling told old.store new.store → Known old → TellsNow told new → TellsNow told old
  earlier old new keeps known tells =
      let at = disk_of _ old known in
      (at.0, at.1, told_before (told at.0) (told tells.0) (keeps at.0 tells.0 at.1 tells.1) tells.2)

  module _ (old new : Back D) (known : Known old) (now : Known new) (keeps : KeepsTelling told old.store new.store) (got : List Entry)
      (taken : new.log.taken.items ≡ old.log.taken.items ++ got) (sent later : List Notice) where
    abbrev opened : Contents
    opened = opened_map start

    -- the run with this step more
    run_more : (was : HasTold opened old sent) (more unheard : List Notice) → BackSteps (seen_of opened old) (seen_of opened new) got more
        → (sent ++ was.unheard) ++ more ≡ later ++ unheard → BackRuns opened (seen_of opened new) new.log.taken.items (later ++ unheard)
    run_more was more unheard steps is =
        subst (λ (x : List Entry × List Notice). BackRuns opened (seen_of opened new) x.0 x.1) (λ i. (sym taken i, is i))
        (goes_by (seen_of opened old) (seen_of opened new) old.log.taken.items got (sent ++ was.unheard) more was.runs
        (seen_is_rear moment_of left_since told image faults_of start opening new now) steps)

    drops_none : (was : HasTold opened old sent) → is_stopped old ≡ false → (more : List Notice) → (sent ++ was.unheard) ++ more ≡ sent ++ more
    drops_none was on more = ap (λ (l : List Notice). (sent ++ l) ++ more) (was.none_unheard on) ∙ ap (λ (l : List Notice). l ++ more) (append-nil sent)

    -- What the step tells was sent.
    pub heard : (more : List Notice) → is_stopped old ≡ false → (TellsNow told new → BackSteps (seen_of opened old) (seen_of opened new) got more)
        → (TellsNow told new → later ≡ sent ++ more) → Tells told start old sent → Tells told start new later
    heard more on steps said before tells =
        let was : HasTold opened old sent = before (earlier old new keeps known tells) in
        record {
          unheard = [];
          few = none_is_few;
          none_unheard = λ _. refl;
          runs = run_more was more [] (steps tells) (drops_none was on more ∙ sym (said tells) ∙ sym (append-nil later));
        }

    -- It is lost, and the back is stopped.
    pub unheard_by : (more : List Notice) → is_stopped old ≡ false → is_stopped new ≡ true → BackSteps (seen_of opened old) (seen_of opened new) got more
        → later ≡ sent → Tells told start old sent → Tells told start new later
    unheard_by more on off steps said before tells =
        let was : HasTold opened old sent = before (earlier old new keeps known tells) in
        record {
          unheard = more;
          few = told_few (seen_of opened old) (seen_of opened new) got more steps;
          none_unheard = λ goes. absurd (true≢false (sym off ∙ goes));
          runs = run_more was more more steps (drops_none was on more ∙ ap (λ (l : List Notice). l ++ more) (sym said));
        }

    -- It tells nothing, and the back goes on as it did.
    pub silent_by : (is_stopped new ≡ false → is_stopped old ≡ false) → BackSteps (seen_of opened old) (seen_of opened new) got [] → later ≡ sent
        → Tells told start old sent → Tells told start new later
    silent_by goes steps said before tells =
        let was : HasTold opened old sent = before (earlier old new keeps known tells) in
        record {
          unheard = was.unheard;
          few = was.few;
          none_unheard = λ on. was.none_unheard (goes on);
          runs = run_more was [] was.unheard steps (append-nil (sent ++ was.unheard) ∙ ap (λ (l : List Notice). l ++ was.unheard) (sym said));
        }

    -- Nothing is done of which the front is told.
    pub unseen_by : got ≡ [] → (is_stopped new ≡ false → is_stopped old ≡ false) → seen_of opened new ≡ seen_of opened old → later ≡ sent
        → Tells told start old sent → Tells told start new later
    unseen_by none goes same said before tells =
        let was : HasTold opened old sent = before (earlier old new keeps known tells) in
        let still : new.log.taken.items ≡ old.log.taken.items = taken ∙ ap (λ (l : List Entry). old.log.taken.items ++ l) none ∙ append-nil old.log.taken.items in
        record {
          unheard = was.unheard;
          few = was.few;
          none_unheard = λ on. was.none_unheard (goes on);
          runs = subst (λ (x : Rear × List Entry × List Notice). BackRuns opened x.0 x.1 (x.2 ++ was.unheard)) (λ i. (sym same i, sym still i, sym said i)) was.runs;
        }

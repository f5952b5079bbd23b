-- What an entry of the newest incarnation does to a back.
use Rattle.std.proofs.Common.{◌≡◌, ◌∙◌, ap, sym, refl, ℕ, ◌<◌, List, [], ◌∷◌, ◌++◌, Option, Some, None, inl, inr, append-nil, length, ◌-◌}
use Rattle.std.proofs.lemmas.Bool.{ltb-true}
use Rattle.std.specs.Prelude.{◌⊎◌, Bool, true, false, not, ◌&&◌, nat_lt, Result, Ok, Err, IfOk, OnErr, slice_get}
use Rattle.do_value.specs.declared.fault.NoMemory.{NoMemory}
use Rattle.storage_map.specs.Contents.{Contents}
use Rattle.storage_map.specs.declared.op.Op.{Op}
use Rattle.output_gate.specs.declared.back.Mode.{Mode}
use Rattle.output_gate.specs.declared.back.Mode.TheVariants.{Mounted, Wanted, Down}
use Rattle.timeline.specs.Logs.{Backed, backed}
use Rattle.timeline.specs.declared.back_log.BackLog.{BackLog}
use Rattle.timeline.specs.declared.entry.Entry.{Entry}
use Rattle.timeline.specs.declared.notice.Notice.{Notice}
use Rattle.output_gate.specs.Entering.{CanTake, TakesOwn, FailsOwn, CanTakeDown, TakesDown, TakesLate, TakesEntry, Enters, Failed, MayAsk, MayFail, LosesEntry, logged_as, is_unfit, held_as, held_with, notice_as, notice_with, own_answer, own_held, late_by, mode_after, before_after, needs_after, identity_after}
use Rattle.output_gate.specs.Fits.{comes_behind, last_of}
use Rattle.output_gate.specs.Held.{has_failed_read}
use Rattle.output_gate.specs.Serving.{IsMounted, IsUnmounted, IsBackAs, IsAsBefore}
use Rattle.output_gate.specs.Storing.{ReadsDisk}
use Rattle.output_gate.specs.Taking.{LogSame, LogRoom, may_take, is_mounted_mode, is_wanted, fit_of, most_unflushed}
use Rattle.output_gate.specs.declared.back.Back.{Back}
use Rattle.output_gate.specs.declared.fit.Fit.{Fit}
use Rattle.output_gate.specs.declared.fit.Fit.TheVariants as fit
use Rattle.output_gate.proofs.Afterwards.{back_late}
use Rattle.output_gate.proofs.Fitting.{and_both, own_of, mounted_of, down_of, down_mode, late_of, unmounted_of}
use Rattle.output_gate.proofs.Gone.{back_room}
use Rattle.output_gate.proofs.Helds.{true_false}

-- a fact that another one gives, where an error is
pub err_weaker : {X E : Type 0} (r : Result X E) (P Q : Type 0) → (P → Q) → OnErr r P → OnErr r Q
err_weaker (Ok x) P Q f p = tt
err_weaker (Err e) P Q f p = f p

not_true : (b : Bool) → not b ≡ true → b ≡ false
not_true true is = absurd (true_false (sym is))
not_true false is = refl

logged_or_not : (f : Fit) (old new : Backed) (e : Entry) → new ≡ logged_as f old e → (new ≡ old) ⊎ (new ≡ record old { taken = old.taken ++ e ∷ [] })
logged_or_not fit.Unfit old new e is = inl is
logged_or_not fit.Own old new e is = inr is
logged_or_not fit.Down old new e is = inr is
logged_or_not fit.Late old new e is = inr is

-- It is none that a front sends.
pub unfit_enters : {D : Type 0} (old : Back D) (e : Entry) → fit_of old e ≡ fit.Unfit → Enters None old (record old { stuck = true }) e
unfit_enters old e is = record {
  may = tt;
  log = ap (λ (x : Fit). logged_as x (backed old.log) e) (sym is);
  stuck = ap is_unfit (sym is);
  held = sym (append-nil old.held.items) ∙ ap (λ (x : Fit). old.held.items ++ held_as x old e) (sym is);
  mode = ap (λ (x : Fit). mode_after x old.mode e.body) (sym is);
  before = ap (λ (x : Fit). before_after x old.before e.body) (sym is);
  needs = ap (λ (x : Fit). needs_after x old.before old.needs e.body) (sym is);
  identity = ap (λ (x : Fit). identity_after x old.identity e.body) (sym is);
  durable = refl;
  limit = refl;
}

-- It is taken without a read, and told nothing of.
pub entered_unread : {D : Type 0} (told : D → Option (List ℕ)) (image : D → List ℕ → Type 0) (old new : Back D) (e : Entry) → Enters None old new e → ((m : Contents) → notice_as (fit_of old e) e m ≡ None)
    → TakesEntry told image old new e None
entered_unread told image old new e enters none = record {
  failed = None;
  enters = enters;
  answers = λ disk at tells m has. sym (none m);
  unfit = λ is. refl;
  rose = λ disk at tells. tt;
}

-- the log got room first
pub before_room : {D : Type 0} (old new : Back D) (log : BackLog) → LogSame old.log log → IsAsBefore (record old { log = log }) new → IsAsBefore old new
before_room old new log room h = record { log = h.log ∙ room.same; held = h.held; stuck = h.stuck; identity = h.identity; mode = h.mode; before = h.before; durable = h.durable; limit = h.limit }

pub room_only : {D : Type 0} (old : Back D) (log : BackLog) → LogSame old.log log → IsAsBefore old (record old { log = log })
room_only old log room = record { log = room.same; held = refl; stuck = refl; identity = refl; mode = refl; before = refl; durable = refl; limit = refl }

-- Nothing was done of it.
pub unentered : {D : Type 0} (old new : Back D) (e : Entry) (before after : List Entry) (sent_before sent : List Notice) → IsAsBefore old new → after ≡ before ++ e ∷ [] → sent ≡ sent_before
    → LosesEntry old new before after sent_before sent
unentered old new e before after sent_before sent h took same = record { entry = e; took = took; told = same; log = inl h.log; entered = inl h }

-- The notice of it is lost.
pub loses : {D : Type 0} (old new : Back D) (e : Entry) (before after : List Entry) (sent_before sent : List Notice) (failed : Failed) → Enters failed old new e → after ≡ before ++ e ∷ [] → sent ≡ sent_before
    → LosesEntry old new before after sent_before sent
loses old new e before after sent_before sent failed enters took same =
    record { entry = e; took = took; told = same; log = logged_or_not (fit_of old e) (backed old.log) (backed new.log) e enters.log; entered = inr (failed, enters) }

module _ {D : Type 0} (moment_of : D → ℕ) (left_since : D → ℕ → List ℕ → Type 0) (told : D → Option (List ℕ)) (image : D → List ℕ → Type 0) (faults_of : D → ℕ) where
  -- it isn't stuck, no mounting is wanted, no end by a read that failed is held, and little is unflushed
  abbrev Parts : Back D → Type 0
  Parts old = (old.stuck ≡ false) × (is_wanted old.mode ≡ false) × (has_failed_read old.held.items ≡ false) × (old.unflushed < most_unflushed)

  may_parts : (old : Back D) → may_take old ≡ true → Parts old
  may_parts old may =
      let stuck = not old.stuck in
      let wanted = not (is_wanted old.mode) in
      let failed = not (has_failed_read old.held.items) in
      let three = and_both (stuck && wanted && failed) (nat_lt old.unflushed most_unflushed) may in
      let two = and_both (stuck && wanted) failed three.0 in
      let one = and_both stuck wanted two.0 in
      (not_true old.stuck one.0, not_true (is_wanted old.mode) one.1, not_true (has_failed_read old.held.items) two.1, ltb-true old.unflushed most_unflushed three.1)

  pub few_of : (old : Back D) → may_take old ≡ true → old.unflushed < most_unflushed
  few_of old may = (may_parts old may).3

  pub free_of : (old : Back D) → may_take old ≡ true → old.stuck ≡ false
  free_of old may = (may_parts old may).0

  pub own_mounted : (start : List (List Op)) (opening : ℕ) (old : Back D) (log : BackLog) (e : Entry) → LogSame old.log log → fit_of old e ≡ fit.Own
      → IsBackAs moment_of left_since told image faults_of start opening true old → IsMounted moment_of left_since told image faults_of start opening true (record old { log = log })
  own_mounted start opening old log e same is b =
      mounted_of moment_of left_since told image faults_of start opening true (record old { log = log }) (back_room moment_of left_since told image faults_of start opening old log same b) (own_of old e is).mounted

  pub own_can : (start : List (List Op)) (opening : ℕ) (old : Back D) (log : BackLog) (e : Entry) → LogSame old.log log → LogRoom log → may_take old ≡ true → fit_of old e ≡ fit.Own
      → IsBackAs moment_of left_since told image faults_of start opening true old → CanTake moment_of left_since told image faults_of (record old { log = log }) e.number e.body
  own_can start opening old log e same room may is b =
      let f = own_of old e is in
      record {
        start = start;
        opening = opening;
        back = own_mounted start opening old log e same is b;
        room = room;
        comes = ap (λ (x : Backed). comes_behind (last_of x.taken) (record { incarnation = old.number; number = e.number; body = e.body })) same.same
            ∙ ap (λ (n : ℕ). comes_behind (last_of old.log.taken.items) (record { incarnation = n; number = e.number; body = e.body })) (sym f.own) ∙ f.comes;
        goes_on = (may_parts old may).2;
        fits = f.fits;
        few = few_of old may;
      }

  -- what is held and told of it, as of an entry of the newest incarnation
  held_so : (failed : Failed) (old : Back D) (e : Entry) → fit_of old e ≡ fit.Own → own_held failed old.before old.needs old.number e.number e.body ≡ held_with failed (fit_of old e) old e
  held_so None old e is = ap (λ (x : Fit). held_as x old e) (sym is)
  held_so (Some counts) old e is = refl

  told_so : (failed : Failed) (old : Back D) (e : Entry) (m : Contents) → fit_of old e ≡ fit.Own → own_answer failed e.number m e.body ≡ notice_with failed (fit_of old e) e m
  told_so None old e m is = ap (λ (x : Fit). notice_as x e m) (sym is)
  told_so (Some counts) old e m is = refl

  may_so : (failed : Failed) (old : Back D) (e : Entry) → fit_of old e ≡ fit.Own → MayAsk failed e.body → MayFail failed old e
  may_so None old e is may = tt
  may_so (Some counts) old e is may = (is, may)

  mounted_so : (mode : Mode) → is_mounted_mode mode ≡ true → mode ≡ Mounted
  mounted_so Mounted is = refl
  mounted_so (Wanted ending) is = absurd (true_false (sym is))
  mounted_so (Down ending) is = absurd (true_false (sym is))

  own_unfit : (old : Back D) (e : Entry) → fit_of old e ≡ fit.Own → is_unfit (fit_of old e) ≡ true → ⊥
  own_unfit old e is unfit = true_false (sym unfit ∙ ap is_unfit is)

  pub own_enters : (old new : Back D) (log : BackLog) (e : Entry) (answer : Option Notice) → LogSame old.log log → may_take old ≡ true → fit_of old e ≡ fit.Own
      → TakesOwn moment_of left_since told image faults_of (record old { log = log }) new e.number e.body answer → TakesEntry told image old new e answer
  own_enters old new log e answer same may is t =
      let f = own_of old e is in
      record {
        failed = t.failed;
        enters = record {
          may = may_so t.failed old e is t.may;
          log = t.log ∙ ap (λ (x : Backed). record x { taken = x.taken ++ record { incarnation = old.number; number = e.number; body = e.body } ∷ [] }) same.same
              ∙ ap (λ (n : ℕ). record (backed old.log) { taken = old.log.taken.items ++ record { incarnation = n; number = e.number; body = e.body } ∷ [] }) (sym f.own)
              ∙ ap (λ (x : Fit). logged_as x (backed old.log) e) (sym is);
          stuck = t.stuck ∙ free_of old may ∙ ap is_unfit (sym is);
          held = t.holds ∙ ap (λ hs. old.held.items ++ hs) (held_so t.failed old e is);
          mode = t.mode ∙ ap (λ (x : Fit). mode_after x old.mode e.body) (sym is);
          before = t.before ∙ ap (λ (x : Fit). before_after x old.before e.body) (sym is);
          needs = t.needs ∙ ap (λ (x : Fit). needs_after x old.before old.needs e.body) (sym is);
          identity = t.identity ∙ ap (λ (x : Fit). identity_after x old.identity e.body) (sym is);
          durable = t.durable;
          limit = t.limit;
        };
        answers = λ disk at tells m has.
            let h = has (mounted_so old.mode f.mounted) in
            t.answers disk at tells m (record { journal = h.journal; frames = h.frames; staged = h.staged; at = h.at; at_rest = h.at_rest; stored = h.stored; kept = h.kept }) ∙ told_so t.failed old e m is;
        unfit = λ unfit. absurd (own_unfit old e is unfit);
        rose = t.rose;
      }

  -- The same disk is in the store, whatever memory sufficed for.
  pub own_disk : (r : Result (Option Notice) NoMemory) (old new : Back D) (e : Entry) → IfOk r (λ notice. TakesOwn moment_of left_since told image faults_of old new e.number e.body notice)
      → OnErr r (FailsOwn moment_of left_since told image faults_of old new) → ReadsDisk told old.store new.store
  own_disk (Ok x) old new e took failed = took.disk
  own_disk (Err fault) old new e took failed = failed.disk

  pub down_unmounted : (start : List (List Op)) (opening : ℕ) (old : Back D) (log : BackLog) (e : Entry) → LogSame old.log log → fit_of old e ≡ fit.Down
      → IsBackAs moment_of left_since told image faults_of start opening true old → IsUnmounted moment_of left_since told image faults_of start opening (record old { log = log })
  down_unmounted start opening old log e same is b =
      unmounted_of moment_of left_since told image faults_of start opening true (record old { log = log }) (back_room moment_of left_since told image faults_of start opening old log same b) (down_of old e is).unmounted

  pub down_can : (start : List (List Op)) (opening : ℕ) (old : Back D) (log : BackLog) (e : Entry) → LogSame old.log log → LogRoom log → may_take old ≡ true → fit_of old e ≡ fit.Down
      → IsBackAs moment_of left_since told image faults_of start opening true old → CanTakeDown moment_of left_since told image faults_of (record old { log = log }) e.number e.body
  down_can start opening old log e same room may is b =
      let f = down_of old e is in
      let mode = down_mode old.mode f.unmounted (may_parts old may).1 in
      record { start = start; opening = opening; back = down_unmounted start opening old log e same is b; room = room; fits = f.fits; ending = mode.0; down = mode.1 }

  pub down_enters : (old new : Back D) (log : BackLog) (e : Entry) → LogSame old.log log → may_take old ≡ true → fit_of old e ≡ fit.Down
      → TakesDown moment_of left_since told image faults_of (record old { log = log }) new e.number e.body → Enters None old new e
  down_enters old new log e same may is t =
      let f = down_of old e is in
      record {
        may = tt;
        log = t.log ∙ ap (λ (x : Backed). record x { taken = x.taken ++ record { incarnation = old.number; number = e.number; body = e.body } ∷ [] }) same.same
            ∙ ap (λ (n : ℕ). record (backed old.log) { taken = old.log.taken.items ++ record { incarnation = n; number = e.number; body = e.body } ∷ [] }) (sym f.own)
            ∙ ap (λ (x : Fit). logged_as x (backed old.log) e) (sym is);
        stuck = t.stuck ∙ free_of old may ∙ ap is_unfit (sym is);
        held = t.holds ∙ ap (λ (x : Fit). old.held.items ++ held_as x old e) (sym is);
        mode = t.mode ∙ ap (λ (x : Fit). mode_after x old.mode e.body) (sym is);
        before = t.before ∙ ap (λ (x : Fit). before_after x old.before e.body) (sym is);
        needs = t.needs ∙ ap (λ (x : Fit). needs_after x old.before old.needs e.body) (sym is);
        identity = t.identity ∙ ap (λ (x : Fit). identity_after x old.identity e.body) (sym is);
        durable = t.durable;
        limit = t.limit;
      }

  pub late_enters : (old new : Back D) (log : BackLog) (e : Entry) → LogSame old.log log → may_take old ≡ true → fit_of old e ≡ fit.Late
      → TakesLate (record old { log = log }) new e → Enters None old new e
  late_enters old new log e same may is t = record {
    may = tt;
    log = t.log ∙ ap (λ (x : Backed). record x { taken = x.taken ++ e ∷ [] }) same.same ∙ ap (λ (x : Fit). logged_as x (backed old.log) e) (sym is);
    stuck = ap (λ (b : Back D). b.stuck) t.same ∙ free_of old may ∙ ap is_unfit (sym is);
    held = t.holds
        ∙ ap (λ (x : Backed). old.held.items ++ late_by (slice_get x.stops (length x.stops - 1)) old.late old.settled e.incarnation e.body) same.same
        ∙ ap (λ (x : Fit). old.held.items ++ held_as x old e) (sym is);
    mode = ap (λ (b : Back D). b.mode) t.same ∙ ap (λ (x : Fit). mode_after x old.mode e.body) (sym is);
    before = ap (λ (b : Back D). b.before) t.same ∙ ap (λ (x : Fit). before_after x old.before e.body) (sym is);
    needs = ap (λ (b : Back D). b.needs) t.same ∙ ap (λ (x : Fit). needs_after x old.before old.needs e.body) (sym is);
    identity = ap (λ (b : Back D). b.identity) t.same ∙ ap (λ (x : Fit). identity_after x old.identity e.body) (sym is);
    durable = ap (λ (b : Back D). b.durable) t.same;
    limit = ap (λ (b : Back D). b.limit) t.same;
  }

  pub late_back : (start : List (List Op)) (opening : ℕ) (old new : Back D) (log : BackLog) (e : Entry) → LogSame old.log log → fit_of old e ≡ fit.Late → TakesLate (record old { log = log }) new e
      → IsBackAs moment_of left_since told image faults_of start opening true old → IsBackAs moment_of left_since told image faults_of start opening true new
  late_back start opening old new log e same is t b =
      let f = late_of old e is in
      back_late moment_of left_since told image faults_of start opening true (record old { log = log }) new e
      (record { comes = ap (λ (x : Backed). comes_behind (last_of x.taken) e) same.same ∙ f.comes; before = f.before; fits = f.fits })
      t (back_room moment_of left_since told image faults_of start opening old log same b)

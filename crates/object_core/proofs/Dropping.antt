-- A turn keeps what may stand among the events that a front dropped.
use Rattle.std.proofs.Common.{◌≡◌, ◌≢◌, ◌≤◌, ◌∙◌, ap, sym, refl, subst, inl, inr, ⊎_elim, true≢false, ℕ, ℤ, suc, List, [], ◌∷◌, ◌++◌, map, length, append-nil, arith, Option, Some, None}
use Rattle.std.proofs.lemmas.List.Elements.{All-nil, All-append, All-weaker}
use Rattle.std.specs.Prelude.{Bool, true, false, is_some, unwrap_or}
use Rattle.std.specs.List.{All}
use Rattle.do_tree.specs.Tree.{Script}
use Rattle.storage_map.specs.Contents.{Contents}
use Rattle.storage_map.specs.declared.op.Op.{Op}
use Rattle.timeline.specs.Eligible.{is_fit}
use Rattle.timeline.specs.Intake as intake
use Rattle.timeline.specs.Intake.{Kind, Taken, delivered_by, ends_in, opened}
use Rattle.timeline.specs.Logs.{Fronted, fronted}
use Rattle.timeline.specs.Object.{begun, idle}
use Rattle.timeline.specs.declared.back_log.Missed.{Missed}
use Rattle.timeline.specs.declared.back_log.Stop.{Stop}
use Rattle.timeline.specs.declared.caller.Cause.{Cause}
use Rattle.timeline.specs.declared.entry.Entry.{Entry}
use Rattle.timeline.specs.declared.event.Event.{Event}
use Rattle.timeline.specs.declared.notice.Notice.{Notice}
use Rattle.object_front.proofs.Classes.{grown_class}
use Rattle.object_front.proofs.Coming.{grown_by}
use Rattle.object_front.specs.Came.{events, kept}
use Rattle.object_front.specs.Classed.{IsClassed, class_behind, class_by}
use Rattle.object_front.specs.Evaluated.{seen}
use Rattle.front_half.specs.Standing.{Stood, IsClass, IsCutShort, IsHalf, IsTakenBy, fresh, is_stopped, kind_in, nothing_logged}
use Rattle.front_half.specs.Taking.{Led, class_after}
use Rattle.front_half.specs.Turning.{Halts, IsTaken, TakesDeferred, TakesEvent, Turns}
use Rattle.object_front.specs.declared.evaluated.Evaluated.{Evaluated}
use Rattle.front_half.specs.declared.half.Half.{Half}
use Rattle.output_gate.specs.Ended.{AreInOrder, newest_of}
use Rattle.output_gate.specs.Serving.{IsBackAs}
use Rattle.output_gate.specs.declared.back.Back.{Back}
use Rattle.object_history.specs.Pair.{IsPair, Rear}
use Rattle.object_history.specs.Stepping as back
use Rattle.object_history.specs.Stepping.{BackSteps}
use Rattle.object_messages.specs.Dropped.{DropsAreAnswered}
use Rattle.object_core.proofs.Becoming.{StartsBy, behind_last, class_stays, ends_more, fitting_first, fitting_last, may_downs, may_more, pair_silent, taken_class, taken_keeps, taken_may, taken_starts}
use Rattle.object_core.specs.Dropping.{AreFitting, HasSaidNothing, IsDropping, IsFitFor, MayDrop}

-- A class that some front has isn't another, nor none.
some_not : {A : Type 0} (class : Option ℕ) (c : ℕ) → class ≡ Some c → class ≡ None → A
some_not class c is none = absurd (true≢false (sym (ap is_some is) ∙ ap is_some none))

same_some : (class : Option ℕ) (c other : ℕ) → class ≡ Some c → class ≡ Some other → c ≡ other
same_some class c other is so = ap (λ (x : Option ℕ). unwrap_or x 0) (sym is ∙ so)

-- Nothing is logged of a front that was just made.
pub none_said : (log : Fronted) → log ≡ nothing_logged → HasSaidNothing log
none_said log is = subst HasSaidNothing (sym is) record { delivered = refl; downed = refl; sent = refl; ends = refl }

-- What was logged of all that was taken is so where memory was wanting for none of it.
all_sent : (k : Kind) (from : intake.Front) (taken : List Taken) (front : intake.Front) (log : Fronted) → IsTakenBy k from taken front log → IsCutShort k from taken log
all_sent k from taken front log by =
    record { gate = by.gate; sent = ([], append-nil log.sent ∙ by.sent); delivered = by.delivered; downed = by.downed; ends = by.ends }

-- No more of nothing.
pub first_none : {X : Type 0} (first rest : List X) → [] ≡ first ++ rest → first ≡ []
first_none [] rest is = refl
first_none (x ∷ first) rest is = absurd cc

-- A front that turns: it goes on, or is stopped.
module _ (laws : DropsAreAnswered) (script : Script) (first : Option ℕ) (class : ℕ) (opened_map : Contents) (alarm : Option (ℤ × ℕ)) (old : Half Evaluated) (st : Stood)
    (rear : Rear) (line : List Entry) (notices : List Notice) (taken : List Taken) (half : IsHalf seen script old st)
    (pair : IsPair (kind_in script class) opened_map st.front (fronted old.log) rear line notices)
    (by : IsTakenBy (kind_in script class) (opened alarm) taken st.front (fronted old.log)) (on : is_stopped old ≡ false)
    (before got : List Event) (got_before got_now told later : List Notice) (way : got_before ++ notices ≡ got_now ++ later)
    (drops : IsDropping script first alarm old st rear.log.downs before) (none_ended : old.log.sent.items ≡ [] → rear.log.stops ≡ [])
    (classed : IsClassed script first old st) where
  abbrev k : Kind
  k = kind_in script class

  -- It got what it got before, or one event more, which fits where all do.
  fitting_before : (led : Led) → IsTaken script st before got got_before got_now told led → AreFitting script first got → AreFitting script first before
  fitting_before led (inl t) fit = subst (AreFitting script first) t.no_event fit
  fitting_before led (inr t) fit =
      ⊎_elim (λ (d : TakesDeferred script st before got led). subst (AreFitting script first) d.no_event fit)
      (λ (n : TakesEvent script st before got led). fitting_first script first before (n.event ∷ []) (subst (AreFitting script first) n.took fit)) t.entered

  last_fits : (e : Event) → got ≡ before ++ e ∷ [] → AreFitting script first got → is_fit script st.class e ≡ true
  last_fits e took fit =
      let all : AreFitting script first (before ++ e ∷ []) = subst (AreFitting script first) took fit in
      subst (λ (x : Option ℕ). is_fit script x e ≡ true) (sym (drops.class on (fitting_first script first before (e ∷ []) all))) (fitting_last script first before e all)

  -- The event that a front without a class takes.
  starts : (led : Led) → IsTaken script st before got got_before got_now told led → st.class ≡ None → (e : Event) × (got ≡ before ++ e ∷ []) × StartsBy script alarm e led
  starts led t none =
      let u = drops.unbound on none in
      taken_starts script alarm st u.0 before got led got_before got_now told notices later
      (pair_silent k opened_map st.front (fronted old.log) rear line notices pair (idle (begun alarm)) (ap (λ (s : Stood). s.front.mode) u.0)
      (ap (λ (s : Stood). s.front.said) u.0) (none_ended u.1)) way t

  -- What is dropped at it may be.
  led_may : (led : Led) → IsTaken script st before got got_before got_now told led → AreFitting script first got → All (MayDrop (fronted old.log) rear.log.downs) led.dropped
  led_may led t fit = by_class st.class refl
    where
      by_class : (x : Option ℕ) → st.class ≡ x → All (MayDrop (fronted old.log) rear.log.downs) led.dropped
      by_class None is =
          let s = starts led t is in
          subst (All (MayDrop (fronted old.log) rear.log.downs))
          (sym (s.2.dropped (subst (λ (x : Option ℕ). is_fit script x s.0 ≡ true) is (last_fits s.0 s.1 fit)))) (All-nil (MayDrop (fronted old.log) rear.log.downs))
      by_class (Some c) is =
          taken_may laws script class opened_map alarm old st rear line notices taken half pair by c is (drops.keeps on c is) before got led got_before got_now told t
          (λ e took. subst (λ (x : Option ℕ). is_fit script x e ≡ true) is (last_fits e took fit))

  -- In a longer log, with what was before.
  all_may : (new : Fronted) (led : Led) → IsTaken script st before got got_before got_now told led → new.delivered ≡ intake.delivered_in k (opened alarm) (taken ++ led.item)
      → new.ends ≡ ends_in k (opened alarm) (taken ++ led.item) → new.dropped ≡ (fronted old.log).dropped ++ led.dropped → AreFitting script first got
      → All (MayDrop new rear.log.downs) new.dropped
  all_may new led t is_delivered is_ended is_dropped fit =
      let was : Fronted = fronted old.log in
      let more : events new.delivered ≡ events was.delivered ++ events (intake.delivered_in k st.front led.item) =
      grown_by (λ f u. delivered_by f.incarnation u) k (opened alarm) st.front taken led.item was.delivered new.delivered by.at by.delivered is_delivered in
      let longer : length was.ends ≤ length new.ends =
      subst (λ (n : List Cause). length n ≤ length new.ends) (sym by.ends)
      (subst (λ (n : List Cause). length (ends_in k (opened alarm) taken) ≤ length n) (sym is_ended) (ends_more k (opened alarm) taken led.item)) in
      let goes : (e : Event) → MayDrop was rear.log.downs e → MayDrop new rear.log.downs e =
      may_more was new rear.log.downs (events (intake.delivered_in k st.front led.item)) more longer in
      subst (All (MayDrop new rear.log.downs)) (sym is_dropped)
      (All-append (MayDrop new rear.log.downs) was.dropped led.dropped
      (All-weaker (MayDrop was rear.log.downs) (MayDrop new rear.log.downs) goes was.dropped (drops.dropped (fitting_before led t fit)))
      (All-weaker (MayDrop was rear.log.downs) (MayDrop new rear.log.downs) goes led.dropped (led_may led t fit)))

  -- A log that has no class behind this: nothing was taken, and nothing was said before.
  logs_unsaid : (new : Fronted) (led : Led) → IsTaken script st before got got_before got_now told led → IsCutShort k (opened alarm) (taken ++ led.item) new
      → class_by script first new ≡ None → HasSaidNothing new
  logs_unsaid new led t cut none = by_class st.class refl
    where
      class_then : led.stood.class ≡ None
      class_then =
          grown_class script k first (opened alarm) taken st before got got_before got_now told led (fronted old.log) new t by cut.delivered (classed.now on) ∙ none

      by_class : (x : Option ℕ) → st.class ≡ x → HasSaidNothing new
      by_class (Some c) so = some_not led.stood.class c (taken_class script c st before got got_before got_now told led t so) class_then
      by_class None so =
          let was : HasSaidNothing (fronted old.log) = drops.unsaid (sym (classed.now on) ∙ so) in
          let s = starts led t so in
          let r = s.2.rests class_then in
          let same : taken ++ led.item ≡ taken = ap (λ (item : List Taken). taken ++ item) r.1 ∙ append-nil taken in
          let none_sent : intake.sent_by k (opened alarm) (taken ++ led.item) ≡ [] = ap (intake.sent_by k (opened alarm)) same ∙ sym by.sent ∙ was.sent in
          record {
            delivered = cut.delivered ∙ ap (intake.delivered_in k (opened alarm)) same ∙ sym by.delivered ∙ was.delivered;
            downed = cut.downed ∙ ap (intake.downed_in k (opened alarm)) same ∙ sym by.downed ∙ was.downed;
            sent = first_none new.sent cut.sent.0 (sym (cut.sent.1 ∙ none_sent));
            ends = cut.ends ∙ ap (ends_in k (opened alarm)) same ∙ sym by.ends ∙ was.ends;
          }

  pub turn_drops : (new : Half Evaluated) (turns : Turns seen script old new st before got got_before got_now told) → IsClass turns.led.stood.class class
      → IsDropping script first alarm new turns.led.stood rear.log.downs got
  turn_drops new turns is =
      let led : Led = turns.led in
      let now = turns.moves.taken class (opened alarm) taken is by in
      record {
        unbound = λ on_then none. unbound_as none now.sent st.class refl;
        unsaid = λ none. logs_unsaid (fronted new.log) led turns.taken (all_sent k (opened alarm) (taken ++ led.item) led.stood.front (fronted new.log) now) none;
        keeps = λ on_then c so. keeps_as c so st.class refl;
        class = λ on_then fit. class_as fit st.class refl;
        dropped = λ fit. all_may (fronted new.log) led turns.taken now.delivered now.ends turns.moves.dropped fit;
      }
    where
      unbound_as : turns.led.stood.class ≡ None → (fronted new.log).sent ≡ intake.sent_by (kind_in script class) (opened alarm) (taken ++ turns.led.item) → (x : Option ℕ) → st.class ≡ x
          → (turns.led.stood ≡ fresh None alarm) × (new.log.sent.items ≡ [])
      unbound_as none sent (Some c) so = some_not turns.led.stood.class c (taken_class script c st before got got_before got_now told turns.led turns.taken so) none
      unbound_as none sent None so =
          let s = starts turns.led turns.taken so in
          let r = s.2.rests none in (
            r.0,
            sent ∙ ap (λ (item : List Taken). intake.sent_by (kind_in script class) (opened alarm) (taken ++ item)) r.1
                ∙ ap (λ (ts : List Taken). intake.sent_by (kind_in script class) (opened alarm) ts) (append-nil taken) ∙ sym by.sent ∙ (drops.unbound on so).1,
          )

      keeps_as : (c : ℕ) → turns.led.stood.class ≡ Some c → (x : Option ℕ) → st.class ≡ x → All (IsFitFor script c) (kept turns.led.stood)
      keeps_as c so (Some was) is_was =
          let now = taken_class script was st before got got_before got_now told turns.led turns.taken is_was in
          subst (λ (n : ℕ). All (IsFitFor script n) (kept turns.led.stood)) (same_some turns.led.stood.class was c now so)
          (taken_keeps script was st before got got_before got_now told turns.led turns.taken is_was (drops.keeps on was is_was))
      keeps_as c so None is_was =
          subst (All (IsFitFor script c)) (sym (starts turns.led turns.taken is_was).2.keeps) (All-nil (IsFitFor script c))

      behind_as : (c : ℕ) → st.class ≡ Some c → AreFitting script first got → IsTaken script st before got got_before got_now told turns.led
          → Some c ≡ class_behind script first got
      behind_as c so fit (inl t) = sym so ∙ drops.class on (subst (AreFitting script first) t.no_event fit) ∙ ap (class_behind script first) (sym t.no_event)
      behind_as c so fit (inr t) =
          ⊎_elim
          (λ (d : TakesDeferred script st before got turns.led). sym so ∙ drops.class on (subst (AreFitting script first) d.no_event fit) ∙ ap (class_behind script first) (sym d.no_event))
          (λ (n : TakesEvent script st before got turns.led).
          sym (class_stays script c n.event (subst (λ (x : Option ℕ). is_fit script x n.event ≡ true) so (last_fits n.event n.took fit)))
          ∙ ap (λ (x : Option ℕ). class_after script x n.event)
          (sym so ∙ drops.class on (fitting_first script first before (n.event ∷ []) (subst (AreFitting script first) n.took fit)))
          ∙ sym (behind_last script first before n.event) ∙ ap (class_behind script first) (sym n.took)) t.entered

      class_as : AreFitting script first got → (x : Option ℕ) → st.class ≡ x → turns.led.stood.class ≡ class_behind script first got
      class_as fit (Some c) so = taken_class script c st before got got_before got_now told turns.led turns.taken so ∙ behind_as c so fit turns.taken
      class_as fit None so =
          let s = starts turns.led turns.taken so in
          s.2.class (subst (λ (x : Option ℕ). is_fit script x s.0 ≡ true) so (last_fits s.0 s.1 fit))
          ∙ ap (λ (x : Option ℕ). class_after script x s.0)
          (sym so ∙ drops.class on (fitting_first script first before (s.0 ∷ []) (subst (AreFitting script first) s.1 fit)))
          ∙ sym (behind_last script first before s.0) ∙ ap (class_behind script first) (sym s.1)

  -- Where memory was wanting.
  pub halt_drops : (new : Half Evaluated) (stops : Halts script old new st before got got_before got_now told) → IsClass stops.led.stood.class class
      → IsDropping script first alarm new stops.led.stood rear.log.downs got
  halt_drops new stops is = record {
    unbound = λ on_then none. absurd (true≢false (sym stops.stops.stopped ∙ on_then));
    unsaid = λ none. ⊎_elim
        (λ (same : fronted new.log ≡ fronted old.log). subst HasSaidNothing (sym same) (drops.unsaid (ap (class_by script first) (sym same) ∙ none)))
        (λ cut. logs_unsaid (fronted new.log) stops.led stops.taken (cut.1 class (opened alarm) taken is by) none)
        stops.stops.cut;
    keeps = λ on_then c so. absurd (true≢false (sym stops.stops.stopped ∙ on_then));
    class = λ on_then fit. absurd (true≢false (sym stops.stops.stopped ∙ on_then));
    dropped = λ fit. ⊎_elim
        (λ (same : fronted new.log ≡ fronted old.log). subst (λ (log : Fronted). All (MayDrop log rear.log.downs) log.dropped) (sym same)
        (drops.dropped (fitting_before stops.led stops.taken fit)))
        (λ cut. let now = cut.1 class (opened alarm) taken is by in all_may (fronted new.log) stops.led stops.taken now.delivered now.ends cut.0 fit)
        stops.stops.cut;
  }

-- A front that does nothing.
pub still_drops : (script : Script) (first : Option ℕ) (alarm : Option (ℤ × ℕ)) (old new : Half Evaluated) (st : Stood) (downs : List Missed) (before got : List Event)
    → new ≡ old → got ≡ before → IsDropping script first alarm old st downs before → IsDropping script first alarm new st downs got
still_drops script first alarm old new st downs before got same none drops =
    subst (λ (h : Half Evaluated). IsDropping script first alarm h st downs got) (sym same)
    (subst (λ (es : List Event). IsDropping script first alarm old st downs es) (sym none) drops)

-- A back of which more mountings have failed.
pub downs_drops : (script : Script) (first : Option ℕ) (alarm : Option (ℤ × ℕ)) (half : Half Evaluated) (st : Stood) (old new : List Missed) (got : List Event)
    → (old ≢ [] → new ≢ []) → IsDropping script first alarm half st old got → IsDropping script first alarm half st new got
downs_drops script first alarm half st old new got more drops = record {
  unbound = drops.unbound;
  unsaid = drops.unsaid;
  keeps = drops.keeps;
  class = drops.class;
  dropped = λ fit. All-weaker (MayDrop (fronted half.log) old) (MayDrop (fronted half.log) new) (may_downs (fronted half.log) old new more) half.log.dropped.items
      (drops.dropped fit);
}

-- A step of a back leaves those that failed.
abbrev pub KeepsDowns : (old new : List Missed) → Type 0
KeepsDowns old new = old ≢ [] → new ≢ []

pushed_not : {X A : Type 0} (xs : List X) (x : X) → xs ++ x ∷ [] ≡ [] → A
pushed_not [] x is = absurd cc
pushed_not (y ∷ xs) x is = absurd cc

pub steps_downs : (r later : Rear) (entries : List Entry) (tell : List Notice) → BackSteps r later entries tell → KeepsDowns r.log.downs later.log.downs
steps_downs r _ _ _ (back.takes_own e map mounted own unended) some = some
steps_downs r _ _ _ (back.read_fails e a free counts_before counts_after map mounted own unended asks) some = some
steps_downs r _ _ _ (back.takes_down e c map stand own fits_it) some = some
steps_downs r _ _ _ (back.takes_late e map late) some = some
steps_downs r _ _ _ (back.flies count map) some = some
steps_downs r _ _ _ (back.stops stop held map stand less flights by_append is) some = some
steps_downs r _ _ _ (back.sends release map) some = some
steps_downs r _ _ _ (back.syncs number needs rest map is) some = some
steps_downs r _ _ _ (back.halts c needs rest stop end map held stand flights is) some = some
steps_downs r _ _ _ (back.begins c end before map stand) some = some
steps_downs r _ _ _ (back.misses c counts_before counts_after map stand) some = λ none. pushed_not r.log.downs _ none

-- No incarnation has ended of which nothing was taken.
none_ends : (taken : List Entry) (stops : List Stop) → AreInOrder taken stops → taken ≡ [] → stops ≡ []
none_ends taken [] ordered none = refl
none_ends taken (stop ∷ stops) ordered none =
    let few : suc (length stops) ≤ 0 = subst (λ (entries : List Entry). suc (length stops) ≤ newest_of entries) none ordered.newest in
    absurd (omega (arith, few))

pub none_stopped : {D : Type 0} (moment_of : D → ℕ) (left_since : D → ℕ → List ℕ → Type 0) (told : D → Option (List ℕ)) (image : D → List ℕ → Type 0) (faults_of : D → ℕ)
    (start : List (List Op)) (opening : ℕ) (sound : Bool) (back : Back D) → IsBackAs moment_of left_since told image faults_of start opening sound back
    → back.log.taken.items ≡ [] → back.log.stops.items ≡ []
none_stopped moment_of left_since told image faults_of start opening sound back (inl m) none = none_ends back.log.taken.items back.log.stops.items m.logged.ordered none
none_stopped moment_of left_since told image faults_of start opening sound back (inr u) none = none_ends back.log.taken.items back.log.stops.items u.logged.ordered none

-- What a turn of an object's front answers, and what giving it an event does.
use Rattle.std.proofs.Common.{◌≡◌, ◌∙◌, ap, sym, refl, inl, inr, true≢false, ℕ, zero, suc, List, [], ◌∷◌, ◌++◌, append-nil, append_assoc, Option, Some, None}
use Rattle.std.specs.Prelude.{Bool, true, false, ◌||◌, ◌⊎◌, Result, Ok, Err, OnOk, OnErr, slice_get}
use Rattle.std.specs.List.{list_any}
use Rattle.do_tree.specs.Tree.{Script}
use Rattle.do_value.specs.declared.fault.NoMemory.{NoMemory}
use Rattle.lane.specs.Lanes.{Both, sent_on}
use Rattle.timeline.specs.declared.entry.Entry.{Entry}
use Rattle.timeline.specs.declared.event.Event.{Event}
use Rattle.timeline.specs.declared.notice.Notice.{Notice}
use Rattle.object_front.specs.Evaluated.{seen}
use Rattle.front_half.specs.Standing.{Stood, IsHalf, is_stopped}
use Rattle.front_half.specs.Taking.{Led, may_enter, waits}
use Rattle.front_half.specs.Turning.{IsStill, IsQuiet, IsEntered, IsTaken}
use Rattle.object_front.specs.declared.evaluated.Evaluated.{Evaluated}
use Rattle.front_half.specs.declared.half.Half.{Half}
use Rattle.object_front.specs.declared.front.Front.{Front}
use Rattle.front_half.specs.declared.turning.Turned.{Turned}
use Rattle.front_half.specs.declared.turning.Turned.TheVariants.{Ran, Idle}
use Rattle.object_core.proofs.Choosing.{none_waits, sent_none, true_not, false_not, fault_not, no_first}
use Rattle.object_core.proofs.Lanes.{took_first, took_none}
use Rattle.object_core.proofs.Rebuilding.{same_queue}
use Rattle.object_core.proofs.Turning.{TurnsBy}
use Rattle.object_core.specs.Stepping.{Steps, HasNothing, IsIdleAt, given_of, turn_of}
use Rattle.object_core.specs.declared.choice.Choice.TheVariants.{Give, Turn}
use Rattle.object_core.specs.declared.object.Core.{Core}

abbrev or_this : {X : Type 0} → X → Option X → X
or_this x None = x
or_this x (Some y) = y

or_right : (a b : Bool) → (a || b) ≡ false → b ≡ false
or_right true b is = absurd cc
or_right false b is = is

-- none of these may enter, so that the one at a place may not
may_not : {X : Type 0} (may : X → Bool) (xs : List X) (place : ℕ) (x : X) → slice_get xs place ≡ Some x → may x ≡ true → list_any may xs ≡ false → ⊥
may_not may [] place x there may_it none = absurd cc
may_not may (y ∷ ys) zero x there may_it none =
    let same : y ≡ x = ap (or_this y) there in
    true≢false (sym (ap (λ (b : Bool). b || list_any may ys) (ap may same ∙ may_it)) ∙ none)
may_not may (y ∷ ys) (suc place) x there may_it none = may_not may ys place x there may_it (or_right (may y) (list_any may ys) none)

-- An event is given, or memory was wanting.
module _ {D : Type 0} (moment_of : D → ℕ) (told : D → Option (List ℕ)) (image : D → List ℕ → Type 0) (faults_of : D → ℕ) (script : Script) (old : Core D) (inbox : Both Event) (event : Event) where
  pub give_steps : inbox.got ≡ old.inbox.got → inbox.waiting ≡ old.inbox.waiting ++ event ∷ []
      → Steps moment_of told image faults_of script old (record old { inbox = inbox }) (Give event) (Ok true)
  give_steps got waiting = record {
    touches = refl;
    passes = record {
      given = ap (λ (es : List Event). es ++ inbox.waiting) got ∙ ap (λ (es : List Event). old.inbox.got ++ es) waiting
          ∙ sym (append_assoc old.inbox.got old.inbox.waiting (event ∷ []));
      collected = refl;
      left = sent_none old.out old.out refl;
    };
    nothing = λ is. true_not is;
    something = λ is none. none;
    did = λ is. same_queue (record old.inbox { waiting = old.inbox.waiting ++ event ∷ [] }) inbox got waiting;
    wanting = tt;
    halted = λ off. absurd off;
  }

  pub give_fails : (fault : NoMemory) → inbox ≡ old.inbox → Steps moment_of told image faults_of script old (record old { inbox = inbox }) (Give event) (Err fault)
  give_fails fault same = record {
    touches = refl;
    passes = record { given = ap (λ (q : Both Event). sent_on q) same ∙ sym (append-nil (sent_on old.inbox)); collected = refl; left = sent_none old.out old.out refl };
    nothing = λ is. fault_not fault false is;
    something = λ is none. fault_not fault true is;
    did = λ is. fault_not fault true is;
    wanting = ap (λ (q : Both Event). record old { inbox = q }) same;
    halted = λ off. absurd off;
  }

  pub give_by : (sent : Result (Unit {0}) NoMemory) → inbox.got ≡ old.inbox.got → OnOk sent (inbox.waiting ≡ old.inbox.waiting ++ event ∷ [])
      → OnErr sent (inbox ≡ old.inbox) → Steps moment_of told image faults_of script old (record old { inbox = inbox }) (Give event) (given_of sent)
  give_by (Ok u) got waiting same = give_steps got waiting
  give_by (Err fault) got waiting same = give_fails fault same

module _ {D : Type 0} (moment_of : D → ℕ) (told : D → Option (List ℕ)) (image : D → List ℕ → Type 0) (faults_of : D → ℕ) (script : Script) (old : Core D) (front : Front)
    (inbox : Both Event) (line : Both Entry) (notices : Both Notice) where
  abbrev after : Core D
  after = record old { front = front; inbox = inbox; line = line; notices = notices }

  abbrev By : Result Turned NoMemory → Type 0
  By result = TurnsBy script old.front.half front.half old.inbox inbox old.line line old.notices notices result

  rests : (result : Result Turned NoMemory) → By result
      → IsStill old.front.half front.half (old.inbox.got, old.notices.got, sent_on old.line) (inbox.got, notices.got, sent_on line) → after ≡ old
  rests result by still =
      ap (λ (h : Half Evaluated). record old { front = record old.front { half = h }; inbox = inbox; line = line; notices = notices }) still.half
      ∙ ap (λ (q : Both Event). record old { inbox = q; line = line; notices = notices })
      (same_queue old.inbox inbox still.no_event (sym (took_none old.inbox inbox still.no_event by.events)))
      ∙ ap (λ (q : Both Entry). record old { line = q; notices = notices })
      (same_queue old.line line by.said (sym (took_none old.line line by.said still.no_entry)))
      ∙ ap (λ (q : Both Notice). record old { notices = q })
      (same_queue old.notices notices still.no_notice (sym (took_none old.notices notices still.no_notice by.told)))

  -- what is quiet has nothing to take
  quiet_so : (st : Stood) → IsQuiet st old.inbox.got (sent_on old.inbox)
      → (waits st.front.mode ≡ true) ⊎ ((list_any (may_enter st.front.mode) st.deferred ≡ false) × (old.inbox.waiting ≡ []))
  quiet_so st (inl waiting) = inl waiting
  quiet_so st (inr none) = inr (none.0, none_waits old.inbox none.1)

  idle_as : (stuck : Bool) (st : Stood) → st.stuck ≡ stuck → IsHalf seen script old.front.half st → By (Ok Idle) → IsIdleAt st old
  idle_as true st is half by = inl is
  idle_as false st is half by =
      let i = by.idle refl st half is in
      inr (none_waits old.notices i.0, quiet_so st i.1)

  entered_not : (st : Stood) (led : Led) → IsEntered script st old.inbox.got inbox.got led → sent_on inbox ≡ sent_on old.inbox
      → (waits st.front.mode ≡ true) ⊎ ((list_any (may_enter st.front.mode) st.deferred ≡ false) × (old.inbox.waiting ≡ [])) → ⊥
  entered_not st led (inl t) same (inl waiting) = true≢false (sym waiting ∙ t.free)
  entered_not st led (inl t) same (inr none) = may_not (may_enter st.front.mode) st.deferred t.place t.event t.first.there t.first.may none.0
  entered_not st led (inr t) same (inl waiting) = true≢false (sym waiting ∙ t.free)
  entered_not st led (inr t) same (inr none) = no_first t.event inbox.waiting (sym none.1 ∙ took_first old.inbox inbox t.event t.took same)

  taken_not : (st : Stood) (led : Led) → By (Ok Ran) → IsTaken script st old.inbox.got inbox.got old.notices.got notices.got (sent_on old.notices) led
      → (old.notices.waiting ≡ []) × ((waits st.front.mode ≡ true) ⊎ ((list_any (may_enter st.front.mode) st.deferred ≡ false) × (old.inbox.waiting ≡ []))) → ⊥
  taken_not st led by (inl t) none = no_first t.notice notices.waiting (sym none.0 ∙ took_first old.notices notices t.notice t.took by.told)
  taken_not st led by (inr t) none = entered_not st led t.entered by.events none.1

  idle_not : (st : Stood) → IsHalf seen script old.front.half st → By (Ok Ran) → IsIdleAt st old → ⊥
  idle_not st half by (inl stuck) = true≢false (sym stuck ∙ (by.ran refl st half).goes)
  idle_not st half by (inr none) = let t = by.ran refl st half in taken_not st t.led by t.taken none

  -- a front that memory sufficed for stands at what it has taken
  module _ (known : is_stopped old.front.half ≡ false → (st : Stood) × IsHalf seen script old.front.half st) where
    idle_there : (off : Bool) → is_stopped old.front.half ≡ off → By (Ok Idle) → HasNothing script old Turn
    idle_there true off by = absurd (by.stopped off).0
    idle_there false on by =
        let k = known on in
        (k.0, k.1, idle_as k.0.stuck k.0 refl k.1 by)

    stops_as : (off : Bool) (fault : NoMemory) → is_stopped old.front.half ≡ off → By (Err fault) → is_stopped front.half ≡ true
    stops_as true fault off by = ap is_stopped (by.stopped off).1.half ∙ off
    stops_as false fault on by =
        let k = known on in
        (by.lost k.0 k.1).stops.stopped

    pub turn_steps : (result : Result Turned NoMemory) → By result → Steps moment_of told image faults_of script old after Turn (turn_of result)
    turn_steps (Ok Ran) by = record {
      touches = refl;
      passes = record { given = by.events ∙ sym (append-nil (sent_on old.inbox)); collected = refl; left = sent_none old.out old.out refl };
      nothing = λ is. true_not is;
      something = λ is none. idle_not none.0 none.1 by none.2;
      did = λ is. by.ran refl;
      wanting = tt;
      halted = λ off. absurd (by.stopped off).0;
    }
    turn_steps (Ok Idle) by = record {
      touches = refl;
      passes = record { given = by.events ∙ sym (append-nil (sent_on old.inbox)); collected = refl; left = sent_none old.out old.out refl };
      nothing = λ is. (idle_there (is_stopped old.front.half) refl by, rests (Ok Idle) by (by.still refl));
      something = λ is none. false_not is;
      did = λ is. false_not is;
      wanting = tt;
      halted = λ off. absurd (by.stopped off).0;
    }
    turn_steps (Err fault) by = record {
      touches = refl;
      passes = record { given = by.events ∙ sym (append-nil (sent_on old.inbox)); collected = refl; left = sent_none old.out old.out refl };
      nothing = λ is. fault_not fault false is;
      something = λ is none. fault_not fault true is;
      did = λ is. fault_not fault true is;
      wanting = stops_as (is_stopped old.front.half) fault refl by;
      halted = λ off. (tt, rests (Err fault) by (by.stopped off).1);
    }

-- One slot, whose object is given what was posted, acts, and has handed on what it let go.
use Rattle.std.proofs.Common.{◌≡◌, ◌∙◌, ap, sym, subst, refl, ℕ, List, [], ◌++◌, append_assoc, Option}
use Rattle.std.specs.Prelude.{Result, Ok, Err, OnOk, OnErr}
use Rattle.do_tree.specs.Tree.{Script}
use Rattle.do_value.specs.declared.fault.NoMemory.{NoMemory}
use Rattle.lane.specs.Lanes.{Both, sent_on}
use Rattle.storage_map.specs.Limits.{Object}
use Rattle.timeline.specs.declared.event.Event.{Event}
use Rattle.timeline.specs.declared.message.Message.{Message}
use Rattle.object_core.specs.One.{KeepsOne}
use Rattle.object_core.specs.declared.object.Core.{Core}
use Rattle.host_core.specs.Acting.{Acts, HasSettled}
use Rattle.host_core.specs.Moving.{Gives, HandsOn}
use Rattle.host_core.specs.Slots.{IsSlot, IsGoing, IsResting}

-- Of what was taken the first was passed on.
first_passed : {X : Type 0} (had passed rest waiting taken : List X) → taken ≡ passed ++ rest
    → (had ++ taken) ++ waiting ≡ (had ++ passed) ++ (rest ++ waiting)
first_passed had passed rest waiting taken is =
    ap (λ xs. (had ++ xs) ++ waiting) is ∙ ap (λ xs. xs ++ waiting) (sym (append_assoc had passed rest)) ∙ append_assoc (had ++ passed) rest waiting

-- What was given is the first of what was posted, before which this had been given.
given_first : {X : Type 0} (before got waiting posts given : List X) → before ++ (got ++ waiting) ≡ posts → given ≡ before ++ got → posts ≡ given ++ waiting
given_first {X} before got waiting posts given posted gives =
    sym posted ∙ sym (append_assoc before got waiting) ∙ ap (λ (xs : List X). xs ++ waiting) (sym gives)

pub on_ok : {P : Type 0} (result : Result (Unit {0}) NoMemory) (done : Unit {0}) → result ≡ Ok done → OnOk result P → P
on_ok {P} result done is holds = subst (λ (r : Result (Unit {0}) NoMemory). OnOk r P) is holds

pub on_ok_by : {T E P : Type 0} (result : Result T E) → ((x : T) → result ≡ Ok x → P) → OnOk result P
on_ok_by (Ok x) holds = holds x refl
on_ok_by (Err e) holds = tt

pub on_err_by : {T E P : Type 0} (result : Result T E) → P → OnErr result P
on_err_by (Ok x) holds = tt
on_err_by (Err e) holds = holds

module _ {D : Type 0} (moment_of : D → ℕ) (left_since : D → ℕ → List ℕ → Type 0) (told : D → Option (List ℕ)) (image : D → List ℕ → Type 0) (faults_of : D → ℕ)
    (limit : ℕ) (script : Script) (content : Option (List ℕ)) (named : Option Object) (posts : List Event) (routed : List Message) where
  abbrev Goes : Core D → Both Event → Both Message → Type 0
  Goes = IsGoing moment_of left_since told image faults_of limit script content named posts routed

  abbrev Stands : Core D → Both Event → Both Message → Type 0
  Stands = IsSlot moment_of left_since told image faults_of limit script content named posts routed

  abbrev Keeps : Core D → Core D → Type 0
  Keeps = KeepsOne moment_of left_since told image faults_of script

  pub going_stands : (a : Core D) (i : Both Event) (out : Both Message) → Goes a i out → Stands a i out
  going_stands a i out going = record {
    origin = going.origin;
    begun = going.begun;
    one = going.one;
    given_before = going.given_before;
    taken_before = going.taken_before;
    posted = going.posted;
    given = (i.waiting, given_first going.given_before i.got i.waiting posts (sent_on a.inbox) going.posted going.gives);
    routed_first = going.routed_first;
    handed = (a.out.waiting, ap (λ (xs : List Message). xs ++ a.out.waiting) going.hands);
  }

  -- ---- it is given what was posted
  module _ (a b : Core D) (i j : Both Event) (out : Both Message) (result : Result (Unit {0}) NoMemory) where
    pub gives_goes : (done : Unit {0}) → result ≡ Ok done → Gives a b i j result → Keeps a b → Goes a i out → Goes b j out
    gives_goes done is gives keeps going = record {
      origin = going.origin;
      begun = going.begun;
      one = keeps going.origin going.one;
      given_before = going.given_before;
      taken_before = going.taken_before;
      posted = ap (λ (xs : List Event). going.given_before ++ xs) gives.posted ∙ going.posted;
      gives = gives.sent ∙ ap (λ (xs : List Event). xs ++ gives.given) going.gives ∙ append_assoc going.given_before i.got gives.given
          ∙ ap (λ (xs : List Event). going.given_before ++ (i.got ++ xs)) (on_ok result done is gives.all).0
          ∙ ap (λ (xs : List Event). going.given_before ++ xs) (sym gives.got);
      routed_first = going.routed_first;
      hands = ap (λ (queue : Both Message). queue.got) gives.out ∙ going.hands;
    }

    pub gives_stands : Gives a b i j result → Keeps a b → Goes a i out → Stands b j out
    gives_stands gives keeps going = record {
      origin = going.origin;
      begun = going.begun;
      one = keeps going.origin going.one;
      given_before = going.given_before;
      taken_before = going.taken_before;
      posted = ap (λ (xs : List Event). going.given_before ++ xs) gives.posted ∙ going.posted;
      given = (
        gives.first.0 ++ j.waiting,
        sym (ap (λ (xs : List Event). going.given_before ++ xs) gives.posted ∙ going.posted)
            ∙ sym (append_assoc going.given_before j.got j.waiting)
            ∙ ap (λ (xs : List Event). (going.given_before ++ xs) ++ j.waiting) gives.got
            ∙ ap (λ (xs : List Event). xs ++ j.waiting) (sym (append_assoc going.given_before i.got gives.taken))
            ∙ first_passed (going.given_before ++ i.got) gives.given gives.first.0 j.waiting gives.taken gives.first.1
            ∙ ap (λ (xs : List Event). xs ++ (gives.first.0 ++ j.waiting)) (sym (gives.sent ∙ ap (λ (xs : List Event). xs ++ gives.given) going.gives)),
      );
      routed_first = going.routed_first;
      handed = (
        b.out.waiting,
        ap (λ (xs : List Message). xs ++ b.out.waiting) (ap (λ (queue : Both Message). queue.got) gives.out ∙ going.hands),
      );
    }

  -- ---- it acts
  pub acts_goes : (a b : Core D) (i : Both Event) (out : Both Message) → Acts a b → Keeps a b → Goes a i out → Goes b i out
  acts_goes a b i out acts keeps going = record {
    origin = going.origin;
    begun = going.begun;
    one = keeps going.origin going.one;
    given_before = going.given_before;
    taken_before = going.taken_before;
    posted = going.posted;
    gives = acts.given ∙ going.gives;
    routed_first = going.routed_first;
    hands = acts.collected ∙ going.hands;
  }

  -- ---- what it let go is handed on
  module _ (a b : Core D) (i : Both Event) (out later : Both Message) (result : Result (Unit {0}) NoMemory) where
    inbox_same : HandsOn a b out later result → sent_on b.inbox ≡ sent_on a.inbox
    inbox_same hands = ap (λ (core : Core D). sent_on core.inbox) hands.same

    pub hands_goes : (done : Unit {0}) → result ≡ Ok done → HandsOn a b out later result → Keeps a b → Goes a i out → Goes b i later
    hands_goes done is hands keeps going = record {
      origin = going.origin;
      begun = going.begun;
      one = keeps going.origin going.one;
      given_before = going.given_before;
      taken_before = going.taken_before;
      posted = going.posted;
      gives = inbox_same hands ∙ going.gives;
      routed_first = ap (λ (xs : List Message). going.taken_before ++ xs) hands.taken ∙ going.routed_first;
      hands = hands.got ∙ ap (λ (xs : List Message). xs ++ hands.collected) going.hands ∙ append_assoc going.taken_before (sent_on out) hands.collected
          ∙ ap (λ (xs : List Message). going.taken_before ++ (sent_on out ++ xs)) (sym (on_ok result done is hands.all).0)
          ∙ ap (λ (xs : List Message). going.taken_before ++ xs) (sym hands.sent);
    }

    pub hands_stands : HandsOn a b out later result → Keeps a b → Goes a i out → Stands b i later
    hands_stands hands keeps going = record {
      origin = going.origin;
      begun = going.begun;
      one = keeps going.origin going.one;
      given_before = going.given_before;
      taken_before = going.taken_before;
      posted = going.posted;
      given = (i.waiting, given_first going.given_before i.got i.waiting posts (sent_on b.inbox) going.posted (inbox_same hands ∙ going.gives));
      routed_first = ap (λ (xs : List Message). going.taken_before ++ xs) hands.taken ∙ going.routed_first;
      handed = (
        hands.first.0 ++ b.out.waiting,
        ap (λ (xs : List Message). xs ++ b.out.waiting) (hands.got ∙ ap (λ (xs : List Message). xs ++ hands.collected) going.hands)
            ∙ first_passed (going.taken_before ++ sent_on out) hands.handed hands.first.0 b.out.waiting hands.collected hands.first.1
            ∙ ap (λ (xs : List Message). xs ++ (hands.first.0 ++ b.out.waiting))
            (append_assoc going.taken_before (sent_on out) hands.handed ∙ ap (λ (xs : List Message). going.taken_before ++ xs) (sym hands.sent)),
      );
    }

-- ---- nothing is left
-- What is let go is no part of it.
settled_still : {D : Type 0} (script : Script) (core : Core D) (out : Both Message) → HasSettled script core → HasSettled script (record core { out = out })
settled_still script core out settled = record {
  front_goes = settled.front_goes;
  back_goes = settled.back_goes;
  turned = settled.turned;
  taken = settled.taken;
  flushed = settled.flushed;
  released = settled.released;
  mended = settled.mended;
}

pub hands_rests : {D : Type 0} (script : Script) (a b : Core D) (i : Both Event) (out later : Both Message) (result : Result (Unit {0}) NoMemory)
    (done : Unit {0}) → result ≡ Ok done → i.waiting ≡ [] → HasSettled script a → HandsOn a b out later result → IsResting script b i
hands_rests {D} script a b i out later result done is none settled hands = record {
  settled = subst (λ (core : Core D). HasSettled script core) (sym hands.same) (settled_still script a b.out settled);
  given = none;
  let_go = (on_ok result done is hands.all).1;
}

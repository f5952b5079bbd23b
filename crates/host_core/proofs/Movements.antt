-- What went to one object so far, and what came from it.
use Rattle.std.proofs.Common.{◌≡◌, ◌∙◌, ap, sym, subst, refl, ℕ, List, [], ◌∷◌, ◌++◌, append-nil, append_assoc, Option}
use Rattle.std.specs.Prelude.{Bool, Result, Ok, Err, IsErr}
use Rattle.do_tree.specs.Tree.{Script}
use Rattle.do_value.specs.declared.fault.NoMemory.{NoMemory}
use Rattle.lane.specs.Lanes.{Both, sent_on}
use Rattle.timeline.specs.declared.event.Event.{Event}
use Rattle.timeline.specs.declared.message.Message.{Message}
use Rattle.object_core.specs.Collecting.{Collects}
use Rattle.object_core.specs.Stepping.{Steps}
use Rattle.object_core.specs.declared.choice.Choice.TheVariants.{Give}
use Rattle.object_core.specs.declared.object.Core.{Core}
use Rattle.host_core.proofs.Queues.{Took, took_still}
use Rattle.host_core.specs.Moving.{Gives, HandsOn}

-- One item more behind those of a list.
one_more : {X : Type 0} (old now new items : List X) (item : X) → now ≡ old ++ items → new ≡ now ++ item ∷ [] → new ≡ old ++ (items ++ item ∷ [])
one_more old now new items item so_far more = more ∙ ap (λ xs. xs ++ item ∷ []) so_far ∙ append_assoc old items (item ∷ [])

-- All that was taken of what was posted was given.
pub record GaveSoFar {D : Type 0} (old now : Core D) (inbox later : Both Event) : Type 0 where
  pub posted : sent_on later ≡ sent_on inbox
  pub events : List Event
  pub got : later.got ≡ inbox.got ++ events
  pub sent : sent_on now.inbox ≡ sent_on old.inbox ++ events
  pub out : now.out ≡ old.out

pub gave_none : {D : Type 0} (core : Core D) (inbox : Both Event) → GaveSoFar core core inbox inbox
gave_none core inbox = record {
  posted = refl;
  events = [];
  got = sym (append-nil inbox.got);
  sent = sym (append-nil (sent_on core.inbox));
  out = refl;
}

module _ {D : Type 0} (moment_of : D → ℕ) (told : D → Option (List ℕ)) (image : D → List ℕ → Type 0) (faults_of : D → ℕ) (script : Script) (a b c : Core D) (i j k : Both Event) (event : Event) (step : Result Bool NoMemory) where
  abbrev Given : Result Bool NoMemory → Type 0
  Given = Steps moment_of told image faults_of script b c (Give event)

  pub gave_more : (did : Bool) → step ≡ Ok did → GaveSoFar a b i j → Took j k event → Given step → GaveSoFar a c i k
  gave_more did is gave took stepped =
      let steps = subst (λ (r : Result Bool NoMemory). Given r) is stepped in
      record {
        posted = took_still j k event took ∙ gave.posted;
        events = gave.events ++ event ∷ [];
        got = one_more i.got j.got k.got gave.events event gave.got took.got;
        sent = one_more (sent_on a.inbox) (sent_on b.inbox) (sent_on c.inbox) gave.events event gave.sent steps.passes.given;
        out = ap (λ (core : Core D). core.out) steps.touches ∙ gave.out;
      }

  -- Memory didn't suffice for the last one.
  gives_first : (fault : NoMemory) → step ≡ Err fault → GaveSoFar a b i j → Took j k event → Given step → Gives a c i k (Err fault)
  gives_first fault is gave took stepped =
      let steps = subst (λ (r : Result Bool NoMemory). Given r) is stepped in
      record {
        posted = took_still j k event took ∙ gave.posted;
        taken = gave.events ++ event ∷ [];
        got = one_more i.got j.got k.got gave.events event gave.got took.got;
        given = gave.events;
        first = (event ∷ [], refl);
        sent = steps.passes.given ∙ append-nil (sent_on b.inbox) ∙ gave.sent;
        all = tt;
        out = ap (λ (core : Core D). core.out) steps.touches ∙ gave.out;
      }

  pub gives_stop : (fault : NoMemory) → step ≡ Err fault → GaveSoFar a b i j → Took j k event → Given step
      → (result : Result (Unit {0}) NoMemory) → IsErr result → Gives a c i k result
  gives_stop fault is gave took stepped (Ok done) fails = absurd cc
  gives_stop fault is gave took stepped (Err other) fails = gives_first fault is gave took stepped

pub gives_all : {D : Type 0} (a b : Core D) (i j k : Both Event) → GaveSoFar a b i j → j.waiting ≡ [] → k ≡ j → Gives a b i k (Ok tt)
gives_all a b i j k gave none same = record {
  posted = ap sent_on same ∙ gave.posted;
  taken = gave.events;
  got = ap (λ (queue : Both Event). queue.got) same ∙ gave.got;
  given = gave.events;
  first = ([], sym (append-nil gave.events));
  sent = gave.sent;
  all = (refl, ap (λ (queue : Both Event). queue.waiting) same ∙ none);
  out = gave.out;
}

-- All that was collected was handed on.
pub record HandedSoFar {D : Type 0} (old now : Core D) (out later : Both Message) : Type 0 where
  pub same : now ≡ record old { out = now.out }
  pub left : sent_on now.out ≡ sent_on old.out
  pub messages : List Message
  pub got : now.out.got ≡ old.out.got ++ messages
  pub sent : sent_on later ≡ sent_on out ++ messages
  pub taken : later.got ≡ out.got

pub handed_none : {D : Type 0} (core : Core D) (out : Both Message) → HandedSoFar core core out out
handed_none core out = record {
  same = refl;
  left = refl;
  messages = [];
  got = sym (append-nil core.out.got);
  sent = sym (append-nil (sent_on out));
  taken = refl;
}

module _ {D : Type 0} (a b c : Core D) (out j k : Both Message) (message : Message) where
  collected_same : HandedSoFar a b out j → Collects b c message → c ≡ record a { out = c.out }
  collected_same handed collects = collects.same ∙ ap (λ (core : Core D). record core { out = c.out }) handed.same

  collected_left : HandedSoFar a b out j → Collects b c message → sent_on c.out ≡ sent_on a.out
  collected_left handed collects = took_still b.out c.out message (record { first = collects.first; got = collects.got }) ∙ handed.left

  pub handed_more : HandedSoFar a b out j → Collects b c message → k.got ≡ j.got → k.waiting ≡ j.waiting ++ message ∷ [] → HandedSoFar a c out k
  handed_more handed collects got waiting = record {
    same = collected_same handed collects;
    left = collected_left handed collects;
    messages = handed.messages ++ message ∷ [];
    got = one_more a.out.got b.out.got c.out.got handed.messages message handed.got collects.got;
    sent = one_more (sent_on out) (sent_on j) (sent_on k) handed.messages message handed.sent
        (ap (λ xs. xs ++ k.waiting) got ∙ ap (λ xs. j.got ++ xs) waiting ∙ sym (append_assoc j.got j.waiting (message ∷ [])));
    taken = got ∙ handed.taken;
  }

  -- Memory didn't suffice for the last one.
  hands_first : HandedSoFar a b out j → Collects b c message → k ≡ j → (fault : NoMemory) → HandsOn a c out k (Err fault)
  hands_first handed collects same fault = record {
    same = collected_same handed collects;
    left = collected_left handed collects;
    collected = handed.messages ++ message ∷ [];
    got = one_more a.out.got b.out.got c.out.got handed.messages message handed.got collects.got;
    handed = handed.messages;
    first = (message ∷ [], refl);
    sent = ap sent_on same ∙ handed.sent;
    taken = ap (λ (queue : Both Message). queue.got) same ∙ handed.taken;
    all = tt;
  }

  pub hands_stop : HandedSoFar a b out j → Collects b c message → k ≡ j → (result : Result (Unit {0}) NoMemory) → IsErr result → HandsOn a c out k result
  hands_stop handed collects same (Ok done) fails = absurd cc
  hands_stop handed collects same (Err fault) fails = hands_first handed collects same fault

pub hands_all : {D : Type 0} (a b c : Core D) (out j : Both Message) → HandedSoFar a b out j → b.out.waiting ≡ [] → c ≡ b → HandsOn a c out j (Ok tt)
hands_all {D} a b c out j handed none is = subst (λ (core : Core D). HandsOn a core out j (Ok tt)) (sym is) (record {
  same = handed.same;
  left = handed.left;
  collected = handed.messages;
  got = handed.got;
  handed = handed.messages;
  first = ([], sym (append-nil handed.messages));
  sent = handed.sent;
  taken = handed.taken;
  all = (refl, none);
})

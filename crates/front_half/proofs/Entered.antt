-- What becomes of an event, as a move of the front.
use Rattle.std.proofs.Common.{◌≡◌, ◌∙◌, sym, refl, ap, subst, ℕ, suc, ◌+◌, ◌≤◌, List, [], ◌∷◌, ◌++◌, length, map, drop, append_assoc, append-nil, length-append, Bool, true, false, Option, Some, None, IsSome, Result, Ok, Err, OnOk, OnErr, option_to_list, inl, inr, arith}
use Rattle.std.proofs.lemmas.List.{drop-append-le, map-append}
use Rattle.std.proofs.lemmas.Option.{none-some}
use Rattle.do_tree.specs.Lookup.{constructor_of}
use Rattle.do_tree.specs.Tree.{Script}
use Rattle.timeline.specs.Eligible.{is_eligible, is_stale}
use Rattle.timeline.specs.Headline.{IsPrefix}
use Rattle.timeline.specs.Intake.{Kind, Front, Mode, serves, down, Taken, delivered, wanted, takes, steps_to, says_more, on_delivered, numbered, closed_by, downed_by, ends_by, MayTake, MayDeliver}
use Rattle.timeline.specs.Logs.{fronted}
use Rattle.timeline.specs.Object as seen
use Rattle.timeline.specs.Object.{Life, OpenTask, Step, idle, waiting, ended}
use Rattle.timeline.specs.Steps.{delivers}
use Rattle.timeline.specs.Told.{asking}
use Rattle.timeline.specs.declared.entry.Body.{Body}
use Rattle.timeline.specs.declared.entry.Body.TheVariants as body
use Rattle.timeline.specs.declared.entry.Entry.{Entry}
use Rattle.timeline.specs.declared.event.Event.{Event}
use Rattle.front_turns.specs.Paused.{Paused, HasClass}
use Rattle.front_turns.specs.Held.{Holds, IsObject, IsState, life_in, object_of}
use Rattle.front_turns.specs.declared.object.Object.{Object}
use Rattle.front_turns.specs.declared.object.State.{State}
use Rattle.front_turns.specs.declared.object.State.TheVariants as state
use Rattle.front_half.specs.Gated.{IsGated, IsGatedMode, IsGatedState}
use Rattle.front_half.specs.Moving.{IsCut, Moves, Speaks, said_by}
use Rattle.front_half.specs.Standing.{Stood, IsClass, IsHalf, IsMode, IsTakenBy, IsCutShort, kind_in}
use Rattle.front_half.specs.Taking.{leads, class_after, delivers_to, does, doing, on_event, waits}
use Rattle.front_half.specs.declared.half.Half.{Half}
use Rattle.front_half.specs.declared.half.Mode.{Mode as HeldMode}
use Rattle.front_half.specs.declared.half.Mode.TheVariants as held
use Rattle.front_half.specs.declared.testing.Doing.{Doing}
use Rattle.front_half.specs.declared.testing.Doing.TheVariants.{Delivers, Wants}
use Rattle.front_half.proofs.Decided.{IsDelivery, delivery_of, mode_of_wanted}
use Rattle.front_half.proofs.Blocks.{delivers_gated}
use Rattle.front_half.proofs.Fitted.{class_known, class_stays, has_class}
use Rattle.front_half.proofs.Stepping.{adds_on, takes_one, cuts_one}

-- An event ends no incarnation, and answers no call by `Down`.
closes_none : (f : Front) (m : Mode) (e : Event) → closed_by f m (delivered e) ≡ []
closes_none f (serves s) e = refl
closes_none f (down call) e = refl

downs_none : (now : ℕ) (m : Mode) (e : Event) → downed_by now m (delivered e) ≡ []
downs_none now (serves s) e = refl
downs_none now (down None) e = refl
downs_none now (down (Some call)) e = refl

ends_none : (m : Mode) (e : Event) → ends_by m (delivered e) ≡ []
ends_none (serves s) e = refl
ends_none (down call) e = refl

wanted_closes_none : (f : Front) (m : Mode) (e : Event) → closed_by f m (wanted e) ≡ []
wanted_closes_none f (serves s) e = refl
wanted_closes_none f (down call) e = refl

wanted_downs_none : (now : ℕ) (m : Mode) (e : Event) → downed_by now m (wanted e) ≡ []
wanted_downs_none now (serves s) e = refl
wanted_downs_none now (down None) e = refl
wanted_downs_none now (down (Some call)) e = refl

wanted_ends_none : (m : Mode) (e : Event) → ends_by m (wanted e) ≡ []
wanted_ends_none (serves s) e = refl
wanted_ends_none (down call) e = refl

-- Where a list is as before, with none added.
as_before : {X : Type 0} (old new more : List X) → new ≡ old → more ≡ [] → new ≡ old ++ more
as_before {X} old new more same none = same ∙ sym (append-nil old) ∙ ap (λ (xs : List X). old ++ xs) (sym none)

-- What was newly logged stands behind what this incarnation had logged.
pub logged_more : {X Y : Type 0} (f : X → Y) (first : ℕ) (old new more : List X) (ys zs : List Y) → first ≤ length old → new ≡ old ++ more
    → map f (drop first old) ≡ ys → map f more ≡ zs → map f (drop first new) ≡ ys ++ zs
logged_more {X} {Y} f first old new more ys zs inside is before added =
    ap (λ (xs : List X). map f (drop first xs)) is
    ∙ ap (map f) (drop-append-le first old more inside)
    ∙ map-append f (drop first old) more
    ∙ ap (λ (us : List Y). us ++ map f more) before
    ∙ ap (λ (us : List Y). ys ++ us) added

pub inside_more : {X : Type 0} (first : ℕ) (old new more : List X) → first ≤ length old → new ≡ old ++ more → first ≤ length new
inside_more {X} first old new more inside is = let n : length new ≡ length old + length more = ap length is ∙ length-append old more in omega (arith, inside, n)

bodies_in : (i n : ℕ) (bodies : List Body) → map (λ (x : Entry). x.body) (numbered i n bodies) ≡ bodies
bodies_in i n [] = refl
bodies_in i n (b ∷ bodies) = ap (λ (bs : List Body). b ∷ bs) (bodies_in i (suc n) bodies)

-- What a turn that runs no task, sends nothing and logs nothing as delivered leaves as it was.
pub record Keeps {T : Type 0} (h new : Half T) : Type 0 where
  pub class : new.class ≡ h.class
  pub incarnation : new.incarnation ≡ h.incarnation
  pub count : new.count ≡ h.count
  pub mode : new.mode ≡ h.mode
  pub first_delivered : new.first_delivered ≡ h.first_delivered
  pub first_sent : new.first_sent ≡ h.first_sent
  pub delivered : new.log.delivered.items ≡ h.log.delivered.items
  pub sent : new.log.sent.items ≡ h.log.sent.items
  pub downed : new.log.downed.items ≡ h.log.downed.items
  pub ends : new.log.ends.items ≡ h.log.ends.items

pub kept_half : {T : Type 0} (see : T → Paused) (script : Script) (h new : Half T) (st : Stood) (ds : List Event) (stuck : Bool) → Keeps h new
    → option_to_list new.due ++ new.deferred ≡ ds → new.stuck ≡ stuck → IsHalf see script h st
    → IsHalf see script new (record st { deferred = ds; stuck = stuck })
kept_half {T} see script h new st ds stuck keeps waiting_are stuck_is half = record {
  class = keeps.class ∙ half.class;
  known = half.known;
  incarnation = keeps.incarnation ∙ half.incarnation;
  count = keeps.count ∙ half.count;
  mode = λ c is. subst (λ (m : HeldMode T). IsMode see (life_in script c st.front.incarnation) m st.front.mode) (sym keeps.mode) (half.mode c is);
  gate = half.gate;
  deferred = waiting_are;
  stuck = stuck_is;
  delivered_from = subst (λ (xs : List (ℕ × Event)). new.first_delivered ≤ length xs) (sym keeps.delivered)
      (subst (λ (n : ℕ). n ≤ length h.log.delivered.items) (sym keeps.first_delivered) half.delivered_from);
  sent_from = subst (λ (xs : List Entry). new.first_sent ≤ length xs) (sym keeps.sent)
      (subst (λ (n : ℕ). n ≤ length h.log.sent.items) (sym keeps.first_sent) half.sent_from);
  events = ap (λ (xs : List (ℕ × Event)). map (λ d. d.1) (drop new.first_delivered xs)) keeps.delivered
      ∙ ap (λ (n : ℕ). map (λ d. d.1) (drop n h.log.delivered.items)) keeps.first_delivered ∙ half.events;
  said = ap (λ (xs : List Entry). map (λ e. e.body) (drop new.first_sent xs)) keeps.sent
      ∙ ap (λ (n : ℕ). map (λ e. e.body) (drop n h.log.sent.items)) keeps.first_sent ∙ half.said;
}

kept_taken : {T : Type 0} (h new : Half T) (k : Kind) (from : Front) (taken : List Taken) (f : Front) → Keeps h new
    → IsTakenBy k from taken f (fronted h.log) → IsTakenBy k from (taken ++ []) f (fronted new.log)
kept_taken h new k from taken f keeps is = subst (λ (ts : List Taken). IsTakenBy k from ts f (fronted new.log)) (sym (append-nil taken)) (record {
  at = is.at;
  gate = is.gate;
  sent = keeps.sent ∙ is.sent;
  delivered = keeps.delivered ∙ is.delivered;
  downed = keeps.downed ∙ is.downed;
  ends = keeps.ends ∙ is.ends;
})

-- Such a turn is a move: some events are deferred, some dropped, or the front is stuck.
pub kept_moves : {T : Type 0} (see : T → Paused) (script : Script) (h new : Half T) (st : Stood) (ds : List Event) (stuck : Bool) (dropped : List Event) → Keeps h new
    → option_to_list new.due ++ new.deferred ≡ ds → new.stuck ≡ stuck → new.log.dropped.items ≡ h.log.dropped.items ++ dropped → IsHalf see script h st
    → Moves see script h new (leads (record st { deferred = ds; stuck = stuck }) [] dropped) st
kept_moves see script h new st ds stuck dropped keeps waiting_are stuck_is drops half = record {
  half = kept_half see script h new st ds stuck keeps waiting_are stuck_is half;
  dropped = drops;
  taken = λ c from taken is_class is. kept_taken h new (kind_in script c) from taken st.front keeps is;
}

-- An event that is deferred stands behind the others.
pub behind : (due : Option Event) (old : List Event) (ds new : List Event) (e : Event) → option_to_list due ++ old ≡ ds → new ≡ old ++ e ∷ []
    → option_to_list due ++ new ≡ ds ++ e ∷ []
behind due old ds new e before is =
    ap (λ (xs : List Event). option_to_list due ++ xs) is ∙ sym (append_assoc (option_to_list due) old (e ∷ [])) ∙ ap (λ (xs : List Event). xs ++ e ∷ []) before

-- What a delivery leaves beside how the object stands then.
pub record IsDeliveredTo {T : Type 0} (h new : Half T) (e : Event) : Type 0 where
  pub incarnation : new.incarnation ≡ h.incarnation
  pub due : new.due ≡ h.due
  pub deferred : new.deferred ≡ h.deferred
  pub stuck : new.stuck ≡ h.stuck
  pub first_delivered : new.first_delivered ≡ h.first_delivered
  pub first_sent : new.first_sent ≡ h.first_sent
  pub delivered : new.log.delivered.items ≡ h.log.delivered.items ++ (h.incarnation, e) ∷ []
  pub dropped : new.log.dropped.items ≡ h.log.dropped.items
  pub downed : new.log.downed.items ≡ h.log.downed.items
  pub ends : new.log.ends.items ≡ h.log.ends.items

-- Where an event leads that is delivered.
led_to : (script : Script) (c : ℕ) (f : Front) (o : seen.Object) (e : Event) → f.mode ≡ serves (idle o)
    → takes (kind_in script c) f (delivered e) ≡ steps_to (record f { events = f.events ++ e ∷ [] }) (delivers (life_in script c f.incarnation) o e)
led_to script c f o e mode = ap (λ (m : Mode). on_delivered (kind_in script c) f m e) mode

may_deliver : (f : Front) (o : seen.Object) (e : Event) → f.mode ≡ serves (idle o) → is_eligible o e ≡ true → is_stale f.incarnation o e ≡ false → MayTake f (delivered e)
may_deliver f o e mode eligible fresh = subst (λ (m : Mode). MayDeliver f.incarnation m e) (sym mode) (eligible, fresh)

-- The new half stands where the delivery leads.
delivered_half : {T : Type 0} (see : T → Paused) (script : Script) (h new : Half T) (st : Stood) (e : Event) (s : State T) (c : ℕ) (step : Step)
    → IsHalf see script h st → HasClass script c → IsDeliveredTo h new e → new.class ≡ Some c → new.mode ≡ held.Serves s
    → Speaks see (life_in script c st.front.incarnation) h.log.sent.items new.log.sent.items h.count s new.count step
    → IsGatedState (constructor_of script c) step.state
    → IsHalf see script new (record { class = Some c; front = steps_to (record st.front { events = st.front.events ++ e ∷ [] }) step; deferred = st.deferred; stuck = st.stuck })
delivered_half {T} see script h new st e s c step half has to class mode speaks gated = let i : ℕ = st.front.incarnation in record {
  class = class;
  known = has;
  incarnation = to.incarnation ∙ half.incarnation;
  count = speaks.count ∙ ap (λ (n : ℕ). n + length (said_by step)) half.count ∙ sym (length-append st.front.said (said_by step))
      ∙ ap length (sym (append_assoc st.front.said step.says (asking step.state)));
  mode = λ d is. subst (λ (m : HeldMode T). IsMode see (life_in script d i) m (serves step.state)) (sym mode)
      (subst (λ (n : ℕ). IsState see (life_in script n i) s step.state) is speaks.state);
  gate = λ d is. subst (λ (n : ℕ). IsGatedState (constructor_of script n) step.state) is gated;
  deferred = ap (λ (due : Option Event). option_to_list due ++ new.deferred) to.due
      ∙ ap (λ (xs : List Event). option_to_list h.due ++ xs) to.deferred ∙ half.deferred;
  stuck = to.stuck ∙ half.stuck;
  delivered_from = subst (λ (n : ℕ). n ≤ length new.log.delivered.items) (sym to.first_delivered) (inside_more _ _ _ _ half.delivered_from to.delivered);
  sent_from = subst (λ (n : ℕ). n ≤ length new.log.sent.items) (sym to.first_sent) (inside_more _ _ _ _ half.sent_from speaks.sent);
  events = ap (λ (n : ℕ). map (λ d. d.1) (drop n new.log.delivered.items)) to.first_delivered
      ∙ logged_more (λ (d : ℕ × Event). d.1) h.first_delivered h.log.delivered.items new.log.delivered.items ((h.incarnation, e) ∷ []) st.front.events (e ∷ [])
      half.delivered_from to.delivered half.events refl;
  said = ap (λ (n : ℕ). map (λ x. x.body) (drop n new.log.sent.items)) to.first_sent
      ∙ logged_more (λ (x : Entry). x.body) h.first_sent h.log.sent.items new.log.sent.items (numbered i (1 + h.count) (said_by step)) st.front.said (said_by step)
      half.sent_from speaks.sent half.said (bodies_in i (1 + h.count) (said_by step))
      ∙ sym (append_assoc st.front.said step.says (asking step.state));
}

-- What is said is numbered on from what the incarnation had said.
numbered_on : (i count : ℕ) (said bodies : List Body) (old : List Entry) → count ≡ length said
    → old ++ numbered i (1 + count) bodies ≡ old ++ numbered i (1 + length said) bodies
numbered_on i count said bodies old counts = ap (λ (n : ℕ). old ++ numbered i (1 + n) bodies) counts

delivered_logged : {T : Type 0} (h new : Half T) (f : Front) (e : Event) → h.incarnation ≡ f.incarnation → IsDeliveredTo h new e
    → new.log.delivered.items ≡ h.log.delivered.items ++ (f.incarnation, e) ∷ []
delivered_logged h new f e same to = to.delivered ∙ ap (λ (n : ℕ). h.log.delivered.items ++ (n, e) ∷ []) same

-- A delivery is a move.
pub delivered_moves : {T : Type 0} (see : T → Paused) (script : Script) (h new : Half T) (st : Stood) (e : Event) (s : State T) (c : ℕ) (step : Step)
    → IsHalf see script h st → HasClass script c → takes (kind_in script c) st.front (delivered e) ≡ steps_to (record st.front { events = st.front.events ++ e ∷ [] }) step
    → MayTake st.front (delivered e) → IsDeliveredTo h new e → new.class ≡ Some c → new.mode ≡ held.Serves s
    → Speaks see (life_in script c st.front.incarnation) h.log.sent.items new.log.sent.items h.count s new.count step
    → IsGatedState (constructor_of script c) step.state
    → Moves see script h new (delivers_to script st (Some c) e) st
delivered_moves {T} see script h new st e s c step half has led may to class mode speaks gated = let f : Front = st.front in record {
  half = subst (λ (g : Front). IsHalf see script new (record { class = Some c; front = g; deferred = st.deferred; stuck = st.stuck })) (sym led)
      (delivered_half see script h new st e s c step half has to class mode speaks gated);
  dropped = to.dropped ∙ sym (append-nil h.log.dropped.items);
  taken = λ d from taken is_class is. subst (λ (n : ℕ). IsTakenBy (kind_in script n) from taken f (fronted h.log)
      → IsTakenBy (kind_in script n) from (taken ++ delivered e ∷ []) (takes (kind_in script c) f (delivered e)) (fronted new.log)) is_class
      (λ (was : IsTakenBy (kind_in script c) from taken f (fronted h.log)).
      takes_one (kind_in script c) from taken (delivered e) f (numbered f.incarnation (1 + length f.said) (said_by step)) (fronted h.log) (fronted new.log) may
      (adds_on (kind_in script c) f (delivered e) (said_by step) (ap (λ (g : Front). g.incarnation) led) (ap (λ (g : Front). g.said) led ∙ append_assoc f.said step.says (asking step.state)) (closes_none f f.mode e))
      (record {
        sent = speaks.sent ∙ numbered_on f.incarnation h.count f.said (said_by step) h.log.sent.items half.count;
        delivered = delivered_logged h new f e half.incarnation to;
        downed = as_before _ _ _ to.downed (downs_none f.incarnation f.mode e);
        ends = as_before _ _ _ to.ends (ends_none f.mode e);
      }) was) is;
}

-- And where memory was wanting in it.
pub delivered_cut : {T : Type 0} (see : T → Paused) (script : Script) (h new : Half T) (st : Stood) (e : Event) (c : ℕ) (step : Step)
    → IsHalf see script h st → takes (kind_in script c) st.front (delivered e) ≡ steps_to (record st.front { events = st.front.events ++ e ∷ [] }) step
    → MayTake st.front (delivered e) → IsDeliveredTo h new e
    → IsPrefix new.log.sent.items (h.log.sent.items ++ numbered st.front.incarnation (1 + h.count) (said_by step))
    → IsCut script h.log new.log (delivers_to script st (Some c) e) st
delivered_cut {T} see script h new st e c step half led may to prefix = let f : Front = st.front in inr (
  to.dropped ∙ sym (append-nil h.log.dropped.items),
  λ d from taken is_class is. subst (λ (n : ℕ). IsTakenBy (kind_in script n) from taken f (fronted h.log)
      → IsCutShort (kind_in script n) from (taken ++ delivered e ∷ []) (fronted new.log)) is_class
      (λ (was : IsTakenBy (kind_in script c) from taken f (fronted h.log)).
      cuts_one (kind_in script c) from taken (delivered e) f (numbered f.incarnation (1 + length f.said) (said_by step)) (fronted h.log) (fronted new.log) may
      (adds_on (kind_in script c) f (delivered e) (said_by step) (ap (λ (g : Front). g.incarnation) led) (ap (λ (g : Front). g.said) led ∙ append_assoc f.said step.says (asking step.state)) (closes_none f f.mode e))
      (record {
        sent = subst (λ (all : List Entry). IsPrefix new.log.sent.items all) (numbered_on f.incarnation h.count f.said (said_by step) h.log.sent.items half.count) prefix;
        delivered = delivered_logged h new f e half.incarnation to;
        downed = as_before _ _ _ to.downed (downs_none f.incarnation f.mode e);
        ends = as_before _ _ _ to.ends (ends_none f.mode e);
      }) was) is,
)

-- The object that is held where an event is delivered.
pub record IsIdleAt {T : Type 0} (see : T → Paused) (script : Script) (h : Half T) (st : Stood) (e : Event) (o : Object T) (c : ℕ) : Type 0 where
  pub tasks : List OpenTask
  pub held : Holds see (life_in script c h.incarnation) o tasks
  pub mode : st.front.mode ≡ serves (idle (object_of o tasks))

mode_at : {T : Type 0} (see : T → Paused) (script : Script) (h : Half T) (st : Stood) (e : Event) (c : ℕ) → IsHalf see script h st → (d : IsDelivery script st e)
    → class_after script h.class e ≡ Some c → IsMode see (life_in script c h.incarnation) h.mode (serves (idle d.object))
mode_at see script h st e c half d is =
    let is_class : IsClass st.class c = class_stays script st.class e c d.fit (ap (λ (k : Option ℕ). class_after script k e) (sym half.class) ∙ is) in
    subst (λ (i : ℕ). IsMode see (life_in script c i) h.mode (serves (idle d.object))) (sym half.incarnation)
    (subst (λ (m : Mode). IsMode see (life_in script c st.front.incarnation) h.mode m) d.mode (half.mode c is_class))

pub idle_at : {T : Type 0} (see : T → Paused) (script : Script) (h : Half T) (st : Stood) (e : Event) (o : Object T) (c : ℕ) → IsHalf see script h st
    → IsDelivery script st e → class_after script h.class e ≡ Some c → h.mode ≡ held.Serves (state.Idle o) → IsIdleAt see script h st e o c
idle_at {T} see script h st e o c half d is mode =
    let held_is : IsObject see (life_in script c h.incarnation) o d.object
    = subst (λ (m : HeldMode T). IsMode see (life_in script c h.incarnation) m (serves (idle d.object))) mode (mode_at see script h st e c half d is) in
    record { tasks = held_is.0; held = held_is.2; mode = d.mode ∙ ap (λ (x : seen.Object). serves (idle x)) held_is.1 }

-- The mode that is held is that of an idle object, whatever its class.
pub idles_in : {T : Type 0} (see : T → Paused) (script : Script) (h : Half T) (st : Stood) (e : Event) (c : ℕ) → IsHalf see script h st → IsDelivery script st e
    → class_after script h.class e ≡ Some c → (l : Life) × (o : seen.Object) × IsMode see l h.mode (serves (idle o))
idles_in see script h st e c half d is = (life_in script c h.incarnation, d.object, mode_at see script h st e c half d is)

same_class : {T : Type 0} (see : T → Paused) (script : Script) (h : Half T) (st : Stood) (e : Event) (c : ℕ) → IsHalf see script h st → class_after script h.class e ≡ Some c
    → class_after script st.class e ≡ Some c
same_class see script h st e c half is = ap (λ (k : Option ℕ). class_after script k e) (sym half.class) ∙ is

pub class_there : {T : Type 0} (see : T → Paused) (script : Script) (h : Half T) (st : Stood) (e : Event) (c : ℕ) → IsHalf see script h st → IsDelivery script st e
    → class_after script h.class e ≡ Some c → HasClass script c
class_there see script h st e c half d is = has_class script st.class e c half.known d.fit (same_class see script h st e c half is)

-- Only the newest task has its block open, before the delivery and after it.
delivered_gated : {T : Type 0} (see : T → Paused) (script : Script) (h : Half T) (st : Stood) (e : Event) (o : Object T) (c : ℕ) → IsHalf see script h st
    → IsDelivery script st e → (at : IsIdleAt see script h st e o c) → class_after script h.class e ≡ Some c
    → IsGatedState (constructor_of script c) (delivers (life_in script c st.front.incarnation) (object_of o at.tasks) e).state
delivered_gated see script h st e o c half d at class =
    let is_class : IsClass st.class c = class_stays script st.class e c d.fit (same_class see script h st e c half class) in
    let gated : IsGated (constructor_of script c) (object_of o at.tasks)
    = subst (λ (m : Mode). IsGatedMode (constructor_of script c) m) at.mode (half.gate c is_class) in
    let may : MayDeliver st.front.incarnation (serves (idle (object_of o at.tasks))) e
    = subst (λ (m : Mode). MayDeliver st.front.incarnation m e) (sym d.mode ∙ at.mode) (d.eligible, d.fresh) in
    delivers_gated (life_in script c st.front.incarnation) (object_of o at.tasks) e gated may.0

-- The whole of a delivery, from what the turn of the tasks gives.
pub delivers_moves : {T : Type 0} (see : T → Paused) (script : Script) (h new : Half T) (st : Stood) (e : Event) (o : Object T) (s : State T) (c : ℕ)
    → IsHalf see script h st → doing script st e ≡ Delivers → class_after script h.class e ≡ Some c → h.mode ≡ held.Serves (state.Idle o)
    → IsDeliveredTo h new e → new.class ≡ Some c → new.mode ≡ held.Serves s
    → ((ts : List OpenTask) → Holds see (life_in script c h.incarnation) o ts → Speaks see (life_in script c h.incarnation) h.log.sent.items new.log.sent.items h.count s new.count
    (delivers (life_in script c h.incarnation) (object_of o ts) e))
    → Moves see script h new (does script st e Delivers) st
delivers_moves see script h new st e o s c half is class mode to new_class new_mode speaks =
    let d : IsDelivery script st e = delivery_of script st e is in
    let at : IsIdleAt see script h st e o c = idle_at see script h st e o c half d class mode in
    let ob : seen.Object = object_of o at.tasks in
    subst (λ (k : Option ℕ). Moves see script h new (delivers_to script st k e) st) (sym (same_class see script h st e c half class))
    (delivered_moves see script h new st e s c (delivers (life_in script c st.front.incarnation) ob e) half (class_there see script h st e c half d class)
    (led_to script c st.front ob e at.mode)
    (subst (λ (m : Mode). MayDeliver st.front.incarnation m e) (sym d.mode) (d.eligible, d.fresh)) to new_class new_mode
    (subst (λ (i : ℕ). Speaks see (life_in script c i) h.log.sent.items new.log.sent.items h.count s new.count (delivers (life_in script c i) ob e)) half.incarnation
    (speaks at.tasks at.held))
    (delivered_gated see script h st e o c half d at class))

pub delivers_cut : {T : Type 0} (see : T → Paused) (script : Script) (h new : Half T) (st : Stood) (e : Event) (o : Object T) (c : ℕ)
    → IsHalf see script h st → doing script st e ≡ Delivers → class_after script h.class e ≡ Some c → h.mode ≡ held.Serves (state.Idle o)
    → IsDeliveredTo h new e
    → ((ts : List OpenTask) → Holds see (life_in script c h.incarnation) o ts → IsPrefix new.log.sent.items (h.log.sent.items ++ numbered h.incarnation (1 + h.count)
    (said_by (delivers (life_in script c h.incarnation) (object_of o ts) e))))
    → IsCut script h.log new.log (does script st e Delivers) st
delivers_cut see script h new st e o c half is class mode to prefix =
    let d : IsDelivery script st e = delivery_of script st e is in
    let at : IsIdleAt see script h st e o c = idle_at see script h st e o c half d class mode in
    let ob : seen.Object = object_of o at.tasks in
    subst (λ (k : Option ℕ). IsCut script h.log new.log (delivers_to script st k e) st) (sym (same_class see script h st e c half class))
    (delivered_cut see script h new st e c (delivers (life_in script c st.front.incarnation) ob e) half
    (led_to script c st.front ob e at.mode)
    (subst (λ (m : Mode). MayDeliver st.front.incarnation m e) (sym d.mode) (d.eligible, d.fresh)) to
    (subst (λ (i : ℕ). IsPrefix new.log.sent.items (h.log.sent.items ++ numbered i (1 + h.count) (said_by (delivers (life_in script c i) ob e)))) half.incarnation
    (prefix at.tasks at.held)))

-- What a wish for a mounting leaves.
pub record IsWantedBy {T : Type 0} (h new : Half T) : Type 0 where
  pub class : new.class ≡ h.class
  pub incarnation : new.incarnation ≡ h.incarnation
  pub due : new.due ≡ h.due
  pub deferred : new.deferred ≡ h.deferred
  pub stuck : new.stuck ≡ h.stuck
  pub first_delivered : new.first_delivered ≡ h.first_delivered
  pub first_sent : new.first_sent ≡ h.first_sent
  pub delivered : new.log.delivered.items ≡ h.log.delivered.items
  pub dropped : new.log.dropped.items ≡ h.log.dropped.items
  pub downed : new.log.downed.items ≡ h.log.downed.items
  pub ends : new.log.ends.items ≡ h.log.ends.items

wanted_half : {T : Type 0} (see : T → Paused) (script : Script) (h new : Half T) (st : Stood) (e : Event)
    → IsHalf see script h st → IsWantedBy h new → new.mode ≡ held.Down (Some e) → new.count ≡ h.count + 1
    → new.log.sent.items ≡ h.log.sent.items ++ numbered h.incarnation (1 + h.count) (body.Mend ∷ [])
    → IsHalf see script new (record st { front = record (says_more st.front (body.Mend ∷ [])) { mode = down (Some e) } })
wanted_half {T} see script h new st e half to mode count sent = record {
  class = to.class ∙ half.class;
  known = half.known;
  incarnation = to.incarnation ∙ half.incarnation;
  count = count ∙ ap (λ (n : ℕ). n + 1) half.count ∙ sym (length-append st.front.said (body.Mend ∷ []));
  mode = λ d is. subst (λ (m : HeldMode T). IsMode see (life_in script d st.front.incarnation) m (down (Some e))) (sym mode) refl;
  gate = λ d is. tt;
  deferred = ap (λ (due : Option Event). option_to_list due ++ new.deferred) to.due
      ∙ ap (λ (xs : List Event). option_to_list h.due ++ xs) to.deferred ∙ half.deferred;
  stuck = to.stuck ∙ half.stuck;
  delivered_from = subst (λ (n : ℕ). n ≤ length new.log.delivered.items) (sym to.first_delivered)
      (subst (λ (xs : List (ℕ × Event)). h.first_delivered ≤ length xs) (sym to.delivered) half.delivered_from);
  sent_from = subst (λ (n : ℕ). n ≤ length new.log.sent.items) (sym to.first_sent) (inside_more _ _ _ _ half.sent_from sent);
  events = ap (λ (n : ℕ). map (λ d. d.1) (drop n new.log.delivered.items)) to.first_delivered
      ∙ ap (λ (xs : List (ℕ × Event)). map (λ d. d.1) (drop h.first_delivered xs)) to.delivered ∙ half.events;
  said = ap (λ (n : ℕ). map (λ x. x.body) (drop n new.log.sent.items)) to.first_sent
      ∙ logged_more (λ (x : Entry). x.body) h.first_sent h.log.sent.items new.log.sent.items (numbered h.incarnation (1 + h.count) (body.Mend ∷ [])) st.front.said (body.Mend ∷ [])
      half.sent_from sent half.said refl;
}

-- The entry of it, as the incarnation's next one.
mend_sent : (i j count : ℕ) (said : List Body) (old : List Entry) → i ≡ j → count ≡ length said
    → old ++ numbered i (1 + count) (body.Mend ∷ []) ≡ old ++ numbered j (1 + length said) (body.Mend ∷ [])
mend_sent i j count said old same counts =
    ap (λ (n : ℕ). old ++ numbered n (1 + count) (body.Mend ∷ [])) same ∙ numbered_on j count said (body.Mend ∷ []) old counts

pub wants_moves : {T : Type 0} (see : T → Paused) (script : Script) (h new : Half T) (st : Stood) (e : Event)
    → IsHalf see script h st → waits st.front.mode ≡ false → doing script st e ≡ Wants → IsWantedBy h new → new.mode ≡ held.Down (Some e) → new.count ≡ h.count + 1
    → new.log.sent.items ≡ h.log.sent.items ++ numbered h.incarnation (1 + h.count) (body.Mend ∷ [])
    → Moves see script h new (does script st e Wants) st
wants_moves see script h new st e half free is to mode count sent = let f : Front = st.front in record {
  half = wanted_half see script h new st e half to mode count sent;
  dropped = to.dropped ∙ sym (append-nil h.log.dropped.items);
  taken = λ d from taken is_class was.
      takes_one (kind_in script d) from taken (wanted e) f (numbered f.incarnation (1 + length f.said) (body.Mend ∷ [])) (fronted h.log) (fronted new.log)
      (mode_of_wanted script st e free is)
      (adds_on (kind_in script d) f (wanted e) (body.Mend ∷ []) refl refl (wanted_closes_none f f.mode e))
      (record {
        sent = sent ∙ mend_sent h.incarnation f.incarnation h.count f.said h.log.sent.items half.incarnation half.count;
        delivered = as_before _ _ _ to.delivered refl;
        downed = as_before _ _ _ to.downed (wanted_downs_none f.incarnation f.mode e);
        ends = as_before _ _ _ to.ends (wanted_ends_none f.mode e);
      }) was;
}

pub wants_cut : {T : Type 0} (see : T → Paused) (script : Script) (h new : Half T) (st : Stood) (e : Event)
    → IsHalf see script h st → waits st.front.mode ≡ false → doing script st e ≡ Wants → IsWantedBy h new
    → IsPrefix new.log.sent.items (h.log.sent.items ++ numbered h.incarnation (1 + h.count) (body.Mend ∷ []))
    → IsCut script h.log new.log (does script st e Wants) st
wants_cut see script h new st e half free is to prefix = let f : Front = st.front in inr (
  to.dropped ∙ sym (append-nil h.log.dropped.items),
  λ d from taken is_class was.
      cuts_one (kind_in script d) from taken (wanted e) f (numbered f.incarnation (1 + length f.said) (body.Mend ∷ [])) (fronted h.log) (fronted new.log)
      (mode_of_wanted script st e free is)
      (adds_on (kind_in script d) f (wanted e) (body.Mend ∷ []) refl refl (wanted_closes_none f f.mode e))
      (record {
        sent = subst (λ (all : List Entry). IsPrefix new.log.sent.items all)
            (mend_sent h.incarnation f.incarnation h.count f.said h.log.sent.items half.incarnation half.count) prefix;
        delivered = as_before _ _ _ to.delivered refl;
        downed = as_before _ _ _ to.downed (wanted_downs_none f.incarnation f.mode e);
        ends = as_before _ _ _ to.ends (wanted_ends_none f.mode e);
      }) was,
)

-- The class is known once an event is delivered.
pub is_known : (o : Option ℕ) (c : ℕ) → o ≡ Some c → IsSome o
is_known None c is = absurd (none-some c is)
is_known (Some k) c is = refl

pub will_be_known : {T : Type 0} (see : T → Paused) (script : Script) (h : Half T) (st : Stood) (e : Event) → IsHalf see script h st → doing script st e ≡ Delivers
    → (c : ℕ) × (class_after script h.class e ≡ Some c)
will_be_known see script h st e half is =
    let k = class_known script st.class e (delivery_of script st e is).fit in
    (k.0, ap (λ (x : Option ℕ). class_after script x e) half.class ∙ k.1)

-- Whatever becomes of the event, that is what is done with it.
pub as_done : {T : Type 0} (see : T → Paused) (script : Script) (h new : Half T) (st : Stood) (e : Event) (d : Doing) → doing script st e ≡ d
    → Moves see script h new (does script st e d) st → Moves see script h new (on_event script st e) st
as_done see script h new st e d is moves = subst (λ (x : Doing). Moves see script h new (does script st e x) st) (sym is) moves

pub as_cut : {T : Type 0} (script : Script) (h new : Half T) (st : Stood) (e : Event) (d : Doing) → doing script st e ≡ d
    → IsCut script h.log new.log (does script st e d) st → IsCut script h.log new.log (on_event script st e) st
as_cut script h new st e d is cut = subst (λ (x : Doing). IsCut script h.log new.log (does script st e x) st) (sym is) cut

-- The same of a call whose result is given on.
module _ {T X E : Type 0} (see : T → Paused) (script : Script) (h new : Half T) (e : Event) where
  pub delivers_done : (r : Result X E) → ((st : Stood) → IsHalf see script h st → doing script st e ≡ Delivers)
      → OnOk r ((st : Stood) → IsHalf see script h st → doing script st e ≡ Delivers → Moves see script h new (does script st e Delivers) st)
      → OnOk r ((st : Stood) → IsHalf see script h st → waits st.front.mode ≡ false → Moves see script h new (on_event script st e) st)
  delivers_done (Ok x) is moves = λ st half free. as_done see script h new st e Delivers (is st half) (moves st half (is st half))
  delivers_done (Err x) is moves = tt

  pub delivers_stopped : (r : Result X E) → ((st : Stood) → IsHalf see script h st → doing script st e ≡ Delivers)
      → OnErr r ((st : Stood) → IsHalf see script h st → doing script st e ≡ Delivers → IsCut script h.log new.log (does script st e Delivers) st)
      → OnErr r ((st : Stood) → IsHalf see script h st → waits st.front.mode ≡ false → IsCut script h.log new.log (on_event script st e) st)
  delivers_stopped (Ok x) is cut = tt
  delivers_stopped (Err x) is cut = λ st half free. as_cut script h new st e Delivers (is st half) (cut st half (is st half))

  pub wants_done : (r : Result X E) → ((st : Stood) → IsHalf see script h st → doing script st e ≡ Wants)
      → OnOk r ((any : Script) (st : Stood) → IsHalf see any h st → waits st.front.mode ≡ false → doing any st e ≡ Wants → Moves see any h new (does any st e Wants) st)
      → OnOk r ((st : Stood) → IsHalf see script h st → waits st.front.mode ≡ false → Moves see script h new (on_event script st e) st)
  wants_done (Ok x) is moves = λ st half free. as_done see script h new st e Wants (is st half) (moves script st half free (is st half))
  wants_done (Err x) is moves = tt

  pub wants_stopped : (r : Result X E) → ((st : Stood) → IsHalf see script h st → doing script st e ≡ Wants)
      → OnErr r ((any : Script) (st : Stood) → IsHalf see any h st → waits st.front.mode ≡ false → doing any st e ≡ Wants
      → IsCut any h.log new.log (does any st e Wants) st)
      → OnErr r ((st : Stood) → IsHalf see script h st → waits st.front.mode ≡ false → IsCut script h.log new.log (on_event script st e) st)
  wants_stopped (Ok x) is cut = tt
  wants_stopped (Err x) is cut = λ st half free. as_cut script h new st e Wants (is st half) (cut script st half free (is st half))

  pub kept_done : (d : Doing) (r : Result X E) → ((st : Stood) → IsHalf see script h st → doing script st e ≡ d)
      → OnOk r ((any : Script) (st : Stood) → IsHalf see any h st → Moves see any h new (does any st e d) st)
      → OnOk r ((st : Stood) → IsHalf see script h st → waits st.front.mode ≡ false → Moves see script h new (on_event script st e) st)
  kept_done d (Ok x) is moves = λ st half free. as_done see script h new st e d (is st half) (moves script st half)
  kept_done d (Err x) is moves = tt

  pub kept_stopped : (r : Result X E) → OnErr r (fronted new.log ≡ fronted h.log)
      → OnErr r ((st : Stood) → IsHalf see script h st → waits st.front.mode ≡ false → IsCut script h.log new.log (on_event script st e) st)
  kept_stopped (Ok x) same = tt
  kept_stopped (Err x) same = λ st half free. inl same

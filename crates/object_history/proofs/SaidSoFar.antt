-- What each incarnation of a pair has said begins what it says in all.
use Rattle.std.proofs.Common.{◌≡◌, ◌∙◌, ap, sym, subst, refl, inl, inr, ℕ, suc, ◌<◌, List, [], ◌∷◌, ◌++◌, append-nil, append_assoc, length, map, take, drop, arith}
use Rattle.std.proofs.lemmas.List.{map-append, take-append-drop}
use Rattle.std.proofs.lemmas.List.Elements.{filter-append, All-append, All-map}
use Rattle.std.specs.Prelude.{◌==◌}
use Rattle.std.specs.List.{All, flat_map}
use Rattle.storage_map.specs.Contents.{Contents}
use Rattle.timeline.specs.Headline.{AreSaid, IsPrefix, IsSoFar, down_said, missed_of, parts_of}
use Rattle.timeline.specs.History.{History, of_number, entries_of, incarnation_at, incarnations, history, resets}
use Rattle.timeline.specs.Intake.{Kind, Front, life, numbered}
use Rattle.timeline.specs.Logs.{Fronted, Backed}
use Rattle.timeline.specs.Told.{Said, spoken, spoken_in, told}
use Rattle.timeline.specs.declared.back_log.Stop.{Stop}
use Rattle.timeline.specs.declared.caller.Cause.{Cause}
use Rattle.timeline.specs.declared.entry.Entry.{Entry}
use Rattle.timeline.specs.declared.event.Event.{Event}
use Rattle.timeline.specs.declared.notice.Notice.{Notice}
use Rattle.output_gate.proofs.Histories.{entries_none}
use Rattle.object_history.proofs.Entries.{entries_own, spoken_numbered, of_number_append, of_number_none, of_number_own, of_their_own}
use Rattle.object_history.proofs.Readings.{phase_now}
use Rattle.object_history.specs.Pair.{Rear, IsLogged, calls_down, failures, IsNewest, serving, falling, IsPhase, IsPair}
use Rattle.object_history.specs.Laws.{TellingTells}

-- the entries and the events of the front's incarnation are all that it has said and was delivered
pub entries_now : (f : Front) (front : Fronted) → IsLogged f front → entries_of f.incarnation front.sent ≡ numbered f.incarnation 1 f.said
entries_now f front logged =
    ap (λ (entries : List Entry). entries_of f.incarnation entries) logged.sent
    ∙ filter-append (λ (e : Entry). e.incarnation == f.incarnation) logged.closed (numbered f.incarnation 1 f.said)
    ∙ ap (λ (entries : List Entry). entries ++ entries_of f.incarnation (numbered f.incarnation 1 f.said)) (entries_none f.incarnation logged.closed logged.closed_before)
    ∙ entries_own f.incarnation 1 f.said

pub events_now : (f : Front) (front : Fronted) → IsLogged f front → of_number f.incarnation front.delivered ≡ f.events
events_now f front logged =
    ap (λ (items : List (ℕ × Event)). of_number f.incarnation items) logged.delivered
    ∙ of_number_append f.incarnation logged.gone (map (λ (e : Event). (f.incarnation, e)) f.events)
    ∙ ap (λ (events : List Event). events ++ of_number f.incarnation (map (λ (e : Event). (f.incarnation, e)) f.events))
    (of_number_none f.incarnation logged.gone logged.gone_before)
    ∙ of_number_own f.incarnation f.events

-- no entry of a later incarnation was sent
pub sent_until : (f : Front) (front : Fronted) → IsLogged f front → All (λ (e : Entry). e.incarnation < suc f.incarnation) front.sent
sent_until f front logged = subst (λ (entries : List Entry). All (λ (e : Entry). e.incarnation < suc f.incarnation) entries) (sym logged.sent)
    (All-append (λ (e : Entry). e.incarnation < suc f.incarnation) logged.closed (numbered f.incarnation 1 f.said)
    (λ i e is. omega (arith, logged.closed_before i e is))
    (of_their_own (λ (i : ℕ). i < suc f.incarnation) f.incarnation 1 f.said (omega arith)))

-- nor was an event delivered to one
pub delivered_until : (f : Front) (front : Fronted) → IsLogged f front → All (λ (d : ℕ × Event). d.0 < suc f.incarnation) front.delivered
delivered_until f front logged = subst (λ (items : List (ℕ × Event)). All (λ (d : ℕ × Event). d.0 < suc f.incarnation) items) (sym logged.delivered)
    (All-append (λ (d : ℕ × Event). d.0 < suc f.incarnation) logged.gone (map (λ (e : Event). (f.incarnation, e)) f.events)
    (λ i d less. omega (arith, logged.gone_before i d less))
    (All-map (λ (d : ℕ × Event). d.0 < suc f.incarnation) (λ (e : Event). (f.incarnation, e)) f.events (λ i e less. omega arith)))

-- three parts, of which the last one is told
pub three_parts : (before told : List Said) (first second : List Said) → before ≡ first ++ second → before ++ told ≡ flat_map (λ part. part) (first ∷ second ∷ told ∷ [])
three_parts before told first second is =
    ap (λ (said : List Said). said ++ told) is
    ∙ append_assoc first second told
    ∙ ap (λ (said : List Said). first ++ (second ++ said)) (sym (append-nil told))

-- what the front's incarnation has said begins its parts
newest_so_far : (tells : TellingTells) (k : Kind) (older : History) (start : Contents) (f : Front) (front : Fronted) (back : Backed) → IsNewest k older start f front back
    → IsSoFar (spoken_in (resets older) ∷ down_said (calls_down f front) (failures f back) ∷ told (life k f.incarnation) start f.events ∷ []) (spoken_in f.said)
newest_so_far tells k older start f front back (serving before t says_down) =
    let says = told (life k f.incarnation) start f.events in
    let prefix = tells.so_far k start before f t in
    (prefix.0, prefix.1 ∙ three_parts (spoken_in before) says (spoken_in (resets older)) (down_said (calls_down f front) (failures f back)) says_down.spoken)
newest_so_far tells k older start f front back (falling call mode is_call none says_down) =
    let says = told (life k f.incarnation) start f.events in
    (says, three_parts (spoken_in f.said) says (spoken_in (resets older)) (down_said (calls_down f front) (failures f back)) says_down.spoken)

-- The parts of an incarnation by its number, what it was delivered and what it has sent.
abbrev SaysSo : Kind → History → Contents → Fronted → Backed → ℕ → List Event → List Said → Type 0
SaysSo k older start front back number events said =
    IsSoFar (spoken_in (resets older) ∷ down_said (of_number number front.downed) (drop 1 (missed_of number back.downs))
    ∷ told (life k number) start events ∷ []) said

module _ (tells : TellingTells) (k : Kind) (opened : Contents) (f : Front) (front : Fronted) (rear : Rear) (line : List Entry) (notices : List Notice) (pair : IsPair k opened f front rear line notices) where
  pub said_until_now : AreSaid k.script k.class opened front rear.log (incarnations front rear.log (suc pair.below))
  said_until_now =
      let older : History = incarnations front rear.log pair.below in
      let events : List Event = of_number (suc pair.below) front.delivered in
      let by_number = newest_so_far tells k older pair.start f front rear.log pair.newest_said in
      let own : SaysSo k older pair.start front rear.log f.incarnation (of_number f.incarnation front.delivered) (spoken (entries_of f.incarnation front.sent)) =
      subst (λ (all : List Event). SaysSo k older pair.start front rear.log f.incarnation all (spoken (entries_of f.incarnation front.sent))) (sym (events_now f front pair.logged))
      (subst (λ (said : List Said). SaysSo k older pair.start front rear.log f.incarnation f.events said)
      (sym (ap spoken (entries_now f front pair.logged) ∙ spoken_numbered f.incarnation 1 f.said)) by_number) in
      let numbered_so : SaysSo k older pair.start front rear.log (suc pair.below) events (spoken (entries_of (suc pair.below) front.sent)) =
      subst (λ (n : ℕ). SaysSo k older pair.start front rear.log n (of_number n front.delivered) (spoken (entries_of n front.sent))) pair.number own in
      (subst (λ (start : Contents). SaysSo k older start front rear.log (suc pair.below) events (spoken (entries_of (suc pair.below) front.sent))) pair.starts numbered_so, pair.older_said)

  -- the one after it has said nothing yet
  pub silent_next : spoken (entries_of (suc (suc pair.below)) front.sent) ≡ []
  silent_next = ap spoken (ap (λ (n : ℕ). entries_of n front.sent) (sym (ap suc pair.number)) ∙ entries_none (suc f.incarnation) front.sent (sent_until f front pair.logged))

  said_until_next : AreSaid k.script k.class opened front rear.log (incarnations front rear.log (suc (suc pair.below)))
  said_until_next =
      let parts = parts_of k.script k.class opened front rear.log (incarnation_at front rear.log (suc pair.below)) (incarnations front rear.log (suc pair.below)) in
      (subst (λ (said : List Said). IsSoFar parts said) (sym silent_next) (flat_map (λ part. part) parts, refl), said_until_now)

  said_at : (n : ℕ) → length rear.log.stops ≡ n → AreSaid k.script k.class opened front rear.log (incarnations front rear.log (suc n))
      → AreSaid k.script k.class opened front rear.log (history front rear.log)
  said_at n stops said = subst (λ (m : ℕ). AreSaid k.script k.class opened front rear.log (incarnations front rear.log (suc m))) (sym stops) said

  by_phase : IsPhase opened pair.below pair.start f front rear pair.lined.unread pair.lined.late notices
      → AreSaid k.script k.class opened front rear.log (history front rear.log)
  by_phase (inl together) = said_at pair.below together.0 said_until_now
  by_phase (inr behind) = said_at (suc pair.below) behind.0 said_until_next

  pub all_said : AreSaid k.script k.class opened front rear.log (history front rear.log)
  all_said = by_phase (phase_now pair)

  -- the causes that the front knows are the first ones
  pub known_ends : IsPrefix front.ends (map (λ (stop : Stop). stop.cause) rear.log.stops)
  known_ends =
      let first : List Stop = take pair.below rear.log.stops in
      let rest : List Stop = drop pair.below rear.log.stops in (
        map (λ (stop : Stop). stop.cause) rest,
        ap (λ (causes : List Cause). causes ++ map (λ (stop : Stop). stop.cause) rest) pair.ends
            ∙ sym (map-append (λ (stop : Stop). stop.cause) first rest)
            ∙ ap (λ (stops : List Stop). map (λ (stop : Stop). stop.cause) stops) (take-append-drop pair.below rear.log.stops),
      )

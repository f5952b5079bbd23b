-- What an incarnation of a pair says begins with the failures that the one before it left, and is all that it says where its front waits
-- for nothing.
use Rattle.std.proofs.Common.{◌≡◌, ◌∙◌, ap, sym, subst, ℕ, suc, List, [], ◌∷◌, ◌++◌, append-nil, append_assoc, drop}
use Rattle.std.proofs.lemmas.Grind.{flat_map-append}
use Rattle.std.specs.List.{flat_map}
use Rattle.storage_map.specs.Contents.{Contents}
use Rattle.timeline.specs.Headline.{IsPrefix, down_said, missed_of, parts_of}
use Rattle.timeline.specs.History.{History, of_number, entries_of, incarnation_at, incarnations, resets}
use Rattle.timeline.specs.Intake.{Kind, Front, life}
use Rattle.timeline.specs.Laws.{IsAtRest}
use Rattle.timeline.specs.Logs.{Fronted, Backed}
use Rattle.timeline.specs.Told.{Said, said_by, spoken, spoken_in, told, asking}
use Rattle.timeline.specs.declared.entry.Entry.{Entry}
use Rattle.timeline.specs.declared.event.Event.{Event}
use Rattle.timeline.specs.declared.notice.Notice.{Notice}
use Rattle.object_history.proofs.Entries.{spoken_numbered}
use Rattle.object_history.proofs.SaidSoFar.{entries_now, events_now, three_parts}
use Rattle.object_history.specs.Laws.{TellingTells}
use Rattle.object_history.specs.Pair.{Rear, calls_down, failures, IsNewest, serving, falling, IsPair}

-- The failures come first.
newest_begins : (k : Kind) (older : History) (start : Contents) (f : Front) (front : Fronted) (back : Backed) → IsNewest k older start f front back
    → IsPrefix (spoken_in (resets older)) (spoken_in f.said)
newest_begins k older start f front back (serving before t says_down) =
    let first : List Said = spoken_in (resets older) in
    let down : List Said = down_said (calls_down f front) (failures f back) in
    let rest : List Said = spoken_in (t.told ++ asking t.state) in (
      down ++ rest,
      sym (append_assoc first down rest) ∙ ap (λ (said : List Said). said ++ rest) (sym says_down.spoken)
          ∙ sym (flat_map-append said_by before (t.told ++ asking t.state)) ∙ ap spoken_in (sym (t.said ∙ append_assoc before t.told (asking t.state))),
    )
newest_begins k older start f front back (falling call mode is_call none says_down) =
    (down_said (calls_down f front) (failures f back), sym says_down.spoken)

-- Where nothing is waited for, all is said.
newest_whole : (tells : TellingTells) (k : Kind) (older : History) (start : Contents) (f : Front) (front : Fronted) (back : Backed)
    → IsNewest k older start f front back → IsAtRest f.mode
    → spoken_in f.said
    ≡ flat_map (λ part. part)
    (spoken_in (resets older) ∷ down_said (calls_down f front) (failures f back) ∷ told (life k f.incarnation) start f.events ∷ [])
newest_whole tells k older start f front back (serving before t says_down) rests =
    let says : List Said = told (life k f.incarnation) start f.events in
    tells.whole k start before f t rests
    ∙ three_parts (spoken_in before) says (spoken_in (resets older)) (down_said (calls_down f front) (failures f back)) says_down.spoken
newest_whole tells k older start f front back (falling call mode is_call none says_down) rests =
    let says : List Said = told (life k f.incarnation) start f.events in
    let silent : says ≡ [] = ap (λ (events : List Event). told (life k f.incarnation) start events) none in
    sym (append-nil (spoken_in f.said)) ∙ ap (λ (said : List Said). spoken_in f.said ++ said) (sym silent)
    ∙ three_parts (spoken_in f.said) says (spoken_in (resets older)) (down_said (calls_down f front) (failures f back)) says_down.spoken

-- All that an incarnation says, by its number and what it was delivered.
abbrev IsAllOf : Kind → History → Contents → Fronted → Backed → ℕ → List Event → List Said → Type 0
IsAllOf k older start front back number events said =
    said ≡ flat_map (λ part. part)
    (spoken_in (resets older) ∷ down_said (of_number number front.downed) (drop 1 (missed_of number back.downs)) ∷ told (life k number) start events ∷ [])

module _ (k : Kind) (opened : Contents) (f : Front) (front : Fronted) (rear : Rear) (line : List Entry) (notices : List Notice) (pair : IsPair k opened f front rear line notices) where
  abbrev older : History
  older = incarnations front rear.log pair.below

  -- What is logged of it is what it said.
  said_now : spoken (entries_of (suc pair.below) front.sent) ≡ spoken_in f.said
  said_now =
      ap (λ (n : ℕ). spoken (entries_of n front.sent)) (sym pair.number) ∙ ap spoken (entries_now f front pair.logged)
      ∙ spoken_numbered f.incarnation 1 f.said

  pub pair_begins_so : IsPrefix (spoken_in (resets older)) (spoken (entries_of (suc pair.below) front.sent))
  pair_begins_so =
      subst (λ (said : List Said). IsPrefix (spoken_in (resets older)) said) (sym said_now)
      (newest_begins k older pair.start f front rear.log pair.newest_said)

  pub pair_is_whole : TellingTells → IsAtRest f.mode
      → spoken (entries_of (suc pair.below) front.sent)
      ≡ flat_map (λ part. part) (parts_of k.script k.class opened front rear.log (incarnation_at front rear.log pair.below) older)
  pair_is_whole tells rests =
      let events : List Event = of_number (suc pair.below) front.delivered in
      let said : List Said = spoken (entries_of (suc pair.below) front.sent) in
      let all : IsAllOf k older pair.start front rear.log f.incarnation f.events (spoken_in f.said) =
      newest_whole tells k older pair.start f front rear.log pair.newest_said rests in
      let logged : IsAllOf k older pair.start front rear.log f.incarnation (of_number f.incarnation front.delivered) said =
      subst (λ (x : List Event). IsAllOf k older pair.start front rear.log f.incarnation x said) (sym (events_now f front pair.logged))
      (subst (λ (x : List Said). IsAllOf k older pair.start front rear.log f.incarnation f.events x) (sym said_now) all) in
      let numbered_so : IsAllOf k older pair.start front rear.log (suc pair.below) events said =
      subst (λ (n : ℕ). IsAllOf k older pair.start front rear.log n (of_number n front.delivered) said) pair.number logged in
      subst (λ (start : Contents). IsAllOf k older start front rear.log (suc pair.below) events said) pair.starts numbered_so

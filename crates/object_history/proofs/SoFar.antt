-- What a front has said, where its answers were those of its map, begins what is told over it.
use Rattle.std.proofs.Common.{◌≡◌, ◌∙◌, sym, refl, ap, subst, ℕ, List, [], ◌∷◌, ◌++◌, append_assoc, append-nil}
use Rattle.std.proofs.lemmas.Grind.{flat_map-append}
use Rattle.storage_map.specs.Contents.{Contents}
use Rattle.timeline.proofs.Bounds.{fits, told_ends}
use Rattle.timeline.proofs.Mapped.{front_begins_told, front_tells_all}
use Rattle.timeline.specs.Headline.{IsPrefix}
use Rattle.timeline.specs.Intake.{Kind, Front, life, serves, Taken, delivered, noticed, wanted, front_after, events_in}
use Rattle.timeline.specs.Laws.{IsAtRest, AreTheMaps, FitsMap, told_up}
use Rattle.timeline.specs.Object.{Life, State, idle, waiting, ended, begun}
use Rattle.timeline.specs.Steps.{delivers, answers}
use Rattle.timeline.specs.Told.{by_map, told_from, asking, all_said, said_by, spoken_in, told, told_bodies, stored_answer}
use Rattle.timeline.specs.declared.entry.Body.{Body}
use Rattle.timeline.specs.declared.event.Event.{Event}
use Rattle.object_history.proofs.GoingOn.{stored}
use Rattle.object_history.specs.Telling.{begins_at, Tells}

abbrev front : ℕ → List Event → List Body → State → Front
front i es said state = record { incarnation = i; events = es; said = said; mode = serves state }

-- Where each answer is the map's, an event that is taken finds an idle object: all that were taken were delivered.
events_taken : (k : Kind) (i : ℕ) (taken : List Taken) (es : List Event) (said : List Body) (m : Contents) (state : State)
    → AreTheMaps (life k i) m state taken → (front_after k (front i es said state) taken).events ≡ es ++ events_in taken
events_taken k i [] es said m state are = sym (append-nil es)
events_taken k i (delivered e ∷ taken) es said m (idle o) are =
    let step = delivers (life k i) o e in
    events_taken k i taken (es ++ e ∷ []) ((said ++ step.says) ++ asking step.state) _ step.state are ∙ append_assoc es (e ∷ []) (events_in taken)
events_taken k i (noticed x ∷ taken) es said m (waiting o t b) are =
    let a = stored_answer m b in
    let step = answers (life k i) o t a in
    ap (λ (f : Front). (front_after k f taken).events) (stored k (front i es said (waiting o t b)) x a are.0)
    ∙ events_taken k i taken es ((said ++ step.says) ++ asking step.state) _ step.state are.1
events_taken k i (delivered e ∷ taken) es said m (waiting o t b) are = absurd are
events_taken k i (delivered e ∷ taken) es said m (ended c) are = absurd are
events_taken k i (noticed x ∷ taken) es said m (idle o) are = absurd are
events_taken k i (noticed x ∷ taken) es said m (ended c) are = absurd are
events_taken k i (wanted e ∷ taken) es said m (idle o) are = absurd are
events_taken k i (wanted e ∷ taken) es said m (waiting o t b) are = absurd are
events_taken k i (wanted e ∷ taken) es said m (ended c) are = absurd are

-- An object that is at rest waits for no entry.
rest_asks : (state : State) → IsAtRest (serves state) → asking state ≡ []
rest_asks (idle o) rest = refl
rest_asks (waiting o t b) rest = absurd rest
rest_asks (ended c) rest = refl

-- So nothing is waited for at the end of what is told.
told_is_said : (l : Life) (start : Contents) (events : List Event)
    → all_said (told_up 0 l start (idle (begun start.alarm)) events) ≡ told_bodies l start events
told_is_said l start events =
    let r = told_from by_map l start (idle (begun start.alarm)) events in
    ap (λ (asked : List Body). r.says ++ asked) (rest_asks r.state (told_ends l start (idle (begun start.alarm)) events tt)) ∙ append-nil r.says

-- What is spoken in a beginning begins what is spoken.
spoken_begins : (xs ys : List Body) → IsPrefix xs ys → IsPrefix (spoken_in xs) (spoken_in ys)
spoken_begins xs ys prefix = (spoken_in prefix.0, sym (flat_map-append said_by xs prefix.0) ∙ ap spoken_in prefix.1)

module _ (k : Kind) (start : Contents) (before : List Body) (f : Front) (so_far : Tells k start before f) where
  abbrev begun_life : Life
  begun_life = life k f.incarnation

  are_the_maps : AreTheMaps begun_life start (idle (begun start.alarm)) so_far.taken
  are_the_maps = subst (λ (taken : List Taken). AreTheMaps begun_life start (idle (begun start.alarm)) taken) (append-nil so_far.taken) (so_far.goes [] tt)

  pub fit_the_map : FitsMap 0 begun_life start (idle (begun start.alarm)) so_far.taken
  fit_the_map = fits 0 begun_life start (idle (begun start.alarm)) so_far.taken tt are_the_maps

  -- The events that it has are those that it took.
  pub same_events : events_in so_far.taken ≡ f.events
  same_events =
      sym (events_taken k f.incarnation so_far.taken [] (before ++ []) start (idle (begun start.alarm)) are_the_maps)
      ∙ ap (λ (g : Front). g.events) so_far.at

  said_at : (front_after k (begins_at f.incarnation before start) so_far.taken).said ≡ f.said
  said_at = ap (λ (g : Front). g.said) so_far.at

  -- What is told to them, behind what was said before.
  abbrev in_all : List Body
  in_all = before ++ all_said (told_up 0 begun_life start (idle (begun start.alarm)) (events_in so_far.taken))

  spoken_in_all : spoken_in in_all ≡ spoken_in before ++ told begun_life start f.events
  spoken_in_all =
      ap (λ (bodies : List Body). spoken_in (before ++ bodies))
      (told_is_said begun_life start (events_in so_far.taken) ∙ ap (told_bodies begun_life start) same_events)
      ∙ flat_map-append said_by before (told_bodies begun_life start f.events)

  pub tells_so_far : IsPrefix (spoken_in f.said) (spoken_in before ++ told begun_life start f.events)
  tells_so_far =
      subst (λ whole. IsPrefix (spoken_in f.said) whole) spoken_in_all
      (spoken_begins f.said in_all (subst (λ (said : List Body). IsPrefix said in_all) said_at
      (front_begins_told k f.incarnation [] before 0 start (idle (begun start.alarm)) so_far.taken fit_the_map)))

  pub tells_whole : IsAtRest f.mode → spoken_in f.said ≡ spoken_in before ++ told begun_life start f.events
  tells_whole rest =
      ap spoken_in (sym said_at
      ∙ front_tells_all k f.incarnation [] before 0 start (idle (begun start.alarm)) so_far.taken fit_the_map
      (subst (λ (g : Front). IsAtRest g.mode) (sym so_far.at) rest))
      ∙ spoken_in_all

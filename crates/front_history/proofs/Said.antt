-- What each incarnation has said, as the front's log is, begins what it says in all.
use Rattle.std.proofs.Common.{◌≡◌, ◌∙◌, ap, sym, subst, refl, inl, inr, ℕ, zero, suc, ◌≤◌, List, [], ◌∷◌, ◌++◌, append-nil, append_assoc, length, arith}
use Rattle.std.proofs.lemmas.List.{map-append}
use Rattle.std.proofs.lemmas.List.Elements.{filter-append}
use Rattle.std.proofs.lemmas.Grind.{flat_map-append}
use Rattle.std.specs.Prelude.{true, ◌==◌}
use Rattle.std.specs.List.{All, flat_map}
use Rattle.storage_map.specs.Contents.{Contents}
use Rattle.timeline.specs.Headline.{AreHalted, AreSaid, IsSoFar, RestsUnmounted, parts_of}
use Rattle.timeline.specs.History.{History, entries_of, incarnation_at, incarnations, history, said_in}
use Rattle.timeline.specs.Intake.{Kind, Front, numbered}
use Rattle.timeline.specs.Logs.{Fronted, Backed, fronted}
use Rattle.timeline.specs.Passed.{is_mounted, is_said_down}
use Rattle.timeline.specs.Told.{Said, said_by, spoken}
use Rattle.timeline.specs.declared.entry.Body.{Body}
use Rattle.timeline.specs.declared.entry.Entry.{Entry}
use Rattle.timeline.specs.declared.notice.Notice.{Notice}
use Rattle.front_half.specs.Standing.{Stood}
use Rattle.front_half.specs.declared.half.Half.{Half}
use Rattle.object_history.proofs.Readings.{phase_now}
use Rattle.object_history.proofs.Alike.{same_halted}
use Rattle.object_history.proofs.Entries.{all_front}
use Rattle.object_history.proofs.OlderFronts.{AreSameTo, entries_other, older_same, said_same}
use Rattle.object_history.proofs.SaidSoFar.{said_until_now, silent_next}
use Rattle.object_history.specs.Laws.{AreSaidSo, TellingTells, PairIsSaid}
use Rattle.object_history.specs.Pair.{Rear, IsPhase, IsPair}
use Rattle.object_history.specs.Stepping.{IsRear}
use Rattle.front_history.specs.Paired.{ArePaired, logged_with}

-- Entries of a number before others.
entries_first : (i : ℕ) (sent unsent : List Entry) → entries_of i (sent ++ unsent) ≡ entries_of i sent ++ entries_of i unsent
entries_first i sent unsent = filter-append (λ (e : Entry). e.incarnation == i) sent unsent

-- What is said first begins what is said in all.
first_so_far : (parts : List (List Said)) (sent unsent : List Entry) → IsSoFar parts (spoken (sent ++ unsent)) → IsSoFar parts (spoken sent)
first_so_far parts sent unsent so_far =
    let by : Entry → List Said = λ e. said_by e.body in (
      spoken unsent ++ so_far.0,
      sym (append_assoc (spoken sent) (spoken unsent) so_far.0)
          ∙ ap (λ (said : List Said). said ++ so_far.0) (sym (flat_map-append by sent unsent)) ∙ so_far.1,
    )

-- Nothing stands before nothing.
none_first : {X : Type 0} (first last : List X) → first ++ last ≡ [] → first ≡ []
none_first {X} [] last none = refl
none_first {X} (x ∷ first) last none = absurd (omega (arith, ap (λ (xs : List X). length xs) none))

-- Where a turn has ended an incarnation, whatever of it was sent.
all_halted : (k : Kind) (opened : Contents) (log : Fronted) (unsent : List Entry) (back : Backed)
    → AreHalted k.script k.class opened (history (logged_with log unsent) back) → AreHalted k.script k.class opened (history log back)
all_halted k opened log unsent back halted =
    same_halted (logged_with log unsent) log back back k.script k.class opened (suc (length back.stops))
    (λ index less. record { delivered = refl; stop = refl; taken = λ b has. has }) (λ index less. refl) halted

-- And where the newest one isn't mounted.
same_mounted : (front new : Fronted) (back : Backed) (n : ℕ) → is_mounted (incarnations front back n) ≡ is_mounted (incarnations new back n)
same_mounted front new back zero = refl
same_mounted front new back (suc n) = refl

first_rests : (log : Fronted) (unsent : List Entry) (back : Backed) → RestsUnmounted (history (logged_with log unsent) back)
    → RestsUnmounted (history log back)
first_rests log unsent back rests none =
    let n : ℕ = suc (length back.stops) in
    let down : Body → Type 0 = λ b. is_said_down b ≡ true in
    let was = rests (same_mounted (logged_with log unsent) log back (length back.stops) ∙ none) in (
      was.0,
      all_front down (said_in (entries_of n log.sent)) (said_in (entries_of n unsent))
          (subst (λ (bodies : List Body). All down bodies)
          (ap said_in (entries_first n log.sent unsent) ∙ map-append (λ (e : Entry). e.body) (entries_of n log.sent) (entries_of n unsent)) was.1),
    )

module _ (tells : TellingTells) (k : Kind) (opened : Contents) (f : Front) (log : Fronted) (unsent : List Entry) (number : ℕ) (bodies : List Body)
    (own : unsent ≡ numbered f.incarnation number bodies) (rear : Rear) (line : List Entry) (notices : List Notice)
    (pair : IsPair k opened f (logged_with log unsent) rear line notices) where
  abbrev whole : Fronted
  whole = logged_with log unsent

  -- The incarnations before are as they are logged.
  before_now : (i : ℕ) → i ≤ pair.below → entries_of i log.sent ≡ entries_of i whole.sent
  before_now i within =
      sym (
      entries_first i log.sent unsent
      ∙ ap (λ (entries : List Entry). entries_of i log.sent ++ entries)
      (ap (λ (entries : List Entry). entries_of i entries) own ∙ entries_other i f.incarnation number bodies (λ differs. omega (arith, differs, within, pair.number)))
      ∙ append-nil (entries_of i log.sent)
      )

  same : AreSameTo pair.below whole log
  same = record { delivered = λ i within. refl; sent = before_now; downed = λ i within. refl }

  -- The newest one has said the first of what it would have.
  now_said : AreSaid k.script k.class opened log rear.log (incarnations log rear.log (suc pair.below))
  now_said =
      let all = said_until_now tells k opened f whole rear line notices pair in
      let i = incarnation_at log rear.log pair.below in
      let older_is : incarnations log rear.log pair.below ≡ incarnations whole rear.log pair.below = older_same pair.below whole log same rear.log pair.below (omega arith) in
      let n : ℕ = suc pair.below in
      let parts : History → List (List Said) = λ older. parts_of k.script k.class opened log rear.log i older in
      let so_far : IsSoFar (parts (incarnations whole rear.log pair.below)) (spoken (entries_of n log.sent ++ entries_of n unsent)) =
      subst (λ (entries : List Entry). IsSoFar (parts (incarnations whole rear.log pair.below)) (spoken entries)) (entries_first n log.sent unsent) all.0 in (
        subst (λ (older : History). IsSoFar (parts older) (spoken (entries_of n log.sent))) (sym older_is)
            (first_so_far (parts (incarnations whole rear.log pair.below)) (entries_of n log.sent) (entries_of n unsent) so_far),
        said_same pair.below whole log same rear.log k.script k.class opened pair.below (omega arith) all.1,
      )

  -- The one after it has said nothing yet.
  next_said : AreSaid k.script k.class opened log rear.log (incarnations log rear.log (suc (suc pair.below)))
  next_said =
      let n : ℕ = suc (suc pair.below) in
      let parts = parts_of k.script k.class opened log rear.log (incarnation_at log rear.log (suc pair.below)) (incarnations log rear.log (suc pair.below)) in
      let none : spoken (entries_of n log.sent) ++ spoken (entries_of n unsent) ≡ [] =
      sym (flat_map-append (λ (e : Entry). said_by e.body) (entries_of n log.sent) (entries_of n unsent))
      ∙ ap spoken (sym (entries_first n log.sent unsent)) ∙ silent_next tells k opened f whole rear line notices pair in (
        subst (λ (said : List Said). IsSoFar parts said) (sym (none_first (spoken (entries_of n log.sent)) (spoken (entries_of n unsent)) none))
            (flat_map (λ part. part) parts, refl),
        now_said,
      )

  said_at : (n : ℕ) → length rear.log.stops ≡ n → AreSaid k.script k.class opened log rear.log (incarnations log rear.log (suc n))
      → AreSaid k.script k.class opened log rear.log (history log rear.log)
  said_at n stops said = subst (λ (m : ℕ). AreSaid k.script k.class opened log rear.log (incarnations log rear.log (suc m))) (sym stops) said

  by_phase : IsPhase opened pair.below pair.start f whole rear pair.lined.unread pair.lined.late notices
      → AreSaid k.script k.class opened log rear.log (history log rear.log)
  by_phase (inl together) = said_at pair.below together.0 now_said
  by_phase (inr behind) = said_at (suc pair.below) behind.0 next_said

  pub all_said : AreSaid k.script k.class opened log rear.log (history log rear.log)
  all_said = by_phase (phase_now pair)

pub is_said : {T : Type 0} (tells : TellingTells) (pair_said : PairIsSaid) (k : Kind) (opened : Contents) (st : Stood) (half : Half T) (rear : Rear)
    (line : List Entry) (notices : List Notice) → IsRear opened rear → ArePaired k opened st half rear line notices
    → AreSaidSo k opened (fronted half.log) rear.log
is_said {T} tells pair_said k opened st half rear line notices known paired =
    let log : Fronted = fronted half.log in
    let entries : List Entry = line ++ paired.unsent in
    let given : List Notice = paired.missed ++ notices in
    let whole : AreSaidSo k opened (logged_with log paired.unsent) rear.log =
    pair_said k opened paired.front (logged_with log paired.unsent) rear entries given known paired.pair in
    record {
      said = all_said tells k opened paired.front log paired.unsent paired.number paired.bodies paired.own rear entries given paired.pair;
      halted = all_halted k opened log paired.unsent rear.log whole.halted;
      mounted = whole.mounted;
      unmounted = first_rests log paired.unsent rear.log whole.unmounted;
      ends = whole.ends;
    }

-- What stays of a pair where its back makes a step.
use Rattle.std.proofs.Common.{◌≡◌, ◌∙◌, ap, sym, subst, refl, ⊎_elim, ℕ, suc, ◌<◌, ◌≤◌, List, [], ◌∷◌, ◌++◌, append-nil, length, map, take, drop, arith}
use Rattle.std.proofs.lemmas.Bool.{ne_eqb}
use Rattle.std.proofs.lemmas.List.Elements.{All-head, All-tail, filter-append, All-nil}
use Rattle.std.specs.Prelude.{Bool, cond, ◌==◌, slice_get}
use Rattle.std.specs.List.{All, Contains}
use Rattle.storage_map.specs.Contents.{Contents}
use Rattle.timeline.specs.Headline.{down_said, missed_of}
use Rattle.timeline.specs.History.{History, entries_of, incarnation_at, incarnations, resets, start_after, said_in}
use Rattle.timeline.specs.Intake.{Kind, Front}
use Rattle.timeline.specs.Logs.{Fronted, Backed}
use Rattle.timeline.specs.Told.{spoken_in, written}
use Rattle.timeline.specs.declared.back_log.Missed.{Missed}
use Rattle.timeline.specs.declared.back_log.Stop.{Stop}
use Rattle.timeline.specs.declared.entry.Body.{Body}
use Rattle.timeline.specs.declared.entry.Body.TheVariants as body
use Rattle.timeline.specs.declared.entry.Entry.{Entry}
use Rattle.timeline.specs.declared.notice.Notice.{Notice}
use Rattle.output_gate.proofs.Histories.{entries_none}
use Rattle.object_history.proofs.Alike.{IsAlike, IsKeptAlike, same_halted, same_start, same_resets, same_said, still_taken}
use Rattle.object_history.proofs.Entries.{all_front}
use Rattle.object_history.proofs.SaidSoFar.{sent_until}
use Rattle.object_history.specs.Pair.{Held, Stand, Rear, IsLogged, IsLine, calls_down, failures, SaysDown, IsNewest, serving, falling, Together, unreached, answered, syncs, halts, read_fails, falls, wants, mends, misses, silent, IsNews, fallen_once, Behind, IsPhase, IsPair, IsReading}
use Rattle.object_history.specs.Stepping.{IsRear, AreGiven}

-- What an incarnation said before it served is the same where the failures are.
pub same_down : (older new_older : History) (f : Front) (front : Fronted) (back new_back : Backed) (bodies : List Body)
    → resets new_older ≡ resets older → missed_of f.incarnation new_back.downs ≡ missed_of f.incarnation back.downs
    → SaysDown older f front back bodies → SaysDown new_older f front new_back bodies
same_down older new_older f front back new_back bodies reset missed said_down =
    let fails : failures f new_back ≡ failures f back = ap (λ (all : List Missed). drop 1 all) missed in
    record {
      silent = said_down.silent;
      calls = said_down.calls;
      enough = subst (λ (all : List Missed). length (calls_down f front) ≤ length all) (sym fails) said_down.enough;
      spoken = said_down.spoken
          ∙ ap (λ (bodies : List Body). spoken_in bodies ++ down_said (calls_down f front) (failures f back)) (sym reset)
          ∙ ap (λ (all : List Missed). spoken_in (resets new_older) ++ down_said (calls_down f front) all) (sym fails);
      down = said_down.down;
    }

pub same_newest : (k : Kind) (older new_older : History) (start : Contents) (f : Front) (front : Fronted) (back new_back : Backed)
    → resets new_older ≡ resets older → missed_of f.incarnation new_back.downs ≡ missed_of f.incarnation back.downs
    → IsNewest k older start f front back → IsNewest k new_older start f front new_back
same_newest k older new_older start f front back new_back reset missed (serving before t said_down) =
    serving before t (same_down older new_older f front back new_back before reset missed said_down)
same_newest k older new_older start f front back new_back reset missed (falling call mode is_call none said_down) =
    falling call mode is_call none (same_down older new_older f front back new_back f.said reset missed said_down)

-- the two halves stand together as they did, where no mounting failed
pub same_together : (start : Contents) (f : Front) (front : Fronted) (back new_back : Backed) (unread : List Body) (before : ℕ) (stand : Stand) (held : List Held)
    (notices : List Notice) → missed_of f.incarnation new_back.downs ≡ missed_of f.incarnation back.downs
    → Together start f front back unread before stand held notices → Together start f front new_back unread before stand held notices
same_together start f front back new_back unread before stand held notices missed (unreached state mode is) = unreached state mode is
same_together start f front back new_back unread before stand held notices missed (answered n answer none) = answered n answer none
same_together start f front back new_back unread before stand held notices missed (syncs o t mode none) = syncs o t mode none
same_together start f front back new_back unread before stand held notices missed (halts c mode none some) = halts c mode none some
same_together start f front back new_back unread before stand held notices missed (read_fails o t a free counts_before counts_after mode none) =
    read_fails o t a free counts_before counts_after mode none
same_together start f front back new_back unread before stand held notices missed (falls call c mode is count) =
    falls call c mode is (ap (λ (all : List Missed). length all) missed ∙ count)
same_together start f front back new_back unread before stand held notices missed (wants call c mode none count) =
    wants call c mode none (ap (λ (all : List Missed). length all) missed ∙ count)
same_together start f front back new_back unread before stand held notices missed (mends call c i mode none) = mends call c i mode none
same_together start f front back new_back unread before stand held notices missed (misses call c again counts_before counts_after older mode none is count) =
    misses call c again counts_before counts_after older mode none (missed ∙ is) count
same_together start f front back new_back unread before stand held notices missed (silent _ none is) = silent stand none is

-- where each mounting that failed is of an earlier incarnation, or of another one than this
pub none_missed : (i : ℕ) (downs : List Missed) → All (λ (m : Missed). m.incarnation < i) downs → missed_of i downs ≡ []
none_missed i [] less = refl
none_missed i (m ∷ downs) less =
    let here : m.incarnation < i = All-head (λ (x : Missed). x.incarnation < i) m downs less in
    ap (λ (b : Bool). cond b (m ∷ missed_of i downs) (missed_of i downs)) (ne_eqb m.incarnation i (λ same. omega (arith, here, same)))
    ∙ none_missed i downs (All-tail (λ (x : Missed). x.incarnation < i) m downs less)

pub other_missed : (i : ℕ) (downs : List Missed) (m : Missed) → (m.incarnation ≡ i → ⊥) → missed_of i (downs ++ m ∷ []) ≡ missed_of i downs
other_missed i downs m other =
    filter-append (λ (x : Missed). x.incarnation == i) downs (m ∷ [])
    ∙ ap (λ (b : Bool). missed_of i downs ++ cond b (m ∷ []) []) (ne_eqb m.incarnation i other)
    ∙ append-nil (missed_of i downs)

-- nothing was taken of an incarnation that isn't the front's yet
pub none_taken : (f : Front) (front : Fronted) (taken line : List Entry) → IsLogged f front → IsLine f front taken line → entries_of (suc f.incarnation) taken ≡ []
none_taken f front taken line logged lined = entries_none (suc f.incarnation) taken
    (all_front (λ (e : Entry). e.incarnation < suc f.incarnation) taken line (subst (λ (all : List Entry). All (λ (e : Entry). e.incarnation < suc f.incarnation) all) lined.sent (sent_until f front logged)))

-- what a back's newest incarnation has written, on the map with which it started
pub map_written : (opened : Contents) (front : Fronted) (rear : Rear) (n : ℕ) → IsRear opened rear → length rear.log.stops ≡ n
    → rear.map ≡ written (start_after opened (incarnations front rear.log n)) (said_in (entries_of (suc n) rear.log.taken))
map_written opened front rear n known stops =
    subst (λ (m : ℕ). rear.map ≡ written (start_after opened (incarnations front rear.log m)) (said_in (entries_of (suc m) rear.log.taken))) stops
    (known.map front (incarnation_at front rear.log (length rear.log.stops)) (incarnations front rear.log (length rear.log.stops)) refl)

module _ (k : Kind) (opened : Contents) (f : Front) (front : Fronted) (rear : Rear) (old_line : List Entry) (old_notices : List Notice)
    (pair : IsPair k opened f front rear old_line old_notices) (later : Rear) (line : List Entry) (notices : List Notice) where
  -- The incarnations before the front's are as they were: all of each, or all but what was kept of the newest of them.
  abbrev pub AreAlike : Type 0
  AreAlike = (index : ℕ) → index < pair.below → IsAlike front front rear.log later.log index

  abbrev pub AreKept : Type 0
  AreKept = (index : ℕ) → index < pair.below → IsKeptAlike front front rear.log later.log index

  abbrev pub AreKeptButOne : Type 0
  AreKeptButOne = (index : ℕ) → suc index < pair.below → IsKeptAlike front front rear.log later.log index

  -- and nothing that was taken is gone
  abbrev pub TakesOn : Type 0
  TakesOn = (more : List Entry) × (later.log.taken ≡ rear.log.taken ++ more)

  taken_still : TakesOn → (i : ℕ) (b : Body) → Contains (said_in (entries_of i rear.log.taken)) b → Contains (said_in (entries_of i later.log.taken)) b
  taken_still on i b has =
      subst (λ (taken : List Entry). Contains (said_in (entries_of i taken)) b) (sym on.1) (still_taken i rear.log.taken on.0 b has)

  -- they are a pair again, from another map
  pub rebuilt_from : (start : Contents) → start ≡ start_after opened (incarnations front later.log pair.below) → AreAlike → AreKeptButOne → TakesOn
      → take pair.below later.log.stops ≡ take pair.below rear.log.stops
      → IsNewest k (incarnations front later.log pair.below) start f front later.log
      → (lined : IsLine f front later.log.taken line)
      → IsPhase opened pair.below start f front later lined.unread lined.late notices → IsPair k opened f front later line notices
  rebuilt_from start starts alike kept on stops newest_said lined phase = record {
    below = pair.below;
    number = pair.number;
    logged = pair.logged;
    lined = lined;
    ends = pair.ends ∙ ap (λ (all : List Stop). map (λ (stop : Stop). stop.cause) all) (sym stops);
    older_said = same_said front front rear.log later.log k.script k.class opened pair.below alike kept pair.older_said;
    older_halted = same_halted front front rear.log later.log k.script k.class opened pair.below
        (λ index less. let same = alike index less in record { delivered = refl; stop = same.stop; taken = taken_still on (suc index) }) kept pair.older_halted;
    start = start;
    starts = starts;
    newest_said = newest_said;
    gated = pair.gated;
    readings = [];
    rest = notices;
    under_way = refl;
    are_readings = All-nil (IsReading start f);
    phase = phase;
  }

  -- or from the same one
  pub rebuilt : AreAlike → AreKept → TakesOn → missed_of f.incarnation later.log.downs ≡ missed_of f.incarnation rear.log.downs
      → take pair.below later.log.stops ≡ take pair.below rear.log.stops
      → (lined : IsLine f front later.log.taken line)
      → IsPhase opened pair.below pair.start f front later lined.unread lined.late notices → IsPair k opened f front later line notices
  rebuilt alike kept on missed stops lined phase =
      rebuilt_from pair.start (pair.starts ∙ sym (same_start front front rear.log later.log opened pair.below kept)) alike
      (λ index less. kept index (omega (arith, less))) on stops
      (same_newest k (incarnations front rear.log pair.below) (incarnations front later.log pair.below) pair.start f front rear.log later.log
      (same_resets front front rear.log later.log pair.below alike) missed pair.newest_said)
      lined phase

-- The back is one ahead as it was, with these notices.
pub same_behind : (start next new_next : Contents) (below : ℕ) (f : Front) (unread : List Body) (rear later : Rear) (notices : List Notice)
    → new_next ≡ next → later.stand ≡ rear.stand → later.held ≡ rear.held → slice_get later.log.stops below ≡ slice_get rear.log.stops below
    → missed_of (suc f.incarnation) later.log.downs ≡ missed_of (suc f.incarnation) rear.log.downs → later.log.taken ≡ rear.log.taken
    → (late : List Entry) → Behind start next below f unread late rear notices → Behind start new_next below f unread late later notices
same_behind start next new_next below f unread rear later notices nexts stands helds stops missed taken late b = record {
  state = b.state;
  mode = b.mode;
  is_unread = b.is_unread;
  none_late = b.none_late;
  none_held = helds ∙ b.none_held;
  stop = b.stop;
  stopped = stops ∙ b.stopped;
  halted = λ by.
      let was = b.halted by in
      (was.0, subst (λ (all : List Entry). Contains (said_in (entries_of f.incarnation all)) (body.Halt b.stop.cause)) (sym taken) was.1);
  left = b.left;
  told = b.told;
  under_way = b.under_way;
  left_over = b.left_over;
  is_news = subst (λ (m : Contents). IsNews m (suc f.incarnation) b.stop.cause later.stand b.told) (sym nexts)
      (subst (λ (s : Stand). IsNews next (suc f.incarnation) b.stop.cause s b.told) (sym stands) b.is_news);
  fails = ap (λ (all : List Missed). length all) missed ∙ b.fails ∙ ap fallen_once (sym stands);
}

-- nothing more was told, or this was and it was given or lost
pub told_none : (P : List Notice → Type 0) (notices given : List Notice) → AreGiven [] given → P notices → P (notices ++ given)
told_none P notices given are holds =
    let none : given ≡ [] = ⊎_elim (λ (is : given ≡ []). is) (λ (is : given ≡ []). is) are in
    subst P (sym (ap (λ (more : List Notice). notices ++ more) none ∙ append-nil notices)) holds

pub told_one : (P : List Notice → Type 0) (notices given : List Notice) (n : Notice) → AreGiven (n ∷ []) given → P (notices ++ n ∷ []) → P notices → P (notices ++ given)
told_one P notices given n are gave lost = ⊎_elim
    (λ (is : given ≡ n ∷ []). subst (λ (more : List Notice). P (notices ++ more)) (sym is) gave)
    (λ (is : given ≡ []). subst P (sym (ap (λ (more : List Notice). notices ++ more) is ∙ append-nil notices)) lost)
    are

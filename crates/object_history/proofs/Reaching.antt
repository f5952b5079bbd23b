-- The two halves stand together where the back has taken the first entry that it hadn't taken.
use Rattle.std.proofs.Common.{◌≡◌, ◌∙◌, ap, sym, subst, refl, true, ℕ, suc, List, [], ◌∷◌, ◌++◌, length, arith, Some, None}
use Rattle.std.proofs.lemmas.List.{length_push}
use Rattle.std.proofs.lemmas.List.Elements.{All-tail, All-head}
use Rattle.std.specs.Prelude.{option_to_list}
use Rattle.std.specs.List.{All}
use Rattle.storage_map.specs.Contents.{Contents}
use Rattle.storage_map.specs.Readings.{reading}
use Rattle.storage_map.specs.declared.answer.Reading.TheVariants.{Count}
use Rattle.storage_map.specs.declared.ask.StoreAsk.{StoreAsk}
use Rattle.storage_map.specs.declared.ask.StoreAsk.TheVariants as ask
use Rattle.script_mean.specs.Answers.{is_answer}
use Rattle.script_mean.specs.declared.answer.Answer.TheVariants as answer
use Rattle.timeline.specs.Intake.{Front, Mode, serves}
use Rattle.timeline.specs.Logs.{Fronted, Backed}
use Rattle.timeline.specs.Object.{Object, OpenTask, State, idle, waiting, ended}
use Rattle.timeline.specs.Told.{counted, written}
use Rattle.timeline.specs.declared.caller.Cause.{Cause}
use Rattle.timeline.specs.declared.entry.Body.{Body}
use Rattle.timeline.specs.declared.entry.Body.TheVariants as body
use Rattle.timeline.specs.declared.notice.Notice.{Notice}
use Rattle.timeline.specs.declared.notice.Notice.TheVariants as notice
use Rattle.output_gate.specs.Taking.{notice_of}
use Rattle.object_history.proofs.Keeping.{told_none, told_one}
use Rattle.object_history.specs.Pair.{Held, sync, halt, Stand, mounted, awaited, IsUnread, IsSilentAt, Together, unreached, answered, syncs, halts, read_fails, falls, wants, mends, misses, silent}
use Rattle.object_history.specs.Saying.{is_asked, is_plain}
use Rattle.object_history.specs.Stepping.{AreGiven, holds, before_next}

-- a reading of a map answers what is asked
reading_fits : (m : Contents) (a : StoreAsk) → is_answer a (reading m a) ≡ true
reading_fits m (ask.Get key) = refl
reading_fits m (ask.GetMany keys) = refl
reading_fits m (ask.List options) = refl
reading_fits m ask.Alarm = refl

-- Without the first of them, these are still such that nothing is waited for but as the last: or that was it.
pub data Rest (m : Mode) (b : Body) (more : List Body) : Type 0 where
  goes_on : is_plain b ≡ true → IsUnread m more → Rest m b more
  was_last : b ∷ more ≡ awaited m → Rest m b more

pub rest_of : (m : Mode) (b : Body) (more : List Body) → IsUnread m (b ∷ more) → Rest m b more
rest_of m b more u = parts u.plain u.are_plain u.is
  where
    parts : (plain : List Body) → All (λ (x : Body). is_plain x ≡ true) plain → b ∷ more ≡ plain ++ awaited m → Rest m b more
    parts [] are is = was_last is
    parts (x ∷ plain) are is =
        let same : x ≡ b = cc in
        let rest : more ≡ plain ++ awaited m = cc in
        goes_on
        (subst (λ (y : Body). is_plain y ≡ true) same (All-head (λ (y : Body). is_plain y ≡ true) x plain are))
        (record { plain = plain; are_plain = All-tail (λ (y : Body). is_plain y ≡ true) x plain are; is = rest })

module _ (start : Contents) (f : Front) (front : Fronted) (back : Backed) (read : List Body) (n before : ℕ) (m : Contents) (given : List Notice) where
  -- What stands after an entry, by what it is.
  abbrev Reached : Body → List Body → Type 0
  Reached b more = Together start f front back more (before_next before b) mounted (holds n before b) given

  reached_plain : (state : State) (b : Body) (more : List Body) → f.mode ≡ serves state → is_plain b ≡ true → IsUnread f.mode more
      → AreGiven (option_to_list (notice_of n m b)) given → Reached b more
  reached_plain state (body.Batch ops None confirmed) more mode plain u are =
      told_none (λ (g : List Notice). Together start f front back more (suc before) mounted [] g) [] given are (unreached state mode u)
  reached_plain state (body.Message message) more mode plain u are =
      told_none (λ (g : List Notice). Together start f front back more before mounted [] g) [] given are (unreached state mode u)
  reached_plain state (body.Bind identity) more mode plain u are =
      told_none (λ (g : List Notice). Together start f front back more before mounted [] g) [] given are (unreached state mode u)
  reached_plain state (body.Batch ops (Some tail) confirmed) more mode plain u are = absurd cc
  reached_plain state (body.Ask asks free) more mode plain u are = absurd cc
  reached_plain state body.Sync more mode plain u are = absurd cc
  reached_plain state (body.Halt c) more mode plain u are = absurd cc
  reached_plain state body.Mend more mode plain u are = absurd cc

  module _ (o : Object) (t : OpenTask) (b : Body) (more : List Body) (mode : f.mode ≡ serves (waiting o t b)) (none : more ≡ []) (said : f.said ≡ read ++ b ∷ more)
      (number : n ≡ suc (length read)) (maps : m ≡ written start read) where
    last_said : f.said ≡ read ++ b ∷ []
    last_said = said ∙ ap (λ (bodies : List Body). read ++ b ∷ bodies) none

    is_length : n ≡ length f.said
    is_length = omega (arith, number, ap (λ (bodies : List Body). length bodies) last_said, length_push read b)

    no_more : (after : ℕ) → Together start f front back more after mounted [] []
    no_more after = silent mounted none (subst (λ (x : Mode). IsSilentAt x mounted) (sym mode) tt)

  reached_asked : (o : Object) (t : OpenTask) (b : Body) (more : List Body) → f.mode ≡ serves (waiting o t b) → more ≡ [] → f.said ≡ read ++ b ∷ more
      → n ≡ suc (length read) → m ≡ written start read → is_asked b ≡ true → AreGiven (option_to_list (notice_of n m b)) given → Reached b more
  reached_asked o t (body.Ask a free) more mode none said number maps asked are =
      let b : Body = body.Ask a free in
      told_one (λ (g : List Notice). Together start f front back more before mounted [] g) [] given (notice.Read n (reading m a)) are
      (answered (notice.Read n (reading m a)) (record {
        state = waiting o t b;
        mode = mode;
        fits = (is_length o t b more mode none said number maps, reading_fits m a);
        first = read;
        asked = b;
        said = last_said o t b more mode none said number maps;
        answer = ap (λ (c : Contents). answer.Read (reading c a) ∷ []) maps;
      }) none)
      (no_more o t b more mode none said number maps before)
  reached_asked o t (body.Batch ops (Some tail) confirmed) more mode none said number maps asked are =
      let b : Body = body.Batch ops (Some tail) confirmed in
      told_one (λ (g : List Notice). Together start f front back more (suc before) mounted [] g) [] given (notice.Taken n (counted m ops tail)) are
      (answered (notice.Taken n (counted m ops tail)) (record {
        state = waiting o t b;
        mode = mode;
        fits = is_length o t b more mode none said number maps;
        first = read;
        asked = b;
        said = last_said o t b more mode none said number maps;
        answer = ap (λ (c : Contents). answer.Read (Count (counted c ops tail)) ∷ []) maps;
      }) none)
      (no_more o t b more mode none said number maps (suc before))
  reached_asked o t body.Sync more mode none said number maps asked are =
      told_none (λ (g : List Notice). Together start f front back more before mounted (record { hold = sync n; needs = before } ∷ []) g) [] given are
      (subst (λ (at : ℕ). Together start f front back more before mounted (record { hold = sync at; needs = before } ∷ []) [])
      (sym (is_length o t body.Sync more mode none said number maps)) (syncs o t mode none))
  reached_asked o t (body.Batch ops None confirmed) more mode none said number maps asked are = absurd cc
  reached_asked o t (body.Message message) more mode none said number maps asked are = absurd cc
  reached_asked o t (body.Bind identity) more mode none said number maps asked are = absurd cc
  reached_asked o t (body.Halt c) more mode none said number maps asked are = absurd cc
  reached_asked o t body.Mend more mode none said number maps asked are = absurd cc

  reached_end : (c : Cause) (b : Body) (more : List Body) → f.mode ≡ serves (ended c) → b ≡ body.Halt c → more ≡ [] → f.said ≡ read ++ b ∷ more
      → AreGiven (option_to_list (notice_of n m b)) given → Reached b more
  reached_end c b more mode is none said = subst (λ (x : Body). AreGiven (option_to_list (notice_of n m x)) given → Reached x more) (sym is)
      (λ are. told_none (λ (g : List Notice). Together start f front back more before mounted (record { hold = halt c; needs = before } ∷ []) g) [] given are
      (halts c mode none (
        read,
        said ∙ ap (λ (rest : List Body). read ++ b ∷ rest) none ∙ ap (λ (x : Body). read ++ x ∷ []) is,
      )))

  -- by the state that the front is in
  reached_in : (state : State) (b : Body) (more : List Body) → f.mode ≡ serves state → Rest (serves state) b more → f.said ≡ read ++ b ∷ more
      → n ≡ suc (length read) → m ≡ written start read → ((o : Object) (t : OpenTask) (x : Body) → f.mode ≡ serves (waiting o t x) → is_asked x ≡ true)
      → AreGiven (option_to_list (notice_of n m b)) given → Reached b more
  reached_in state b more mode (goes_on plain u) said number maps asked are =
      reached_plain state b more mode plain (subst (λ (x : Mode). IsUnread x more) (sym mode) u) are
  reached_in (idle o) b more mode (was_last is) said number maps asked are = absurd cc
  reached_in (waiting o t x) b more mode (was_last is) said number maps asked are =
      let same : x ≡ b = cc in
      let none : more ≡ [] = cc in
      let now : f.mode ≡ serves (waiting o t b) = mode ∙ ap (λ (y : Body). serves (waiting o t y)) same in
      reached_asked o t b more now none said number maps (asked o t b now) are
  reached_in (ended c) b more mode (was_last is) said number maps asked are =
      let same : b ≡ body.Halt c = cc in
      let none : more ≡ [] = cc in
      reached_end c b more mode same none said are

-- Where the back is mounted, only an entry that wasn't reached can be taken.
pub reached : (start : Contents) (f : Front) (front : Fronted) (back new_back : Backed) (read : List Body) (n before : ℕ) (m : Contents) (b : Body) (more : List Body)
    (given : List Notice) (stand : Stand) (held : List Held) (notices : List Notice) → Together start f front back (b ∷ more) before stand held notices
    → stand ≡ mounted → f.said ≡ read ++ b ∷ more → n ≡ suc (length read) → m ≡ written start read
    → ((o : Object) (t : OpenTask) (x : Body) → f.mode ≡ serves (waiting o t x) → is_asked x ≡ true)
    → AreGiven (option_to_list (notice_of n m b)) given
    → Together start f front new_back more (before_next before b) stand (held ++ holds n before b) (notices ++ given)
reached start f front back new_back read n before m b more given _ _ _ (unreached state mode u) stand said number maps asked are =
    reached_in start f front new_back read n before m given state b more mode
    (subst (λ (x : Mode). Rest x b more) mode (rest_of f.mode b more u)) said number maps asked are
reached start f front back new_back read n before m b more given _ _ _ (answered x answer none) stand said number maps asked are = absurd cc
reached start f front back new_back read n before m b more given _ _ _ (syncs o t mode none) stand said number maps asked are = absurd cc
reached start f front back new_back read n before m b more given _ _ _ (halts c mode none some) stand said number maps asked are = absurd cc
reached start f front back new_back read n before m b more given _ _ _ (read_fails o t a free counts_before counts_after mode none) stand said number maps asked are = absurd cc
reached start f front back new_back read n before m b more given _ _ _ (falls call c mode u count) stand said number maps asked are = absurd cc
reached start f front back new_back read n before m b more given _ _ _ (wants call c mode none count) stand said number maps asked are = absurd cc
reached start f front back new_back read n before m b more given _ _ _ (mends call c i mode none) stand said number maps asked are = absurd cc
reached start f front back new_back read n before m b more given _ _ _ (misses call c again counts_before counts_after older mode none is count) stand said number maps asked are = absurd cc
reached start f front back new_back read n before m b more given _ _ _ (silent s none is) stand said number maps asked are = absurd cc

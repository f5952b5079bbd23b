-- A back that is mounted takes an ask of its newest incarnation, and its read fails.
use Rattle.std.proofs.Common.{◌≡◌, ◌∙◌, ap, sym, subst, refl, inl, ⊎_elim, ℕ, suc, List, [], ◌∷◌, ◌++◌, length, arith}
use Rattle.std.specs.Prelude.{Bool}
use Rattle.storage_map.specs.Contents.{Contents}
use Rattle.storage_map.specs.declared.ask.StoreAsk.{StoreAsk}
use Rattle.timeline.specs.Intake.{Kind, Front, Mode, serves}
use Rattle.timeline.specs.Logs.{Fronted, Backed}
use Rattle.timeline.specs.Object.{State, idle, waiting, ended}
use Rattle.timeline.specs.declared.caller.Cause.TheVariants as causes
use Rattle.timeline.specs.declared.entry.Body.{Body}
use Rattle.timeline.specs.declared.entry.Body.TheVariants as body
use Rattle.timeline.specs.declared.entry.Entry.{Entry}
use Rattle.timeline.specs.declared.notice.Notice.{Notice}
use Rattle.object_history.proofs.Entering.{entered_alike, kept_of_all, never_behind}
use Rattle.object_history.proofs.Heads.{Head, is_own, is_late, head_of, own_taken, late_is}
use Rattle.object_history.proofs.Keeping.{rebuilt, told_none}
use Rattle.object_history.proofs.Reaching.{Rest, goes_on, was_last, rest_of}
use Rattle.object_history.proofs.Readings.{phase_now}
use Rattle.object_history.specs.Pair.{Rear, Held, halt, Stand, mounted, newest, Together, unreached, answered, syncs, halts, read_fails, falls, wants, mends, misses, silent, IsPair}
use Rattle.object_history.specs.Stepping.{IsRear, AreGiven, with_entry}

-- the end by a read that failed
abbrev ends_by : (before counts_before counts_after : ℕ) → Held
ends_by before counts_before counts_after = record { hold = halt (causes.Disk counts_before counts_after); needs = before }

-- The ask was the last that the front had said: it waits for an answer, which doesn't come.
module _ (start : Contents) (f : Front) (front : Fronted) (back new_back : Backed) (before : ℕ) (a : StoreAsk) (free : Bool) (counts_before counts_after : ℕ) (more : List Body) where
  abbrev Fails : (stand : Stand) → List Held → List Notice → Type 0
  Fails stand held notices = Together start f front new_back more before stand (held ++ ends_by before counts_before counts_after ∷ []) notices

  fails_in : (state : State) → f.mode ≡ serves state → Rest (serves state) (body.Ask a free) more → Fails mounted [] []
  fails_in state mode (goes_on plain u) = absurd cc
  fails_in (idle o) mode (was_last is) = absurd cc
  fails_in (waiting o t x) mode (was_last is) =
      let same : x ≡ body.Ask a free = cc in
      let none : more ≡ [] = cc in
      read_fails o t a free counts_before counts_after (mode ∙ ap (λ (y : Body). serves (waiting o t y)) same) none
  fails_in (ended c) mode (was_last is) = absurd cc

  failed_so : (stand : Stand) (held : List Held) (notices : List Notice) → Together start f front back (body.Ask a free ∷ more) before stand held notices
      → stand ≡ mounted → Fails stand held notices
  failed_so _ _ _ (unreached state mode u) stand =
      fails_in state mode (subst (λ (x : Mode). Rest x (body.Ask a free) more) mode (rest_of f.mode (body.Ask a free) more u))
  failed_so _ _ _ (answered x answer none) stand = absurd cc
  failed_so _ _ _ (syncs o t mode none) stand = absurd cc
  failed_so _ _ _ (halts c mode none some) stand = absurd cc
  failed_so _ _ _ (read_fails o t asked other was now mode none) stand = absurd cc
  failed_so _ _ _ (falls call c mode u count) stand = absurd cc
  failed_so _ _ _ (wants call c mode none count) stand = absurd cc
  failed_so _ _ _ (mends call c i mode none) stand = absurd cc
  failed_so _ _ _ (misses call c again was now older mode none is count) stand = absurd cc
  failed_so _ _ _ (silent s none is) stand = absurd cc

module _ (k : Kind) (opened : Contents) (f : Front) (front : Fronted) (rear : Rear) (e : Entry) (a : StoreAsk) (free : Bool) (counts_before counts_after : ℕ) (map : Contents)
    (line : List Entry) (notices given : List Notice) (known : IsRear opened rear) (stand : rear.stand ≡ mounted) (is : e.incarnation ≡ newest rear.log)
    (asks : e.body ≡ body.Ask a free) (pair : IsPair k opened f front rear (e ∷ line) notices) (are : AreGiven [] given) where
  abbrev later : Rear
  later = record rear { log = with_entry rear e; held = rear.held ++ ends_by rear.before counts_before counts_after ∷ []; map = map }

  failed_together : (late : List Entry) (unread : List Body) → pair.lined.late ≡ late → pair.lined.unread ≡ unread
      → Head f.incarnation (suc (length pair.lined.read)) e line late unread → length rear.log.stops ≡ pair.below
      → Together pair.start f front rear.log unread rear.before rear.stand rear.held notices → IsPair k opened f front later line notices
  failed_together _ _ lates unreads (is_late x late unread same rest) stops t =
      absurd (omega (arith, is, stops, pair.number, late_is f front rear.log.taken e line pair.lined x late lates same))
  failed_together _ _ lates unreads (is_own b more same rest) stops t =
      let bodies : b ≡ body.Ask a free = sym (ap (λ (x : Entry). x.body) same) ∙ asks in
      let reached = subst (λ (x : Body). Together pair.start f front rear.log (x ∷ more) rear.before rear.stand rear.held notices) bodies t in
      let failed = failed_so pair.start f front rear.log later.log rear.before a free counts_before counts_after more rear.stand rear.held notices reached stand in
      rebuilt k opened f front rear (e ∷ line) notices pair later line notices (λ index less. entered_alike front rear e index)
      (kept_of_all front rear e opened known pair.below stops (omega (arith, is, stops))) (e ∷ [], refl) refl refl
      (own_taken f front rear.log.taken e line pair.lined b more unreads same rest)
      (inl (stops, failed))

  pub fails_to_read : IsPair k opened f front later line (notices ++ given)
  fails_to_read =
      let head = head_of f.incarnation (suc (length pair.lined.read)) e line pair.lined.late pair.lined.unread pair.lined.is_line in
      told_none (λ (all : List Notice). IsPair k opened f front later line all) notices given are (⊎_elim
      (λ t. failed_together pair.lined.late pair.lined.unread refl refl head t.0 t.1)
      (λ b. absurd (never_behind front rear e f line pair.below (suc (length pair.lined.read)) pair.lined.late pair.lined.unread pair.number b.0 is b.1.none_late head))
      (phase_now pair))

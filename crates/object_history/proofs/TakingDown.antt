-- A back that is down takes an entry of its newest incarnation: a failure, or a wish to be mounted.
use Rattle.std.proofs.Common.{◌≡◌, ◌∙◌, ap, sym, subst, refl, inl, ⊎_elim, true, ℕ, suc, List, [], ◌∷◌, ◌++◌, length, arith, Option, Some, None}
use Rattle.storage_map.specs.Contents.{Contents}
use Rattle.timeline.specs.Headline.{missed_of}
use Rattle.timeline.specs.Intake.{Kind, Front, Mode, down}
use Rattle.timeline.specs.Logs.{Fronted, Backed}
use Rattle.timeline.specs.declared.back_log.Missed.{Missed}
use Rattle.timeline.specs.declared.caller.Cause.{Cause}
use Rattle.timeline.specs.declared.entry.Body.{Body}
use Rattle.timeline.specs.declared.entry.Body.TheVariants as body
use Rattle.timeline.specs.declared.entry.Entry.{Entry}
use Rattle.timeline.specs.declared.event.Event.{Event}
use Rattle.timeline.specs.declared.notice.Notice.{Notice}
use Rattle.object_history.proofs.Entering.{entered_alike, kept_of_all, never_behind}
use Rattle.object_history.proofs.Heads.{Head, is_own, is_late, head_of, own_taken, late_is}
use Rattle.object_history.proofs.Keeping.{rebuilt, told_none}
use Rattle.object_history.proofs.Reaching.{Rest, goes_on, was_last, rest_of}
use Rattle.object_history.proofs.Readings.{phase_now}
use Rattle.object_history.specs.Pair.{Rear, Held, Stand, fallen, newest, calls_down, IsUnread, Together, unreached, answered, syncs, halts, read_fails, falls, wants, mends, misses, silent, IsPair}
use Rattle.object_history.specs.Saying.{is_plain}
use Rattle.object_history.specs.Stepping.{IsRear, AreGiven, with_entry, stands_after}

module _ (start : Contents) (f : Front) (front : Fronted) (back : Backed) (before : ℕ) (c : Cause) where
  -- What stands after an entry, by what it is.
  abbrev Sunk : Body → List Body → Type 0
  Sunk b more = Together start f front back more before (stands_after c b) [] []

  sunk_plain : (call : Option Event) (b : Body) (more : List Body) → f.mode ≡ down call → is_plain b ≡ true → IsUnread f.mode more
      → length (missed_of f.incarnation back.downs) ≡ suc (length (calls_down f front)) → Sunk b more
  sunk_plain call (body.Batch ops None confirmed) more mode plain u count = falls call c mode u count
  sunk_plain call (body.Message message) more mode plain u count = falls call c mode u count
  sunk_plain call (body.Bind identity) more mode plain u count = falls call c mode u count
  sunk_plain call (body.Batch ops (Some tail) confirmed) more mode plain u count = absurd cc
  sunk_plain call (body.Ask asks free) more mode plain u count = absurd cc
  sunk_plain call body.Sync more mode plain u count = absurd cc
  sunk_plain call (body.Halt cause) more mode plain u count = absurd cc
  sunk_plain call body.Mend more mode plain u count = absurd cc

  sunk_in : (call : Option Event) (b : Body) (more : List Body) → f.mode ≡ down call → Rest (down call) b more
      → length (missed_of f.incarnation back.downs) ≡ suc (length (calls_down f front)) → Sunk b more
  sunk_in call b more mode (goes_on plain u) count =
      sunk_plain call b more mode plain (subst (λ (m : Mode). IsUnread m more) (sym mode) u) count
  sunk_in None b more mode (was_last is) count = absurd cc
  sunk_in (Some call) b more mode (was_last is) count =
      let same : b ≡ body.Mend = cc in
      let none : more ≡ [] = cc in
      subst (λ (x : Body). Sunk x more) (sym same) (wants call c mode none count)

-- Where the back is down, only an entry that wasn't reached can be taken.
pub sunk : (start : Contents) (f : Front) (front : Fronted) (back new_back : Backed) (before : ℕ) (c : Cause) (b : Body) (more : List Body)
    (stand : Stand) (held : List Held) (notices : List Notice) → Together start f front back (b ∷ more) before stand held notices → stand ≡ fallen c
    → new_back.downs ≡ back.downs → Together start f front new_back more before (stands_after c b) held notices
sunk start f front back new_back before c b more _ _ _ (falls call cause mode u count) stand downs =
    sunk_in start f front new_back before c call b more mode (subst (λ (m : Mode). Rest m b more) mode (rest_of f.mode b more u))
    (ap (λ (all : List Missed). length (missed_of f.incarnation all)) downs ∙ count)
sunk start f front back new_back before c b more _ _ _ (unreached state mode u) stand downs = absurd cc
sunk start f front back new_back before c b more _ _ _ (answered x answer none) stand downs = absurd cc
sunk start f front back new_back before c b more _ _ _ (syncs o t mode none) stand downs = absurd cc
sunk start f front back new_back before c b more _ _ _ (halts cause mode none some) stand downs = absurd cc
sunk start f front back new_back before c b more _ _ _ (read_fails o t a free counts_before counts_after mode none) stand downs = absurd cc
sunk start f front back new_back before c b more _ _ _ (wants call cause mode none count) stand downs = absurd cc
sunk start f front back new_back before c b more _ _ _ (mends call cause i mode none) stand downs = absurd cc
sunk start f front back new_back before c b more _ _ _ (misses call cause again counts_before counts_after older mode none is count) stand downs = absurd cc
sunk start f front back new_back before c b more _ _ _ (silent s none is) stand downs = absurd cc

module _ (k : Kind) (opened : Contents) (f : Front) (front : Fronted) (rear : Rear) (e : Entry) (c : Cause) (map : Contents) (line : List Entry)
    (notices given : List Notice) (known : IsRear opened rear) (stand : rear.stand ≡ fallen c) (is : e.incarnation ≡ newest rear.log)
    (pair : IsPair k opened f front rear (e ∷ line) notices) where
  abbrev later : Rear
  later = record rear { log = with_entry rear e; stand = stands_after c e.body; map = map }

  taken_together : (late : List Entry) (unread : List Body) → pair.lined.late ≡ late → pair.lined.unread ≡ unread
      → Head f.incarnation (suc (length pair.lined.read)) e line late unread → length rear.log.stops ≡ pair.below
      → Together pair.start f front rear.log unread rear.before rear.stand rear.held notices → IsPair k opened f front later line notices
  taken_together _ _ lates unreads (is_late x late unread same rest) stops t =
      absurd (omega (arith, is, stops, pair.number, late_is f front rear.log.taken e line pair.lined x late lates same))
  taken_together _ _ lates unreads (is_own b more same rest) stops t =
      let bodies : e.body ≡ b = ap (λ (x : Entry). x.body) same in
      let stands : Together pair.start f front later.log more rear.before (stands_after c b) rear.held notices =
      sunk pair.start f front rear.log later.log rear.before c b more rear.stand rear.held notices t stand refl in
      rebuilt k opened f front rear (e ∷ line) notices pair later line notices (λ index less. entered_alike front rear e index)
      (kept_of_all front rear e opened known pair.below stops (omega (arith, is, stops))) (e ∷ [], refl) refl refl
      (own_taken f front rear.log.taken e line pair.lined b more unreads same rest)
      (inl (stops, subst (λ (x : Body). Together pair.start f front later.log more rear.before (stands_after c x) rear.held notices) (sym bodies) stands))

  pub takes_down_entry : AreGiven [] given → IsPair k opened f front later line (notices ++ given)
  takes_down_entry are =
      let head = head_of f.incarnation (suc (length pair.lined.read)) e line pair.lined.late pair.lined.unread pair.lined.is_line in
      told_none (λ (all : List Notice). IsPair k opened f front later line all) notices given are (⊎_elim
      (λ t. taken_together pair.lined.late pair.lined.unread refl refl head t.0 t.1)
      (λ b. absurd (never_behind front rear e f line pair.below (suc (length pair.lined.read)) pair.lined.late pair.lined.unread pair.number b.0 is b.1.none_late head))
      (phase_now pair))

-- A back takes an entry of the incarnation before its newest.
use Rattle.std.proofs.Common.{◌≡◌, ◌∙◌, ap, sym, subst, refl, inl, inr, ⊎_elim, ℕ, suc, ◌<◌, List, [], ◌∷◌, ◌++◌, length, arith, Some, None}
use Rattle.std.specs.Prelude.{◌⊎◌}
use Rattle.storage_map.specs.Contents.{Contents}
use Rattle.timeline.specs.History.{incarnations, start_after}
use Rattle.timeline.specs.Intake.{Kind, Front, Mode, serves, down, numbered}
use Rattle.timeline.specs.Logs.{Fronted}
use Rattle.timeline.specs.Object.{idle, waiting, ended}
use Rattle.timeline.specs.declared.entry.Body.{Body}
use Rattle.timeline.specs.declared.entry.Body.TheVariants as body
use Rattle.timeline.specs.declared.entry.Entry.{Entry}
use Rattle.timeline.specs.declared.notice.Notice.{Notice}
use Rattle.object_history.proofs.Alike.{IsKeptAlike, same_start, still_taken}
use Rattle.object_history.proofs.Entering.{entered_alike, kept_of_all}
use Rattle.object_history.proofs.Heads.{Head, is_own, is_late, head_of, own_taken, late_taken}
use Rattle.object_history.proofs.Keeping.{rebuilt, same_together, told_none}
use Rattle.object_history.proofs.Reaching.{Rest, goes_on, was_last, rest_of}
use Rattle.object_history.proofs.Readings.{phase_now}
use Rattle.object_history.specs.Pair.{Rear, newest, IsUnread, IsNews, Together, Behind, IsPair}
use Rattle.object_history.specs.Stepping.{IsRear, AreGiven, with_entry}

-- what is left of entries that weren't taken
left_unread : (m : Mode) (b : Body) (more : List Body) → Rest m b more → (IsUnread m more) ⊎ (more ≡ [])
left_unread m b more (goes_on plain u) = inl u
left_unread (serves (idle o)) b more (was_last is) = absurd cc
left_unread (serves (waiting o t x)) b more (was_last is) = inr cc
left_unread (serves (ended c)) b more (was_last is) = inr cc
left_unread (down None) b more (was_last is) = absurd cc
left_unread (down (Some call)) b more (was_last is) = inr cc

module _ (k : Kind) (opened : Contents) (f : Front) (front : Fronted) (rear : Rear) (e : Entry) (map : Contents) (line : List Entry)
    (notices given : List Notice) (known : IsRear opened rear) (is : suc e.incarnation ≡ newest rear.log)
    (pair : IsPair k opened f front rear (e ∷ line) notices) where
  abbrev later : Rear
  later = record rear { log = with_entry rear e; map = map }

  taken_together : (late : List Entry) (unread : List Body) → pair.lined.late ≡ late → pair.lined.unread ≡ unread
      → Head f.incarnation (suc (length pair.lined.read)) e line late unread → length rear.log.stops ≡ pair.below
      → Together pair.start f front rear.log pair.lined.unread rear.before rear.stand rear.held notices → IsPair k opened f front later line notices
  taken_together _ _ lates unreads (is_own b more same rest) stops t =
      absurd (omega (arith, is, stops, pair.number, ap (λ (x : Entry). x.incarnation) same))
  taken_together _ _ lates unreads (is_late x late unread same rest) stops t =
      rebuilt k opened f front rear (e ∷ line) notices pair later line notices (λ index less. entered_alike front rear e index)
      (kept_of_all front rear e opened known pair.below stops (omega (arith, is, stops))) (e ∷ [], refl) refl refl
      (late_taken f front rear.log.taken e line pair.lined x late lates same
      (rest ∙ ap (λ (bodies : List Body). late ++ numbered f.incarnation (suc (length pair.lined.read)) bodies) (sym unreads)))
      (inl (stops, same_together pair.start f front rear.log later.log pair.lined.unread rear.before rear.stand rear.held notices refl t))

  abbrev next : Contents
  next = start_after opened (incarnations front rear.log (suc pair.below))

  taken_behind : (late : List Entry) (unread : List Body) → pair.lined.late ≡ late → pair.lined.unread ≡ unread
      → Head f.incarnation (suc (length pair.lined.read)) e line late unread → length rear.log.stops ≡ suc pair.below
      → Behind pair.start next pair.below f pair.lined.unread pair.lined.late rear notices → IsPair k opened f front later line notices
  taken_behind _ _ lates unreads (is_late x late unread same rest) stops b = absurd (let none = b.none_late in cc)
  taken_behind _ _ lates unreads (is_own first more same rest) stops b =
      let kept : (index : ℕ) → index < suc pair.below → IsKeptAlike front front rear.log later.log index =
      kept_of_all front rear e opened known (suc pair.below) stops (omega (arith, is, stops)) in
      let nexts : start_after opened (incarnations front later.log (suc pair.below)) ≡ next = same_start front front rear.log later.log opened (suc pair.below) kept in
      let unread_more : (IsUnread f.mode more) ⊎ (more ≡ []) = ⊎_elim
      (λ (u : IsUnread f.mode pair.lined.unread). left_unread f.mode first more (rest_of f.mode first more (subst (λ (all : List Body). IsUnread f.mode all) unreads u)))
      (λ (none : pair.lined.unread ≡ []). absurd cc)
      b.is_unread in
      let none_left : b.left ≡ [] = ⊎_elim (λ (none : b.left ≡ []). none) (λ left. absurd (let none = left.3 in cc)) b.left_over in
      rebuilt k opened f front rear (e ∷ line) notices pair later line notices (λ index less. entered_alike front rear e index)
      (λ index less. kept index (omega (arith, less))) (e ∷ [], refl) refl refl
      (own_taken f front rear.log.taken e line pair.lined first more unreads same rest)
      (inr (
        stops,
        record {
          state = b.state;
          mode = b.mode;
          is_unread = unread_more;
          none_late = refl;
          none_held = b.none_held;
          stop = b.stop;
          stopped = b.stopped;
          halted = λ by.
              let was = b.halted by in (was.0, still_taken f.incarnation rear.log.taken (e ∷ []) (body.Halt b.stop.cause) was.1);
          left = b.left;
          told = b.told;
          under_way = b.under_way;
          left_over = inl none_left;
          is_news = subst (λ (m : Contents). IsNews m (suc f.incarnation) b.stop.cause rear.stand b.told) (sym nexts) b.is_news;
          fails = b.fails;
        },
      ))

  pub takes_late_entry : AreGiven [] given → IsPair k opened f front later line (notices ++ given)
  takes_late_entry are =
      let head = head_of f.incarnation (suc (length pair.lined.read)) e line pair.lined.late pair.lined.unread pair.lined.is_line in
      told_none (λ (all : List Notice). IsPair k opened f front later line all) notices given are (⊎_elim
      (λ t. taken_together pair.lined.late pair.lined.unread refl refl head t.0 t.1)
      (λ b. taken_behind pair.lined.late pair.lined.unread refl refl head b.0 b.1)
      (phase_now pair))

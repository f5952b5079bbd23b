-- A mounting of a back's newest incarnation fails.
use Rattle.std.proofs.Common.{◌≡◌, ◌∙◌, ap, sym, subst, refl, inl, inr, ⊎_elim, ℕ, suc, ◌<◌, ◌≤◌, List, [], ◌∷◌, ◌++◌, append-nil, length, drop, arith, Some}
use Rattle.std.proofs.lemmas.Bool.{eq-eqb}
use Rattle.std.proofs.lemmas.List.{drop-append-le, length_push}
use Rattle.std.proofs.lemmas.List.Elements.{filter-append}
use Rattle.std.specs.Prelude.{Bool, cond, ◌==◌}
use Rattle.storage_map.specs.Contents.{Contents}
use Rattle.timeline.specs.Headline.{down_said, missed_of}
use Rattle.timeline.specs.History.{History, incarnations, start_after, resets}
use Rattle.timeline.specs.Intake.{Kind, Front, Mode, down}
use Rattle.timeline.specs.Logs.{Fronted}
use Rattle.timeline.specs.Told.{Said, spoken_in}
use Rattle.timeline.specs.declared.back_log.Missed.{Missed}
use Rattle.timeline.specs.declared.caller.Cause.{Cause}
use Rattle.timeline.specs.declared.entry.Body.{Body}
use Rattle.timeline.specs.declared.entry.Entry.{Entry}
use Rattle.timeline.specs.declared.event.Event.{Event}
use Rattle.timeline.specs.declared.event.Event.TheVariants as event
use Rattle.timeline.specs.declared.notice.Notice.{Notice}
use Rattle.timeline.specs.declared.notice.Notice.TheVariants as notice
use Rattle.object_history.proofs.Alike.{IsAlike, same_start, same_resets}
use Rattle.object_history.proofs.Keeping.{rebuilt, rebuilt_from, other_missed, told_one}
use Rattle.object_history.proofs.Phases.{says_down, wants_as}
use Rattle.object_history.proofs.Readings.{phase_now}
use Rattle.object_history.specs.Pair.{Rear, Held, Stand, wanted, fallen, newest, calls_down, failures, IsSilentAt, IsNews, fallen_once, SaysDown, IsNewest, serving, falling, Together, misses, silent, Behind, IsPair}
use Rattle.object_history.specs.Stepping.{AreGiven}

-- one more failure answers no call that was answered before
down_said_more : (calls : List Event) (missed more : List Missed) → length calls ≤ length missed → down_said calls (missed ++ more) ≡ down_said calls missed
down_said_more [] missed more within = refl
down_said_more (e ∷ calls) [] more within = absurd (omega (arith, within))
down_said_more (event.Call from method args depth at ∷ calls) (m ∷ missed) more within =
    ap (λ (rest : List Said). down_said (event.Call from method args depth at ∷ []) (m ∷ []) ++ rest) (down_said_more calls missed more (omega (arith, within)))
down_said_more (e ∷ calls) (m ∷ missed) more within = refl

module _ (k : Kind) (opened : Contents) (f : Front) (front : Fronted) (rear : Rear) (line : List Entry) (notices given : List Notice)
    (pair : IsPair k opened f front rear line notices) (c : Cause) (counts_before counts_after : ℕ) (map : Contents) (stand : rear.stand ≡ wanted c)
    (are : AreGiven (notice.Down c counts_before counts_after ∷ []) given) where
  abbrev miss : ℕ → Missed
  miss number = record { incarnation = number; before = counts_before; after = counts_after }

  abbrev pub missed_again : Rear
  missed_again = record rear { log = record rear.log { downs = rear.log.downs ++ miss (newest rear.log) ∷ [] }; stand = fallen c; map = map }

  -- it is a mounting of the back's newest incarnation, and of no other
  missed_here : (number : ℕ) → newest rear.log ≡ number → missed_of number missed_again.log.downs ≡ missed_of number rear.log.downs ++ miss number ∷ []
  missed_here number is =
      filter-append (λ (m : Missed). m.incarnation == number) rear.log.downs (miss (newest rear.log) ∷ [])
      ∙ ap (λ (b : Bool). missed_of number rear.log.downs ++ cond b (miss (newest rear.log) ∷ []) []) (eq-eqb (newest rear.log) number is)
      ∙ ap (λ (n : ℕ). missed_of number rear.log.downs ++ miss n ∷ []) is

  missed_elsewhere : (number : ℕ) → (newest rear.log ≡ number → ⊥) → missed_of number missed_again.log.downs ≡ missed_of number rear.log.downs
  missed_elsewhere number other = other_missed number rear.log.downs (miss (newest rear.log)) other

  alike : (n : ℕ) → n ≤ length rear.log.stops → (index : ℕ) → index < n → IsAlike front front rear.log missed_again.log index
  alike n within index less = record {
    delivered = refl;
    sent = refl;
    stop = refl;
    downed = refl;
    missed = missed_elsewhere (suc index) (λ same. omega (arith, within, less, same));
  }

  -- what was said stays said, with one more failure
  says_still : (older new_older : History) → resets new_older ≡ resets older → newest rear.log ≡ f.incarnation
      → length (missed_of f.incarnation rear.log.downs) ≡ suc (length (calls_down f front))
      → SaysDown older f front rear.log f.said → SaysDown new_older f front missed_again.log f.said
  says_still older new_older reset is count says =
      let more : List Missed = miss f.incarnation ∷ [] in
      let fails : failures f missed_again.log ≡ failures f rear.log ++ more =
      ap (λ (all : List Missed). drop 1 all) (missed_here f.incarnation is)
      ∙ drop-append-le 1 (missed_of f.incarnation rear.log.downs) more (omega (arith, count)) in
      record {
        silent = says.silent;
        calls = says.calls;
        enough = omega (arith, says.enough, ap (λ (all : List Missed). length all) fails, length_push (failures f rear.log) (miss f.incarnation));
        down = says.down;
        spoken = says.spoken
            ∙ ap (λ (bodies : List Body). spoken_in bodies ++ down_said (calls_down f front) (failures f rear.log)) (sym reset)
            ∙ ap (λ (said : List Said). spoken_in (resets new_older) ++ said)
            (sym (down_said_more (calls_down f front) (failures f rear.log) more says.enough)
            ∙ ap (λ (all : List Missed). down_said (calls_down f front) all) (sym fails));
      }

  still_falling : (older new_older : History) → IsNewest k older pair.start f front rear.log → (call : Event) → f.mode ≡ down (Some call)
      → SaysDown new_older f front missed_again.log f.said → IsNewest k new_older pair.start f front missed_again.log
  still_falling older new_older (serving said tells says) call mode still = absurd (let other = tells.mode in cc)
  still_falling older new_older (falling asked is is_call none says) call mode still = falling asked is is_call none still

  missed_together : length rear.log.stops ≡ pair.below → Together pair.start f front rear.log pair.lined.unread rear.before rear.stand rear.held notices
      → IsPair k opened f front missed_again line (notices ++ given)
  missed_together stops t =
      let older : History = incarnations front rear.log pair.below in
      let new_older : History = incarnations front missed_again.log pair.below in
      let is : newest rear.log ≡ f.incarnation = ap suc stops ∙ sym pair.number in
      let now = wants_as pair.start f front rear.log pair.lined.unread rear.before c rear.stand rear.held notices t stand in
      let says = says_down k older pair.start f front rear.log pair.newest_said (Some now.call) now.mode in
      let are_alike = alike pair.below (omega (arith, stops)) in
      let newest_said : IsNewest k new_older pair.start f front missed_again.log =
      still_falling older new_older pair.newest_said now.call now.mode
      (says_still older new_older (same_resets front front rear.log missed_again.log pair.below are_alike) is now.count says) in
      let stands : Together pair.start f front missed_again.log pair.lined.unread rear.before (fallen c) [] given =
      told_one (λ (g : List Notice). Together pair.start f front missed_again.log pair.lined.unread rear.before (fallen c) [] g) [] given (notice.Down c counts_before counts_after) are
      (misses now.call c c counts_before counts_after (missed_of f.incarnation rear.log.downs) now.mode now.none (missed_here f.incarnation is) now.count)
      (silent (fallen c) now.none (subst (λ (m : Mode). IsSilentAt m (fallen c)) (sym now.mode) tt)) in
      rebuilt_from k opened f front rear line notices pair missed_again line (notices ++ given) pair.start
      (pair.starts ∙ sym (same_start front front rear.log missed_again.log opened pair.below (λ index less. refl))) are_alike
      (λ index less. refl) ([], sym (append-nil rear.log.taken)) refl newest_said pair.lined
      (inl (
        stops,
        subst (λ (h : List Held). Together pair.start f front missed_again.log pair.lined.unread rear.before (fallen c) h (notices ++ given)) (sym now.nothing)
            (subst (λ (all : List Notice). Together pair.start f front missed_again.log pair.lined.unread rear.before (fallen c) [] (all ++ given)) (sym now.quiet) stands),
      ))

  abbrev next : Contents
  next = start_after opened (incarnations front rear.log (suc pair.below))

  missed_behind : length rear.log.stops ≡ suc pair.below → Behind pair.start next pair.below f pair.lined.unread pair.lined.late rear notices
      → IsPair k opened f front missed_again line (notices ++ given)
  missed_behind stops b =
      let is : newest rear.log ≡ suc f.incarnation = ap suc (stops ∙ sym pair.number) in
      let wants : (c ≡ b.stop.cause) × (b.told ≡ []) = subst (λ (s : Stand). IsNews next (suc f.incarnation) b.stop.cause s b.told) stand b.is_news in
      let none_before : length (missed_of (suc f.incarnation) rear.log.downs) ≡ 0 = b.fails ∙ ap fallen_once stand in
      rebuilt k opened f front rear line notices pair missed_again line (notices ++ given) (alike pair.below (omega (arith, stops))) (λ index less. refl)
      ([], sym (append-nil rear.log.taken))
      (missed_elsewhere f.incarnation (λ same. omega (arith, is, same))) refl pair.lined
      (inr (
        stops,
        record {
          state = b.state;
          mode = b.mode;
          is_unread = b.is_unread;
          none_late = b.none_late;
          none_held = b.none_held;
          stop = b.stop;
          stopped = b.stopped;
          halted = b.halted;
          left = b.left;
          told = given;
          under_way = ap (λ (all : List Notice). all ++ given)
              (b.under_way ∙ ap (λ (all : List Notice). b.left ++ all) wants.1 ∙ append-nil b.left);
          left_over = b.left_over;
          is_news = (
            wants.0,
            ⊎_elim
                (λ gave. inr (counts_before, counts_after, gave ∙ ap (λ (cause : Cause). notice.Down cause counts_before counts_after ∷ []) wants.0))
                (λ lost. inl lost)
                are,
          );
          fails = omega (
            arith,
            ap (λ (all : List Missed). length all) (missed_here (suc f.incarnation) is),
            none_before,
            length_push (missed_of (suc f.incarnation) rear.log.downs) (miss (suc f.incarnation)),
          );
        },
      ))

  pub fails_to_mount : IsPair k opened f front missed_again line (notices ++ given)
  fails_to_mount = ⊎_elim (λ t. missed_together t.0 t.1) (λ b. missed_behind b.0 b.1) (phase_now pair)

-- A back mounts its newest incarnation.
use Rattle.std.proofs.Common.{◌≡◌, ◌∙◌, ap, sym, subst, refl, inl, inr, ⊎_elim, ℕ, suc, ◌<◌, List, [], ◌∷◌, ◌++◌, append-nil, length, arith, Option, Some}
use Rattle.storage_map.specs.Contents.{Contents}
use Rattle.timeline.specs.History.{entries_of, incarnations, start_after, said_in, batches_in, kept_by, kept_of}
use Rattle.timeline.specs.Intake.{Kind, Front, Mode, down}
use Rattle.timeline.specs.Logs.{Fronted}
use Rattle.timeline.specs.Told.{written}
use Rattle.timeline.specs.declared.back_log.End.{End}
use Rattle.timeline.specs.declared.caller.Cause.{Cause}
use Rattle.timeline.specs.declared.entry.Body.{Body}
use Rattle.timeline.specs.declared.entry.Entry.{Entry}
use Rattle.timeline.specs.declared.event.Event.{Event}
use Rattle.timeline.specs.declared.notice.Notice.{Notice}
use Rattle.timeline.specs.declared.notice.Notice.TheVariants as notice
use Rattle.output_gate.proofs.Histories.{get_more}
use Rattle.object_history.proofs.Alike.{IsAlike, IsKeptAlike, same_resets}
use Rattle.object_history.proofs.Entries.{said_numbered}
use Rattle.object_history.proofs.Keeping.{rebuilt, rebuilt_from, same_down, none_taken, map_written, told_one}
use Rattle.object_history.proofs.Phases.{says_down, wants_as}
use Rattle.object_history.proofs.Readings.{phase_now}
use Rattle.object_history.specs.Pair.{Rear, Held, Stand, mounted, wanted, newest, IsSilentAt, IsNews, fallen_once, SaysDown, IsNewest, serving, falling, Together, mends, silent, Behind, IsPair}
use Rattle.object_history.specs.Stepping.{IsRear, IsFollowed, AreGiven}

module _ (k : Kind) (opened : Contents) (f : Front) (front : Fronted) (rear : Rear) (line : List Entry) (notices given : List Notice)
    (pair : IsPair k opened f front rear line notices) (known : IsRear opened rear) (c : Cause) (end : End) (before : ℕ) (map : Contents)
    (stand : rear.stand ≡ wanted c) (are : AreGiven (notice.Fresh (newest rear.log) map.alarm c ∷ []) given) where
  abbrev pub remounted : Rear
  remounted = record rear { log = record rear.log { ends = rear.log.ends ++ end ∷ [] }; stand = mounted; before = before; durable = before; map = map }

  alike : (index : ℕ) → IsAlike front front rear.log remounted.log index
  alike index = record { delivered = refl; sent = refl; stop = refl; downed = refl; missed = refl }

  followed : suc (length rear.log.ends) ≡ length rear.log.stops
  followed = subst (λ (s : Stand). IsFollowed s rear.log) stand known.followed

  -- but for what was kept of the one that stopped last, all is as it was
  kept_before_it : (index : ℕ) → suc index < length rear.log.stops → IsKeptAlike front front rear.log remounted.log index
  kept_before_it index less =
      ap (λ (e : Option End). kept_by (kept_of e) (batches_in (entries_of (suc index) rear.log.taken)))
      (get_more rear.log.ends end index (omega (arith, followed, less)))

  abbrev start : Contents
  start = start_after opened (incarnations front remounted.log pair.below)

  abbrev next : Contents
  next = start_after opened (incarnations front remounted.log (suc pair.below))

  module _ (known_after : IsRear opened remounted) where
    -- the front's own incarnation has written nothing yet
    start_map : (says : SaysDown (incarnations front rear.log pair.below) f front rear.log f.said) → length rear.log.stops ≡ pair.below → pair.lined.unread ≡ [] → map ≡ start
    start_map says stops none =
        map_written opened front remounted pair.below known_after stops
        ∙ ap (λ (n : ℕ). written start (said_in (entries_of n rear.log.taken))) (sym pair.number)
        ∙ ap (λ (entries : List Entry). written start (said_in entries)) pair.lined.own
        ∙ ap (λ (bodies : List Body). written start bodies)
        (said_numbered f.incarnation 1 pair.lined.read
        ∙ sym (pair.lined.said ∙ ap (λ (bodies : List Body). pair.lined.read ++ bodies) none ∙ append-nil pair.lined.read))
        ∙ says.silent start

    mounted_together : length rear.log.stops ≡ pair.below → Together pair.start f front rear.log pair.lined.unread rear.before rear.stand rear.held notices
        → IsPair k opened f front remounted line (notices ++ given)
    mounted_together stops t =
        let now = wants_as pair.start f front rear.log pair.lined.unread rear.before c rear.stand rear.held notices t stand in
        let says = says_down k (incarnations front rear.log pair.below) pair.start f front rear.log pair.newest_said (Some now.call) now.mode in
        let says_still : SaysDown (incarnations front remounted.log pair.below) f front remounted.log f.said =
        same_down (incarnations front rear.log pair.below) (incarnations front remounted.log pair.below) f front rear.log remounted.log f.said
        (same_resets front front rear.log remounted.log pair.below (λ index less. alike index)) refl says in
        let newest_said : IsNewest k (incarnations front remounted.log pair.below) start f front remounted.log =
        still_falling pair.newest_said now.call now.mode says_still in
        let stands : Together start f front remounted.log pair.lined.unread before mounted [] given =
        told_one (λ (g : List Notice). Together start f front remounted.log pair.lined.unread before mounted [] g) [] given (notice.Fresh (newest rear.log) map.alarm c) are
        (subst (λ (m : Contents). Together start f front remounted.log pair.lined.unread before mounted [] (notice.Fresh (newest rear.log) m.alarm c ∷ []))
        (sym (start_map says stops now.none)) (mends now.call c (newest rear.log) now.mode now.none))
        (silent mounted now.none (subst (λ (m : Mode). IsSilentAt m mounted) (sym now.mode) tt)) in
        rebuilt_from k opened f front rear line notices pair remounted line (notices ++ given) start refl (λ index less. alike index)
        (λ index less. kept_before_it index (omega (arith, less, stops))) ([], sym (append-nil rear.log.taken)) refl newest_said pair.lined
        (inl (
          stops,
          subst (λ (h : List Held). Together start f front remounted.log pair.lined.unread before mounted h (notices ++ given)) (sym now.nothing)
              (subst (λ (all : List Notice). Together start f front remounted.log pair.lined.unread before mounted [] (all ++ given)) (sym now.quiet) stands),
        ))
      where
        still_falling : IsNewest k (incarnations front rear.log pair.below) pair.start f front rear.log → (call : Event) → f.mode ≡ down (Some call)
            → SaysDown (incarnations front remounted.log pair.below) f front remounted.log f.said
            → IsNewest k (incarnations front remounted.log pair.below) start f front remounted.log
        still_falling (serving said tells says) call mode still = absurd (let other = tells.mode in cc)
        still_falling (falling asked is is_call none says) call mode still = falling asked is is_call none still

    mounted_behind : length rear.log.stops ≡ suc pair.below
        → Behind pair.start (start_after opened (incarnations front rear.log (suc pair.below))) pair.below f pair.lined.unread pair.lined.late rear notices
        → IsPair k opened f front remounted line (notices ++ given)
    mounted_behind stops b =
        let wants : (c ≡ b.stop.cause) × (b.told ≡ []) = subst (λ (s : Stand). IsNews (start_after opened (incarnations front rear.log (suc pair.below))) (suc f.incarnation) b.stop.cause s b.told) stand b.is_news in
        let next_map : map ≡ next =
        map_written opened front remounted (suc pair.below) known_after stops
        ∙ ap (λ (n : ℕ). written next (said_in (entries_of (suc n) rear.log.taken))) (sym pair.number)
        ∙ ap (λ (entries : List Entry). written next (said_in entries)) (none_taken f front rear.log.taken line pair.logged pair.lined) in
        rebuilt k opened f front rear line notices pair remounted line (notices ++ given) (λ index less. alike index)
        (λ index less. kept_before_it index (omega (arith, less, stops))) ([], sym (append-nil rear.log.taken)) refl refl pair.lined
        (inr (
          stops,
          record {
            state = b.state;
            mode = b.mode;
            is_unread = b.is_unread;
            none_late = b.none_late;
            none_held = b.none_held;
            stop = b.stop;
            stopped = b.stopped;
            halted = b.halted;
            left = b.left;
            told = given;
            under_way = ap (λ (all : List Notice). all ++ given)
                (b.under_way ∙ ap (λ (all : List Notice). b.left ++ all) wants.1 ∙ append-nil b.left);
            left_over = b.left_over;
            is_news = ⊎_elim
                (λ gave. inr (gave
                ∙ ap (λ (n : ℕ). notice.Fresh (suc n) map.alarm c ∷ []) (stops ∙ sym pair.number)
                ∙ ap (λ (m : Contents). notice.Fresh (suc f.incarnation) m.alarm c ∷ []) next_map
                ∙ ap (λ (cause : Cause). notice.Fresh (suc f.incarnation) next.alarm cause ∷ []) wants.0))
                (λ lost. inl lost)
                are;
            fails = b.fails ∙ ap fallen_once stand;
          },
        ))

    pub mounts : IsPair k opened f front remounted line (notices ++ given)
    mounts = ⊎_elim (λ t. mounted_together t.0 t.1) (λ b. mounted_behind b.0 b.1) (phase_now pair)

-- A back that is mounted takes an entry of its newest incarnation.
use Rattle.std.proofs.Common.{◌≡◌, ◌∙◌, ap, sym, subst, refl, inl, ⊎_elim, ℕ, suc, List, [], ◌∷◌, ◌++◌, length, arith}
use Rattle.std.specs.Prelude.{option_to_list}
use Rattle.storage_map.specs.Contents.{Contents}
use Rattle.timeline.specs.History.{entries_of, incarnations, said_in}
use Rattle.timeline.specs.Intake.{Kind, Front}
use Rattle.timeline.specs.Logs.{Fronted}
use Rattle.timeline.specs.Told.{written}
use Rattle.timeline.specs.declared.entry.Body.{Body}
use Rattle.timeline.specs.declared.entry.Entry.{Entry}
use Rattle.timeline.specs.declared.notice.Notice.{Notice}
use Rattle.output_gate.specs.Taking.{notice_of}
use Rattle.object_history.proofs.Asked.{is_asked_for}
use Rattle.object_history.proofs.Entering.{entered_alike, kept_of_all, never_behind}
use Rattle.object_history.proofs.Entries.{said_numbered}
use Rattle.object_history.proofs.Heads.{Head, is_own, is_late, head_of, own_taken, late_is}
use Rattle.object_history.proofs.Keeping.{rebuilt, map_written}
use Rattle.object_history.proofs.Reaching.{reached}
use Rattle.object_history.specs.Laws.{StepsSayWell}
use Rattle.object_history.proofs.Readings.{phase_now}
use Rattle.object_history.specs.Pair.{Rear, mounted, newest, Together, IsPair}
use Rattle.object_history.specs.Stepping.{IsRear, AreGiven, with_entry, holds, before_next}

module _ (well : StepsSayWell) (k : Kind) (opened : Contents) (f : Front) (front : Fronted) (rear : Rear) (e : Entry) (map : Contents) (line : List Entry)
    (notices given : List Notice) (known : IsRear opened rear) (stand : rear.stand ≡ mounted) (is : e.incarnation ≡ newest rear.log)
    (pair : IsPair k opened f front rear (e ∷ line) notices) (are : AreGiven (option_to_list (notice_of e.number rear.map e.body)) given) where
  abbrev later : Rear
  later = record rear { log = with_entry rear e; held = rear.held ++ holds e.number rear.before e.body; before = before_next rear.before e.body; map = map }

  -- the map is what was written of what was read
  read_map : length rear.log.stops ≡ pair.below → rear.map ≡ written pair.start pair.lined.read
  read_map stops =
      map_written opened front rear pair.below known stops
      ∙ ap (λ (m : Contents). written m (said_in (entries_of (suc pair.below) rear.log.taken))) (sym pair.starts)
      ∙ ap (λ (n : ℕ). written pair.start (said_in (entries_of n rear.log.taken))) (sym pair.number)
      ∙ ap (λ (entries : List Entry). written pair.start (said_in entries)) pair.lined.own
      ∙ ap (λ (bodies : List Body). written pair.start bodies) (said_numbered f.incarnation 1 pair.lined.read)

  taken_together : (late : List Entry) (unread : List Body) → pair.lined.late ≡ late → pair.lined.unread ≡ unread
      → Head f.incarnation (suc (length pair.lined.read)) e line late unread → length rear.log.stops ≡ pair.below
      → Together pair.start f front rear.log unread rear.before rear.stand rear.held notices → IsPair k opened f front later line (notices ++ given)
  taken_together _ _ lates unreads (is_late x late unread same rest) stops t =
      absurd (omega (arith, is, stops, pair.number, late_is f front rear.log.taken e line pair.lined x late lates same))
  taken_together _ _ lates unreads (is_own b more same rest) stops t =
      let n : ℕ = suc (length pair.lined.read) in
      let number : e.number ≡ n = ap (λ (x : Entry). x.number) same in
      let bodies : e.body ≡ b = ap (λ (x : Entry). x.body) same in
      let told : AreGiven (option_to_list (notice_of e.number rear.map b)) given =
      subst (λ (x : Body). AreGiven (option_to_list (notice_of e.number rear.map x)) given) bodies are in
      let stands : Together pair.start f front later.log more (before_next rear.before b) rear.stand (rear.held ++ holds e.number rear.before b) (notices ++ given) =
      reached pair.start f front rear.log later.log pair.lined.read e.number rear.before rear.map b more given rear.stand rear.held notices t stand
      (pair.lined.said ∙ ap (λ (rest : List Body). pair.lined.read ++ rest) unreads) number (read_map stops)
      (is_asked_for well k (incarnations front rear.log pair.below) pair.start f front rear.log pair.newest_said) told in
      rebuilt k opened f front rear (e ∷ line) notices pair later line (notices ++ given) (λ index less. entered_alike front rear e index)
      (kept_of_all front rear e opened known pair.below stops (omega (arith, is, stops))) (e ∷ [], refl) refl refl
      (own_taken f front rear.log.taken e line pair.lined b more unreads same rest)
      (inl (
        stops,
        subst (λ (x : Body). Together pair.start f front later.log more (before_next rear.before x) rear.stand (rear.held ++ holds e.number rear.before x) (notices ++ given))
            (sym bodies) stands,
      ))

  pub takes_own_entry : IsPair k opened f front later line (notices ++ given)
  takes_own_entry =
      let head = head_of f.incarnation (suc (length pair.lined.read)) e line pair.lined.late pair.lined.unread pair.lined.is_line in
      ⊎_elim (λ t. taken_together pair.lined.late pair.lined.unread refl refl head t.0 t.1)
      (λ b. absurd (never_behind front rear e f line pair.below (suc (length pair.lined.read)) pair.lined.late pair.lined.unread pair.number b.0 is b.1.none_late head))
      (phase_now pair)

-- An event that a front drops changes nothing of a pair.
use Rattle.std.proofs.Common.{◌∙◌, sym, subst, refl, inl, inr, ℕ, suc, List, arith, []}
use Rattle.storage_map.specs.Contents.{Contents}
use Rattle.timeline.specs.History.{History, incarnations}
use Rattle.timeline.specs.Intake.{Kind, Front}
use Rattle.timeline.specs.Logs.{Fronted, Backed}
use Rattle.timeline.specs.declared.entry.Body.{Body}
use Rattle.timeline.specs.declared.entry.Entry.{Entry}
use Rattle.timeline.specs.declared.event.Event.{Event}
use Rattle.timeline.specs.declared.notice.Notice.{Notice}
use Rattle.std.proofs.lemmas.List.Elements.{All-nil}
use Rattle.object_history.proofs.Frames.{down_same}
use Rattle.object_history.proofs.OlderFronts.{AreSameTo, halted_same, older_same, said_same, start_same}
use Rattle.object_history.proofs.Readings.{phase_now}
use Rattle.object_history.specs.Pair.{Held, Stand, Rear, IsLogged, IsLine, IsNewest, serving, falling, Together, unreached, answered, syncs, halts, read_fails, falls, wants, mends, misses, silent, Behind, IsPhase, IsPair, IsReading}

-- The log with other events dropped.
abbrev with_dropped : Fronted → List Event → Fronted
with_dropped front dropped = record front { dropped = dropped }

-- All else of it is the same.
same_to : (last : ℕ) (front : Fronted) (dropped : List Event) → AreSameTo last front (with_dropped front dropped)
same_to last front dropped = record { delivered = λ i within. refl; sent = λ i within. refl; downed = λ i within. refl }

module _ (start : Contents) (f : Front) (front : Fronted) (dropped : List Event) (back : Backed) (unread : List Body) (before : ℕ) where
  together_same : (stand : Stand) (held : List Held) (notices : List Notice) → Together start f front back unread before stand held notices
      → Together start f (with_dropped front dropped) back unread before stand held notices
  together_same stand held notices (unreached state mode is) = unreached state mode is
  together_same stand held notices (answered n is none) = answered n is none
  together_same stand held notices (syncs o t mode none) = syncs o t mode none
  together_same stand held notices (halts c mode none some) = halts c mode none some
  together_same stand held notices (read_fails o t a free counts_before counts_after mode none) = read_fails o t a free counts_before counts_after mode none
  together_same stand held notices (falls call c mode is length_is) = falls call c mode is length_is
  together_same stand held notices (wants call c mode none length_is) = wants call c mode none length_is
  together_same stand held notices (mends call c i mode none) = mends call c i mode none
  together_same stand held notices (misses call c again counts_before counts_after older mode none missed length_is) =
      misses call c again counts_before counts_after older mode none missed length_is
  together_same stand held notices (silent other none may) = silent other none may

-- So both halves stand alike.
phase_same : (opened : Contents) (below : ℕ) (start : Contents) (f : Front) (front : Fronted) (dropped : List Event) (rear : Rear) (unread : List Body)
    (late : List Entry) (notices : List Notice) → IsPhase opened below start f front rear unread late notices
    → IsPhase opened below start f (with_dropped front dropped) rear unread late notices
phase_same opened below start f front dropped rear unread late notices (inl together) =
    inl (together.0, together_same start f front dropped rear.log unread rear.before rear.stand rear.held notices together.1)
phase_same opened below start f front dropped rear unread late notices (inr behind) =
    inr (
      behind.0,
      subst (λ (next : Contents). Behind start next below f unread late rear notices)
          (sym (start_same opened front (with_dropped front dropped) rear.log (suc below))) behind.1,
    )

-- It has said the same.
newest_same : (k : Kind) (older : History) (start : Contents) (f : Front) (front : Fronted) (dropped : List Event) (back : Backed)
    → IsNewest k older start f front back → IsNewest k older start f (with_dropped front dropped) back
newest_same k older start f front dropped back (serving before tells down_so) =
    serving before tells (down_same older f front (with_dropped front dropped) back before f.events f.said f.mode refl down_so)
newest_same k older start f front dropped back (falling call mode is_call none down_so) =
    falling call mode is_call none (down_same older f front (with_dropped front dropped) back f.said f.events f.said f.mode refl down_so)

-- It has logged the same.
logged_same : (f : Front) (front : Fronted) (dropped : List Event) → IsLogged f front → IsLogged f (with_dropped front dropped)
logged_same f front dropped logged = record {
  closed = logged.closed;
  closed_before = logged.closed_before;
  sent = logged.sent;
  gone = logged.gone;
  gone_before = logged.gone_before;
  delivered = logged.delivered;
  downed_before = logged.downed_before;
}

-- The same is on the line.
abbrev lined_same : (f : Front) (front : Fronted) (dropped : List Event) (taken line : List Entry) → IsLine f front taken line
    → IsLine f (with_dropped front dropped) taken line
lined_same f front dropped taken line lined = record {
  sent = lined.sent;
  read = lined.read;
  unread = lined.unread;
  late = lined.late;
  said = lined.said;
  is_line = lined.is_line;
  lates = lined.lates;
  no_wish = lined.no_wish;
  first = lined.first;
  own = lined.own;
}

-- So they are a pair.
pub on_dropped : (k : Kind) (opened : Contents) (f : Front) (front : Fronted) (rear : Rear) (line : List Entry) (notices : List Notice) (dropped : List Event)
    → IsPair k opened f front rear line notices → IsPair k opened f (record front { dropped = dropped }) rear line notices
on_dropped k opened f front rear line notices dropped pair =
    let same : AreSameTo pair.below front (with_dropped front dropped) = same_to pair.below front dropped in
    record {
      below = pair.below;
      number = pair.number;
      logged = logged_same f front dropped pair.logged;
      lined = lined_same f front dropped rear.log.taken line pair.lined;
      ends = pair.ends;
      older_said = said_same pair.below front (with_dropped front dropped) same rear.log k.script k.class opened pair.below (omega arith) pair.older_said;
      older_halted = halted_same pair.below front (with_dropped front dropped) same rear.log k.script k.class opened pair.below (omega arith) pair.older_halted;
      start = pair.start;
      starts = pair.starts ∙ sym (start_same opened front (with_dropped front dropped) rear.log pair.below);
      newest_said = subst (λ (older : History). IsNewest k older pair.start f (with_dropped front dropped) rear.log)
          (sym (older_same pair.below front (with_dropped front dropped) same rear.log pair.below (omega arith)))
          (newest_same k (incarnations front rear.log pair.below) pair.start f front dropped rear.log pair.newest_said);
      gated = pair.gated;
      readings = [];
      rest = notices;
      under_way = refl;
      are_readings = All-nil (IsReading pair.start f);
      phase = phase_same opened pair.below pair.start f front dropped rear pair.lined.unread pair.lined.late notices (phase_now pair);
    }

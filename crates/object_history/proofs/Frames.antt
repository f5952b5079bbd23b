-- A front goes on in its incarnation: what stays of a pair whatever it says.
use Rattle.std.proofs.Common.{◌≡◌, ◌∙◌, ap, sym, subst, ℕ, suc, ◌≤◌, List, ◌++◌, append-nil, append_assoc, length, length-append, map, arith, [], refl}
use Rattle.std.proofs.lemmas.List.{map-append}
use Rattle.std.proofs.lemmas.List.Elements.{filter-append, All-append, All-map, All-nil}
use Rattle.std.specs.Prelude.{◌==◌}
use Rattle.std.specs.List.{All}
use Rattle.storage_map.specs.Contents.{Contents}
use Rattle.timeline.specs.Headline.{down_said}
use Rattle.timeline.specs.History.{History, of_number, entries_of, incarnations, resets}
use Rattle.timeline.specs.Intake.{Kind, Front, Mode, numbered}
use Rattle.timeline.specs.Logs.{Fronted, Backed}
use Rattle.timeline.specs.Told.{spoken_in}
use Rattle.timeline.specs.declared.entry.Body.{Body}
use Rattle.timeline.specs.declared.entry.Entry.{Entry}
use Rattle.timeline.specs.declared.event.Event.{Event}
use Rattle.timeline.specs.declared.notice.Notice.{Notice}
use Rattle.object_history.specs.Saying.{IsGated}
use Rattle.object_history.proofs.Entries.{of_number_append, of_number_own}
use Rattle.object_history.proofs.Growing.{numbered_on, numbered_behind}
use Rattle.object_history.proofs.OlderFronts.{of_number_other, entries_other, AreSameTo, halted_same, older_same, said_same, start_same}
use Rattle.object_history.specs.Pair.{Rear, IsLogged, IsLine, IsCall, failures, SaysDown, IsNewest, IsPhase, IsPair, IsReading}

-- The front in the same incarnation.
abbrev pub now : Front → List Event → List Body → Mode → Front
now f es said mode = record { incarnation = f.incarnation; events = es; said = said; mode = mode }

-- What its log gets more: these bodies, these events, and these calls that were answered by `Down`.
pub record GoesOn (f : Front) (front new : Fronted) (more : List Body) (events calls : List Event) : Type 0 where
  pub sent : new.sent ≡ front.sent ++ numbered f.incarnation (suc (length f.said)) more
  pub delivered : new.delivered ≡ front.delivered ++ map (λ e. (f.incarnation, e)) events
  pub downed : new.downed ≡ front.downed ++ map (λ e. (f.incarnation, e)) calls
  pub ends : new.ends ≡ front.ends

-- The calls of its incarnation that were answered so.
pub own_calls : (f : Front) (front new : Fronted) (more : List Body) (events calls : List Event) → GoesOn f front new more events calls
    → of_number f.incarnation new.downed ≡ of_number f.incarnation front.downed ++ calls
own_calls f front new more events calls goes =
    ap (λ (items : List (ℕ × Event)). of_number f.incarnation items) goes.downed
    ∙ of_number_append f.incarnation front.downed (map (λ (e : Event). (f.incarnation, e)) calls)
    ∙ ap (λ (rest : List Event). of_number f.incarnation front.downed ++ rest) (of_number_own f.incarnation calls)

-- What was said before it served is the same where the calls are.
pub down_same : (older : History) (f : Front) (front new : Fronted) (back : Backed) (bodies : List Body) (es : List Event) (said : List Body) (mode : Mode)
    → of_number f.incarnation new.downed ≡ of_number f.incarnation front.downed → SaysDown older f front back bodies
    → SaysDown older (now f es said mode) new back bodies
down_same older f front new back bodies es said mode same down = record {
  silent = down.silent;
  calls = subst (λ (calls : List Event). All IsCall calls) (sym same) down.calls;
  enough = subst (λ (calls : List Event). length calls ≤ length (failures f back)) (sym same) down.enough;
  spoken = down.spoken ∙ ap (λ (calls : List Event). spoken_in (resets older) ++ down_said calls (failures f back)) (sym same);
  down = down.down;
}

module _ (k : Kind) (opened : Contents) (f : Front) (front new : Fronted) (rear : Rear) (line : List Entry) (notices : List Notice)
    (pair : IsPair k opened f front rear line notices) (more : List Body) (events calls : List Event) (goes : GoesOn f front new more events calls) where
  same_to : AreSameTo pair.below front new
  same_to = record {
    delivered = λ i within.
        ap (λ (items : List (ℕ × Event)). of_number i items) goes.delivered
        ∙ of_number_append i front.delivered (map (λ (e : Event). (f.incarnation, e)) events)
        ∙ ap (λ (rest : List Event). of_number i front.delivered ++ rest)
        (of_number_other i f.incarnation events (λ same. omega (arith, within, same, pair.number)))
        ∙ append-nil (of_number i front.delivered);
    sent = λ i within.
        ap (λ (entries : List Entry). entries_of i entries) goes.sent
        ∙ filter-append (λ (e : Entry). e.incarnation == i) front.sent (numbered f.incarnation (suc (length f.said)) more)
        ∙ ap (λ (rest : List Entry). entries_of i front.sent ++ rest)
        (entries_other i f.incarnation (suc (length f.said)) more (λ same. omega (arith, within, same, pair.number)))
        ∙ append-nil (entries_of i front.sent);
    downed = λ i within.
        ap (λ (items : List (ℕ × Event)). of_number i items) goes.downed
        ∙ of_number_append i front.downed (map (λ (e : Event). (f.incarnation, e)) calls)
        ∙ ap (λ (rest : List Event). of_number i front.downed ++ rest)
        (of_number_other i f.incarnation calls (λ same. omega (arith, within, same, pair.number)))
        ∙ append-nil (of_number i front.downed);
  }

  -- what is logged, and what stands on the line
  logged_on : (es : List Event) (said : List Body) (mode : Mode) → es ≡ f.events ++ events → said ≡ f.said ++ more → IsLogged (now f es said mode) new
  logged_on es said mode all_events all_said =
      let closed : List Entry = pair.logged.closed in
      let gone : List (ℕ × Event) = pair.logged.gone in
      let further : List Entry = numbered f.incarnation (suc (length f.said)) more in
      record {
        closed = closed;
        closed_before = pair.logged.closed_before;
        sent =
            goes.sent
            ∙ ap (λ (entries : List Entry). entries ++ further) pair.logged.sent
            ∙ append_assoc closed (numbered f.incarnation 1 f.said) further
            ∙ ap (λ (entries : List Entry). closed ++ entries)
            (sym (numbered_behind f.incarnation f.said more) ∙ sym (ap (λ (bodies : List Body). numbered f.incarnation 1 bodies) all_said));
        gone = gone;
        gone_before = pair.logged.gone_before;
        delivered =
            goes.delivered
            ∙ ap (λ (items : List (ℕ × Event)). items ++ map (λ (e : Event). (f.incarnation, e)) events) pair.logged.delivered
            ∙ append_assoc gone (map (λ (e : Event). (f.incarnation, e)) f.events) (map (λ (e : Event). (f.incarnation, e)) events)
            ∙ ap (λ (items : List (ℕ × Event)). gone ++ items)
            (sym (map-append (λ (e : Event). (f.incarnation, e)) f.events events)
            ∙ sym (ap (λ (all : List Event). map (λ (e : Event). (f.incarnation, e)) all) all_events));
        downed_before = subst (λ (items : List (ℕ × Event)). All (λ (d : ℕ × Event). d.0 ≤ f.incarnation) items) (sym goes.downed)
            (All-append (λ (d : ℕ × Event). d.0 ≤ f.incarnation) front.downed (map (λ (e : Event). (f.incarnation, e)) calls) pair.logged.downed_before
            (All-map (λ (d : ℕ × Event). d.0 ≤ f.incarnation) (λ (e : Event). (f.incarnation, e)) calls (λ n e less. omega arith)));
      }

  -- what stands on the line
  abbrev lined_on : (es : List Event) (said : List Body) (mode : Mode) → said ≡ f.said ++ more
      → IsLine (now f es said mode) new rear.log.taken (line ++ numbered f.incarnation (suc (length f.said)) more)
  lined_on es said mode all_said =
      let lined = pair.lined in
      let further : List Entry = numbered f.incarnation (suc (length f.said)) more in
      record {
        sent =
            goes.sent
            ∙ ap (λ (entries : List Entry). entries ++ further) lined.sent
            ∙ append_assoc rear.log.taken line further;
        read = lined.read;
        unread = lined.unread ++ more;
        late = lined.late;
        said = all_said ∙ ap (λ (bodies : List Body). bodies ++ more) lined.said ∙ append_assoc lined.read lined.unread more;
        is_line =
            ap (λ (entries : List Entry). entries ++ further) lined.is_line
            ∙ append_assoc lined.late (numbered f.incarnation (suc (length lined.read)) lined.unread) further
            ∙ ap (λ (entries : List Entry). lined.late ++ entries)
            (sym (numbered_on f.incarnation (suc (length lined.read)) (suc (length f.said)) lined.unread more
            (omega (arith, ap (λ (bodies : List Body). length bodies) lined.said, length-append lined.read lined.unread))));
        lates = lined.lates;
        no_wish = lined.no_wish;
        first = lined.first;
        own = lined.own;
      }

  -- with what it has said, and where both halves stand, the pair goes on
  pub kept : (es : List Event) (said : List Body) (mode : Mode) (rest : List Notice) → All IsGated more → es ≡ f.events ++ events → said ≡ f.said ++ more
      → IsNewest k (incarnations front rear.log pair.below) pair.start (now f es said mode) new rear.log
      → IsPhase opened pair.below pair.start (now f es said mode) new rear (pair.lined.unread ++ more) pair.lined.late rest
      → IsPair k opened (now f es said mode) new rear (line ++ numbered f.incarnation (suc (length f.said)) more) rest
  kept es said mode rest gated all_events all_said newest phase = record {
    below = pair.below;
    number = pair.number;
    logged = logged_on es said mode all_events all_said;
    lined = lined_on es said mode all_said;
    ends = goes.ends ∙ pair.ends;
    older_said = said_same pair.below front new same_to rear.log k.script k.class opened pair.below (omega arith) pair.older_said;
    older_halted = halted_same pair.below front new same_to rear.log k.script k.class opened pair.below (omega arith) pair.older_halted;
    start = pair.start;
    starts = pair.starts ∙ sym (start_same opened front new rear.log pair.below);
    newest_said = subst (λ (older : History). IsNewest k older pair.start (now f es said mode) new rear.log)
        (sym (older_same pair.below front new same_to rear.log pair.below (omega arith))) newest;
    gated = subst (λ (bodies : List Body). All IsGated bodies) (sym all_said) (All-append IsGated f.said more pair.gated gated);
    readings = [];
    rest = rest;
    under_way = refl;
    are_readings = All-nil (IsReading pair.start (now f es said mode));
    phase = phase;
  }

-- An incarnation has ended, and its front is told: the next one begins, mounted or down.
use Rattle.std.proofs.Common.{◌≡◌, ◌∙◌, ap, sym, subst, refl, inl, ℕ, zero, suc, ◌<◌, ◌≤◌, List, [], ◌∷◌, ◌++◌, append-nil, append_assoc, length, map, take, arith, Option, Some, None}
use Rattle.std.proofs.lemmas.List.Elements.{filter-append, All-nil}
use Rattle.std.proofs.lemmas.Option.{slice_get_past}
use Rattle.std.specs.Prelude.{ℤ, ◌==◌, slice_get}
use Rattle.std.specs.List.{All}
use Rattle.storage_map.specs.Contents.{Contents}
use Rattle.timeline.specs.Headline.{down_said}
use Rattle.timeline.specs.History.{Incarnation, History, of_number, entries_of, incarnation_at, incarnations, start_after, said_in, resets_by, resets}
use Rattle.timeline.specs.Intake as intake
use Rattle.timeline.specs.Intake.{Kind, Front, Mode, serves, down, noticed, next_mounted, next_down, numbered}
use Rattle.timeline.specs.Logs.{Fronted}
use Rattle.timeline.specs.Object.{State, idle, begun}
use Rattle.timeline.specs.Replies.{unanswered, resets_of}
use Rattle.timeline.specs.Told.{spoken_in}
use Rattle.timeline.specs.declared.back_log.Stop.{Stop}
use Rattle.timeline.specs.declared.caller.Cause.{Cause}
use Rattle.timeline.specs.declared.entry.Body.{Body}
use Rattle.timeline.specs.declared.entry.Entry.{Entry}
use Rattle.timeline.specs.declared.event.Event.{Event}
use Rattle.timeline.specs.declared.notice.Notice.{Notice}
use Rattle.timeline.specs.declared.notice.Notice.TheVariants as notice
use Rattle.output_gate.proofs.Histories.{entries_none}
use Rattle.timeline.specs.Passed.{is_said_down}
use Rattle.object_history.proofs.Advancing.{front}
use Rattle.object_history.proofs.Downs.{resets_down, resets_silent, resets_plain}
use Rattle.object_history.proofs.Asked.{is_asked_for}
use Rattle.object_history.proofs.Ended.{IsFollowedBy, ended_phase}
use Rattle.object_history.proofs.Entries.{all_front, all_numbered, of_their_own, said_numbered, of_number_none}
use Rattle.object_history.proofs.Halting.{halted_with}
use Rattle.object_history.proofs.OlderFronts.{entries_other, AreSameTo, halted_same, said_same, start_same}
use Rattle.object_history.proofs.Ready.{at_stand}
use Rattle.object_history.proofs.SaidSoFar.{delivered_until, entries_now, events_now, sent_until, said_until_now}
use Rattle.object_history.proofs.WellSaid.{delivers_well, answers_well}
use Rattle.object_history.proofs.Wishes.{IsNoWish, none_wished}
use Rattle.object_history.specs.Laws.{TellingGoesOn, TellingTells}
use Rattle.object_history.proofs.Readings.{are_gated, down_gated, phase_now}
use Rattle.object_history.specs.Pair.{mounted, fallen, Rear, IsLogged, IsLine, IsUnread, IsCall, failures, SaysDown, IsNewest, serving, falling, Together, unreached, falls, HasHalted, fallen_once, IsPhase, IsPair, IsReading}
use Rattle.object_history.specs.Stepping.{Grows}

-- The causes of one stop more.
abbrev stop_or : Stop → Option Stop → Stop
stop_or other None = other
stop_or other (Some stop) = stop

-- there is a stop
abbrev IsThere : Option Stop → Type 0
IsThere None = ⊥
IsThere (Some stop) = Unit {0}

-- the causes of stops
abbrev causes : List Stop → List Cause
causes stops = map (λ (stop : Stop). stop.cause) stops

-- the causes up to one stop more
causes_more : (stops : List Stop) (n : ℕ) (stop : Stop) → slice_get stops n ≡ Some stop → causes (take (suc n) stops) ≡ causes (take n stops) ++ stop.cause ∷ []
causes_more [] n stop is = absurd (subst IsThere (sym is ∙ slice_get_past [] n (omega arith)) tt)
causes_more (x ∷ stops) zero stop is = ap (λ (s : Option Stop). (stop_or x s).cause ∷ []) is
causes_more (x ∷ stops) (suc n) stop is = ap (λ (rest : List Cause). x.cause ∷ rest) (causes_more stops n stop is)

-- The front in the next incarnation, which begins with the failures of the calls that are left unanswered.
abbrev later : Front → Cause → Mode → Front
later f cause mode = record { incarnation = suc f.incarnation; events = []; said = intake.resets f cause; mode = mode }

-- What is logged at an end.
record EndsSo (f : Front) (old new : Fronted) (cause : Cause) (more : List Body) : Type 0 where
  said : intake.resets f cause ≡ more
  sent : new.sent ≡ old.sent ++ numbered (suc f.incarnation) 1 more
  delivered : new.delivered ≡ old.delivered ++ []
  downed : new.downed ≡ old.downed ++ []
  ends : new.ends ≡ old.ends ++ cause ∷ []

module _ (tells : TellingTells) (k : Kind) (opened : Contents) (f : Front) (old new : Fronted) (rear : Rear) (line : List Entry) (notices : List Notice)
    (pair : IsPair k opened f old rear line notices) (cause : Cause) (more : List Body) (ends_so : EndsSo f old new cause more)
    (stop : Stop) (stopped : slice_get rear.log.stops pair.below ≡ Some stop) (halted : HasHalted f rear.log stop.cause) (cause_is : cause ≡ stop.cause) (none_late : pair.lined.late ≡ [])
    (wishes_none : All IsNoWish pair.lined.unread) where
  -- what was logged of the incarnations until now stays
  same_to : AreSameTo (suc pair.below) old new
  same_to = record {
    delivered = λ i within. ap (λ (items : List (ℕ × Event)). of_number i items) (ends_so.delivered ∙ append-nil old.delivered);
    sent = λ i within.
        ap (λ (entries : List Entry). entries_of i entries) ends_so.sent
        ∙ filter-append (λ (e : Entry). e.incarnation == i) old.sent (numbered (suc f.incarnation) 1 more)
        ∙ ap (λ (rest : List Entry). entries_of i old.sent ++ rest)
        (entries_other i (suc f.incarnation) 1 more (λ same. omega (arith, within, same, pair.number)))
        ∙ append-nil (entries_of i old.sent);
    downed = λ i within. ap (λ (items : List (ℕ × Event)). of_number i items) (ends_so.downed ∙ append-nil old.downed);
  }

  -- what the ended incarnation was delivered
  events_new : of_number (suc pair.below) new.delivered ≡ f.events
  events_new =
      same_to.delivered (suc pair.below) (omega arith)
      ∙ ap (λ (n : ℕ). of_number n old.delivered) (sym pair.number)
      ∙ events_now f old pair.logged

  -- what it said
  said_new : said_in (entries_of (suc pair.below) new.sent) ≡ f.said
  said_new =
      ap (λ (entries : List Entry). said_in entries)
      (same_to.sent (suc pair.below) (omega arith)
      ∙ ap (λ (n : ℕ). entries_of n old.sent) (sym pair.number)
      ∙ entries_now f old pair.logged)
      ∙ said_numbered f.incarnation 1 f.said

  -- no call is answered by it
  downed_same : new.downed ≡ old.downed
  downed_same = ends_so.downed ∙ append-nil old.downed

  -- none of the next one was
  no_calls : of_number (suc f.incarnation) new.downed ≡ []
  no_calls =
      ap (λ (items : List (ℕ × Event)). of_number (suc f.incarnation) items) downed_same
      ∙ of_number_none (suc f.incarnation) old.downed (λ i d less. omega (arith, pair.logged.downed_before i d less))

  -- nothing was taken of the next one
  taken_before : All (λ (e : Entry). e.incarnation < suc f.incarnation) rear.log.taken
  taken_before = all_front (λ (e : Entry). e.incarnation < suc f.incarnation) rear.log.taken line
      (subst (λ (entries : List Entry). All (λ (e : Entry). e.incarnation < suc f.incarnation) entries) pair.lined.sent (sent_until f old pair.logged))

  -- what is logged
  logged : (mode : Mode) → IsLogged (later f cause mode) new
  logged mode = record {
    closed = old.sent;
    closed_before = sent_until f old pair.logged;
    sent = ends_so.sent ∙ ap (λ (bodies : List Body). old.sent ++ numbered (suc f.incarnation) 1 bodies) (sym ends_so.said);
    gone = old.delivered;
    gone_before = delivered_until f old pair.logged;
    delivered = ends_so.delivered;
    downed_before = subst (λ (items : List (ℕ × Event)). All (λ (d : ℕ × Event). d.0 ≤ suc f.incarnation) items) (sym downed_same)
        (λ i d less. omega (arith, pair.logged.downed_before i d less));
  }

  -- what stands on the line is of the incarnation that has ended
  line_is : line ≡ numbered f.incarnation (suc (length pair.lined.read)) pair.lined.unread
  line_is = pair.lined.is_line ∙ ap (λ (late : List Entry). late ++ numbered f.incarnation (suc (length pair.lined.read)) pair.lined.unread) none_late

  -- what stands on the line
  abbrev lined : (mode : Mode) → IsLine (later f cause mode) new rear.log.taken (line ++ numbered (suc f.incarnation) 1 more)
  lined mode = record {
    sent =
        ends_so.sent
        ∙ ap (λ (entries : List Entry). entries ++ numbered (suc f.incarnation) 1 more) pair.lined.sent
        ∙ append_assoc rear.log.taken line (numbered (suc f.incarnation) 1 more);
    read = [];
    unread = intake.resets f cause;
    late = line;
    said = refl;
    is_line = ap (λ (bodies : List Body). line ++ numbered (suc f.incarnation) 1 bodies) (sym ends_so.said);
    lates = subst (λ (entries : List Entry). All (λ (e : Entry). suc e.incarnation ≡ suc f.incarnation) entries) (sym line_is)
        (of_their_own (λ (i : ℕ). suc i ≡ suc f.incarnation) f.incarnation (suc (length pair.lined.read)) pair.lined.unread refl);
    first = λ some. refl;
    no_wish = subst (λ (entries : List Entry). All (λ (e : Entry). IsNoWish e.body) entries) (sym line_is)
        (all_numbered IsNoWish f.incarnation (suc (length pair.lined.read)) pair.lined.unread wishes_none);
    own = entries_none (suc f.incarnation) rear.log.taken taken_before;
  }

  -- the failures are those that the history has after this end
  resets_are : intake.resets f cause ≡ resets (incarnations new rear.log (suc pair.below))
  resets_are =
      let ended : Incarnation = incarnation_at new rear.log pair.below in
      ap (λ (c : Cause). resets_of c (unanswered f.events f.said)) cause_is
      ∙ ap (λ (events : List Event). resets_of stop.cause (unanswered events f.said)) (sym events_new)
      ∙ ap (λ (bodies : List Body). resets_of stop.cause (unanswered (of_number (suc pair.below) new.delivered) bodies)) (sym said_new)
      ∙ ap (λ (s : Option Stop). resets_by s ended) (sym stopped)

  -- what the next one has said before it serves
  says_down : (mode : Mode) → SaysDown (incarnations new rear.log (suc pair.below)) (later f cause mode) new rear.log (intake.resets f cause)
  says_down mode =
      let before : History = incarnations new rear.log (suc pair.below) in
      record {
        silent = resets_silent cause (unanswered f.events f.said);
        calls = subst (λ (calls : List Event). All IsCall calls) (sym no_calls) (All-nil IsCall);
        enough = omega (arith, ap (λ (calls : List Event). length calls) no_calls);
        spoken =
            ap (λ (bodies : List Body). spoken_in bodies) resets_are
            ∙ sym (append-nil (spoken_in (resets before)))
            ∙ ap (λ (calls : List Event). spoken_in (resets before) ++ down_said calls (failures (later f cause mode) rear.log)) (sym no_calls);
        down = resets_down cause (unanswered f.events f.said);
      }

  -- then both halves are in one incarnation again
  next_pair : (mode : Mode) (left : List Notice)
      → IsNewest k (incarnations new rear.log (suc pair.below)) (start_after opened (incarnations new rear.log (suc pair.below))) (later f cause mode)
      new rear.log
      → IsPhase opened (suc pair.below) (start_after opened (incarnations new rear.log (suc pair.below))) (later f cause mode) new rear
      (intake.resets f cause) line left
      → IsPair k opened (later f cause mode) new rear (line ++ numbered (suc f.incarnation) 1 more) left
  next_pair mode left newest phase = record {
    below = suc pair.below;
    number = ap suc pair.number;
    logged = logged mode;
    lined = lined mode;
    ends =
        ends_so.ends
        ∙ ap (λ (known : List Cause). known ++ cause ∷ []) pair.ends
        ∙ ap (λ (c : Cause). causes (take pair.below rear.log.stops) ++ c ∷ []) cause_is
        ∙ sym (causes_more rear.log.stops pair.below stop stopped);
    older_said = said_same (suc pair.below) old new same_to rear.log k.script k.class opened (suc pair.below) (omega arith)
        (said_until_now tells k opened f old rear line notices pair);
    older_halted = halted_same (suc pair.below) old new same_to rear.log k.script k.class opened (suc pair.below) (omega arith)
        (halted_with k opened f old rear line notices pair stop stopped halted);
    start = start_after opened (incarnations new rear.log (suc pair.below));
    starts = refl;
    newest_said = newest;
    gated = are_gated is_said_down down_gated (intake.resets f cause) (resets_down cause (unanswered f.events f.said));
    readings = [];
    rest = left;
    under_way = refl;
    are_readings = All-nil (IsReading (start_after opened (incarnations new rear.log (suc pair.below))) (later f cause mode));
    phase = phase;
  }

-- The next incarnation is mounted.
pub on_fresh : TellingGoesOn → TellingTells → (k : Kind) (opened : Contents) (i : ℕ) (es : List Event) (said : List Body) (state : State)
    (number : ℕ) (alarm : Option (ℤ × ℕ)) (cause : Cause) (old new : Fronted) (rear : Rear) (line : List Entry) (left : List Notice)
    → IsPair k opened (front i es said (serves state)) old rear line (notice.Fresh number alarm cause ∷ left)
    → (grows : Grows k (front i es said (serves state)) (noticed (notice.Fresh number alarm cause)) old new)
    → IsPair k opened (next_mounted (front i es said (serves state)) alarm cause) new rear (line ++ numbered (suc i) 1 grows.more) left
on_fresh goes_on tells k opened i es said state number alarm cause old new rear line left pair grows =
    let f : Front = front i es said (serves state) in
    let n : Notice = notice.Fresh number alarm cause in
    let g : Front = next_mounted f alarm cause in
    let failed : List Body = intake.resets f cause in
    let ends_so : EndsSo f old new cause grows.more =
    record { said = grows.said; sent = grows.sent; delivered = grows.delivered; downed = grows.downed; ends = grows.ends } in
    let followed : IsFollowedBy opened pair.below f old rear pair.lined.unread pair.lined.late n left =
    ended_phase opened pair.below pair.start f old rear pair.lined.unread pair.lined.late n left state refl tt (phase_now pair) in
    let wishes_none : All IsNoWish pair.lined.unread =
    none_wished pair.lined.unread state (λ o t b mode. is_asked_for (record { on_event = delivers_well; on_answer = answers_well }) k _ pair.start f old rear.log pair.newest_said o t b mode)
    followed.is_unread in
    let start : Contents = start_after opened (incarnations new rear.log (suc pair.below)) in
    let alarm_is : alarm ≡ start.alarm = followed.is_next.1 ∙ ap (λ (m : Contents). m.alarm) (sym (start_same opened old new rear.log (suc pair.below))) in
    let says : SaysDown (incarnations new rear.log (suc pair.below)) g new rear.log failed =
    says_down tells k opened f old new rear line (n ∷ left) pair cause grows.more ends_so followed.stop followed.stopped followed.halted followed.is_next.2 followed.none_late wishes_none
    (serves (idle (begun alarm))) in
    let unread : IsUnread (serves (idle (begun alarm))) failed = record {
      plain = failed;
      are_plain = resets_plain cause (unanswered es said);
      is = sym (append-nil failed);
    } in
    next_pair tells k opened f old new rear line (n ∷ left) pair cause grows.more ends_so followed.stop followed.stopped followed.halted followed.is_next.2 followed.none_late wishes_none
    (serves (idle (begun alarm))) left
    (serving failed (goes_on.begins k start g says.silent refl (ap (λ (a : Option (ℤ × ℕ)). serves (idle (begun a))) alarm_is)) says)
    (inl (
      followed.one_ahead,
      at_stand (Together start g new rear.log failed rear.before) rear.stand mounted rear.held [] left []
          followed.is_next.0 followed.none_held followed.none_left (unreached (idle (begun alarm)) refl unread),
    ))

-- It isn't: the object is down.
pub on_down : TellingTells → (k : Kind) (opened : Contents) (i : ℕ) (es : List Event) (said : List Body) (state : State)
    (cause : Cause) (before after : ℕ) (old new : Fronted) (rear : Rear) (line : List Entry) (left : List Notice)
    → IsPair k opened (front i es said (serves state)) old rear line (notice.Down cause before after ∷ left)
    → (grows : Grows k (front i es said (serves state)) (noticed (notice.Down cause before after)) old new)
    → IsPair k opened (next_down (front i es said (serves state)) cause) new rear (line ++ numbered (suc i) 1 grows.more) left
on_down tells k opened i es said state cause before after old new rear line left pair grows =
    let f : Front = front i es said (serves state) in
    let n : Notice = notice.Down cause before after in
    let g : Front = next_down f cause in
    let failed : List Body = intake.resets f cause in
    let ends_so : EndsSo f old new cause grows.more =
    record { said = grows.said; sent = grows.sent; delivered = grows.delivered; downed = grows.downed; ends = grows.ends } in
    let followed : IsFollowedBy opened pair.below f old rear pair.lined.unread pair.lined.late n left =
    ended_phase opened pair.below pair.start f old rear pair.lined.unread pair.lined.late n left state refl tt (phase_now pair) in
    let wishes_none : All IsNoWish pair.lined.unread =
    none_wished pair.lined.unread state (λ o t b mode. is_asked_for (record { on_event = delivers_well; on_answer = answers_well }) k _ pair.start f old rear.log pair.newest_said o t b mode)
    followed.is_unread in
    let start : Contents = start_after opened (incarnations new rear.log (suc pair.below)) in
    let says : SaysDown (incarnations new rear.log (suc pair.below)) g new rear.log failed =
    says_down tells k opened f old new rear line (n ∷ left) pair cause grows.more ends_so followed.stop followed.stopped followed.halted followed.is_next.1 followed.none_late wishes_none
    (down None) in
    let none : of_number (suc i) new.downed ≡ [] =
    no_calls tells k opened f old new rear line (n ∷ left) pair cause grows.more ends_so followed.stop followed.stopped followed.halted followed.is_next.1
    followed.none_late wishes_none in
    let unread : IsUnread (down None) failed = record { plain = failed; are_plain = resets_plain cause (unanswered es said); is = sym (append-nil failed) } in
    next_pair tells k opened f old new rear line (n ∷ left) pair cause grows.more ends_so followed.stop followed.stopped followed.halted followed.is_next.1 followed.none_late wishes_none
    (down None) left (falling None refl tt refl says)
    (inl (
      followed.one_ahead,
      at_stand (Together start g new rear.log failed rear.before) rear.stand (fallen cause) rear.held [] left []
          followed.is_next.0 followed.none_held followed.none_left
          (falls None cause refl unread (followed.fails ∙ ap fallen_once followed.is_next.0 ∙ ap (λ (calls : List Event). suc (length calls)) (sym none))),
    ))

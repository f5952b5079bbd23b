-- A front that turns stays paired with its back.
use Rattle.std.proofs.Common.{◌≡◌, ◌∙◌, ap, sym, subst, refl, ⊎_elim, true≢false, ℕ, suc, true, false, List, [], ◌∷◌, ◌++◌, append-nil, append_assoc, drop, length, arith}
use Rattle.std.proofs.lemmas.List.{append_cancel_left}
use Rattle.do_tree.specs.Tree.{Script}
use Rattle.storage_map.specs.Contents.{Contents}
use Rattle.timeline.specs.Intake as intake
use Rattle.timeline.specs.Intake.{Kind, Front, Taken, delivered, noticed, wanted, front_after, numbered, FitsMode}
use Rattle.timeline.specs.Logs.{Fronted, fronted}
use Rattle.timeline.specs.declared.entry.Body.{Body}
use Rattle.timeline.specs.declared.entry.Entry.{Entry}
use Rattle.timeline.specs.declared.event.Event.{Event}
use Rattle.timeline.specs.declared.notice.Notice.{Notice}
use Rattle.front_turns.specs.Paused.{Paused}
use Rattle.front_half.specs.Standing.{Stood, IsClass, IsTakenBy, IsCutShort, kind_in, is_stopped}
use Rattle.front_half.specs.Taking.{Led}
use Rattle.front_half.specs.Turning.{Lanes, IsStill, IsTaken, Turns, Halts}
use Rattle.front_half.specs.declared.half.Half.{Half}
use Rattle.object_history.specs.Laws.{LogsGrow, FrontKeepsPair, NoticesFit}
use Rattle.object_history.specs.Pair.{Rear, IsPair}
use Rattle.object_history.specs.Stepping.{IsLogOf, IsRear, notices_with}
use Rattle.front_history.proofs.Items.{turn_takes}
use Rattle.front_history.proofs.Keeping.{TakesOf, no_item, an_item, Kept, items_keep}
use Rattle.front_history.specs.Paired.{ArePaired, logged_with}
use Rattle.front_history.specs.Turns.{AreUnderWay}

-- What was taken of the notices under way stood before those that are left.
first_with : (notices later : List Notice) (t : Taken) → notices ≡ notices_with t later → (missed : List Notice) × (notices ≡ missed ++ later)
first_with notices later (delivered e) same = ([], same)
first_with notices later (wanted e) same = ([], same)
first_with notices later (noticed n) same = (n ∷ [], same)

taken_first : (notices later : List Notice) (item : List Taken) → TakesOf notices later item → (missed : List Notice) × (notices ≡ missed ++ later)
taken_first notices later item (no_item same) = ([], same)
taken_first notices later item (an_item t call same) = first_with notices later t same

-- Where nothing more is logged as sent, the line is as it was.
line_stays : {T : Type 0} (old new : Half T) (got_before got : List Notice) (line later_line : List Entry) (notices later : List Notice)
    → AreUnderWay old new got_before got line later_line notices later → new.log.sent.items ≡ old.log.sent.items → line ≡ later_line
line_stays {T} old new got_before got line later_line notices later way same =
    let sent : List Entry = old.log.sent.items in
    let none : way.sent ≡ [] = append_cancel_left sent way.sent [] (sym way.logged ∙ same ∙ sym (append-nil sent)) in
    sym (way.behind ∙ ap (λ (x : List Entry). line ++ x) none ∙ append-nil line)

-- The last of entries that are numbered on are so too.
abbrev Own : ℕ → List Entry → Type 0
Own i entries = (number : ℕ) × (bodies : List Body) × (entries ≡ numbered i number bodies)

numbered_last : (i : ℕ) (first last : List Entry) (number : ℕ) (bodies : List Body) → first ++ last ≡ numbered i number bodies → Own i last
numbered_last i [] last number bodies is = (number, bodies, is)
numbered_last i (e ∷ first) last number [] is = absurd (omega (arith, ap (λ (entries : List Entry). length entries) is))
numbered_last i (e ∷ first) last number (b ∷ bodies) is =
    numbered_last i first last (suc number) bodies (ap (λ (entries : List Entry). drop 1 entries) is)

module _ {T : Type 0} (grow : LogsGrow) (keeps : FrontKeepsPair) (fit : NoticesFit) (k : Kind) (opened : Contents) (rear : Rear) (known : IsRear opened rear)
    (old new : Half T) (st : Stood) (got_before got : List Notice) (line later_line : List Entry) (notices later : List Notice)
    (runs : is_stopped old ≡ false) (paired : ArePaired k opened st old rear line notices)
    (way : AreUnderWay old new got_before got line later_line notices later) where
  abbrev from : Front
  from = intake.opened opened.alarm

  -- Memory sufficed so far.
  by_old : IsTakenBy k from paired.taken st.front (fronted old.log)
  by_old =
      let sent : List Entry = old.log.sent.items in
      record {
        at = paired.by.at ∙ paired.stands runs;
        gate = paired.by.gate;
        sent = sym (append-nil sent) ∙ ap (λ (x : List Entry). sent ++ x) (sym (paired.sent_all runs)) ∙ paired.by.sent;
        delivered = paired.by.delivered;
        downed = paired.by.downed;
        ends = paired.by.ends;
      }

  all_notices : paired.missed ++ notices ≡ notices
  all_notices = ap (λ (x : List Notice). x ++ notices) (paired.missed_none runs)

  all_line : line ++ paired.unsent ≡ line
  all_line = ap (λ (x : List Entry). line ++ x) (paired.sent_all runs) ∙ append-nil line

  -- What the front says now is what it has sent of it and what it hasn't.
  all_sent : (unsent more : List Entry) → new.log.sent.items ++ unsent ≡ (old.log.sent.items ++ paired.unsent) ++ more → way.sent ++ unsent ≡ more
  all_sent unsent more is =
      let sent : List Entry = old.log.sent.items in
      append_cancel_left sent (way.sent ++ unsent) more
      (sym (append_assoc sent way.sent unsent) ∙ ap (λ (x : List Entry). x ++ unsent) (sym way.logged) ∙ is
      ∙ ap (λ (x : List Entry). (sent ++ x) ++ more) (paired.sent_all runs) ∙ ap (λ (x : List Entry). x ++ more) (append-nil sent))

  -- A notice under way is one that the front waits for.
  pub first_fits : (n : Notice) → notices ≡ n ∷ later → FitsMode st.front.said st.front.mode n
  first_fits n same =
      let log : Fronted = logged_with (fronted old.log) paired.unsent in
      let is_pair = subst (λ (all : List Notice). IsPair k opened paired.front log rear (line ++ paired.unsent) all) (all_notices ∙ same) paired.pair in
      subst (λ (f : Front). FitsMode f.said f.mode n) (paired.stands runs) (fit k opened paired.front log rear (line ++ paired.unsent) n later is_pair)

  -- The item was logged, and all that the front says of it was sent but for these.
  pub logged_keeps : (after : Stood) (g : Front) (unsent : List Entry) (item : List Taken) → TakesOf notices later item
      → IsTakenBy k from (paired.taken ++ item) g (logged_with (fronted new.log) unsent) → (is_stopped new ≡ false → g ≡ after.front)
      → (is_stopped new ≡ false → unsent ≡ []) → ArePaired k opened after new rear later_line later
  logged_keeps after g unsent item takes by stands sent_all =
      let log : Fronted = logged_with (fronted old.log) paired.unsent in
      let now : Fronted = logged_with (fronted new.log) unsent in
      let before : IsLogOf k from paired.taken log = record { sent = paired.by.sent; delivered = paired.by.delivered; downed = paired.by.downed; ends = paired.by.ends } in
      let logged : IsLogOf k from (paired.taken ++ item) now = record { sent = by.sent; delivered = by.delivered; downed = by.downed; ends = by.ends } in
      let is_pair : IsPair k opened (front_after k from paired.taken) log rear line notices =
      subst (λ (f : Front). IsPair k opened f log rear line notices) (sym paired.by.at)
      (subst (λ (n : List Notice). IsPair k opened paired.front log rear line n) all_notices
      (subst (λ (l : List Entry). IsPair k opened paired.front log rear l (paired.missed ++ notices)) all_line paired.pair)) in
      let kept : Kept k opened rear log now line later g =
      subst (λ (f : Front). Kept k opened rear log now line later f) by.at
      (items_keep grow keeps k opened rear known from paired.taken log now line notices later before is_pair item takes logged by.gate) in
      let more : List Entry = numbered g.incarnation kept.number kept.more in
      let all_more : way.sent ++ unsent ≡ more = all_sent unsent more kept.sent in
      let own : Own g.incarnation unsent = numbered_last g.incarnation way.sent unsent kept.number kept.more all_more in
      record {
        front = g;
        unsent = unsent;
        number = own.0;
        bodies = own.1;
        own = own.2;
        missed = [];
        stands = stands;
        sent_all = sent_all;
        missed_none = λ so. refl;
        taken = paired.taken ++ item;
        by = by;
        pair =
            subst (λ (l : List Entry). IsPair k opened g now rear (l ++ unsent) later) (sym way.behind)
            (subst (λ (l : List Entry). IsPair k opened g now rear l later)
            (ap (λ (l : List Entry). line ++ l) (sym all_more) ∙ sym (append_assoc line way.sent unsent)) kept.pair);
      }

  -- It was taken and not logged: a notice is lost.
  lost_keeps : (after : Stood) (item : List Taken) → TakesOf notices later item → is_stopped new ≡ true → fronted new.log ≡ fronted old.log
      → ArePaired k opened after new rear later_line later
  lost_keeps after item takes stopped same =
      let first = taken_first notices later item takes in
      let same_line : line ≡ later_line = line_stays old new got_before got line later_line notices later way (ap (λ (log : Fronted). log.sent) same) in
      let all : paired.missed ++ notices ≡ first.0 ++ later = all_notices ∙ first.1 in
      record {
        front = paired.front;
        unsent = paired.unsent;
        number = paired.number;
        bodies = paired.bodies;
        own = paired.own;
        missed = first.0;
        stands = λ so. absurd (true≢false (sym stopped ∙ so));
        sent_all = λ so. absurd (true≢false (sym stopped ∙ so));
        missed_none = λ so. absurd (true≢false (sym stopped ∙ so));
        taken = paired.taken;
        by = subst (λ (log : Fronted). IsTakenBy k from paired.taken paired.front (logged_with log paired.unsent)) (sym same) paired.by;
        pair =
            subst (λ (log : Fronted). IsPair k opened paired.front (logged_with log paired.unsent) rear (later_line ++ paired.unsent) (first.0 ++ later)) (sym same)
            (subst (λ (l : List Entry). IsPair k opened paired.front (logged_with (fronted old.log) paired.unsent) rear (l ++ paired.unsent) (first.0 ++ later)) same_line
            (subst (λ (n : List Notice). IsPair k opened paired.front (logged_with (fronted old.log) paired.unsent) rear (line ++ paired.unsent) n) all paired.pair));
      }

  -- Memory was wanting after so much of what it says was sent.
  cut_keeps : (after : Stood) (item : List Taken) → TakesOf notices later item → is_stopped new ≡ true
      → IsCutShort k from (paired.taken ++ item) (fronted new.log) → ArePaired k opened after new rear later_line later
  cut_keeps after item takes stopped cut =
      logged_keeps after (front_after k from (paired.taken ++ item)) cut.sent.0 item takes
      (record { at = refl; gate = cut.gate; sent = cut.sent.1; delivered = cut.delivered; downed = cut.downed; ends = cut.ends })
      (λ so. absurd (true≢false (sym stopped ∙ so)))
      (λ so. absurd (true≢false (sym stopped ∙ so)))

  -- The front has gone on.
  moved_keeps : (after : Stood) (item : List Taken) → TakesOf notices later item → IsTakenBy k from (paired.taken ++ item) after.front (fronted new.log)
      → ArePaired k opened after new rear later_line later
  moved_keeps after item takes by =
      logged_keeps after after.front [] item takes
      (record {
        at = by.at;
        gate = by.gate;
        sent = append-nil new.log.sent.items ∙ by.sent;
        delivered = by.delivered;
        downed = by.downed;
        ends = by.ends;
      })
      (λ so. refl) (λ so. refl)

module _ {T : Type 0} (see : T → Paused) (grow : LogsGrow) (keeps : FrontKeepsPair) (fit : NoticesFit) (script : Script) (class : ℕ) (opened : Contents)
    (old new : Half T) (st : Stood) (events_before events : List Event) (got_before got told : List Notice) (rear : Rear)
    (line later_line : List Entry) (notices later : List Notice) (known : IsRear opened rear) (runs : is_stopped old ≡ false)
    (paired : ArePaired (kind_in script class) opened st old rear line notices)
    (way : AreUnderWay old new got_before got line later_line notices later) where
  abbrev k : Kind
  k = kind_in script class

  -- what is taken is an item, or none
  takes : (led : Led) → IsTaken script st events_before events got_before got told led → TakesOf notices later led.item
  takes led taken =
      turn_takes script st events_before events got_before got told led notices later
      (first_fits grow keeps fit k opened rear known old new st got_before got line later_line notices later runs paired way) way.told taken

  pub turns_keep : (turns : Turns see script old new st events_before events got_before got told) → IsClass turns.led.stood.class class
      → ArePaired k opened turns.led.stood new rear later_line later
  turns_keep turns is_class =
      moved_keeps grow keeps fit k opened rear known old new st got_before got line later_line notices later runs paired way turns.led.stood turns.led.item
      (takes turns.led turns.taken)
      (turns.moves.taken class (intake.opened opened.alarm) paired.taken is_class
      (by_old grow keeps fit k opened rear known old new st got_before got line later_line notices later runs paired way))

  pub halts_keep : (halts : Halts script old new st events_before events got_before got told) → IsClass halts.led.stood.class class
      → ArePaired k opened halts.led.stood new rear later_line later
  halts_keep halts is_class =
      let item = takes halts.led halts.taken in
      ⊎_elim
      (λ same. lost_keeps grow keeps fit k opened rear known old new st got_before got line later_line notices later runs paired way halts.led.stood
      halts.led.item item halts.stops.stopped same)
      (λ cut. cut_keeps grow keeps fit k opened rear known old new st got_before got line later_line notices later runs paired way halts.led.stood
      halts.led.item item halts.stops.stopped
      (cut.1 class (intake.opened opened.alarm) paired.taken is_class
      (by_old grow keeps fit k opened rear known old new st got_before got line later_line notices later runs paired way)))
      halts.stops.cut

-- Nothing was done.
pub rests_keep : {T : Type 0} (k : Kind) (opened : Contents) (old new : Half T) (st : Stood) (before after : Lanes) (rear : Rear)
    (line later_line : List Entry) (notices later : List Notice) → ArePaired k opened st old rear line notices
    → AreUnderWay old new before.1 after.1 line later_line notices later → IsStill old new before after → ArePaired k opened st new rear later_line later
rests_keep {T} k opened old new st before after rear line later_line notices later paired way still =
    let same_line : line ≡ later_line =
    line_stays old new before.1 after.1 line later_line notices later way (ap (λ (h : Half T). h.log.sent.items) still.half) in
    let same_notices : notices ≡ later =
    append_cancel_left before.1 notices later (way.told ∙ ap (λ (x : List Notice). x ++ later) still.no_notice) in
    subst (λ (n : List Notice). ArePaired k opened st new rear later_line n) same_notices
    (subst (λ (l : List Entry). ArePaired k opened st new rear l notices) same_line
    (subst (λ (h : Half T). ArePaired k opened st h rear line notices) (sym still.half) paired))

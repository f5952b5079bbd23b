-- An object whose front takes a notice or an event.
use Rattle.std.proofs.Common.{◌≡◌, ◌∙◌, ap, sym, refl, subst, inl, inr, true≢false, ℕ, List, [], ◌++◌, append_assoc, Option}
use Rattle.std.specs.Prelude.{Bool, true, false, Result, Ok, Err, OnOk, OnErr}
use Rattle.do_tree.specs.Tree.{Script}
use Rattle.do_value.specs.declared.fault.NoMemory.{NoMemory}
use Rattle.lane.specs.Lanes.{Both, sent_on, StartsWith}
use Rattle.timeline.specs.Intake.{Taken, events_in, opened}
use Rattle.timeline.specs.Logs.{fronted}
use Rattle.timeline.specs.declared.entry.Entry.{Entry}
use Rattle.timeline.specs.declared.event.Event.{Event}
use Rattle.timeline.specs.declared.message.Message.{Message as Sent}
use Rattle.timeline.specs.declared.notice.Notice.{Notice}
use Rattle.object_front.specs.Came.{events, HasGot, EventsCome}
use Rattle.object_front.specs.Classed.{class_behind, ClassComes, IsClassed}
use Rattle.object_front.specs.Evaluated.{seen}
use Rattle.front_half.specs.Sending.{AreSentToo}
use Rattle.front_half.specs.Standing.{Stood, IsClass, IsHalf, IsTakenBy, is_stopped, kind_in}
use Rattle.front_half.specs.Taking.{Led}
use Rattle.front_half.specs.Turning.{CanTurn, IsStill, IsQuiet, IsTaken, Turns, Halts}
use Rattle.object_front.specs.declared.evaluated.Evaluated.{Evaluated}
use Rattle.front_half.specs.declared.half.Half.{Half}
use Rattle.front_half.specs.declared.turning.Turned.{Turned}
use Rattle.front_half.specs.declared.turning.Turned.TheVariants.{Ran, Idle}
use Rattle.output_gate.specs.Telling.{opened_map}
use Rattle.output_gate.specs.declared.back.Back.{Back}
use Rattle.front_history.proofs.Lanes.{under_way}
use Rattle.front_history.specs.Paired.{ArePaired}
use Rattle.front_history.specs.Turns.{AreUnderWay, TurnSteps}
use Rattle.object_history.specs.Pair.{IsPair}
use Rattle.object_messages.specs.Dropped.{DropsAreAnswered}
use Rattle.object_messages.specs.Laws.{EarlyIsUnasked}
use Rattle.object_core.proofs.Alike.{class_for}
use Rattle.object_core.proofs.Attending.{turn_heard}
use Rattle.object_core.proofs.Dropping.{first_none, halt_drops, none_stopped, still_drops, turn_drops}
use Rattle.object_core.proofs.Due.{seen_is_rear}
use Rattle.object_core.proofs.FitTaken.{events_logged, fit_more, taken_fit}
use Rattle.object_core.proofs.Lanes.{took_none}
use Rattle.object_core.proofs.Pairing.{pair_now}
use Rattle.object_core.proofs.Sticking.{given_unasked, turn_sticks}
use Rattle.object_core.specs.Dropping.{IsDropping}
use Rattle.object_core.specs.Fitting.{IsFitIntake}
use Rattle.object_core.specs.Heard.{IsHeard}
use Rattle.object_core.specs.One.{HasTaken, HearsOfBack, IsOneOf, Origin, SticksAtAnswers, TellOfPair, TellsNow, class_in}
use Rattle.object_core.specs.Seen.{seen_of}

-- A front of an object can turn.
module _ {D : Type 0} (moment_of : D → ℕ) (left_since : D → ℕ → List ℕ → Type 0) (told : D → Option (List ℕ)) (image : D → List ℕ → Type 0) (faults_of : D → ℕ)
    (script : Script) (origin : Origin) (front : Half Evaluated) (inbox : Both Event) (back : Back D) (line : Both Entry) (notices : Both Notice) (out : Both Sent)
    (one : IsOneOf moment_of left_since told image faults_of script origin front inbox back line notices out) where
  can_as : (off : Bool) → is_stopped front ≡ off → CanTurn seen script front
  can_as true off = inl off
  can_as false on = inr (one.st, one.front_stands on)

  pub can_turn : CanTurn seen script front
  can_turn = can_as (is_stopped front) refl

-- What the front's own contract says of a turn over three queues.
pub record TurnsBy (script : Script) (old new : Half Evaluated) (inbox later_inbox : Both Event) (line later_line : Both Entry) (notices later : Both Notice)
    (result : Result Turned NoMemory) : Type 0 where
  pub stopped : is_stopped old ≡ true → OnOk result ⊥ × IsStill old new (inbox.got, notices.got, sent_on line) (later_inbox.got, later.got, sent_on later_line)
  pub stuck : is_stopped old ≡ false → old.stuck ≡ true → result ≡ Ok Idle
  pub still : result ≡ Ok Idle → IsStill old new (inbox.got, notices.got, sent_on line) (later_inbox.got, later.got, sent_on later_line)
  pub idle : result ≡ Ok Idle → (st : Stood) → IsHalf seen script old st → st.stuck ≡ false
      → StartsWith notices.got (sent_on notices) × IsQuiet st inbox.got (sent_on inbox)
  pub ran : result ≡ Ok Ran → (st : Stood) → IsHalf seen script old st
      → Turns seen script old new st inbox.got later_inbox.got notices.got later.got (sent_on notices)
  pub lost : OnErr result ((st : Stood) → IsHalf seen script old st
      → Halts script old new st inbox.got later_inbox.got notices.got later.got (sent_on notices))
  pub too : AreSentToo (sent_on line) (sent_on later_line) old.log.sent.items new.log.sent.items
  pub events : sent_on later_inbox ≡ sent_on inbox
  pub told : sent_on later ≡ sent_on notices
  pub said : later_line.got ≡ line.got

module _ {D : Type 0} (moment_of : D → ℕ) (left_since : D → ℕ → List ℕ → Type 0) (told : D → Option (List ℕ)) (image : D → List ℕ → Type 0) (faults_of : D → ℕ)
    (laws : TurnSteps) (come : EventsCome) (classes : ClassComes) (unasked : EarlyIsUnasked) (answered : DropsAreAnswered) (script : Script) (origin : Origin) (old new : Half Evaluated) (back : Back D)
    (inbox later_inbox : Both Event) (line later_line : Both Entry) (notices later : Both Notice) (out : Both Sent)
    (one : IsOneOf moment_of left_since told image faults_of script origin old inbox back line notices out) where
  abbrev After : Type 0
  After = IsOneOf moment_of left_since told image faults_of script origin new later_inbox back later_line later out

  module _ (result : Result Turned NoMemory) (by : TurnsBy script old new inbox later_inbox line later_line notices later result) where
    way : AreUnderWay old new notices.got later.got (one.lost ++ line.waiting) (one.lost ++ later_line.waiting) notices.waiting later.waiting
    way = under_way old new one.lost line later_line notices later by.too by.said by.told

    is_line : new.log.sent.items ≡ back.log.taken.items ++ one.lost ++ later_line.waiting
    is_line =
        let taken = back.log.taken.items in
        way.logged ∙ ap (λ (x : List Entry). x ++ way.sent) (one.is_line ∙ append_assoc taken one.lost line.waiting)
        ∙ append_assoc taken (one.lost ++ line.waiting) way.sent ∙ ap (λ (x : List Entry). taken ++ x) (sym way.behind)
        ∙ sym (append_assoc taken one.lost later_line.waiting)

    turned : (st : Stood) → (is_stopped new ≡ false → IsHalf seen script new st) → (is_stopped new ≡ false → HasTaken script (class_in script origin.object) one.alarm new st)
        → IsClassed script (class_in script origin.object) new st → HasGot new st later_inbox.got → TellOfPair told script origin.start st new back (one.lost ++ later_line.waiting) later.waiting
        → HearsOfBack told origin.start st new back (one.lost ++ later_line.waiting) later.waiting → (is_stopped new ≡ false → is_stopped old ≡ false)
        → SticksAtAnswers told new back later_inbox.got
        → (TellsNow told back → IsDropping script (class_in script origin.object) one.alarm new st back.log.downs.items later_inbox.got) → After
    turned st stands has_taken classed has_got pair heard was sticks drops = record {
      back_stands = one.back_stands;
      alarm = one.alarm;
      st = st;
      front_stands = stands;
      has_taken = has_taken;
      classed = classed;
      named = one.named;
      has_got = has_got;
      lost = one.lost;
      none_lost = one.none_lost;
      is_line = is_line;
      left = one.left;
      pair = pair;
      fits = λ has tells on goes. one.fits has tells (was on) goes;
      heard = heard;
      sticks = sticks;
      limited = one.limited;
      drops = drops;
    }

    rests : IsStill old new (inbox.got, notices.got, sent_on line) (later_inbox.got, later.got, sent_on later_line) → After
    rests still =
        turned one.st
        (λ on. subst (λ (h : Half Evaluated). IsHalf seen script h one.st) (sym still.half) (one.front_stands (sym (ap is_stopped still.half) ∙ on)))
        (λ on. subst (λ (h : Half Evaluated). HasTaken script (class_in script origin.object) one.alarm h one.st) (sym still.half) (one.has_taken (sym (ap is_stopped still.half) ∙ on)))
        (subst (λ (h : Half Evaluated). IsClassed script (class_in script origin.object) h one.st) (sym still.half) one.classed)
        (come.rests old new one.st (inbox.got, notices.got, sent_on line) (later_inbox.got, later.got, sent_on later_line) one.has_got still)
        (λ tells class is. laws.rests (kind_in script class) (opened_map origin.start) old new one.st (inbox.got, notices.got, sent_on line)
        (later_inbox.got, later.got, sent_on later_line) (seen_of (opened_map origin.start) back) (one.lost ++ line.waiting) (one.lost ++ later_line.waiting)
        notices.waiting later.waiting (one.pair tells class is) way still)
        (λ tells on goes.
        subst (λ (n : List Notice). IsHeard one.st.front (seen_of (opened_map origin.start) back) (one.lost ++ later_line.waiting) n) (took_none notices later still.no_notice by.told)
        (subst (λ (l : List Entry). IsHeard one.st.front (seen_of (opened_map origin.start) back) (one.lost ++ l) notices.waiting) (took_none line later_line by.said still.no_entry)
        (one.heard tells (sym (ap is_stopped still.half) ∙ on) goes)))
        (λ on. sym (ap is_stopped still.half) ∙ on)
        (subst (λ (h : Half Evaluated). SticksAtAnswers told h back later_inbox.got) (sym still.half)
        (subst (λ (got : List Event). SticksAtAnswers told old back got) (sym still.no_event) one.sticks))
        (λ tells. still_drops script (class_in script origin.object) one.alarm old new one.st back.log.downs.items inbox.got later_inbox.got still.half still.no_event (one.drops tells))

    -- how it stands to its back
    pair_of : is_stopped old ≡ false → (class : ℕ)
        → ArePaired (kind_in script class) (opened_map origin.start) one.st old (seen_of (opened_map origin.start) back) (one.lost ++ line.waiting) notices.waiting
        → IsPair (kind_in script class) (opened_map origin.start) one.st.front (fronted old.log) (seen_of (opened_map origin.start) back) (one.lost ++ line.waiting) notices.waiting
    pair_of on class paired =
        pair_now (kind_in script class) (opened_map origin.start) one.st old (seen_of (opened_map origin.start) back) (one.lost ++ line.waiting) notices.waiting on paired

    -- nothing has ended where nothing was sent
    none_ended : old.log.sent.items ≡ [] → back.log.stops.items ≡ []
    none_ended none =
        none_stopped moment_of left_since told image faults_of origin.start origin.opening _ back one.back_stands
        (first_none back.log.taken.items (one.lost ++ line.waiting)
        (subst (λ (sent : List Entry). sent ≡ back.log.taken.items ++ (one.lost ++ line.waiting)) none
        (one.is_line ∙ append_assoc back.log.taken.items one.lost line.waiting)))

    -- what it had taken before
    had_taken : is_stopped old ≡ false → (led : Led) → IsTaken script one.st inbox.got later_inbox.got notices.got later.got (sent_on notices) led
        → (class : ℕ) → IsClass led.stood.class class
        → (taken : List Taken) × IsTakenBy (kind_in script class) (opened one.alarm) taken one.st.front (fronted old.log)
        × IsFitIntake script (class_in script origin.object) taken
    had_taken on led taken class is =
        one.has_taken on class (laws.class script class one.st inbox.got later_inbox.got notices.got later.got (sent_on notices) led taken is)

    goes : is_stopped old ≡ false → Turns seen script old new one.st inbox.got later_inbox.got notices.got later.got (sent_on notices) → After
    goes on turns =
        let k = class_for turns.led.stood.class in
        let had = had_taken on turns.led turns.taken k.0 k.1 in
        turned turns.led.stood (λ on_then. turns.moves.half)
        (λ on_then class is.
        let t = had_taken on turns.led turns.taken class is in
        let behind : one.st.class ≡ class_behind script (class_in script origin.object) (events_in t.0) =
        one.classed.now on ∙ ap (λ (es : List Event). class_behind script (class_in script origin.object) es)
        (ap events t.1.delivered ∙ events_logged (kind_in script class) (opened one.alarm) t.0) in (
          t.0 ++ turns.led.item,
          turns.moves.taken class (opened one.alarm) t.0 is t.1,
          fit_more script (class_in script origin.object) t.0 turns.led.item t.2
              (subst (λ (c : Option ℕ). IsFitIntake script c turns.led.item) behind
              (taken_fit script one.st inbox.got later_inbox.got notices.got later.got (sent_on notices) turns.led turns.taken)),
        ))
        (classes.goes_on script k.0 (class_in script origin.object) (opened one.alarm) had.0 old new one.st inbox.got later_inbox.got notices.got later.got (sent_on notices) on one.classed had.1 turns k.1)
        (come.goes_on script k.0 (opened one.alarm) had.0 old new one.st inbox.got later_inbox.got notices.got later.got (sent_on notices) on one.has_got had.1 turns k.1)
        (λ tells class is. laws.goes_on script class (opened_map origin.start) old new one.st inbox.got later_inbox.got notices.got later.got (sent_on notices)
        (seen_of (opened_map origin.start) back) (one.lost ++ line.waiting) (one.lost ++ later_line.waiting) notices.waiting later.waiting
        (seen_is_rear moment_of left_since told image faults_of origin.start origin.opening back one.back_stands) on
        (one.pair tells class (laws.class script class one.st inbox.got later_inbox.got notices.got later.got (sent_on notices) turns.led turns.taken is)) way turns is)
        (λ tells on_then goes.
        turn_heard script k.0 (opened_map origin.start) (opened one.alarm) had.0 old new one.st inbox.got later_inbox.got notices.got later.got (sent_on notices)
        (seen_of (opened_map origin.start) back) (one.lost ++ line.waiting) (one.lost ++ later_line.waiting) notices.waiting later.waiting on
        (one.pair tells k.0 (laws.class script k.0 one.st inbox.got later_inbox.got notices.got later.got (sent_on notices) turns.led turns.taken k.1)) way had.1 turns k.1
        (one.heard tells on goes))
        (λ on_then. on)
        (λ tells on_then stuck.
        given_unasked unasked script k.0 one.alarm (had.0 ++ turns.led.item) turns.led.stood.front (fronted new.log) later_inbox.got
        (turns.moves.taken k.0 (opened one.alarm) had.0 k.1 had.1)
        (turn_sticks script k.0 (opened_map origin.start) old new one.st inbox.got later_inbox.got notices.got later.got (sent_on notices)
        (seen_of (opened_map origin.start) back) (one.lost ++ line.waiting) notices.waiting later.waiting on
        (one.pair tells k.0 (laws.class script k.0 one.st inbox.got later_inbox.got notices.got later.got (sent_on notices) turns.led turns.taken k.1)) way.told one.has_got
        turns stuck))
        (λ tells.
        turn_drops answered script (class_in script origin.object) k.0 (opened_map origin.start) one.alarm old one.st (seen_of (opened_map origin.start) back)
        (one.lost ++ line.waiting) notices.waiting had.0 (one.front_stands on)
        (pair_of on k.0 (one.pair tells k.0 (laws.class script k.0 one.st inbox.got later_inbox.got notices.got later.got (sent_on notices) turns.led turns.taken k.1)))
        had.1 on inbox.got later_inbox.got notices.got later.got (sent_on notices) later.waiting way.told (one.drops tells) none_ended one.classed new turns k.1)

    halts : is_stopped old ≡ false → Halts script old new one.st inbox.got later_inbox.got notices.got later.got (sent_on notices) → After
    halts on stops =
        let k = class_for stops.led.stood.class in
        let had = had_taken on stops.led stops.taken k.0 k.1 in
        turned stops.led.stood (λ on_then. absurd (true≢false (sym stops.stops.stopped ∙ on_then))) (λ on_then. absurd (true≢false (sym stops.stops.stopped ∙ on_then)))
        (classes.halts script k.0 (class_in script origin.object) (opened one.alarm) had.0 old new one.st inbox.got later_inbox.got notices.got later.got (sent_on notices) on one.classed had.1 stops k.1)
        (come.halts script k.0 (opened one.alarm) had.0 old new one.st inbox.got later_inbox.got notices.got later.got (sent_on notices) on one.has_got had.1 stops k.1)
        (λ tells class is. laws.halts script class (opened_map origin.start) old new one.st inbox.got later_inbox.got notices.got later.got (sent_on notices)
        (seen_of (opened_map origin.start) back) (one.lost ++ line.waiting) (one.lost ++ later_line.waiting) notices.waiting later.waiting
        (seen_is_rear moment_of left_since told image faults_of origin.start origin.opening back one.back_stands) on
        (one.pair tells class (laws.class script class one.st inbox.got later_inbox.got notices.got later.got (sent_on notices) stops.led stops.taken is)) way stops is)
        (λ tells on_then goes. absurd (true≢false (sym stops.stops.stopped ∙ on_then))) (λ on_then. on)
        (λ tells on_then stuck. absurd (true≢false (sym stops.stops.stopped ∙ on_then)))
        (λ tells.
        halt_drops answered script (class_in script origin.object) k.0 (opened_map origin.start) one.alarm old one.st (seen_of (opened_map origin.start) back)
        (one.lost ++ line.waiting) notices.waiting had.0 (one.front_stands on)
        (pair_of on k.0 (one.pair tells k.0 (laws.class script k.0 one.st inbox.got later_inbox.got notices.got later.got (sent_on notices) stops.led stops.taken k.1)))
        had.1 on inbox.got later_inbox.got notices.got later.got (sent_on notices) later.waiting way.told (one.drops tells) none_ended one.classed new stops k.1)

  ran : is_stopped old ≡ false → (result : Result Turned NoMemory) → TurnsBy script old new inbox later_inbox line later_line notices later result → After
  ran on (Ok Ran) by = goes (Ok Ran) by on (by.ran refl one.st (one.front_stands on))
  ran on (Ok Idle) by = rests (Ok Idle) by (by.still refl)
  ran on (Err fault) by = halts (Err fault) by on (by.lost one.st (one.front_stands on))

  stopped_as : (off : Bool) → is_stopped old ≡ off → (result : Result Turned NoMemory)
      → TurnsBy script old new inbox later_inbox line later_line notices later result → After
  stopped_as true off result by = rests result by (by.stopped off).1
  stopped_as false on result by = ran on result by

  pub turn_keeps : (result : Result Turned NoMemory) → TurnsBy script old new inbox later_inbox line later_line notices later result → After
  turn_keeps result by = stopped_as (is_stopped old) refl result by

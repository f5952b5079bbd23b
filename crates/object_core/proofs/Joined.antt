-- What is known of halves that ran apart, beside that they are paired: at what the front stands still, and what it dropped.
use Rattle.std.proofs.Common.{◌≡◌, ◌∙◌, ap, sym, refl, subst, true≢false, ℕ, List, [], ◌++◌, Option}
use Rattle.std.proofs.lemmas.List.Elements.{All-nil}
use Rattle.std.specs.Prelude.{false}
use Rattle.std.specs.List.{All}
use Rattle.do_tree.specs.Tree.{Script}
use Rattle.storage_map.specs.Contents.{Contents}
use Rattle.timeline.specs.History.{batches_in, entries_of}
use Rattle.timeline.specs.Intake.{Front, Kind, opened as opens}
use Rattle.timeline.specs.Logs.{Fronted, fronted}
use Rattle.timeline.specs.declared.entry.Entry.{Entry}
use Rattle.timeline.specs.declared.event.Event.{Event}
use Rattle.timeline.specs.declared.notice.Notice.{Notice}
use Rattle.object_front.proofs.Classes.{class_comes}
use Rattle.object_front.specs.Came.{HasGot, EventsCome}
use Rattle.object_front.specs.Classed.{IsClassed, class_by}
use Rattle.object_front.specs.Evaluated.{seen}
use Rattle.front_half.specs.Standing.{Stood, IsClass, IsHalf, IsTakenBy, fresh, is_stopped, kind_in, nothing_logged}
use Rattle.object_front.specs.declared.evaluated.Evaluated.{Evaluated}
use Rattle.front_half.specs.declared.half.Half.{Half}
use Rattle.object_history.specs.Pair.{Rear, IsPair, newest}
use Rattle.object_history.specs.Stepping.{BackSteps, IsRear, takes_own, read_fails, takes_down, takes_late, flies, stops, sends, syncs, halts, begins, misses}
use Rattle.front_history.specs.Turns.{BackStepsKeep, FrontBegins, TurnSteps}
use Rattle.object_messages.specs.Dropped.{DropsAreAnswered}
use Rattle.object_messages.specs.Laws.{EarlyIsUnasked}
use Rattle.object_core.proofs.Dropping.{downs_drops, first_none, halt_drops, none_said, steps_downs, turn_drops}
use Rattle.object_core.proofs.Forward.{FrontSteps, turned, halted}
use Rattle.object_core.proofs.Hearing.{not_none, some_last}
use Rattle.object_core.proofs.Joining.{Keeps}
use Rattle.object_core.proofs.Meeting.{begin_meets, joins, step_meets, turn_meets, way_on}
use Rattle.object_core.proofs.Pairing.{pair_now, taken_now}
use Rattle.object_core.proofs.Sticking.{given_unasked, turn_sticks}
use Rattle.object_core.specs.Apart.{BackRuns, FrontRuns, IsOpened, Joined}
use Rattle.object_core.specs.Dropping.{IsFitFor, MayDrop}

-- Of a back that has taken nothing no incarnation has ended, and it holds nothing.
record IsUntaken (rear : Rear) : Type 0 where
  none_ended : rear.log.stops ≡ []
  none_held : rear.held ≡ []

abbrev Untaken : Rear → Type 0
Untaken rear = rear.log.taken ≡ [] → IsUntaken rear

-- So each step of it leaves it.
step_untaken : (opened : Contents) (r next : Rear) (got : List Entry) (told : List Notice) → BackSteps r next got told → IsRear opened r → Untaken r → Untaken next
step_untaken opened r _ _ _ (takes_own e map stand is unended) known was none = absurd (some_last r.log.taken e [] none)
step_untaken opened r _ _ _ (read_fails e a free counts_before counts_after map stand is unended asks) known was none = absurd (some_last r.log.taken e [] none)
step_untaken opened r _ _ _ (takes_down e c map stand is fits) known was none = absurd (some_last r.log.taken e [] none)
step_untaken opened r _ _ _ (takes_late e map is) known was none = absurd (some_last r.log.taken e [] none)
step_untaken opened r _ _ _ (flies count map) known was none = record { none_ended = (was none).none_ended; none_held = (was none).none_held }
step_untaken opened r _ _ _ (stops stop held map stand less flown by_append is_held) known was none =
    absurd (known.owns less (ap (λ (taken : List Entry). batches_in (entries_of (newest r.log) taken)) none))
step_untaken opened r _ _ _ (sends release map) known was none = record { none_ended = (was none).none_ended; none_held = (was none).none_held }
step_untaken opened r _ _ _ (syncs number needs rest map is_held) known was none = absurd (not_none _ rest (sym is_held ∙ (was none).none_held))
step_untaken opened r _ _ _ (halts c needs rest stop end map is_held stand flown by_halt) known was none =
    absurd (not_none _ rest (sym is_held ∙ (was none).none_held))
step_untaken opened r _ _ _ (begins c end before map stand) known was none = record { none_ended = (was none).none_ended; none_held = (was none).none_held }
step_untaken opened r _ _ _ (misses c counts_before counts_after map stand) known was none =
    record { none_ended = (was none).none_ended; none_held = (was none).none_held }

module _ (front_begins : FrontBegins) (laws : TurnSteps) (back_keeps : BackStepsKeep) (come : EventsCome) (unasked : EarlyIsUnasked) (answered : DropsAreAnswered)
    (script : Script) (class : ℕ) (first : Option ℕ) (opened : Contents) where
  abbrev k : Kind
  k = kind_in script class

  abbrev from : Front
  from = opens opened.alarm

  record Joint (half : Half Evaluated) (st : Stood) (events : List Event) (rear : Rear) (line : List Entry) (notices : List Notice) : Type 0 where
    joined : Joined script class first opened half st events rear line notices
    stands : is_stopped half ≡ false → IsHalf seen script half st
    classed : IsClassed script first half st
    has_got : HasGot half st events
    untaken : Untaken rear

  -- One turn of the front.
  module _ (old new : Half Evaluated) (st : Stood) (events : List Event) (heard left : List Notice) (rear : Rear) (line sent : List Entry)
      (on : is_stopped old ≡ false) (joint : Joint old st events rear line (heard ++ left)) where
    pair : IsPair k opened st.front (fronted old.log) rear line (heard ++ left)
    pair = pair_now k opened st old rear line (heard ++ left) on joint.joined.meet.paired

    by : IsTakenBy k from joint.joined.meet.paired.taken st.front (fronted old.log)
    by = taken_now k opened st old rear line (heard ++ left) on joint.joined.meet.paired

    none_ended : old.log.sent.items ≡ [] → rear.log.stops ≡ []
    none_ended none = (joint.untaken (first_none rear.log.taken line (sym none ∙ pair.lined.sent))).none_ended

  -- So both stand after it.
  turn_joint : (old new : Half Evaluated) (st next : Stood) (events later : List Event) (heard left : List Notice) (rear : Rear) (line sent : List Entry)
      → IsRear opened rear → is_stopped old ≡ false → new.log.sent.items ≡ old.log.sent.items ++ sent → FrontSteps script old new st events later heard next
      → IsClass next.class class → Joint old st events rear line (heard ++ left) → Joint new next later rear (line ++ sent) left
  turn_joint old new st _ events later heard left rear line sent known on logged (turned before got told came turns) is_class joint =
      let way = way_on old new before got heard left line sent logged came in
      let taken = joint.joined.meet.paired.taken in
      let was = by old new st events heard left rear line sent on joint in
      record {
        joined = record {
          meet =
              turn_meets front_begins laws back_keeps script class opened old new st turns.led.stood events later heard left rear line sent known on logged
              (turned before got told came turns) is_class joint.joined.meet;
          sticks = λ on_then stuck.
              given_unasked unasked script class opened.alarm (taken ++ turns.led.item) turns.led.stood.front (fronted new.log) later
              (turns.moves.taken class from taken is_class was)
              (turn_sticks script class opened old new st events later before got told rear line (heard ++ left) left on joint.joined.meet.paired way.told joint.has_got turns stuck);
          drops =
              turn_drops answered script first class opened opened.alarm old st rear line (heard ++ left) taken (joint.stands on)
              (pair old new st events heard left rear line sent on joint) was on events later before got told left way.told joint.joined.drops
              (none_ended old new st events heard left rear line sent on joint) joint.classed new turns is_class;
        };
        stands = λ on_then. turns.moves.half;
        classed = class_comes.goes_on script class first from taken old new st events later before got told on joint.classed was turns is_class;
        has_got = come.goes_on script class from taken old new st events later before got told on joint.has_got was turns is_class;
        untaken = joint.untaken;
      }
  turn_joint old new st _ events later heard left rear line sent known on logged (halted before got told came stopped) is_class joint =
      let way = way_on old new before got heard left line sent logged came in
      let taken = joint.joined.meet.paired.taken in
      let was = by old new st events heard left rear line sent on joint in
      record {
        joined = record {
          meet =
              turn_meets front_begins laws back_keeps script class opened old new st stopped.led.stood events later heard left rear line sent known on logged
              (halted before got told came stopped) is_class joint.joined.meet;
          sticks = λ on_then stuck. absurd (true≢false (sym stopped.stops.stopped ∙ on_then));
          drops =
              halt_drops answered script first class opened opened.alarm old st rear line (heard ++ left) taken (joint.stands on)
              (pair old new st events heard left rear line sent on joint) was on events later before got told left way.told joint.joined.drops
              (none_ended old new st events heard left rear line sent on joint) joint.classed new stopped is_class;
        };
        stands = λ on_then. absurd (true≢false (sym stopped.stops.stopped ∙ on_then));
        classed = class_comes.halts script class first from taken old new st events later before got told on joint.classed was stopped is_class;
        has_got = come.halts script class from taken old new st events later before got told on joint.has_got was stopped is_class;
        untaken = joint.untaken;
      }

  -- A step of the back leaves them so.
  step_joint : (half : Half Evaluated) (st : Stood) (events : List Event) (rear next : Rear) (got line : List Entry) (told notices : List Notice)
      → IsRear opened rear → IsRear opened next → BackSteps rear next got told
      → Joint half st events rear (got ++ line) notices → Joint half st events next line (notices ++ told)
  step_joint half st events rear next got line told notices known known_then step joint = record {
    joined = record {
      meet = step_meets front_begins laws back_keeps script class opened half st rear next got line told notices known known_then step joint.joined.meet;
      sticks = joint.joined.sticks;
      drops =
          downs_drops script first opened.alarm half st rear.log.downs next.log.downs events (steps_downs rear next got told step) joint.joined.drops;
    };
    stands = joint.stands;
    classed = joint.classed;
    has_got = joint.has_got;
    untaken = step_untaken opened rear next got told step known joint.untaken;
  }

  -- A front that was just made, and the back of a slot that was just mounted.
  begin_joint : (half : Half Evaluated) (rear : Rear) → IsHalf seen script half (fresh first opened.alarm) → fronted half.log ≡ nothing_logged → IsOpened opened rear
      → Joint half (fresh first opened.alarm) [] rear [] []
  begin_joint half rear stands unlogged is = record {
    joined = record {
      meet = begin_meets front_begins laws back_keeps script class opened half first rear unlogged is;
      sticks = λ on stuck. absurd (true≢false (sym stuck ∙ stands.stuck));
      drops = record {
        unbound = λ on none. (ap (λ (x : Option ℕ). fresh x opened.alarm) none, ap (λ (x : Fronted). x.sent) unlogged);
        unsaid = λ none. none_said (fronted half.log) unlogged;
        keeps = λ on c so. All-nil (IsFitFor script c);
        class = λ on fit. refl;
        dropped = λ fit. subst (λ (x : Fronted). All (MayDrop x rear.log.downs) x.dropped) (sym unlogged) (All-nil (MayDrop nothing_logged rear.log.downs));
      };
    };
    stands = λ on. stands;
    classed = record {
      now = λ on. ap (λ (x : Fronted). class_by script first x) (sym unlogged);
      stays = λ c is. ap (λ (x : Fronted). class_by script first x) (sym unlogged) ∙ is;
    };
    has_got = come.begins half first opened.alarm unlogged;
    untaken = λ none. record { none_ended = is.stops; none_held = is.held };
  }

  -- All of which is kept.
  joint_keeps : Keeps script class opened (λ half st events rear line notices. Joint half st events rear line notices)
  joint_keeps = record {
    meet = λ half st events rear line notices joint. joint.joined.meet;
    turn = λ old new st next events later heard left rear line sent known on logged step is_class joint.
        turn_joint old new st next events later heard left rear line sent known on logged step is_class joint;
    step = λ half st events rear next got line told notices known known_then step joint.
        step_joint half st events rear next got line told notices known known_then step joint;
  }

  -- So halves that ran apart stand.
  pub apart_meet : (half : Half Evaluated) (st : Stood) (rear : Rear) (events : List Event) (got told : List Notice) (sent taken line : List Entry) (notices : List Notice)
      → FrontRuns script first opened.alarm half st events got sent → BackRuns opened rear taken told → sent ≡ taken ++ line → told ≡ got ++ notices
      → IsClass st.class class → Joined script class first opened half st events rear line notices
  apart_meet half st rear events got told sent taken line notices front back is_line is_told is_class =
      (joins front_begins laws back_keeps script class opened (λ h s es r l ns. Joint h s es r l ns) joint_keeps first
      (λ h r stands unlogged is. begin_joint h r stands unlogged is)
      half st rear events got told sent taken line notices front back is_line is_told is_class).joined

-- What the steps of either half leave of a front that is paired with its back: laws, each proved by a function of `laws`.
use Rattle.std.specs.Prelude.{◌≡◌, ℕ, suc, false, List, [], ◌++◌}
use Rattle.std.specs.List.{flat_map}
use Rattle.do_tree.specs.Tree.{Script}
use Rattle.storage_map.specs.Contents.{Contents}
use Rattle.timeline.specs.Headline.{IsPrefix, parts_of}
use Rattle.timeline.specs.History.{incarnation_at, incarnations, resets}
use Rattle.timeline.specs.Intake as intake
use Rattle.timeline.specs.Intake.{Kind}
use Rattle.timeline.specs.Laws.{IsAtRest}
use Rattle.timeline.specs.Logs.{fronted}
use Rattle.timeline.specs.Told.{spoken, spoken_in}
use Rattle.timeline.specs.declared.entry.Entry.{Entry}
use Rattle.timeline.specs.declared.event.Event.{Event}
use Rattle.timeline.specs.declared.notice.Notice.{Notice}
use Rattle.object_front.specs.Evaluated.{seen}
use Rattle.front_half.specs.Standing.{Stood, IsClass, kind_in, is_stopped, nothing_logged}
use Rattle.front_half.specs.Taking.{Led}
use Rattle.front_half.specs.Turning.{Lanes, IsStill, IsTaken, Turns, Halts}
use Rattle.object_front.specs.declared.evaluated.Evaluated.{Evaluated}
use Rattle.front_half.specs.declared.half.Half.{Half}
use Rattle.object_history.specs.Laws.{AreSaidSo}
use Rattle.object_history.specs.Pair.{Rear, mounted}
use Rattle.object_history.specs.Stepping.{IsRear, BackSteps, AreGiven}
use Rattle.front_history.specs.Paired.{ArePaired}

-- What is under way before a turn, and after it: what the front has sent of it, and logged as sent, is behind the entries under way to the
-- back; and the notices that it got, and those under way, are the same in all.
pub record AreUnderWay {T : Type 0} (old new : Half T) (got_before got : List Notice) (line later_line : List Entry)
    (notices later : List Notice) : Type 0 where
  pub sent : List Entry
  pub logged : new.log.sent.items ≡ old.log.sent.items ++ sent
  pub behind : later_line ≡ line ++ sent
  pub told : got_before ++ notices ≡ got ++ later

-- A front that turns stays paired with its back, whether it goes on, is stopped for want of memory, or takes nothing. What its class is
-- known to be after a turn it was before.
pub record TurnSteps : Type 0 where
  pub goes_on : (script : Script) (class : ℕ) (opened : Contents) (old new : Half Evaluated) (st : Stood) (events_before events : List Event)
      (got_before got told : List Notice) (rear : Rear) (line later_line : List Entry) (notices later : List Notice)
      → IsRear opened rear → is_stopped old ≡ false → ArePaired (kind_in script class) opened st old rear line notices
      → AreUnderWay old new got_before got line later_line notices later
      → (turns : Turns seen script old new st events_before events got_before got told) → IsClass turns.led.stood.class class
      → ArePaired (kind_in script class) opened turns.led.stood new rear later_line later
  pub halts : (script : Script) (class : ℕ) (opened : Contents) (old new : Half Evaluated) (st : Stood) (events_before events : List Event)
      (got_before got told : List Notice) (rear : Rear) (line later_line : List Entry) (notices later : List Notice)
      → IsRear opened rear → is_stopped old ≡ false → ArePaired (kind_in script class) opened st old rear line notices
      → AreUnderWay old new got_before got line later_line notices later
      → (halts : Halts script old new st events_before events got_before got told) → IsClass halts.led.stood.class class
      → ArePaired (kind_in script class) opened halts.led.stood new rear later_line later
  pub rests : (k : Kind) (opened : Contents) (old new : Half Evaluated) (st : Stood) (before after : Lanes) (rear : Rear)
      (line later_line : List Entry) (notices later : List Notice) → ArePaired k opened st old rear line notices
      → AreUnderWay old new before.1 after.1 line later_line notices later → IsStill old new before after
      → ArePaired k opened st new rear later_line later
  pub class : (script : Script) (class : ℕ) (st : Stood) (events_before events : List Event) (got_before got told : List Notice) (led : Led)
      → IsTaken script st events_before events got_before got told led → IsClass led.stood.class class → IsClass st.class class

-- The front and the back of a slot that was just mounted.
abbrev pub FrontBegins : Type 0
FrontBegins = (k : Kind) (opened : Contents) (st : Stood) (half : Half Evaluated) (rear : Rear) → IsRear opened rear → rear.stand ≡ mounted
    → rear.held ≡ [] → rear.log.taken ≡ [] → rear.log.stops ≡ [] → rear.log.downs ≡ [] → fronted half.log ≡ nothing_logged
    → st.front ≡ intake.opened opened.alarm → ArePaired k opened st half rear [] []

-- They stay paired whatever step the back makes, its notice being given or lost.
abbrev pub BackStepsKeep : Type 0
BackStepsKeep = (k : Kind) (opened : Contents) (st : Stood) (half : Half Evaluated) (rear later : Rear) (got line : List Entry)
    (told given notices : List Notice) → IsRear opened rear → IsRear opened later → BackSteps rear later got told → AreGiven told given
    → ArePaired k opened st half rear (got ++ line) notices → ArePaired k opened st half later line (notices ++ given)

-- What the logs show of their incarnations, as they are.
abbrev pub HalvesAreSaid : Type 0
HalvesAreSaid = (k : Kind) (opened : Contents) (st : Stood) (half : Half Evaluated) (rear : Rear) (line : List Entry) (notices : List Notice)
    → IsRear opened rear → ArePaired k opened st half rear line notices → AreSaidSo k opened (fronted half.log) rear.log

-- Of a front that goes on: what its incarnation has said begins with the failures of the calls that the one before left unanswered, and
-- where it waits for no notice it is all that it says.
pub record HalvesAreWhole : Type 0 where
  pub begins : (k : Kind) (opened : Contents) (st : Stood) (half : Half Evaluated) (rear : Rear) (line : List Entry) (notices : List Notice) (below : ℕ)
      → is_stopped half ≡ false → ArePaired k opened st half rear line notices → st.front.incarnation ≡ suc below
      → IsPrefix (spoken_in (resets (incarnations (fronted half.log) rear.log below))) (spoken (incarnation_at (fronted half.log) rear.log below).sent)
  pub whole : (k : Kind) (opened : Contents) (st : Stood) (half : Half Evaluated) (rear : Rear) (line : List Entry) (notices : List Notice) (below : ℕ)
      → is_stopped half ≡ false → ArePaired k opened st half rear line notices → st.front.incarnation ≡ suc below → IsAtRest st.front.mode
      → spoken (incarnation_at (fronted half.log) rear.log below).sent
      ≡ flat_map (λ part. part)
      (parts_of k.script k.class opened (fronted half.log) rear.log (incarnation_at (fronted half.log) rear.log below)
      (incarnations (fronted half.log) rear.log below))

-- The halves of an object that run apart, each by its own steps.
use Rattle.std.specs.Prelude.{◌≡◌, ℕ, ℤ, true, false, List, [], ◌++◌, Option}
use Rattle.do_tree.specs.Tree.{Script}
use Rattle.storage_map.specs.Contents.{Contents}
use Rattle.timeline.specs.Logs.{fronted}
use Rattle.timeline.specs.declared.entry.Entry.{Entry}
use Rattle.timeline.specs.declared.event.Event.{Event}
use Rattle.timeline.specs.declared.notice.Notice.{Notice}
use Rattle.object_front.specs.Evaluated.{seen}
use Rattle.front_half.specs.Standing.{Stood, IsClass, IsHalf, fresh, is_stopped, kind_in, nothing_logged}
use Rattle.front_half.specs.Turning.{Turns, Halts}
use Rattle.object_front.specs.declared.evaluated.Evaluated.{Evaluated}
use Rattle.front_half.specs.declared.half.Half.{Half}
use Rattle.object_history.specs.Pair.{Rear, mounted}
use Rattle.object_history.specs.Stepping.{BackSteps, IsRear}
use Rattle.front_history.specs.Paired.{ArePaired}
use Rattle.object_core.specs.Dropping.{IsDropping}
use Rattle.object_core.specs.Heard.{IsHeard}
use Rattle.object_core.specs.One.{IsGivenUnasked}

-- A back of a slot that was just mounted with this map.
pub record IsOpened (opened : Contents) (rear : Rear) : Type 0 where
  pub is_rear : IsRear opened rear
  pub stand : rear.stand ≡ mounted
  pub held : rear.held ≡ []
  pub taken : rear.log.taken ≡ []
  pub stops : rear.log.stops ≡ []
  pub downs : rear.log.downs ≡ []
  pub map : rear.map ≡ opened

-- The steps of a back since its opening, with the entries that they took and the notices that they tell.
pub data BackRuns (opened : Contents) : Rear → List Entry → List Notice → Type 0 where
  begins : (rear : Rear) → IsOpened opened rear → BackRuns opened rear [] []
  goes_on : (rear later : Rear) (taken got : List Entry) (told more : List Notice) → BackRuns opened rear taken told → IsRear opened later
      → BackSteps rear later got more → BackRuns opened later (taken ++ got) (told ++ more)

-- The turns of a front since it was made with this class and this alarm: the events and the notices that it got, and the entries that it
-- sent. One at which memory was wanting is the last.
pub data FrontRuns (script : Script) (first : Option ℕ) (alarm : Option (ℤ × ℕ))
    : Half Evaluated → Stood → List Event → List Notice → List Entry → Type 0 where
  is_made : (half : Half Evaluated) → IsHalf seen script half (fresh first alarm) → fronted half.log ≡ nothing_logged
      → FrontRuns script first alarm half (fresh first alarm) [] [] []
  turns : (old new : Half Evaluated) (st : Stood) (events later_events : List Event) (notices later told : List Notice) (line sent : List Entry)
      → FrontRuns script first alarm old st events notices line → is_stopped old ≡ false
      → (turns : Turns seen script old new st events later_events notices later told) → new.log.sent.items ≡ old.log.sent.items ++ sent
      → FrontRuns script first alarm new turns.led.stood later_events later (line ++ sent)
  halts : (old new : Half Evaluated) (st : Stood) (events later_events : List Event) (notices later told : List Notice) (line sent : List Entry)
      → FrontRuns script first alarm old st events notices line → is_stopped old ≡ false
      → (halts : Halts script old new st events later_events notices later told) → new.log.sent.items ≡ old.log.sent.items ++ sent
      → FrontRuns script first alarm new halts.led.stood later_events later (line ++ sent)

-- What is known of two halves that are paired: and that the front hears of its back, while memory suffices for it.
pub record Meet (script : Script) (class : ℕ) (opened : Contents) (st : Stood) (half : Half Evaluated) (rear : Rear) (line : List Entry)
    (notices : List Notice) : Type 0 where
  pub paired : ArePaired (kind_in script class) opened st half rear line notices
  pub heard : is_stopped half ≡ false → IsHeard st.front rear line notices

-- And that such a front stands still only where it was given what it didn't ask, and what it dropped, of all that it got.
pub record Joined (script : Script) (class : ℕ) (first : Option ℕ) (opened : Contents) (half : Half Evaluated) (st : Stood) (events : List Event) (rear : Rear)
    (line : List Entry) (notices : List Notice) : Type 0 where
  pub meet : Meet script class opened st half rear line notices
  pub sticks : is_stopped half ≡ false → half.stuck ≡ true → IsGivenUnasked (fronted half.log) events
  pub drops : IsDropping script first opened.alarm half st rear.log.downs events

-- Halves of a slot that was mounted with this map, each of which ran by itself: the back took the first of what the front sent, and the front
-- got the first of what the back told. They are paired as if they had run together.
abbrev pub ApartMeet : Type 0
ApartMeet = (script : Script) (class : ℕ) (first : Option ℕ) (opened : Contents) (half : Half Evaluated) (st : Stood) (rear : Rear) (events : List Event)
    (got told : List Notice) (sent taken line : List Entry) (notices : List Notice)
    → FrontRuns script first opened.alarm half st events got sent → BackRuns opened rear taken told → sent ≡ taken ++ line → told ≡ got ++ notices
    → IsClass st.class class → Joined script class first opened half st events rear line notices

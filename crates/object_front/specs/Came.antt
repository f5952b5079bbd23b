-- What became of the events that a front got from its inbox.
use Rattle.std.specs.Prelude.{◌≡◌, ◌≤◌, ℕ, ℤ, Option, false, List, [], ◌∷◌, ◌++◌, length, map, option_to_list, IsPermutation}
use Rattle.std.specs.List.{filter}
use Rattle.do_tree.specs.Tree.{Script}
use Rattle.timeline.specs.Intake as intake
use Rattle.timeline.specs.Intake.{Mode, serves, down, Taken}
use Rattle.timeline.specs.Logs.{Fronted, fronted}
use Rattle.timeline.specs.declared.event.Event.{Event}
use Rattle.timeline.specs.declared.notice.Notice.{Notice}
use Rattle.object_front.specs.Evaluated.{seen}
use Rattle.front_half.specs.Kinds.{is_call}
use Rattle.front_half.specs.Standing.{Stood, IsClass, IsTakenBy, kind_in, fresh, is_stopped, nothing_logged}
use Rattle.front_half.specs.Turning.{Lanes, IsStill, Turns, Halts}
use Rattle.object_front.specs.declared.evaluated.Evaluated.{Evaluated}
use Rattle.front_half.specs.declared.half.Half.{Half}

-- A list is part of another, in its order.
pub data IsPartOf {X : Type 0} : List X → List X → Type 0 where
  nothing : IsPartOf [] []
  shares : (x : X) (xs ys : List X) → IsPartOf xs ys → IsPartOf (x ∷ xs) (x ∷ ys)
  skips : (y : X) (xs ys : List X) → IsPartOf xs ys → IsPartOf xs (y ∷ ys)

abbrev pub events : List (ℕ × Event) → List Event
events items = map (λ (item : ℕ × Event). item.1) items

abbrev pub calls : List Event → List Event
calls es = filter is_call es

-- What a front keeps: the call that waits for a mounting, and the events that are deferred.
abbrev pub wanting : Mode → List Event
wanting (serves state) = []
wanting (down call) = option_to_list call

abbrev pub kept : Stood → List Event
kept st = wanting st.front.mode ++ st.deferred

-- Each event that was got was delivered, answered by `Down` or dropped, or is kept, or is lost to the front: once, however often it was
-- got. Calls are delivered in the order in which they came, and those that are kept come behind.
pub record AreCome (got : List Event) (log : Fronted) (keeps lost : List Event) : Type 0 where
  pub each : IsPermutation got (events log.delivered ++ (events log.downed ++ (log.dropped ++ (keeps ++ lost))))
  pub order : IsPartOf (calls (events log.delivered) ++ calls keeps) (calls got)

-- At most one event is lost: where a front stands still, the one at which it does; where memory was wanting, the one that it took then
-- and hadn't logged. What a stopped front keeps is what it would keep had it gone on: it takes none of it any more.
pub record HasGot (half : Half Evaluated) (st : Stood) (got : List Event) : Type 0 where
  pub lost : List Event
  pub few : length lost ≤ 1
  pub none_lost : is_stopped half ≡ false → st.stuck ≡ false → lost ≡ []
  pub come : AreCome got (fronted half.log) (kept st) lost

-- A front that has taken nothing has got nothing; and a turn accounts for what it gets, also where memory was wanting.
pub record EventsCome : Type 0 where
  pub begins : (half : Half Evaluated) (class : Option ℕ) (alarm : Option (ℤ × ℕ)) → fronted half.log ≡ nothing_logged
      → HasGot half (fresh class alarm) []
  pub goes_on : (script : Script) (class : ℕ) (from : intake.Front) (taken : List Taken) (old new : Half Evaluated) (st : Stood)
      (before got : List Event) (notices_before notices told : List Notice) → is_stopped old ≡ false → HasGot old st before
      → IsTakenBy (kind_in script class) from taken st.front (fronted old.log)
      → (turns : Turns seen script old new st before got notices_before notices told) → IsClass turns.led.stood.class class
      → HasGot new turns.led.stood got
  pub halts : (script : Script) (class : ℕ) (from : intake.Front) (taken : List Taken) (old new : Half Evaluated) (st : Stood)
      (before got : List Event) (notices_before notices told : List Notice) → is_stopped old ≡ false → HasGot old st before
      → IsTakenBy (kind_in script class) from taken st.front (fronted old.log)
      → (halts : Halts script old new st before got notices_before notices told) → IsClass halts.led.stood.class class
      → HasGot new halts.led.stood got
  pub rests : (old new : Half Evaluated) (st : Stood) (before after : Lanes) → HasGot old st before.0 → IsStill old new before after
      → HasGot new st after.0

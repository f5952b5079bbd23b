-- A front as it runs, tied to its back by the lanes between them. Once memory was wanting, what it didn't suffice for counts as under way.
use Rattle.std.specs.Prelude.{◌≡◌, ℕ, false, List, [], ◌++◌}
use Rattle.storage_map.specs.Contents.{Contents}
use Rattle.timeline.specs.Intake as intake
use Rattle.timeline.specs.Intake.{Kind, Front, Taken, numbered}
use Rattle.timeline.specs.Logs.{Fronted, fronted}
use Rattle.timeline.specs.declared.entry.Body.{Body}
use Rattle.timeline.specs.declared.entry.Entry.{Entry}
use Rattle.timeline.specs.declared.notice.Notice.{Notice}
use Rattle.front_half.specs.Standing.{Stood, IsTakenBy, is_stopped}
use Rattle.front_half.specs.declared.half.Half.{Half}
use Rattle.object_history.specs.Pair.{IsPair, Rear}

-- A front's log with what it would have sent behind it, had memory sufficed.
abbrev pub logged_with : Fronted → List Entry → Fronted
logged_with log unsent = record log { sent = log.sent ++ unsent }

-- The front of a slot that was mounted with this map, as it stands, and the back behind it: the front has taken an intake, and both are a
-- pair, with these entries under way to the back and these notices to the front. Of a front that was stopped some entries of its newest
-- incarnation may not have been sent, and a notice that it got may not have been logged.
pub record ArePaired {T : Type 0} (k : Kind) (opened : Contents) (st : Stood) (half : Half T) (rear : Rear) (line : List Entry)
    (notices : List Notice) : Type 0 where
  pub front : Front
  pub unsent : List Entry
  pub number : ℕ
  pub bodies : List Body
  pub own : unsent ≡ numbered front.incarnation number bodies
  pub missed : List Notice
  pub stands : is_stopped half ≡ false → front ≡ st.front
  pub sent_all : is_stopped half ≡ false → unsent ≡ []
  pub missed_none : is_stopped half ≡ false → missed ≡ []
  pub taken : List Taken
  pub by : IsTakenBy k (intake.opened opened.alarm) taken front (logged_with (fronted half.log) unsent)
  pub pair : IsPair k opened front (logged_with (fronted half.log) unsent) rear (line ++ unsent) (missed ++ notices)

-- What a front hears of its back: as long as memory suffices no notice is lost, so that a front that waits has something under way.
use Rattle.std.specs.Prelude.{◌≡◌, ◌≢◌, ◌⊎◌, Bool, true, false, List, []}
use Rattle.std.specs.List.{list_any}
use Rattle.timeline.specs.History.{entries_of}
use Rattle.timeline.specs.Intake.{Front}
use Rattle.timeline.specs.declared.entry.Entry.{Entry}
use Rattle.timeline.specs.declared.notice.Notice.{Notice}
use Rattle.timeline.specs.declared.notice.Notice.TheVariants as notice
use Rattle.front_half.specs.Taking.{waits}
use Rattle.object_history.specs.Pair.{Rear, Stand, wanted, newest}

-- A notice of an end, or of a mounting that failed.
abbrev pub is_news : Notice → Bool
is_news (notice.Fresh incarnation alarm cause) = true
is_news (notice.Down cause before after) = true
is_news n = false

-- A mounting is wanted, after which the front is told.
abbrev pub IsWanted : Stand → Type 0
IsWanted (wanted c) = Unit {0}
IsWanted stand = ⊥

-- Something is under way of which a front is told: a notice; what its back holds for it; a mounting; or an entry of its incarnation.
pub data IsUnderWay (f : Front) (rear : Rear) (line : List Entry) (notices : List Notice) : Type 0 where
  by_notice : notices ≢ [] → IsUnderWay f rear line notices
  by_hold : rear.held ≢ [] → IsUnderWay f rear line notices
  by_mounting : IsWanted rear.stand → IsUnderWay f rear line notices
  by_entry : entries_of f.incarnation line ≢ [] → IsUnderWay f rear line notices

-- A front whose back is an incarnation ahead is told of it; and one that waits is told what it waits for, or of an end.
pub record IsHeard (f : Front) (rear : Rear) (line : List Entry) (notices : List Notice) : Type 0 where
  pub news : newest rear.log ≢ f.incarnation → (list_any is_news notices ≡ true) ⊎ IsWanted rear.stand
  pub answer : waits f.mode ≡ true → IsUnderWay f rear line notices

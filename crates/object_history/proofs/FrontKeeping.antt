-- Two halves stay a pair whatever their front takes that it may.
use Rattle.std.proofs.Common.{◌∙◌, refl, ℕ, suc, List, ◌++◌, append-nil, length, Option, Some, None}
use Rattle.std.specs.Prelude.{ℤ}
use Rattle.do_value.specs.declared.value.Value.TheVariants as value
use Rattle.storage_map.specs.Contents.{Contents}
use Rattle.storage_map.specs.declared.answer.Reading.{Reading}
use Rattle.storage_map.specs.declared.answer.Reading.TheVariants as reading
use Rattle.script_mean.specs.declared.answer.Answer.TheVariants as answer
use Rattle.timeline.specs.Intake.{Kind, Mode, serves, down, Taken, delivered, noticed, wanted, takes, numbered, MayTake}
use Rattle.timeline.specs.Logs.{Fronted}
use Rattle.timeline.specs.Object.{idle, waiting, ended}
use Rattle.timeline.specs.declared.caller.Cause.{Cause}
use Rattle.timeline.specs.declared.entry.Body.{Body}
use Rattle.timeline.specs.declared.entry.Entry.{Entry}
use Rattle.timeline.specs.declared.event.Event.{Event}
use Rattle.timeline.specs.declared.notice.Notice.{Notice}
use Rattle.timeline.specs.declared.notice.Notice.TheVariants as notice
use Rattle.object_history.proofs.Advancing.{front, on_event, on_answer}
use Rattle.object_history.proofs.Downs.{none_waits, is_down}
use Rattle.object_history.proofs.Dropping.{on_dropped}
use Rattle.object_history.proofs.Ending.{on_fresh, on_down}
use Rattle.object_history.proofs.DownFronts.{on_mended, on_missed, on_wanted}
use Rattle.object_history.specs.Laws.{TellingGoesOn, TellingTells, StepsSayWell, FrontKeepsPair}
use Rattle.object_history.specs.Pair.{Rear, IsPair}
use Rattle.object_history.specs.Stepping.{Grows, WantsCall, notices_with, said_before}

module _ (goes_on : TellingGoesOn) (tells : TellingTells) (well : StepsSayWell) (k : Kind) (opened : Contents) (i : ℕ) (es : List Event) (said : List Body)
    (old new : Fronted) (rear : Rear) (line : List Entry) (left : List Notice) where
  -- What an item leaves of a pair.
  abbrev Keeps : Mode → Taken → Type 0
  Keeps mode t = IsPair k opened (front i es said mode) old rear line (notices_with t left) → MayTake (front i es said mode) t → WantsCall t
      → (grows : Grows k (front i es said mode) t old new)
      → IsPair k opened (takes k (front i es said mode) t) new rear
      (line ++ numbered (takes k (front i es said mode) t).incarnation (suc (length (said_before (front i es said mode) mode t))) grows.more) left

  -- an event
  delivered_keeps : (mode : Mode) (e : Event) → Keeps mode (delivered e)
  delivered_keeps (serves (idle o)) e pair may call grows = on_event goes_on well k opened i es said o e old new rear line left pair grows
  delivered_keeps (serves (waiting o t b)) e pair may call grows = absurd may
  delivered_keeps (serves (ended c)) e pair may call grows = absurd may
  delivered_keeps (down waits) e pair may call grows = absurd may

  -- a call that asks for a mounting
  wanted_keeps : (mode : Mode) (e : Event) → Keeps mode (wanted e)
  wanted_keeps (serves state) e pair may call grows = absurd (is_down (serves state) state None refl may)
  wanted_keeps (down None) e pair may call grows = on_wanted k opened i es said e old new rear line left pair call grows
  wanted_keeps (down (Some other)) e pair may call grows = absurd (none_waits (down (Some other)) other may refl)

  -- the news of a mounting
  fresh_keeps : (mode : Mode) (number : ℕ) (alarm : Option (ℤ × ℕ)) (cause : Cause) → Keeps mode (noticed (notice.Fresh number alarm cause))
  fresh_keeps (serves state) number alarm cause pair may call grows =
      on_fresh goes_on tells k opened i es said state number alarm cause old new rear line left pair grows
  fresh_keeps (down None) number alarm cause pair may call grows = absurd may
  fresh_keeps (down (Some other)) number alarm cause pair may call grows =
      on_mended goes_on k opened i es said other number alarm cause old new rear line left pair grows

  -- the news of a failure
  down_keeps : (mode : Mode) (cause : Cause) (before after : ℕ) → Keeps mode (noticed (notice.Down cause before after))
  down_keeps (serves state) cause before after pair may call grows =
      on_down tells k opened i es said state cause before after old new rear line left pair grows
  down_keeps (down None) cause before after pair may call grows = absurd may
  down_keeps (down (Some other)) cause before after pair may call grows =
      on_missed k opened i es said other cause before after old new rear line left pair grows

  -- a reading
  read_keeps : (mode : Mode) (number : ℕ) (r : Reading) → Keeps mode (noticed (notice.Read number r))
  read_keeps (serves (waiting o t b)) number r pair may call grows =
      on_answer well k opened i es said o t b (notice.Read number r) (answer.Read r) old new rear line left refl pair grows.more
      (record { sent = grows.sent; delivered = grows.delivered; downed = grows.downed; ends = grows.ends ∙ append-nil old.ends }) grows.said
      (λ before first telling is given. goes_on.on_answer k pair.start before (front i es said (serves (waiting o t b))) o t b (notice.Read number r) first
      telling refl is given)
  read_keeps (serves (idle o)) number r pair may call grows = absurd may
  read_keeps (serves (ended c)) number r pair may call grows = absurd may
  read_keeps (down None) number r pair may call grows = absurd may
  read_keeps (down (Some other)) number r pair may call grows = absurd may

  -- a batch that was taken
  taken_keeps : (mode : Mode) (number count : ℕ) → Keeps mode (noticed (notice.Taken number count))
  taken_keeps (serves (waiting o t b)) number count pair may call grows =
      on_answer well k opened i es said o t b (notice.Taken number count) (answer.Read (reading.Count count)) old new rear line left refl pair grows.more
      (record { sent = grows.sent; delivered = grows.delivered; downed = grows.downed; ends = grows.ends ∙ append-nil old.ends }) grows.said
      (λ before first telling is given. goes_on.on_answer k pair.start before (front i es said (serves (waiting o t b))) o t b (notice.Taken number count)
      first telling refl is given)
  taken_keeps (serves (idle o)) number count pair may call grows = absurd may
  taken_keeps (serves (ended c)) number count pair may call grows = absurd may
  taken_keeps (down None) number count pair may call grows = absurd may
  taken_keeps (down (Some other)) number count pair may call grows = absurd may

  -- that all is durable
  synced_keeps : (mode : Mode) (number : ℕ) → Keeps mode (noticed (notice.Synced number))
  synced_keeps (serves (waiting o t b)) number pair may call grows =
      on_answer well k opened i es said o t b (notice.Synced number) (answer.Value value.Undefined) old new rear line left refl pair grows.more
      (record { sent = grows.sent; delivered = grows.delivered; downed = grows.downed; ends = grows.ends ∙ append-nil old.ends }) grows.said
      (λ before first telling is given. goes_on.on_answer k pair.start before (front i es said (serves (waiting o t b))) o t b (notice.Synced number) first
      telling refl is given)
  synced_keeps (serves (idle o)) number pair may call grows = absurd may
  synced_keeps (serves (ended c)) number pair may call grows = absurd may
  synced_keeps (down None) number pair may call grows = absurd may
  synced_keeps (down (Some other)) number pair may call grows = absurd may

  -- each item
  keeps : (mode : Mode) (t : Taken) → Keeps mode t
  keeps mode (delivered e) = delivered_keeps mode e
  keeps mode (wanted e) = wanted_keeps mode e
  keeps mode (noticed (notice.Fresh number alarm cause)) = fresh_keeps mode number alarm cause
  keeps mode (noticed (notice.Down cause before after)) = down_keeps mode cause before after
  keeps mode (noticed (notice.Read number r)) = read_keeps mode number r
  keeps mode (noticed (notice.Taken number count)) = taken_keeps mode number count
  keeps mode (noticed (notice.Synced number)) = synced_keeps mode number

-- An item that it may take, and one that it drops.
pub front_keeps : TellingGoesOn → TellingTells → StepsSayWell → FrontKeepsPair
front_keeps goes_on tells well = record {
  takes_one = λ k opened f old new rear line left t is_rear pair may call grows.
      keeps goes_on tells well k opened f.incarnation f.events f.said old new rear line left f.mode t pair may call grows;
  drops = on_dropped;
}

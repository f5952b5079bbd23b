-- How far a slot's journal goes.
use Rattle.std.specs.Prelude.{◌≡◌, ◌<◌, ◌-◌, ◌^◌, ℕ, List, Option}
use Rattle.std.specs.List.{Contains}
use Rattle.batch_journal.specs.Moments.{IsTold}
use Rattle.batch_journal.specs.Rest.{end_of}
use Rattle.timeline.specs.declared.back_log.Stop.{Stop}
use Rattle.timeline.specs.declared.caller.Cause.{Cause}
use Rattle.timeline.specs.declared.caller.Cause.TheVariants as cause
use Rattle.output_gate.specs.Storing.{HasLimit, IsDiskOf}
use Rattle.output_gate.specs.Written.{AreWritten}
use Rattle.output_gate.specs.declared.back.Back.{Back}
use Rattle.output_gate.specs.declared.store.Store.{Store}
use Rattle.output_gate.specs.declared.store.Store.TheVariants as store

-- How many bytes a slot's journal may have, and the place where it ended at the opening.
pub record Extent : Type 0 where
  pub limit : ℕ
  pub end : ℕ

-- Those of a back of a slot that was just mounted.
abbrev pub end_in : {D : Type 0} → Store D → ℕ
end_in (store.Journal journal) = end_of journal
end_in other = 0

abbrev pub extent_of : {D : Type 0} → Back D → Extent
extent_of back = record { limit = back.limit; end = end_in back.store }

-- An end by a full journal names its limit and tells more bytes than it, up to the greatest number.
abbrev pub IsFullAt : ℕ → Cause → Type 0
IsFullAt limit (cause.Full needed most) = (most ≡ limit) × (limit < 2 ^ 64 - 1 → limit < needed)
IsFullAt limit c = Unit {0}

-- The journal has this limit, mounted anew or not, and each end by a full journal is of it. While its disk tells its content the journal ends
-- behind the frames that its log has since it ended at that place, and was full at such an end by these.
pub record IsLimitedBy {D : Type 0} (told : D → Option (List ℕ)) (extent : Extent) (back : Back D) : Type 0 where
  pub kept : back.limit ≡ extent.limit
  pub journal : HasLimit extent.limit back.store
  pub full : (stop : Stop) → Contains back.log.stops.items stop → IsFullAt extent.limit stop.cause
  pub written : (disk : D) → IsDiskOf back.store disk → IsTold (told disk) → AreWritten extent.limit extent.end back

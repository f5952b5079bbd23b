-- What a back takes, and what it tells its front of it.
use Rattle.std.specs.Prelude.{◌≡◌, ℕ, ◌+◌, ◌≤◌, nat_lt, ◌==◌, Bool, true, false, not, ◌&&◌, [], ◌∷◌, ◌++◌, Option, Some, None, is_some, vec_len}
use Rattle.std.specs.Vec.{vec_capacity}
use Rattle.storage_map.specs.Contents.{Contents}
use Rattle.storage_map.specs.Readings.{reading}
use Rattle.timeline.specs.Logs.{backed}
use Rattle.timeline.specs.Told.{counted}
use Rattle.timeline.specs.declared.back_log.BackLog.{BackLog}
use Rattle.timeline.specs.declared.entry.Body.{Body}
use Rattle.timeline.specs.declared.entry.Body.TheVariants as body
use Rattle.timeline.specs.declared.entry.Entry.{Entry}
use Rattle.timeline.specs.declared.notice.Notice.{Notice}
use Rattle.timeline.specs.declared.notice.Notice.TheVariants as notice
use Rattle.output_gate.specs.Fits.{comes_behind, fits_mounted, fits_down, last_of}
use Rattle.output_gate.specs.Held.{has_failed_read}
use Rattle.output_gate.specs.declared.back.Back.{Back}
use Rattle.output_gate.specs.declared.back.Mode.{Mode}
use Rattle.output_gate.specs.declared.back.Mode.TheVariants.{Mounted, Wanted}
use Rattle.output_gate.specs.declared.fit.Fit.{Fit}
use Rattle.output_gate.specs.declared.fit.Fit.TheVariants as fit

-- What the front is told at once of an entry that is taken while storage stands so.
abbrev pub notice_of : ℕ → Contents → Body → Option Notice
notice_of number m (body.Batch ops (Some tail) confirmed) = Some (notice.Taken number (counted m ops tail))
notice_of number m (body.Ask ask free) = Some (notice.Read number (reading m ask))
notice_of number m _ = None

-- no more is taken while so many bytes, or more, are unflushed
abbrev pub most_unflushed : ℕ
most_unflushed = 1048576

abbrev pub is_wanted : Mode → Bool
is_wanted (Wanted ending) = true
is_wanted mode = false

abbrev pub is_mounted_mode : Mode → Bool
is_mounted_mode Mounted = true
is_mounted_mode mode = false

-- A back takes: it isn't stuck, no mounting is wanted, no end by a read that failed is held, and less is unflushed.
abbrev pub may_take : {D : Type 0} → Back D → Bool
may_take back = not back.stuck && not (is_wanted back.mode) && not (has_failed_read back.held.items) && nat_lt back.unflushed most_unflushed

-- What an entry is to a back.
abbrev pub fit_as : (fits own mounted : Bool) → Fit
fit_as false own mounted = fit.Unfit
fit_as true true true = fit.Own
fit_as true true false = fit.Down
fit_as true false mounted = fit.Late

abbrev pub fits_so : (own mounted known : Bool) → Body → Bool
fits_so true false known b = fits_down b
fits_so own mounted known b = fits_mounted b known

abbrev pub fit_in : (behind within own mounted known : Bool) → Body → Fit
fit_in behind within own mounted known b = fit_as (behind && within && fits_so own mounted known b) own mounted

abbrev pub fit_of : {D : Type 0} → Back D → Entry → Fit
fit_of back e =
    fit_in (comes_behind (last_of back.log.taken.items) e) (not (nat_lt back.number e.incarnation)) (e.incarnation == back.number)
    (is_mounted_mode back.mode) (is_some back.identity) e.body

-- the log has the room of an entry, a flight and a stop
pub record LogRoom (log : BackLog) : Type 0 where
  pub taken : vec_len log.taken + 1 ≤ vec_capacity log.taken
  pub flights : vec_len log.flights + 1 ≤ vec_capacity log.flights
  pub stops : vec_len log.stops + 1 ≤ vec_capacity log.stops

-- the log has one more entry, and the room of a flight and a stop
pub record LogTook (old new : BackLog) (e : Entry) : Type 0 where
  pub taken : backed new ≡ record (backed old) { taken = old.taken.items ++ e ∷ [] }
  pub flights : vec_len new.flights + 1 ≤ vec_capacity new.flights
  pub stops : vec_len new.stops + 1 ≤ vec_capacity new.stops

-- the log has the same, and the room that it had
pub record LogSame (old new : BackLog) : Type 0 where
  pub same : backed new ≡ backed old
  pub flights : vec_len old.flights + 1 ≤ vec_capacity old.flights → vec_len new.flights + 1 ≤ vec_capacity new.flights
  pub stops : vec_len old.stops + 1 ≤ vec_capacity old.stops → vec_len new.stops + 1 ≤ vec_capacity new.stops

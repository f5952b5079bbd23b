use Rattle.std.proofs.Common.{List}
use Rattle.std.proofs.lemmas.Result.{err_from_is_err_and}
use Rattle.batch_journal.specs.declared.read_stored.ReadFault.TheVariants.{DiskFailed, NoMemory}
use Rattle.batch_journal.specs.Frames.{Frame}
use Rattle.object_storage.specs.Reads.{CanBeRead}
use Rattle.object_storage.proofs.Counting.{ok_isnt, handed}
use Rattle.object_storage.proofs.Stays.{stays_read, stays_kept}
use Rattle.storage_cache.specs.declared.held.Held.TheVariants as held
use Rattle.object_storage.proofs.value.read_at_place.Goals as goal

pub returns-clause-stays : goal.returns-clause-stays
returns-clause-stays g c =
    let read = c.read_value.ensures in
    stays_kept g.D.Disk.told g.D.Disk.image g.D.Disk.moment_of g.D.Disk.left_since c.args.place c.in_ok-value.value c.args.journal.now c.read_value.new.self c.args.cache.now c.keep_copy.new.cache
    (record { frames = read.same_frames; staged = read.same_staged; end = read.same_end.0; limit = read.same_end.1; reads = read.reads }) c.keep_copy.ensures
    (λ frames v rest placed some. c.in_ok-value.ensures.value frames v rest placed some)

pub returns-in_err-value-clause-stays : goal.returns-in_err-value-clause-stays
returns-in_err-value-clause-stays g c =
    let read = c.read_value.ensures in
    stays_read g.D.Disk.told g.D.Disk.image g.D.Disk.moment_of g.D.Disk.left_since (λ (frames : List Frame). CanBeRead frames (held.At c.args.place)) c.args.journal.now c.read_value.new.self c.args.cache.now
    (record { frames = read.same_frames; staged = read.same_staged; end = read.same_end.0; limit = read.same_end.1; reads = read.reads })

pub returns-in_err-value-clause-steady : goal.returns-in_err-value-clause-steady
returns-in_err-value-clause-steady g c = λ isnt.
    let p = err_from_is_err_and c.from_residual.result c.from_residual.ensures.1 in
    c.in_err-value.ensures.steady (λ is. isnt (handed c.from_residual.result p.0 _ DiskFailed p.1 p.2 is))

pub returns-clause-steady : goal.returns-clause-steady
returns-clause-steady g c = λ isnt. c.in_ok-value.ensures.steady (ok_isnt c.in_ok-value.value DiskFailed)

pub returns-clause-calls : goal.returns-clause-calls
returns-clause-calls g c = c.in_ok-value.ensures.calls (ok_isnt c.in_ok-value.value NoMemory)

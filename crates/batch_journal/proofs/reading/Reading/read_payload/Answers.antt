use Rattle.std.proofs.Common.{ℕ, ◌+◌, sym, subst}
use Rattle.storage_map.specs.Indexed.{Indexed}
use Rattle.batch_codec.specs.Formats.{limits_of}
use Rattle.batch_journal.specs.Frames.{sizes_of}
use Rattle.batch_journal.specs.Places.{IndexesFrame}
use Rattle.batch_journal.proofs.Held.{goes_on}
use Rattle.batch_journal.proofs.reading.Reading.read_payload.Goals as goal

pub returns-in-Ok-clause-more : goal.returns-in-Ok-clause-more
returns-in-Ok-clause-more c = λ none.
    let old = c.args.self.now in
    let new = c.go_on.new.self in
    let on = c.go_on.ensures in
    let indexed =
    subst (λ (n : ℕ). IndexesFrame (limits_of n) (old.end + 4) c.args.payload.now (c.in-Ok.class.now, c.in-Ok.name.now) old.index c.index_frame.new.index) c.number.ensures c.in-Ok.ensures.done in
    goes_on old new c.args.payload.now (c.in-Ok.class.now, c.in-Ok.name.now)
    (subst (λ (i : Indexed). IndexesFrame (sizes_of old.format) (old.end + 4) c.args.payload.now (c.in-Ok.class.now, c.in-Ok.name.now) old.index i) (sym (on.index none)) indexed)
    (on.version none) (on.format none) (on.first none) (on.object none)

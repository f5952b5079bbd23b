use Rattle.std.proofs.Common.{refl, sym, ◌∙◌}
use Rattle.batch_journal.specs.Frames.{marker}
use Rattle.batch_journal.proofs.Held.{held_marker}
use Rattle.batch_journal.proofs.Marking.{are_marked}
use Rattle.batch_journal.proofs.Opens.{read_ends}
use Rattle.batch_journal.proofs.mount.mark.Goals as goal

pub write_frame-requires : goal.write_frame-requires
write_frame-requires g c =
    let reading = c.args.reading.now in
    let found = c.requires.read.0 in
    let read = c.requires.read.1 in (
      found,
      marker,
      read_ends g.D.Disk.told g.D.Disk.image g.D.Disk.moment_of g.D.Disk.left_since c.args.disk.now reading found read,
      c.marker_block.ensures,
      are_marked reading.version found (sym read.holds.format ∙ c.requires.format) read.holds.of_grammar,
    )

pub returns-in_err-write_frame-clause-any_moment : goal.returns-in_err-write_frame-clause-any_moment
returns-in_err-write_frame-clause-any_moment g c = λ found read.
    let reading = c.args.reading.now in
    c.write_frame.ensures.any_moment found marker (read_ends g.D.Disk.told g.D.Disk.image g.D.Disk.moment_of g.D.Disk.left_since c.args.disk.now reading found read) c.marker_block.ensures
    (are_marked reading.version found (sym read.holds.format ∙ c.requires.format) read.holds.of_grammar)

pub returns-clause-marked : goal.returns-clause-marked
returns-clause-marked g c = λ found read.
    let reading = c.args.reading.now in
    let written =
    c.in_ok-write_frame.ensures.written found marker (read_ends g.D.Disk.told g.D.Disk.image g.D.Disk.moment_of g.D.Disk.left_since c.args.disk.now reading found read) c.marker_block.ensures
    (are_marked reading.version found (sym read.holds.format ∙ c.requires.format) read.holds.of_grammar) in
    record { holds = held_marker reading _ found read.holds c.requires.format refl refl refl refl c.requires.end; file = written.file; durable = written.durable }

pub returns-clause-any_moment : goal.returns-clause-any_moment
returns-clause-any_moment g c = λ found read.
    let reading = c.args.reading.now in
    c.write_frame.ensures.any_moment found marker (read_ends g.D.Disk.told g.D.Disk.image g.D.Disk.moment_of g.D.Disk.left_since c.args.disk.now reading found read) c.marker_block.ensures
    (are_marked reading.version found (sym read.holds.format ∙ c.requires.format) read.holds.of_grammar)

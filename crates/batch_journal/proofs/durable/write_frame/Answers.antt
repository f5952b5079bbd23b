use Rattle.std.proofs.Common.{◌⊎◌, inl, ◌∷◌, ◌++◌, [], length, ap, arith, length-append}
use Rattle.batch_journal.specs.Frames.{frame_bytes}
use Rattle.batch_journal.specs.Moments.{IsTold}
use Rattle.batch_journal.specs.Recovery.{IsFile}
use Rattle.batch_journal.proofs.Journals.{length-journal_push, length-frame_bytes}
use Rattle.batch_journal.proofs.Appends.{end_within, first_write, block_stands, gate_within, second_write, gate_opened}
use Rattle.batch_journal.proofs.Runs.{weaker, runs_on}
use Rattle.batch_journal.proofs.durable.write_frame.Goals as goal

pub write_durably-requires : goal.write_durably-requires
write_durably-requires g c = end_within (g.D.Disk.told c.args.disk.now) (g.D.Disk.image c.args.disk.now) c.args.version c.args.end c.requires.0 c.requires.2

pub returns-in_err-write_durably-clause-any_moment : goal.returns-in_err-write_durably-clause-any_moment
returns-in_err-write_durably-clause-any_moment g c = λ frames frame ends sealed more.
    let told = g.D.Disk.told c.args.disk.now in
    let image = g.D.Disk.image c.args.disk.now in
    let version = c.args.version in
    weaker g.D.Disk.moment_of g.D.Disk.left_since c.args.disk.now c.write_durably.new.disk _
    (λ file. IsTold told × (IsFile file version frames ⊎ IsFile file version (frames ++ frame ∷ []))) c.write_durably.ensures.any_moment
    (λ file from. let first = first_write told image version c.args.end frames ends _ file from in (first.0, inl first.1))

pub write_durably-requires-2 : goal.write_durably-requires-2
write_durably-requires-2 g c =
    let told = g.D.Disk.told c.args.disk.now in
    let image = g.D.Disk.image c.args.disk.now in
    let now = g.D.Disk.told c.write_durably.new.disk in
    gate_within told image c.args.version c.args.end c.requires.0 c.requires.2 c.requires.1 now
    (block_stands told image c.args.version c.args.end c.requires.0 c.requires.2 c.requires.1 c.args.block.now now c.requires.3 c.in_ok-write_durably.ensures.written)

pub returns-clause-written : goal.returns-clause-written
returns-clause-written g c = λ frames frame ends sealed more.
    let told = g.D.Disk.told c.args.disk.now in
    let image = g.D.Disk.image c.args.disk.now in
    let now = g.D.Disk.told c.write_durably.new.disk in
    let version = c.args.version in
    let end = c.args.end in
    let stands = block_stands told image version end frames ends frame c.args.block.now now sealed c.in_ok-write_durably.ensures.written in
    record {
      file = gate_opened told image version end frames ends frame now (g.D.Disk.told c.write_durably-2.new.disk) stands c.in_ok-write_durably-2.ensures.written more;
      durable = c.in_ok-write_durably-2.ensures.durable;
      end_is = omega (arith, ends.end_is, ap length sealed, length-append (frame_bytes frame) (0 ∷ []), length-frame_bytes frame, length-journal_push frames frame);
      of_grammar = more;
    }

pub returns-clause-any_moment : goal.returns-clause-any_moment
returns-clause-any_moment g c = λ frames frame ends sealed more.
    let told = g.D.Disk.told c.args.disk.now in
    let image = g.D.Disk.image c.args.disk.now in
    let now = g.D.Disk.told c.write_durably.new.disk in
    let version = c.args.version in
    let end = c.args.end in
    let stands = block_stands told image version end frames ends frame c.args.block.now now sealed c.in_ok-write_durably.ensures.written in
    runs_on g.D.Disk.moment_of g.D.Disk.left_since c.args.disk.now c.write_durably.new.disk c.write_durably-2.new.disk _ _
    (λ file. IsTold told × (IsFile file version frames ⊎ IsFile file version (frames ++ frame ∷ []))) c.write_durably.ensures.any_moment c.write_durably-2.ensures.any_moment
    (λ file from. let first = first_write told image version end frames ends _ file from in (first.0, inl first.1))
    (second_write told image version end frames ends frame c.args.block.now now (g.D.Disk.image c.write_durably.new.disk) c.in_ok-write_durably.ensures.written stands c.in_ok-write_durably.ensures.durable more)

pub returns-in_err-write_durably-2-clause-any_moment : goal.returns-in_err-write_durably-2-clause-any_moment
returns-in_err-write_durably-2-clause-any_moment g c = λ frames frame ends sealed more.
    let told = g.D.Disk.told c.args.disk.now in
    let image = g.D.Disk.image c.args.disk.now in
    let now = g.D.Disk.told c.write_durably.new.disk in
    let version = c.args.version in
    let end = c.args.end in
    let stands = block_stands told image version end frames ends frame c.args.block.now now sealed c.in_ok-write_durably.ensures.written in
    runs_on g.D.Disk.moment_of g.D.Disk.left_since c.args.disk.now c.write_durably.new.disk c.write_durably-2.new.disk _ _
    (λ file. IsTold told × (IsFile file version frames ⊎ IsFile file version (frames ++ frame ∷ []))) c.write_durably.ensures.any_moment c.write_durably-2.ensures.any_moment
    (λ file from. let first = first_write told image version end frames ends _ file from in (first.0, inl first.1))
    (second_write told image version end frames ends frame c.args.block.now now (g.D.Disk.image c.write_durably.new.disk) c.in_ok-write_durably.ensures.written stands c.in_ok-write_durably.ensures.durable more)

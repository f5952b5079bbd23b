use Rattle.std.proofs.Common.{sym, subst, ◌∙◌}
use Rattle.do_disk.specs.Disk.{IfTold}
use Rattle.batch_journal.specs.Reading.{IsHeader, IsStep}
use Rattle.batch_journal.specs.Mounting.{AreRead, IsOpened, IsRefused, LeavesFileSince}
use Rattle.batch_journal.specs.declared.header.Header.{Header}
use Rattle.batch_journal.proofs.Opens.{if_ok_weaker, header_run, header_opened, frames_opened, read_since}
use Rattle.batch_journal.proofs.mount.read_file.Goals as goal

pub read_frames-requires-clause-header : goal.read_frames-requires-clause-header
read_frames-requires-clause-header g c = λ bytes told.
    let seen = c.in_ok-seen.ensures.seen bytes (sym c.in_ok-seen.ensures.reads.same ∙ told) in
    subst (λ (h : Header). IsHeader bytes h) c.in-Journal.is seen.1

pub returns-in_err-finish_header-in-Unfinished-clause-any_moment : goal.returns-in_err-finish_header-in-Unfinished-clause-any_moment
returns-in_err-finish_header-in-Unfinished-clause-any_moment g c =
    let step : IfTold (g.D.Disk.told c.args.disk.now) (λ file. IsStep file c.in-Unfinished.step) = λ bytes told. subst (λ (h : Header). IsHeader bytes h) c.in-Unfinished.is (c.in_ok-seen.ensures.seen bytes told).1 in
    header_run g.D.Disk.told g.D.Disk.image g.D.Disk.moment_of g.D.Disk.left_since c.args.disk.now c.look.new.disk c.finish_header.new.disk c.in-Unfinished.step c.in_ok-seen.ensures.reads step c.finish_header.ensures.any_moment

pub returns-in-Journal-clause-opened : goal.returns-in-Journal-clause-opened
returns-in-Journal-clause-opened g c =
    let told = g.D.Disk.told in
    let seen = c.look.new.disk in
    if_ok_weaker c.read_frames.result (AreRead (told seen)) (IsOpened told g.D.Disk.image g.D.Disk.moment_of g.D.Disk.left_since c.args.disk.now c.read_frames.new.disk)
    (λ opened read. frames_opened told g.D.Disk.image g.D.Disk.moment_of g.D.Disk.left_since c.args.disk.now seen c.read_frames.new.disk opened c.in_ok-seen.ensures.reads c.in_ok-seen.ensures.durable c.in_ok-seen.ensures.since_sync c.in_ok-seen.ensures.later c.read_frames.ensures.reads read)
    c.read_frames.ensures.read

pub returns-in-Foreign-clause-opened : goal.returns-in-Foreign-clause-opened
returns-in-Foreign-clause-opened g c = λ bytes told. subst (λ (h : Header). IsHeader bytes h) c.in-Foreign.is (c.in_ok-seen.ensures.seen bytes told).1

pub returns-in_ok-finish_header-in-Unfinished-clause-opened : goal.returns-in_ok-finish_header-in-Unfinished-clause-opened
returns-in_ok-finish_header-in-Unfinished-clause-opened g c =
    let step : IfTold (g.D.Disk.told c.args.disk.now) (λ file. IsStep file c.in-Unfinished.step) = λ bytes told. subst (λ (h : Header). IsHeader bytes h) c.in-Unfinished.is (c.in_ok-seen.ensures.seen bytes told).1 in
    header_opened g.D.Disk.told g.D.Disk.image g.D.Disk.moment_of g.D.Disk.left_since c.args.disk.now c.look.new.disk c.finish_header.new.disk c.in-Unfinished.step c.new.result c.in_ok-seen.ensures.reads step
    c.in_ok-seen.ensures.since_sync c.in_ok-seen.ensures.later c.finish_header.ensures.any_moment c.new.ensures.holds (sym (c.new.ensures.version ∙ c.version.ensures)) c.in_ok-finish_header-in-Unfinished.ensures.made

pub returns-in_ok-finish_header-in-Unfinished-clause-any_moment : goal.returns-in_ok-finish_header-in-Unfinished-clause-any_moment
returns-in_ok-finish_header-in-Unfinished-clause-any_moment g c =
    let step : IfTold (g.D.Disk.told c.args.disk.now) (λ file. IsStep file c.in-Unfinished.step) = λ bytes told. subst (λ (h : Header). IsHeader bytes h) c.in-Unfinished.is (c.in_ok-seen.ensures.seen bytes told).1 in
    header_run g.D.Disk.told g.D.Disk.image g.D.Disk.moment_of g.D.Disk.left_since c.args.disk.now c.look.new.disk c.finish_header.new.disk c.in-Unfinished.step c.in_ok-seen.ensures.reads step c.finish_header.ensures.any_moment

pub returns-in-Journal-clause-since_sync : goal.returns-in-Journal-clause-since_sync
returns-in-Journal-clause-since_sync g c =
    let told = g.D.Disk.told in
    let seen = c.look.new.disk in
    if_ok_weaker c.read_frames.result (AreRead (told seen)) (λ opened. IsRefused opened → LeavesFileSince told g.D.Disk.moment_of g.D.Disk.left_since c.args.disk.now c.read_frames.new.disk)
    (λ opened read refused. read_since told g.D.Disk.image g.D.Disk.moment_of g.D.Disk.left_since c.args.disk.now seen c.read_frames.new.disk c.in_ok-seen.ensures.reads c.in_ok-seen.ensures.durable c.in_ok-seen.ensures.since_sync c.in_ok-seen.ensures.later c.read_frames.ensures.reads)
    c.read_frames.ensures.read

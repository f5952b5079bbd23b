use Rattle.std.proofs.Common.{Err, ap, ◌∙◌, inl, inr}
use Rattle.object_storage.proofs.Counting.{counts_ok, counts_none, counts_failed, bad_isnt, none_isnt, ok_isnt}
use Rattle.batch_journal.specs.declared.read_stored.ReadFault.TheVariants.{DiskFailed}
use Rattle.object_storage.proofs.answering.answer.Goals as goal

pub returns-in-Ok-clause-counts : goal.returns-in-Ok-clause-counts
returns-in-Ok-clause-counts g c =
    counts_ok g.D.Disk.told g.D.Disk.faults_of c.args.journal.now.disk c.read.new.journal.disk c.in-Ok.reading (c.in-Ok.ensures.steady (ok_isnt c.in-Ok.reading DiskFailed))

pub returns-in-Err-NoMemory-clause-counts : goal.returns-in-Err-NoMemory-clause-counts
returns-in-Err-NoMemory-clause-counts g c =
    counts_none g.D.Disk.told g.D.Disk.faults_of c.args.journal.now.disk c.read.new.journal.disk (c.in-Err-NoMemory.ensures.steady (none_isnt _ c.in-Err-NoMemory.field-0-is))

pub returns-in-Err-DiskFailed-clause-counts : goal.returns-in-Err-DiskFailed-clause-counts
returns-in-Err-DiskFailed-clause-counts g c =
    counts_failed g.D.Disk.told g.D.Disk.faults_of c.args.journal.now.disk c.read.new.journal.disk c.faults-before.result c.failed.result (c.faults-before.ensures ∙ ap g.D.Disk.faults_of c.disk.ensures) c.failed.ensures
    (inl (c.in-Err-DiskFailed.ensures.failed (ap Err c.in-Err-DiskFailed.field-0-is))) c.read.ensures.later

pub returns-in-Err-BadValue-clause-counts : goal.returns-in-Err-BadValue-clause-counts
returns-in-Err-BadValue-clause-counts g c =
    counts_failed g.D.Disk.told g.D.Disk.faults_of c.args.journal.now.disk c.read.new.journal.disk c.faults-before.result c.failed-in-Err-BadValue.result (c.faults-before.ensures ∙ ap g.D.Disk.faults_of c.disk.ensures) c.failed-in-Err-BadValue.ensures
    (inr (c.in-Err-BadValue.ensures.steady (bad_isnt _ _ c.in-Err-BadValue.field-0-is), c.in-Err-BadValue.ensures.bad _ (ap Err c.in-Err-BadValue.field-0-is))) c.read.ensures.later

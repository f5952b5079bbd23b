use Rattle.do_host.proofs.Sums.{number_added, small_added}
use Rattle.do_host.proofs.summing.sum_slot.Goals as goal

pub returns-in-Ok-number-clause-sum : goal.returns-in-Ok-number-clause-sum
returns-in-Ok-number-clause-sum g c =
    let read = c.mount_and_read-store in
    number_added (g.D.Disk.told c.args.row.store) c.args.slot c.args.sum read.result.1 c.in-Ok.sum c.in-Ok-number.number c.requires.few c.in-Ok.is c.in-Ok-number.is c.requires.small read.ensures.safe read.ensures.number

pub returns-in-Ok-number-clause-small : goal.returns-in-Ok-number-clause-small
returns-in-Ok-number-clause-small g c =
    let read = c.mount_and_read-store in
    small_added (g.D.Disk.told c.args.row.store) c.args.slot c.args.sum read.result.1 c.in-Ok.sum c.in-Ok-number.number c.requires.few c.in-Ok.is c.in-Ok-number.is c.requires.small read.ensures.safe

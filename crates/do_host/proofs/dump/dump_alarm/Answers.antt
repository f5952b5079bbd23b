use Rattle.do_host.specs.SlotLines.{alarm_line}
use Rattle.do_host.proofs.dump.dump_alarm.Goals as goal

pub returns-in-Some-clause-writes : goal.returns-in-Some-clause-writes
returns-in-Some-clause-writes g c = rw c.in-Some.is (c.put_line.ensures.writes (alarm_line c.args.slot c.in-Some.alarm) c.alarm_line.ensures)

use Rattle.std.proofs.Common.{◌-◌}
use Rattle.do_disk.proofs.Files.{HasRewritten}
use Rattle.do_disk.proofs.sync_again.rewrite.Given as goal

-- the bytes up to this place were written again
abbrev pub invariant-loop-at : goal.invariant-loop-at
invariant-loop-at g l = HasRewritten (g.F.FileCalls.calls l.fn.file) (g.F.FileCalls.calls l.file) l.end l.fn.from l.at

abbrev pub decreases-loop-at : goal.decreases-loop-at
decreases-loop-at g l = l.end - l.at

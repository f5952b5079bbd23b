use Rattle.std.proofs.Common.{sym}
use Rattle.do_tree.specs.Seen.{script_of}
use Rattle.do_check.proofs.Least.{memory_refusal, refusal}
use Rattle.do_check.proofs.script.check.Goals as goal

pub returns-in-Ok-Some-clause-err : goal.returns-in-Ok-Some-clause-err
returns-in-Ok-Some-clause-err c = refusal (script_of c.args.script) c.in-Ok-Some.fault (sym (rw c.in-Ok-Some.field-0-is at c.in-Ok-Some.ensures))

pub returns-in-Err-clause-err : goal.returns-in-Err-clause-err
returns-in-Err-clause-err c = memory_refusal (script_of c.args.script)

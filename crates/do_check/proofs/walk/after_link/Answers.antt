use Rattle.std.proofs.Common.{arith}
use Rattle.std.proofs.lemmas.Grind.{common_steps}
use Rattle.do_check.proofs.Walked.{call_stage}
use Rattle.do_check.specs.Sight.{names_of, stage_of}
use Rattle.do_check.proofs.walk.after_link.Goals as goal

pub returns-in-Call : goal.returns-in-Call
returns-in-Call c =
    let e = call_stage (names_of c.args.names.now) (stage_of c.args.stage) c.in-Call.at c.in-Call.args c.args.link.now c.in-Call.is in
    grind (arith, common_steps)

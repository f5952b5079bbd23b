use Rattle.std.specs.Prelude.{Err}
use Rattle.mailbox.specs.Left.{finished_by}
use Rattle.mailbox.specs.Runs.{log_of}
use Rattle.mailbox.proofs.Acting.{prints_stopped}
use Rattle.mailbox.proofs.Serving.{begins_none}
use Rattle.mailbox.proofs.switch.Switch.finish.Goals as goal

pub returns-in-Some-clause-begun : goal.returns-in-Some-clause-begun
returns-in-Some-clause-begun g c = begins_none (log_of c.args.self.now) (finished_by c.args.self.now.state c.args.left.items)

pub returns-in-Some-clause-prints : goal.returns-in-Some-clause-prints
returns-in-Some-clause-prints g c = prints_stopped g.W.Sink.taken g.W.Sink.faults_of c.args.self.now c.in-Some.fault (Err c.in-Some.fault) c.in-Some.is

pub returns-in-Err-clause-prints : goal.returns-in-Err-clause-prints
returns-in-Err-clause-prints g c =
    let prints = c.in-Err.ensures.prints in
    record { written = prints.written; part = prints.part; counted = prints.counted; state = prints.state }

use Rattle.std.proofs.Common.{◌≡◌, map, refl, sym, append-nil}
use Rattle.std.specs.Prelude.{Err}
use Rattle.mailbox.specs.declared.fault.SwitchFault.TheVariants.{NoMemory}
use Rattle.mailbox.specs.Left.{finished_by}
use Rattle.mailbox.specs.Runs.{log_of}
use Rattle.mailbox.specs.Seen.{seen_out}
use Rattle.mailbox.proofs.Acting.{prints_none}
use Rattle.mailbox.proofs.Sendings.{goes_none}
use Rattle.mailbox.proofs.Serving.{begins_none, left_seen, log_begun, log_gave, then_err, then_ok}
use Rattle.mailbox.proofs.Writings.{not_written}
use Rattle.mailbox.proofs.switch.Switch.finish_next.Goals as goal

pub returns-in-Ok-clause-finished : goal.returns-in-Ok-clause-finished
returns-in-Ok-clause-finished g c =
    let s = c.args.self.now in
    let given = finished_by s.state c.args.left.items in
    let said = map (λ line. line.1) c.in-Ok.lines.items in
    let seen : map seen_out said ≡ given.lines = left_seen c.in-Ok.lines.items _ c.in-Ok.ensures in
    then_ok c.write_all.result (λ printed. log_gave s.log (record s.log { lines = c.write_all.new.log }) given said (record { accepted = refl; routed = refl }) seen
    (sym (append-nil s.log.posts.items)) printed) c.write_all.ensures.logged

pub returns-in-Ok-clause-begun : goal.returns-in-Ok-clause-begun
returns-in-Ok-clause-begun g c =
    let s = c.args.self.now in
    let given = finished_by s.state c.args.left.items in
    let said = map (λ line. line.1) c.in-Ok.lines.items in
    let seen : map seen_out said ≡ given.lines = left_seen c.in-Ok.lines.items _ c.in-Ok.ensures in
    then_err c.write_all.result (λ begun. log_begun s.log (record s.log { lines = c.write_all.new.log }) given said (record { accepted = refl; routed = refl }) seen
    (goes_none s.log.posts.items given.posts) begun) c.write_all.ensures.begun

pub returns-in-Ok-clause-prints : goal.returns-in-Ok-clause-prints
returns-in-Ok-clause-prints g c = record {
  written = c.write_all.ensures.written;
  part = c.write_all.ensures.part;
  counted = λ _. c.write_all.ensures.faults;
  state = refl;
}

pub returns-in-Err-clause-begun : goal.returns-in-Err-clause-begun
returns-in-Err-clause-begun g c = begins_none (log_of c.args.self.now) (finished_by c.args.self.now.state c.args.left.items)

pub returns-in-Err-clause-prints : goal.returns-in-Err-clause-prints
returns-in-Err-clause-prints g c = prints_none g.W.Sink.taken g.W.Sink.faults_of c.args.self.now (Err NoMemory) (not_written (Err NoMemory) refl)

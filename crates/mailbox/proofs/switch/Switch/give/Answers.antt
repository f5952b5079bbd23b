use Rattle.std.proofs.Common.{◌∷◌, [], refl, ap, sym, append-nil}
use Rattle.std.specs.Prelude.{Ok, Err}
use Rattle.mailbox.specs.declared.fault.SwitchFault.TheVariants.{NoMemory}
use Rattle.mailbox.specs.Givens.{lines_in}
use Rattle.mailbox.specs.Runs.{given_by}
use Rattle.mailbox.proofs.Acting.{acts_silently}
use Rattle.mailbox.proofs.Sendings.{goes_none, goes_all}
use Rattle.mailbox.proofs.Serving.{goes_one, line_list, list_seen, log_begun, log_gave, then_err, then_ok}
use Rattle.mailbox.proofs.Writings.{not_written}
use Rattle.mailbox.proofs.switch.Switch.give.Goals as goal

pub returns-in_default-clause-gives : goal.returns-in_default-clause-gives
returns-in_default-clause-gives g c =
    let s = c.args.self.now in
    record {
      log = tt;
      state = tt;
      begun = log_begun s.log (record s.log { posts = c.post_all.new.log }) (given_by s.state c.args.given) (line_list c.args.given.line) (record { accepted = refl; routed = refl })
          (list_seen c.args.given.line) c.in_default.ensures.begun (goes_none s.log.lines.items (line_list c.args.given.line));
    }

pub returns-in_default-clause-acts : goal.returns-in_default-clause-acts
returns-in_default-clause-acts g c =
    let s = c.args.self.now in
    acts_silently g.S.Outlet.sent g.S.Outlet.outlet g.S.Outlet.left g.W.Sink.taken g.W.Sink.faults_of s (record s { log = record s.log { posts = c.post_all.new.log } }) c.args.inboxes.now c.post_all.new.inboxes (Err NoMemory)
    (not_written (Err NoMemory) refl) c.post_all.ensures.sent c.post_all.ensures.ends refl refl refl

pub returns-in-Some-clause-gives : goal.returns-in-Some-clause-gives
returns-in-Some-clause-gives g c =
    let s = c.args.self.now in
    let log = record s.log { posts = c.post_all.new.log; lines = c.write_line.new.log } in
    let given = given_by s.state c.args.given in
    let line = c.in-Some.line in
    let posted = c.in-Ok.ensures.logged in
    let seen = sym (ap lines_in c.in-Some.is) in
    record {
      log = then_ok c.write_line.result (λ printed. log_gave s.log log given (line ∷ []) (record { accepted = refl; routed = refl }) seen posted printed) c.write_line.ensures.logged;
      state = then_ok c.write_line.result (λ printed. refl) c.write_line.ensures.logged;
      begun = then_err c.write_line.result (λ which. log_begun s.log log given (line ∷ []) (record { accepted = refl; routed = refl }) seen
          (goes_all s.log.posts.items c.post_all.new.log.items c.args.given.posts.items posted) (goes_one s.log.lines.items c.write_line.new.log.items line which)) c.write_line.ensures.begun;
    }

pub returns-in-Some-clause-acts : goal.returns-in-Some-clause-acts
returns-in-Some-clause-acts g c = record {
  posted = c.post_all.ensures.sent;
  ends = c.post_all.ensures.ends;
  written = c.write_line.ensures.written;
  part = c.write_line.ensures.part;
  counted = λ _. c.write_line.ensures.faults;
  slots = refl;
}

pub returns-in-None-clause-gives : goal.returns-in-None-clause-gives
returns-in-None-clause-gives g c =
    let s = c.args.self.now in
    record {
      log = log_gave s.log (record s.log { posts = c.post_all.new.log }) (given_by s.state c.args.given) [] (record { accepted = refl; routed = refl }) (sym (ap lines_in c.in-None.is))
          c.in-Ok.ensures.logged (sym (append-nil s.log.lines.items));
      state = refl;
      begun = tt;
    }

pub returns-in-None-clause-acts : goal.returns-in-None-clause-acts
returns-in-None-clause-acts g c =
    let s = c.args.self.now in
    acts_silently g.S.Outlet.sent g.S.Outlet.outlet g.S.Outlet.left g.W.Sink.taken g.W.Sink.faults_of s (record s { log = record s.log { posts = c.post_all.new.log } }) c.args.inboxes.now c.post_all.new.inboxes (Ok tt)
    (not_written (Ok tt) refl) c.post_all.ensures.sent c.post_all.ensures.ends refl refl refl

use Rattle.std.proofs.Common.{refl, ap, inr}
use Rattle.std.specs.Prelude.{Err}
use Rattle.do_tree.specs.Checked.{tree_of}
use Rattle.mailbox.specs.declared.fault.SwitchFault.TheVariants.{NoMemory}
use Rattle.mailbox.specs.Runs.{posts_of}
use Rattle.mailbox.proofs.Acting.{acts_silently, acts_within, like_line, like_room}
use Rattle.mailbox.proofs.Sendings.{outlets_none, posts_none}
use Rattle.mailbox.proofs.Serving.{accepts_so, begins_line_so, pushed_line}
use Rattle.mailbox.proofs.Writings.{not_written}
use Rattle.mailbox.proofs.switch.Switch.accept_next.Goals as goal

pub returns-in_default-clause-begun : goal.returns-in_default-clause-begun
returns-in_default-clause-begun g c = inr (c.make_line_room.ensures.same, refl)

pub returns-in_default-clause-acts : goal.returns-in_default-clause-acts
returns-in_default-clause-acts g c =
    let s = c.args.self.now in
    let inboxes = c.args.inboxes.now in
    let rest = c.make_line_room.ensures.rest in
    acts_silently g.S.Outlet.sent g.S.Outlet.outlet g.S.Outlet.left g.W.Sink.taken g.W.Sink.faults_of s (record s { log = c.make_line_room.new.self }) inboxes inboxes (Err NoMemory) (not_written (Err NoMemory) refl)
    (posts_none g.S.Outlet.sent inboxes inboxes (posts_of s) c.make_line_room.new.self.posts.items refl (ap (λ l. l.items) rest.0))
    (outlets_none g.S.Outlet.outlet g.S.Outlet.left inboxes) (ap (λ l. l.items) rest.1) refl refl

pub returns-clause-accepted : goal.returns-clause-accepted
returns-clause-accepted g c =
    let s = c.args.self.now in
    let served = c.serve_line-served.new.self in
    accepts_so (tree_of c.args.checked.now) s (record s { log = c.make_line_room.new.self }) served (record served { log = c.log_line.new.self }) c.make_line_room.ensures.same refl
    c.args.line (pushed_line served.log c.log_line.new.self c.args.line c.log_line.ensures.accepted c.log_line.ensures.rest) c.serve_line-served.result c.serve_line-served.ensures.gives

pub returns-clause-begun : goal.returns-clause-begun
returns-clause-begun g c =
    let s = c.args.self.now in
    let served = c.serve_line-served.new.self in
    begins_line_so (tree_of c.args.checked.now) s (record s { log = c.make_line_room.new.self }) served (record served { log = c.log_line.new.self }) c.make_line_room.ensures.same refl
    c.args.line (pushed_line served.log c.log_line.new.self c.args.line c.log_line.ensures.accepted c.log_line.ensures.rest) c.serve_line-served.result c.serve_line-served.ensures.gives

pub returns-clause-acts : goal.returns-clause-acts
returns-clause-acts g c =
    let s = c.args.self.now in
    let begun = record s { log = c.make_line_room.new.self } in
    let served = c.serve_line-served.new.self in
    acts_within g.S.Outlet.sent g.S.Outlet.outlet g.S.Outlet.left g.W.Sink.taken g.W.Sink.faults_of s begun served (record served { log = c.log_line.new.self })
    c.args.inboxes.now c.serve_line-served.new.inboxes c.serve_line-served.result c.serve_line-served.result
    (like_room s begun c.make_line_room.ensures.rest refl refl) refl (like_line served c.log_line.new.self c.log_line.ensures.rest) (λ f. f) (λ f. f) c.serve_line-served.ensures.acts

use Rattle.std.proofs.Common.{ℕ, refl}
use Rattle.do_tree.specs.Checked.{tree_of}
use Rattle.timeline.specs.declared.message.Message.{Message}
use Rattle.mailbox.proofs.Acting.{acts_within, like_message}
use Rattle.mailbox.proofs.Serving.{begins_message_so, pushed_message, routes_so}
use Rattle.mailbox.proofs.switch.Switch.route_taken.Goals as goal

pub returns-clause-routed : goal.returns-clause-routed
returns-clause-routed g c =
    let s = c.args.self.now in
    let served = c.serve_message-routed.new.self in
    let sent : ℕ × Message = (c.args.slot, c.args.message) in
    routes_so (tree_of c.args.checked.now) s s served (record served { log = c.log_message.new.self }) refl refl
    sent (pushed_message served.log c.log_message.new.self sent c.log_message.ensures.routed c.log_message.ensures.rest) c.serve_message-routed.result c.serve_message-routed.ensures.gives

pub returns-clause-begun : goal.returns-clause-begun
returns-clause-begun g c =
    let s = c.args.self.now in
    let served = c.serve_message-routed.new.self in
    let sent : ℕ × Message = (c.args.slot, c.args.message) in
    begins_message_so (tree_of c.args.checked.now) s s served (record served { log = c.log_message.new.self }) refl refl
    sent (pushed_message served.log c.log_message.new.self sent c.log_message.ensures.routed c.log_message.ensures.rest) c.serve_message-routed.result c.serve_message-routed.ensures.gives

pub returns-clause-acts : goal.returns-clause-acts
returns-clause-acts g c =
    let s = c.args.self.now in
    let served = c.serve_message-routed.new.self in
    acts_within g.S.Outlet.sent g.S.Outlet.outlet g.S.Outlet.left g.W.Sink.taken g.W.Sink.faults_of s s served (record served { log = c.log_message.new.self })
    c.args.inboxes.now c.serve_message-routed.new.inboxes c.serve_message-routed.result c.serve_message-routed.result
    (record { posts = refl; lines = refl; out = refl; slots = refl }) refl (like_message served c.log_message.new.self c.log_message.ensures.rest) (λ f. f) (λ f. f)
    c.serve_message-routed.ensures.acts

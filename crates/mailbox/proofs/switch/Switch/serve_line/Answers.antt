use Rattle.std.proofs.Common.{length, refl, sym, ◌∙◌}
use Rattle.std.specs.Prelude.{Err}
use Rattle.do_tree.specs.Checked.{tree_of}
use Rattle.timeline.specs.Switch.{accepts}
use Rattle.mailbox.specs.declared.fault.SwitchFault.TheVariants.{NoMemory}
use Rattle.mailbox.specs.Runs.{log_of, posts_of}
use Rattle.mailbox.specs.Seen.{seen_line}
use Rattle.mailbox.proofs.Acting.{acts_silently, acts_within}
use Rattle.mailbox.proofs.Sendings.{outlets_none, posts_none}
use Rattle.mailbox.proofs.Serving.{begins_none, given_within, gives_as}
use Rattle.mailbox.proofs.Writings.{not_written}
use Rattle.mailbox.proofs.switch.Switch.serve_line.Goals as goal

pub give-requires : goal.give-requires
give-requires g c =
    let s = c.args.self.now in
    record { within = given_within c.in-Ok.given (accepts (tree_of c.args.checked.now) s.state (seen_line c.args.line.now)) c.accept.new.self (length c.args.inboxes.now) c.in-Ok.ensures.given c.in-Ok.ensures.after (c.requires.slots ∙ sym c.accept.ensures.slots) }

pub returns-in-Ok-clause-gives : goal.returns-in-Ok-clause-gives
returns-in-Ok-clause-gives g c =
    let s = c.args.self.now in
    gives_as s (record s { state = c.accept.new.self }) c.give.new.self c.in-Ok.given (accepts (tree_of c.args.checked.now) s.state (seen_line c.args.line.now)) c.give.result
    refl c.in-Ok.ensures.after c.give.ensures.state c.in-Ok.ensures.given c.give.ensures.gives

pub returns-in-Ok-clause-acts : goal.returns-in-Ok-clause-acts
returns-in-Ok-clause-acts g c =
    let s = c.args.self.now in
    acts_within g.S.Outlet.sent g.S.Outlet.outlet g.S.Outlet.left g.W.Sink.taken g.W.Sink.faults_of s (record s { state = c.accept.new.self }) c.give.new.self c.give.new.self c.args.inboxes.now c.give.new.inboxes
    c.give.result c.give.result (record { posts = refl; lines = refl; out = refl; slots = sym c.accept.ensures.slots }) refl
    (record { posts = refl; lines = refl; out = refl; slots = refl }) (λ f. f) (λ f. f) c.give.ensures.acts

pub returns-in-Err-clause-gives : goal.returns-in-Err-clause-gives
returns-in-Err-clause-gives g c =
    let s = c.args.self.now in
    record { log = tt; state = tt; begun = begins_none (log_of s) (accepts (tree_of c.args.checked.now) s.state (seen_line c.args.line.now)) }

pub returns-in-Err-clause-acts : goal.returns-in-Err-clause-acts
returns-in-Err-clause-acts g c =
    let s = c.args.self.now in
    let inboxes = c.args.inboxes.now in
    acts_silently g.S.Outlet.sent g.S.Outlet.outlet g.S.Outlet.left g.W.Sink.taken g.W.Sink.faults_of s (record s { state = c.accept.new.self }) inboxes inboxes (Err NoMemory) (not_written (Err NoMemory) refl)
    (posts_none g.S.Outlet.sent inboxes inboxes (posts_of s) (posts_of s) refl refl) (outlets_none g.S.Outlet.outlet g.S.Outlet.left inboxes) refl refl c.accept.ensures.slots

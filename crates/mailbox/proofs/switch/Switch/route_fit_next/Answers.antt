use Rattle.std.proofs.Common.{◌+◌, refl, ap}
use Rattle.std.specs.Prelude.{Ok}
use Rattle.mailbox.specs.declared.fitting.Routed.TheVariants.{Unfit}
use Rattle.mailbox.specs.Runs.{posts_of}
use Rattle.mailbox.proofs.Acting.{acts_silently}
use Rattle.mailbox.proofs.Sendings.{outlets_none, posts_none}
use Rattle.mailbox.proofs.Writings.{not_written}
use Rattle.mailbox.proofs.switch.Switch.route_fit_next.Goals as goal

pub returns-then-not-fits-clause-acts : goal.returns-then-not-fits-clause-acts
returns-then-not-fits-clause-acts g c =
    let s = c.args.self.now in
    let inboxes = c.args.inboxes.now in
    let rest = c.make_message_room.ensures.rest in
    acts_silently g.S.Outlet.sent g.S.Outlet.outlet g.S.Outlet.left g.W.Sink.taken g.W.Sink.faults_of s (record s { log = c.make_message_room.new.self; next = c.in-Some.slot + 1 })
    inboxes inboxes (Ok (Unfit c.in-Some.slot c.in-Some.message)) (not_written (Ok (Unfit c.in-Some.slot c.in-Some.message)) refl)
    (posts_none g.S.Outlet.sent inboxes inboxes (posts_of s) c.make_message_room.new.self.posts.items refl (ap (λ l. l.items) rest.0))
    (outlets_none g.S.Outlet.outlet g.S.Outlet.left inboxes) (ap (λ l. l.items) rest.1) refl refl

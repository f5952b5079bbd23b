use Rattle.std.proofs.Common.{◌≡◌, ◌++◌, ◌∷◌, [], ◌∙◌, set}
use Rattle.mailbox.proofs.Sendings.{posts_none, posts_one, set_more, set_same}
use Rattle.mailbox.proofs.posting.post.Goals as goal

pub returns-in-Ok-clause-sent : goal.returns-in-Ok-clause-sent
returns-in-Ok-clause-sent g c =
    let inboxes = c.args.inboxes.now in
    let kept : c.in_ok-kept.kept ≡ c.args.event = c.in_ok-kept.ensures in
    let logged : c.log_post.new.log.items ≡ c.args.log.now.items ++ (c.args.slot, c.args.event) ∷ [] =
    c.log_post.ensures ∙ (λ i. c.make_room.ensures.same i ++ (c.args.slot, kept i) ∷ []) in
    posts_one g.S.Outlet.sent inboxes (set inboxes c.args.slot c.send.new.self) c.args.log.now.items c.log_post.new.log.items c.args.slot c.args.event c.requires.within
    (set_more g.S.Outlet.sent inboxes c.args.slot c.index-inboxes-slot.result c.send.new.self c.requires.within c.args.event c.in-Ok.ensures.sent) logged

pub returns-in-Ok-clause-ends : goal.returns-in-Ok-clause-ends
returns-in-Ok-clause-ends g c = record {
  lanes = set_same g.S.Outlet.outlet c.args.inboxes.now c.args.slot c.index-inboxes-slot.result c.send.new.self c.send.ensures.lane;
  known = set_same g.S.Outlet.left c.args.inboxes.now c.args.slot c.index-inboxes-slot.result c.send.new.self c.send.ensures.left;
}

pub returns-in-Err-clause-sent : goal.returns-in-Err-clause-sent
returns-in-Err-clause-sent g c =
    let inboxes = c.args.inboxes.now in
    posts_none g.S.Outlet.sent inboxes (set inboxes c.args.slot c.send.new.self) c.args.log.now.items c.make_room.new.log.items
    (set_same g.S.Outlet.sent inboxes c.args.slot c.index-inboxes-slot.result c.send.new.self c.in-Err.ensures.same) c.make_room.ensures.same

pub returns-in-Err-clause-ends : goal.returns-in-Err-clause-ends
returns-in-Err-clause-ends g c = record {
  lanes = set_same g.S.Outlet.outlet c.args.inboxes.now c.args.slot c.index-inboxes-slot.result c.send.new.self c.send.ensures.lane;
  known = set_same g.S.Outlet.left c.args.inboxes.now c.args.slot c.index-inboxes-slot.result c.send.new.self c.send.ensures.left;
}

use Rattle.std.proofs.Common.{◌≡◌, ◌++◌, length}
use Rattle.mailbox.specs.Givens.{AreWithin}
use Rattle.mailbox.specs.Posting.{Posts, SameOutlets}
use Rattle.mailbox.proofs.posting.post_all.Given as goal

-- what was posted and what is left are all that is to be posted
abbrev pub invariant-loop-item : goal.invariant-loop-item
invariant-loop-item g l = record {
  logged : l.log.items ++ l.item-iterator.rest.items ≡ l.fn.log.items ++ l.fn.posts.items;
  sent : Posts g.S.Outlet.sent l.fn.inboxes l.inboxes l.fn.log.items l.log.items;
  ends : SameOutlets g.S.Outlet.outlet g.S.Outlet.left l.fn.inboxes l.inboxes;
  within : AreWithin (length l.inboxes) l.item-iterator.rest.items;
}

use Rattle.std.proofs.Common.{◌≡◌, ◌++◌, ◌∷◌, [], ◌∙◌, ℕ, List, length, ap, sym, subst, append_assoc}
use Rattle.timeline.specs.declared.event.Event.{Event}
use Rattle.mailbox.specs.Givens.{AreWithin}
use Rattle.mailbox.proofs.Sendings.{goes_first, on_err, outlets_then, posts_then, same_count, within_still}
use Rattle.mailbox.proofs.posting.post_all.Goals as goal

pub loop-item-preserved : goal.loop-item-preserved
loop-item-preserved g c =
    let before = c.loop-item.inboxes in
    let after = c.post.new.inboxes in
    let logged = c.loop-item.log.items in
    let rest = c.next.new.self.rest.items in
    let step : c.loop-item.item-iterator.rest.items ≡ c.in-Some.item ∷ rest = c.in-Some.ensures.steps.0 in
    let within : AreWithin (length before) (c.in-Some.item ∷ rest) = subst (λ (l : List (ℕ × Event)). AreWithin (length before) l) step c.loop-item.invariant.within in
    let more : c.post.new.log.items ≡ logged ++ c.in-Some.item ∷ [] = c.in_ok-post.ensures.logged in
    record {
      logged = ap (λ (l : List (ℕ × Event)). l ++ rest) more
          ∙ append_assoc logged (c.in-Some.item ∷ []) rest
          ∙ ap (λ (l : List (ℕ × Event)). logged ++ l) (sym step)
          ∙ c.loop-item.invariant.logged;
      sent = posts_then g.S.Outlet.sent c.args.inboxes.now before after c.args.log.now.items logged c.post.new.log.items c.loop-item.invariant.sent c.post.ensures.sent;
      ends = outlets_then g.S.Outlet.outlet g.S.Outlet.left c.args.inboxes.now before after c.loop-item.invariant.ends c.post.ensures.ends;
      within = within_still (length before) (length after) rest (same_count g.S.Outlet.outlet before after c.post.ensures.ends.lanes) within.1;
    }

pub returns-in_err-post-clause-begun : goal.returns-in_err-post-clause-begun
returns-in_err-post-clause-begun g c =
    let same : c.post.new.log.items ≡ c.loop-item.log.items = c.in_err-post.ensures.same in
    let left = c.loop-item.item-iterator.rest.items in
    on_err c.from_residual.result
    (goes_first c.args.log.now.items c.post.new.log.items c.args.posts.items c.loop-item.invariant.sent.since left
    (same ∙ c.loop-item.invariant.sent.logged) (ap (λ (l : List (ℕ × Event)). l ++ left) same ∙ c.loop-item.invariant.logged))

pub returns-in_err-post-clause-sent : goal.returns-in_err-post-clause-sent
returns-in_err-post-clause-sent g c =
    posts_then g.S.Outlet.sent c.args.inboxes.now c.loop-item.inboxes c.post.new.inboxes c.args.log.now.items c.loop-item.log.items c.post.new.log.items
    c.loop-item.invariant.sent c.post.ensures.sent

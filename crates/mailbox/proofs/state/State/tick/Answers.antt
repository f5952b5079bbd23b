use Rattle.std.proofs.Common.{rules, ◌≡◌, None, true, length, refl, sym, ap, subst, ◌∙◌, arith}
use Rattle.std.specs.Int.Signed.{le_z}
use Rattle.std.proofs.lemmas.Int.{ints, to_z-of_z}
use Rattle.do_tree.specs.Checked.{tree_of}
use Rattle.timeline.specs.Switch.{Switch, tick_posts}
use Rattle.mailbox.specs.declared.given.Given.{Given}
use Rattle.mailbox.specs.Givens.{IsGiven}
use Rattle.mailbox.proofs.Accepted.{onward}
use Rattle.mailbox.proofs.Ticks.{ticks_within}
use Rattle.mailbox.proofs.state.State.tick.Goals as goal

pub returns-clause-given : goal.returns-clause-given
returns-clause-given c =
    let i = c.self.inside in
    let s = c.args.self.now in
    let script = tree_of c.args.checked.now in
    let below : le_z i.tick c.args.moment ≡ true = grind (arith, ints) in
    let later : le_z s.tick c.args.moment ≡ true = ap (λ (w : Switch). le_z w.tick c.args.moment) (sym c.self.view_is) ∙ below in
    let sent : c.in_ok-posts.posts.items ≡ tick_posts script c.args.moment 0 i.directory = first_of (search rules, search (arith, ints, to_z-of_z), grind (arith, to_z-of_z)) in
    let g : Given = record { posts = c.in_ok-posts.posts; line = None } in
    subst (IsGiven g) (sym (onward script s c.args.line c.args.moment later))
    (record {
      posts = sent ∙ ap (λ (w : Switch). tick_posts script c.args.moment 0 w.objects) c.self.view_is;
      lines = refl;
      within = ticks_within script c.args.moment (length s.objects) 0 s.objects (omega arith);
    })

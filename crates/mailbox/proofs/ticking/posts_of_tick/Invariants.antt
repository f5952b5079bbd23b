use Rattle.do_tree.specs.Checked.{tree_of}
use Rattle.mailbox.proofs.Ticks.{AreSoFar}
use Rattle.mailbox.proofs.ticking.posts_of_tick.Given as goal

abbrev pub invariant-loop-slot : goal.invariant-loop-slot
invariant-loop-slot l = AreSoFar (tree_of l.checked) l.moment l.directory l.slot l.posts.items

use Rattle.do_value.specs.Seen.{tree_of}
use Rattle.front_turns.specs.Held.{object_of}
use Rattle.front_turns.proofs.turns.throws.Goals as goal

pub returns-then-reset : goal.returns-then-reset
returns-then-reset g c = λ l ts t again held running. rw c.if-reset.true (c.in_ok-state.ensures l (object_of c.args.object ts) t again c.args.fields (tree_of c.args.value) running)

pub returns : goal.returns
returns g c = λ l ts t again held running. rw c.if-reset.false (c.in_ok-state-2.ensures l ts t again held running)

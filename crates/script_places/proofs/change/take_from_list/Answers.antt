use Rattle.std.proofs.Common.{sym, subst}
use Rattle.do_value.specs.Seen.{tree_of}
use Rattle.do_value.specs.Tree.{items}
use Rattle.script_mean.specs.Places.{indexed}
use Rattle.script_places.specs.Changes.{IsTaken}
use Rattle.script_places.proofs.PutBack.{taken_item_if}
use Rattle.script_places.proofs.change.take_from_list.Goals as goal

pub returns-in-Num : goal.returns-in-Num
returns-in-Num c =
    subst (λ i. IsTaken (items c.args.items.now) (items c.take_item.new.items) (indexed (tree_of i)) c.take_item.result) (sym c.in-Num.is)
    (taken_item_if c.args.items.now c.take_item.new.items c.in-Num.n c.take_item.result c.take_item.ensures.taken c.take_item.ensures.rest c.take_item.ensures.no_room)

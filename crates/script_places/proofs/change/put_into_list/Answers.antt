use Rattle.std.proofs.Common.{sym, subst}
use Rattle.do_value.specs.Seen.{tree_of}
use Rattle.do_value.specs.Tree.{items}
use Rattle.script_mean.specs.Places.{indexed, with_part}
use Rattle.script_places.specs.Changes.{Puts}
use Rattle.script_places.proofs.PutBack.{puts_item}
use Rattle.script_places.proofs.change.put_into_list.Goals as goal

pub returns-in-Num : goal.returns-in-Num
returns-in-Num c =
    subst (λ i. Puts (with_part (items c.args.items.now) (indexed (tree_of i)) (tree_of c.args.part)) (items c.put_item.new.items) c.put_item.result) (sym c.in-Num.is)
    (puts_item c.args.items.now c.in-Num.n (tree_of c.args.part) _ c.put_item.result c.put_item.ensures)

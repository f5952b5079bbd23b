use Rattle.std.proofs.Common.{Ok, sym, ap, ◌∙◌, subst, arith}
use Rattle.std.specs.List.{position_from}
use Rattle.do_value.specs.Tree.{number}
use Rattle.do_value.specs.Seen.{tree_of}
use Rattle.script_ops.specs.Answers.{Gives}
use Rattle.script_ops.specs.Lists.{place}
use Rattle.script_ops.specs.Same.{same}
use Rattle.script_ops.proofs.Parts.{count_le, items_back}
use Rattle.script_ops.proofs.lists.find_item.Goals as goal

pub counted-requires : goal.counted-requires
counted-requires c = omega (arith, count_le _ _ c.as_slice.ensures.values c.as_slice.ensures.within, c.in-Some.ensures.limit)

pub returns-in-Some : goal.returns-in-Some
returns-in-Some c =
    subst (λ z. Gives (Ok (number z)) c.counted.result)
    (ap place c.in-Some.ensures.place ∙ ap (λ ts. place (position_from (same (tree_of c.args.part.now)) 0 ts)) (c.as_slice.ensures.values ∙ sym (items_back c.args.list.now)))
    c.counted.ensures

pub returns-in-None : goal.returns-in-None
returns-in-None c =
    subst (λ z. Gives (Ok (number z)) c.ranged.result)
    (ap place c.in-None.ensures.place ∙ ap (λ ts. place (position_from (same (tree_of c.args.part.now)) 0 ts)) (c.as_slice.ensures.values ∙ sym (items_back c.args.list.now)))
    c.ranged.ensures

use Rattle.std.proofs.Common.{Ok, sym, subst}
use Rattle.do_value.specs.Seen.{tree_of}
use Rattle.do_value.specs.declared.value.Value.TheVariants.{List, Rec}
use Rattle.script_mean.specs.Places.{indexed, with_part}
use Rattle.script_places.specs.Changes.{Sizes}
use Rattle.script_places.proofs.Sized.{sized_item, sized_keyed}
use Rattle.script_places.proofs.size.size_indexed.Goals as goal

pub returns-in-List-Num : goal.returns-in-List-Num
returns-in-List-Num c = λ t e.
    let found = c.in-List-Num in
    subst (λ v. Sizes (with_part (tree_of v) (indexed (tree_of c.args.index.now)) t) c.size_with_item.result) (sym found.is-0)
    (subst (λ i. Sizes (with_part (tree_of (List found.items)) (indexed (tree_of i)) t) c.size_with_item.result) (sym found.is-1)
    (sized_item found.items found.n t c.size_with_item.result (c.size_with_item.ensures t e)))

pub returns-in-Rec-Text : goal.returns-in-Rec-Text
returns-in-Rec-Text c = λ t e.
    let found = c.in-Rec-Text in
    subst (λ v. Sizes (with_part (tree_of v) (indexed (tree_of c.args.index.now)) t) (Ok c.size_with_field.result)) (sym found.is-0)
    (subst (λ i. Sizes (with_part (tree_of (Rec found.fields)) (indexed (tree_of i)) t) (Ok c.size_with_field.result)) (sym found.is-1)
    (sized_keyed found.fields found.name t c.size_with_field.result (c.size_with_field.ensures.size t e)))

use Rattle.std.proofs.Common.{ap, ◌∙◌}
use Rattle.do_value.specs.Keyed.{value_at}
use Rattle.do_value.specs.Seen.{tree_of}
use Rattle.do_value.specs.declared.value.Value.TheVariants.{List, Rec}
use Rattle.script_mean.specs.Places.{element, or_undefined}
use Rattle.script_places.proofs.ReadBack.{element_item, element_field}
use Rattle.script_places.proofs.part.indexed.Goals as goal

pub returns-in-List-Num : goal.returns-in-List-Num
returns-in-List-Num c =
    ap (λ v. element (tree_of v) (tree_of c.args.index.now)) c.in-List-Num.is-0 ∙ ap (λ i. element (tree_of (List c.in-List-Num.items)) (tree_of i)) c.in-List-Num.is-1
    ∙ element_item c.in-List-Num.items c.in-List-Num.n _ c.item.ensures

pub returns-in-Rec-Text : goal.returns-in-Rec-Text
returns-in-Rec-Text c =
    let found = c.in-Rec-Text in
    ap (λ v. element (tree_of v) (tree_of c.args.index.now)) found.is-0 ∙ ap (λ i. element (tree_of (Rec found.fields)) (tree_of i)) found.is-1
    ∙ element_field found.fields found.name _ (c.field.ensures ∙ ap (λ k. or_undefined (value_at k found.fields)) c.as_str.ensures)

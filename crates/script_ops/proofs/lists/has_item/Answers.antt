use Rattle.std.proofs.Common.{◌≡◌, is_some, Ok, sym, ap, ◌∙◌}
use Rattle.std.specs.List.{list_any}
use Rattle.do_value.specs.Tree.{boolean}
use Rattle.do_value.specs.Seen.{tree_of, trees_in}
use Rattle.script_ops.specs.Same.{same}
use Rattle.script_ops.proofs.Parts.{any_is, items_back}
use Rattle.script_ops.proofs.lists.has_item.Goals as goal

pub returns : goal.returns
returns c =
    let test = same (tree_of c.args.part.now) in
    let found : list_any test (trees_in c.as_slice.result.now) ≡ c.is_some.result =
    any_is test 0 (trees_in c.as_slice.result.now) ∙ ap is_some (sym c.place_of.ensures.place) ∙ sym c.is_some.ensures in
    ap (λ ts. Ok (boolean (list_any test ts))) (items_back c.args.list.now ∙ sym c.as_slice.ensures.values) ∙ ap (λ b. Ok (boolean b)) found

use Rattle.std.proofs.Common.{◌≡◌, sym, ◌∙◌, ap}
use Rattle.do_tree.specs.Seen.{option_named_of}
use Rattle.do_tree.specs.declared.expr.Callback.{Callback, Callback-F, out-Callback, out-roll-Callback}
use Rattle.do_parse.specs.Lists as lists
use Rattle.do_parse.specs.Lists.{items_from}
use Rattle.do_parse.specs.Trees.{items_at}
use Rattle.do_parse.proofs.Rows.{seen_arg}
use Rattle.do_parse.proofs.nodes.callback_of.Goals as goal

pub returns-in-Ok : goal.returns-in-Ok
returns-in-Ok c =
    let e = ap (λ cb. lists.callback (out-Callback cb).at (option_named_of (out-Callback cb).parameter) (items_from (items_at (out-Callback cb).body.value.items.items))) c.in-Ok.ensures.ok in
    seen_arg c.in-Ok.callback ∙ e ∙ ap (λ x. lists.callback x.at (option_named_of x.parameter) (items_from (items_at x.body.value.items.items))) (out-roll-Callback _)

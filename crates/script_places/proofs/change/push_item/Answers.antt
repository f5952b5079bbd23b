use Rattle.std.proofs.lemmas.Result.{err_from_is_err_and}
use Rattle.do_value.specs.Seen.{tree_of}
use Rattle.do_value.specs.Tree.{items}
use Rattle.script_places.proofs.PutBack.{push_stop, pushed}
use Rattle.script_places.proofs.change.push_item.Goals as goal

pub returns-in_err-push : goal.returns-in_err-push
returns-in_err-push c =
    let p = err_from_is_err_and c.from_residual.result c.from_residual.ensures.1 in
    rw (p.1, p.2) (push_stop c.args.items.now (tree_of c.args.new) (items c.push.new.self) c.in_err-push.field-0.0 c.in_err-push.ensures.exact)

pub returns : goal.returns
returns c = pushed c.args.items.now c.push.new.self (tree_of c.args.new) c.count_items-count.result c.in_ok-push.ensures.items c.count_items-count.ensures

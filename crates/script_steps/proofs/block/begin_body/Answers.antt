use Rattle.std.proofs.Common.{◌≡◌, ◌+◌, ◌<◌, ◌≤◌, get_or, length, ap, ◌∙◌, arith}
use Rattle.std.proofs.lemmas.Grind.{common_steps}
use Rattle.do_tree.specs.Nodes.{block_in}
use Rattle.do_tree.specs.Seen.{with_item}
use Rattle.do_tree.specs.declared.stmt.Item.TheVariants as item
use Rattle.script_steps.proofs.Parts.{items_at, items_past}
use Rattle.script_steps.proofs.Turns.{body_past, declare_goes, statement_goes, suc_is}
use Rattle.script_steps.specs.Parts.{items_from}
use Rattle.script_steps.proofs.block.begin_body.Goals as goal

pub returns-then-place-len-clause-moves : goal.returns-then-place-len-clause-moves
returns-then-place-len-clause-moves c =
    let past : length c.args.block.value.items.items ≤ c.args.place = grind (arith, common_steps) in
    λ calls. body_past calls _ (items_past c.args.block.value.items.items c.args.place past)

pub returns-in_ok-focus-in-Declare-clause-moves : goal.returns-in_ok-focus-in-Declare-clause-moves
returns-in_ok-focus-in-Declare-clause-moves c =
    let inside : c.args.place < length c.args.block.value.items.items = grind (arith, common_steps) in
    let stands : c.index.result.now ≡ get_or c.args.block.value.items.items c.args.place c.index.result.now = grind (arith, common_steps) in
    let all = block_in c.args.block.value in
    let found : items_from c.args.place all ≡ with_item c.index.result.now (items_from (c.args.place + 1) all) =
    items_at c.args.block.value.items.items c.args.place c.index.result.now inside stands ∙ ap (λ n. with_item c.index.result.now (items_from n all)) (suc_is c.args.place) in
    λ calls. declare_goes calls _ _ _ _ _ _ _ _ found c.in-Declare.is (c.in_ok-focus-in-Declare.ensures.begins calls)

pub returns-in_ok-stmt-in-Stmt-clause-moves : goal.returns-in_ok-stmt-in-Stmt-clause-moves
returns-in_ok-stmt-in-Stmt-clause-moves c =
    let inside : c.args.place < length c.args.block.value.items.items = grind (arith, common_steps) in
    let stands : c.index.result.now ≡ get_or c.args.block.value.items.items c.args.place c.index.result.now = grind (arith, common_steps) in
    let all = block_in c.args.block.value in
    let found : items_from c.args.place all ≡ with_item c.index.result.now (items_from (c.args.place + 1) all) =
    items_at c.args.block.value.items.items c.args.place c.index.result.now inside stands ∙ ap (λ n. with_item c.index.result.now (items_from n all)) (suc_is c.args.place) in
    let is : c.index.result.now ≡ item.Stmt c.in-Stmt.stmt = grind (arith, common_steps) in
    λ calls. statement_goes calls _ _ c.in-Stmt.stmt c.in_ok-stmt-in-Stmt.stmt _ found is c.in_ok-stmt-in-Stmt.ensures

use Rattle.std.proofs.Common.{◌≡◌, ◌-◌, [], get_or, None, sym, ap, ◌∙◌, arith}
use Rattle.std.proofs.lemmas.List.{get_or_read}
use Rattle.script_mean.specs.Turn.{bound_in}
use Rattle.script_vars.specs.Seen.{scope_of}
use Rattle.script_vars.proofs.Found.{none_from_block}
use Rattle.script_vars.proofs.vars.Vars.place_of.Goals as goal

pub loop-block-preserved : goal.loop-block-preserved
loop-block-preserved c =
    let blocks = c.self.inside.blocks.items in
    let block = c.loop-block.block in
    let one : c.index.result.now ≡ get_or blocks (block - 1) [] =
    get_or_read blocks (block - 1) _ (omega (arith, c.loop-block-test.true, c.loop-block.auto.block, c.len-block.ensures, c.self.inside.blocks.ok)) c.index.ensures [] in
    let other : bound_in c.args.name.now (scope_of (get_or blocks (block - 1) [])) ≡ None =
    ap (λ names. bound_in c.args.name.now (scope_of names)) (sym one) ∙ c.in_default.ensures in
    none_from_block c.args.name.now blocks block (omega (arith, c.loop-block-test.true)) (omega (arith, c.loop-block.auto.block, c.len-block.ensures, c.self.inside.blocks.ok)) c.loop-block.invariant other

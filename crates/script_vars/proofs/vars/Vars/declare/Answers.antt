use Rattle.std.proofs.Common.{◌≡◌, ◌+◌, ◌-◌, ◌<◌, length, ap, ◌∙◌, arith}
use Rattle.std.proofs.lemmas.Result.{on_ok_weaker}
use Rattle.do_value.specs.Seen.{tree_of}
use Rattle.script_mean.specs.Turn.{with_name}
use Rattle.script_vars.specs.Seen.{env_of}
use Rattle.script_vars.proofs.Found.{declared_in}
use Rattle.script_vars.proofs.vars.Vars.declare.Goals as goal

pub returns-clause-declared : goal.returns-clause-declared
returns-clause-declared c =
    let blocks = c.self.inside.blocks.items in
    let last = c.len-count.result - 1 in
    let some : 0 < c.len-count.result = omega (arith, c.if-count-eq0.false) in
    let within : last < length blocks = omega (arith, some, c.len-count.ensures, c.self.inside.blocks.ok) in
    let count : length blocks ≡ last + 1 = omega (arith, some, c.len-count.ensures, c.self.inside.blocks.ok) in
    on_ok_weaker c.add.result
    (λ added. declared_in c.args.name.now c.args.value blocks _ c.add.new.self last within count c.index_mut.ensures.value added
    ∙ ap (λ bs. with_name c.args.name.now (tree_of c.args.value) (env_of bs)) c.self.view_is)
    c.add.ensures.added

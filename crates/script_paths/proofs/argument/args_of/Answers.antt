use Rattle.std.proofs.Common.{◌≡◌, ap, ◌∙◌, arith}
use Rattle.std.proofs.lemmas.Grind.{common_steps}
use Rattle.do_tree.specs.Nodes.{args_in}
use Rattle.script_paths.proofs.Links.{call_args}
use Rattle.script_paths.proofs.argument.args_of.Goals as goal

pub returns-in-Call : goal.returns-in-Call
returns-in-Call c =
    let same : c.in-Call.args.items ≡ c.deref.result.now = grind (arith, common_steps) in
    λ rest. call_args _ _ _ rest c.in-Call.is ∙ ap args_in same

use Rattle.std.proofs.Common.{◌∙◌}
use Rattle.do_tree.specs.Seen.{stmt_of}
use Rattle.script_mean.specs.Meaning.{run}
use Rattle.script_steps.proofs.Begun.{if_ok}
use Rattle.script_steps.proofs.Turns.{visits}
use Rattle.script_steps.specs.Parts.{body_in, name_in}
use Rattle.script_steps.proofs.block.visited.Goals as goal

pub returns-in-List-clause-moves : goal.returns-in-List-clause-moves
returns-in-List-clause-moves c =
    if_ok c.visit_from.result
    (λ m p calls. visits calls (name_in (stmt_of c.args.node.value)) (run calls (body_in (stmt_of c.args.node.value))) _ _ c.in-List.is ∙ p calls) c.visit_from.ensures.moves

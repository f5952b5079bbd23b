use Rattle.std.proofs.Common.{ap, ◌∙◌}
use Rattle.do_value.specs.Seen.{trees_in}
use Rattle.script_places.specs.Steps.{steps_in}
use Rattle.script_steps.specs.Paths.{root_of}
use Rattle.script_steps.specs.declared.path.Callee.TheVariants as callee
use Rattle.script_paths.proofs.Framed.{framed_so}
use Rattle.script_steps.specs.declared.focus.Focus.TheVariants as focus
use Rattle.script_paths.proofs.Pushes.{call_begins}
use Rattle.script_paths.proofs.pushed.push_call.Goals as goal

pub returns-clause-same : goal.returns-clause-same
returns-clause-same c =
    λ calls. call_begins calls (root_of c.args.root) (steps_in c.args.steps.items) c.args.node.value c.in_ok-path.path.value c.args.link (trees_in c.new.result.items)
    c.in_ok-path.ensures (ap trees_in c.new.ensures.items)
    ∙ framed_so calls 0 c.in_ok-frame.frame _ (focus.Arguments (callee.Place c.args.root c.args.steps) c.new.result c.args.node c.args.link 0) c.in_ok-frame.ensures.frame

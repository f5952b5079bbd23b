use Rattle.std.proofs.Common.{◌≡◌, ap, arith}
use Rattle.std.proofs.lemmas.Grind.{common_steps}
use Rattle.do_tree.specs.Nodes.{args_in, links_in, with_link}
use Rattle.do_check.proofs.Walked.{seen_call}
use Rattle.do_check.specs.Parts.{calling_faults, step_faults}
use Rattle.do_check.specs.Sight.{path_in, scope_in, stage_of}
use Rattle.do_check.proofs.step.check_link.Goals as goal

pub returns-in-Call : goal.returns-in-Call
returns-in-Call c =
    let scope = scope_in c.args.scope.now in
    let path = path_in c.args.path.now in
    let stage = stage_of c.args.stage.now in
    let e : step_faults scope path stage (with_link c.args.link.now (links_in c.args.rest.now)) ≡ calling_faults scope path stage (args_in c.in-Call.args.items) =
    ap (step_faults scope path stage) (seen_call c.in-Call.at c.in-Call.args c.args.link.now (links_in c.args.rest.now) c.in-Call.is) in
    grind (arith, common_steps)

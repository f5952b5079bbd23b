use Rattle.std.proofs.Common.{ap, ◌∙◌}
use Rattle.std.specs.Prelude.{is_some}
use Rattle.script_eval.proofs.Looked.{any_found, same_there}
use Rattle.script_eval.proofs.start.is_there.Goals as goal

pub returns-in-Some : goal.returns-in-Some
returns-in-Some c = any_found c.args.name.now c.args.methods.now ∙ same_there _ c.method_named.result _ c.method_named.ensures ∙ ap is_some c.in-Some.is

pub returns-in-None : goal.returns-in-None
returns-in-None c = any_found c.args.name.now c.args.methods.now ∙ same_there _ c.method_named.result _ c.method_named.ensures ∙ ap is_some c.in-None.is

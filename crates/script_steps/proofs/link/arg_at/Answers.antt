use Rattle.std.proofs.Common.{◌≡◌, ◌+◌, sym, ap, ◌∙◌, arith}
use Rattle.std.proofs.lemmas.Grind.{common_steps}
use Rattle.do_tree.specs.Nodes.{args_in as args_of_all}
use Rattle.do_tree.specs.Seen.{expr_of}
use Rattle.do_tree.specs.declared.expr.Link.TheVariants as link
use Rattle.script_steps.proofs.Links.{call_args}
use Rattle.script_steps.specs.Parts.{args_from, args_in, with_next_arg}
use Rattle.script_steps.proofs.link.arg_at.Goals as goal

pub returns-in-Some-Call-clause-arg : goal.returns-in-Some-Call-clause-arg
returns-in-Some-Call-clause-arg c =
    let is : c.in-Some-Call.field-0.now ≡ link.Call c.in-Some-Call.field-0-0 c.in-Some-Call.args = grind (arith, common_steps) in
    let same : c.in-Some-Call.args.items ≡ c.deref.result.now = grind (arith, common_steps) in
    let here : args_in (expr_of c.args.node.now) c.args.link c.args.place ≡ args_from c.args.place (args_of_all c.deref.result.now) =
    call_args _ _ c.in-Some-Call.field-0.now _ _ c.args.place c.in-Some-Call.ensures.link is ∙ ap (λ xs. args_from c.args.place (args_of_all xs)) same in
    let behind : args_in (expr_of c.args.node.now) c.args.link (c.args.place + 1) ≡ args_from (c.args.place + 1) (args_of_all c.deref.result.now) =
    call_args _ _ c.in-Some-Call.field-0.now _ _ (c.args.place + 1) c.in-Some-Call.ensures.link is ∙ ap (λ xs. args_from (c.args.place + 1) (args_of_all xs)) same in
    here ∙ c.arg_in.ensures.arg ∙ ap (with_next_arg _) (sym behind)

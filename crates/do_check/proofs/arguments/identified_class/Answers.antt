use Rattle.std.proofs.Common.{sym, ap, ◌∙◌}
use Rattle.do_check.proofs.Walked.{identified_path}
use Rattle.do_check.specs.Sight.{names_of}
use Rattle.do_tree.specs.Forms.{identified_from, start}
use Rattle.do_tree.specs.Nodes.{links_in}
use Rattle.do_tree.specs.Seen.{expr_of}
use Rattle.do_check.proofs.arguments.identified_class.Goals as goal

pub returns-in-Path : goal.returns-in-Path
returns-in-Path c =
    let names = names_of c.args.names.now in
    c.identified_from.ensures
    ∙ ap (λ st. identified_from st (links_in c.deref-in-Path.result.now)) c.start.ensures
    ∙ ap (λ x. identified_from (start names (expr_of x)) (links_in c.deref-in-Path.result.now)) c.deref.ensures
    ∙ ap (λ x. identified_from (start names (expr_of c.in-Path.base.value)) (links_in x)) c.deref-in-Path.ensures.value
    ∙ sym (identified_path names c.in-Path.at c.in-Path.base c.in-Path.links c.args.value.now c.in-Path.is)

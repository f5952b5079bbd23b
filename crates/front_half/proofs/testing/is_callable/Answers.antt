use Rattle.std.proofs.Common.{◌∙◌, sym, ap, Option, Bor, option_map, option_copied}
use Rattle.do_tree.specs.Seen.{method_of}
use Rattle.do_tree.specs.declared.script.Method.{Method}
use Rattle.timeline.specs.Eligible.{is_for_callers}
use Rattle.front_half.proofs.Judging.{method_seen}
use Rattle.front_half.proofs.testing.is_callable.Goals as goal

pub returns-in-Some : goal.returns-in-Some
returns-in-Some c =
    c.is_for_callers.ensures
    ∙ sym (ap is_for_callers (method_seen _ c.script.result.now c.args.class c.args.number c.methods.result.now (option_copied c.method_at.result)
    c.script.ensures.tree c.methods.ensures c.method_at.ensures
    ∙ ap (λ (o : Option (Bor Method)). option_map method_of (option_copied o)) c.in-Some.is))

pub returns-in-None : goal.returns-in-None
returns-in-None c =
    sym (ap is_for_callers (method_seen _ c.script.result.now c.args.class c.args.number c.methods.result.now (option_copied c.method_at.result)
    c.script.ensures.tree c.methods.ensures c.method_at.ensures
    ∙ ap (λ (o : Option (Bor Method)). option_map method_of (option_copied o)) c.in-None.is))

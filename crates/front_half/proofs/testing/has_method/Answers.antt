use Rattle.std.proofs.Common.{◌∙◌, sym, ap}
use Rattle.do_tree.specs.Checked.{tree_of}
use Rattle.timeline.specs.Eligible.{has_method}
use Rattle.timeline.specs.declared.event.Event.{Event}
use Rattle.front_half.proofs.testing.has_method.Goals as goal

pub returns-in-Call : goal.returns-in-Call
returns-in-Call c = c.is_callable.ensures ∙ sym (ap (λ (e : Event). has_method (tree_of c.args.checked.now) c.args.class e) c.in-Call.is)

use Rattle.std.proofs.Common.{pos, ap, ◌∙◌}
use Rattle.do_value.specs.Tree.{undefined}
use Rattle.script_mean.specs.Places.{with_item}
use Rattle.script_places.proofs.Items.{twice}
use Rattle.script_places.proofs.change.take_place.Goals as goal

pub returns-in-Some-clause-rest : goal.returns-in-Some-clause-rest
returns-in-Some-clause-rest c = λ t.
    ap (λ ts. with_item ts (pos c.args.place) t) c.in_ok-taken.ensures.items ∙ twice c.args.items.now c.args.place undefined t

pub returns-in-None-clause-rest : goal.returns-in-None-clause-rest
returns-in-None-clause-rest c = λ t.
    ap (λ ts. with_item ts (pos c.args.place) t) c.in_ok-taken.ensures.items ∙ twice c.args.items.now c.args.place undefined t

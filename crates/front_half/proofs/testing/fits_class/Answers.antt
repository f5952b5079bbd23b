use Rattle.std.proofs.Common.{◌∙◌, sym, ap, Bool, ◌&&◌}
use Rattle.do_tree.specs.Checked.{tree_of}
use Rattle.timeline.specs.Eligible.{has_method}
use Rattle.front_half.proofs.Judging.{bind_unfit, other_fit}
use Rattle.front_half.proofs.testing.fits_class.Goals as goal

pub returns-then-is_bind : goal.returns-then-is_bind
returns-then-is_bind c = sym (bind_unfit (tree_of c.args.checked.now) c.args.class c.args.event.now (sym c.is_bind.ensures ∙ c.if-is_bind.true))

pub returns-then-is_timely : goal.returns-then-is_timely
returns-then-is_timely c =
    let script = tree_of c.args.checked.now in
    c.has_method.ensures
    ∙ sym (other_fit script c.args.class c.args.event.now (sym c.is_bind.ensures ∙ c.if-is_bind.false)
    ∙ ap (λ (b : Bool). b && has_method script c.args.class c.args.event.now) (sym c.is_timely.ensures ∙ c.if-is_timely.true))

pub returns : goal.returns
returns c =
    let script = tree_of c.args.checked.now in
    sym (other_fit script c.args.class c.args.event.now (sym c.is_bind.ensures ∙ c.if-is_bind.false)
    ∙ ap (λ (b : Bool). b && has_method script c.args.class c.args.event.now) (sym c.is_timely.ensures ∙ c.if-is_timely.false))

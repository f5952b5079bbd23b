use Rattle.std.proofs.Common.{◌∙◌, sym, ap, ℕ, Option}
use Rattle.do_tree.specs.Checked.{tree_of}
use Rattle.timeline.specs.Eligible.{is_fit}
use Rattle.front_half.proofs.testing.is_fit.Goals as goal

pub returns-in-Some : goal.returns-in-Some
returns-in-Some c = c.fits_class.ensures ∙ sym (ap (λ (k : Option ℕ). is_fit (tree_of c.args.checked.now) k c.args.event.now) c.in-Some.is)

pub returns-in-None : goal.returns-in-None
returns-in-None c = c.names_class.ensures ∙ sym (ap (λ (k : Option ℕ). is_fit (tree_of c.args.checked.now) k c.args.event.now) c.in-None.is)

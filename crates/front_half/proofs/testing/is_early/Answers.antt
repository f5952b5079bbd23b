use Rattle.std.proofs.Common.{◌∙◌, sym}
use Rattle.front_half.proofs.Judging.{early_named, never_early}
use Rattle.front_half.proofs.testing.is_early.Goals as goal

pub returns-in-Some : goal.returns-in-Some
returns-in-Some c = c.is_to_come.ensures ∙ sym (early_named c.args.now c.args.made c.args.event.now c.in-Some.named (sym c.named_by.ensures ∙ c.in-Some.is))

pub returns-in-None : goal.returns-in-None
returns-in-None c = sym (never_early c.args.now c.args.made c.args.event.now (sym c.named_by.ensures ∙ c.in-None.is))

use Rattle.std.proofs.Common.{◌∙◌, sym, ap}
use Rattle.front_half.specs.Taking.{stale}
use Rattle.front_half.proofs.testing.stale.Goals as goal

pub returns-then-is_early : goal.returns-then-is_early
returns-then-is_early c = ap stale (sym c.if-is_early.true ∙ c.is_early.ensures)

pub returns : goal.returns
returns c = ap stale (sym c.if-is_early.false ∙ c.is_early.ensures)

use Rattle.std.proofs.Common.{◌∙◌, sym}
use Rattle.do_lex.proofs.Runs.{number_by_zero, number_by_digits}
use Rattle.do_lex.proofs.pieces.number_len.Goals as goal

pub returns-then-starts_with : goal.returns-then-starts_with
returns-then-starts_with c = number_by_zero _ c.requires (sym c.starts_with.ensures.value ∙ c.if-starts_with.true)

pub returns-else-starts_with : goal.returns-else-starts_with
returns-else-starts_with c = rw c.digits_len.ensures (number_by_digits _ c.requires (sym c.starts_with.ensures.value ∙ c.if-starts_with.false))

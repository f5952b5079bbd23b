use Rattle.do_lex.proofs.Digits.{past_greatest}
use Rattle.do_parse.proofs.text.number_of.Goals as goal

-- the digits are parsed, as they are a number that is not too great
pub unreachable-requires : goal.unreachable-requires
unreachable-requires c = past_greatest c.args.digits.now c.in_default.field-0 c.requires.number (rw c.in_default.is at c.parse.ensures.value.0) c.requires.small

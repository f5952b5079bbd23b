use Rattle.std.proofs.Common.{length, sym, ◌∙◌, ap, arith}
use Rattle.std.specs.Str.Lossy.{utf8_valid_len}
use Rattle.std.proofs.lemmas.List.{take_all}
use Rattle.std.proofs.lemmas.Str.{utf8_valid_len-IsUtf8}
use Rattle.do_lex.proofs.tokens.well_formed.Goals as goal

pub returns-in-Ok-clause-front : goal.returns-in-Ok-clause-front
returns-in-Ok-clause-front c =
    let len = utf8_valid_len-IsUtf8 c.args.text.now c.in-Ok.ensures.cases.1 in
    c.in-Ok.ensures.cases.0 ∙ sym (take_all (utf8_valid_len c.args.text.now) c.args.text.now (omega arith))

pub returns-in-Ok-clause-len : goal.returns-in-Ok-clause-len
returns-in-Ok-clause-len c = ap length c.in-Ok.ensures.cases.0 ∙ sym (utf8_valid_len-IsUtf8 c.args.text.now c.in-Ok.ensures.cases.1)

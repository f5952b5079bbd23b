use Rattle.std.proofs.Common.{◌∙◌, sym, arith}
use Rattle.command_words.proofs.NumberRead.{number_read, no_number}
use Rattle.command_words.proofs.number.number_within.Goals as goal

pub returns-in-Ok-clause-number : goal.returns-in-Ok-clause-number
returns-in-Ok-clause-number c =
    c.in_range.ensures.number ∙ number_read c.args.least c.args.most c.args.text.now c.in-Ok.number (sym c.begins_well.ensures ∙ c.if-begins_well.true) c.in-Ok.ensures.value.0

pub returns-in-Err-clause-number : goal.returns-in-Err-clause-number
returns-in-Err-clause-number c =
    no_number c.args.least c.args.most c.args.text.now (sym c.begins_well.ensures ∙ c.if-begins_well.true) c.in-Err.ensures.value.0 (omega arith)

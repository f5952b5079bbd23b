use Rattle.std.proofs.Common.{sym, ◌∙◌}
use Rattle.std.proofs.lemmas.List.Sums.{prefix_len-le-length}
use Rattle.do_lex.specs.Bytes.{is_in_line}
use Rattle.do_lex.proofs.Runs.{IsSeparator-line, line_some}
use Rattle.do_lex.proofs.pieces.separator_len.Goals as goal

pub returns-in-LineComment-clause-found : goal.returns-in-LineComment-clause-found
returns-in-LineComment-clause-found c = rw c.line_len.ensures (IsSeparator-line c.args.bytes.now (sym c.opening_of.ensures ∙ c.in-LineComment.is))

pub returns-in-LineComment-clause-within : goal.returns-in-LineComment-clause-within
returns-in-LineComment-clause-within c =
    rw c.line_len.ensures (line_some c.args.bytes.now (sym c.opening_of.ensures ∙ c.in-LineComment.is), prefix_len-le-length is_in_line c.args.bytes.now)

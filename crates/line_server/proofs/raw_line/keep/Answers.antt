use Rattle.std.proofs.Common.{◌++◌, ap, ◌∙◌, arith}
use Rattle.line_server.specs.Limits.{most_line_bytes}
use Rattle.line_server.proofs.Keeping.{take_more}
use Rattle.line_server.proofs.raw_line.keep.Goals as goal

pub returns-clause-kept : goal.returns-clause-kept
returns-clause-kept c =
    c.in_ok-extend_from_slice.ensures.items ∙ ap (λ r. c.args.kept.now.items ++ r) c.fitting.ensures ∙ take_more most_line_bytes _ c.args.kept.now.items c.args.bytes.now (omega arith)
